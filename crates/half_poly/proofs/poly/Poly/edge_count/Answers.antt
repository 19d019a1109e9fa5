use Rattle.std.proofs.Common.{◌/◌, ap, subst}
use Rattle.half_poly.specs.Shapes.{solid_of}
use Rattle.half_poly.specs.Edges.{HasEdgeCount}
use Rattle.half_poly.proofs.Halves.{edge_count}
use Rattle.half_poly.proofs.poly.Poly.edge_count.Goals as goal

pub returns : goal.returns
returns c = record {
  count = subst (λ sides. HasEdgeCount (solid_of sides) (c.len.result / 2)) c.self.view_is
      (edge_count c.self.inside.shape.edges.slots c.self.invariant.stands (c.len.result / 2) (ap (λ k. k / 2) c.len.ensures));
}
