-- The list of the vertices holds each vertex.
use Rattle.algebra.proofs.Points.{same_point_sym}
use Rattle.vertex_laws.proofs.Line.{same_vertex}
use Rattle.solid_laws.specs.Laws.{HoldsVerticesLaw}
use Rattle.solid_laws.proofs.Reduced.{reduced_form}

pub holds_vertices : HoldsVerticesLaw
holds_vertices F V a = record {
  each = λ v m. (a.each v m).0;
  all = λ v u. let r = reduced_form v u.inside.weight in
      record { s = r.form; among = a.all r.form (same_vertex F r.form v r.positive (same_point_sym r.same) u) r.reduced; same = r.same };
}
