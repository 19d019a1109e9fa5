use Rattle.std.proofs.Common.{rules, subst}
use Rattle.half_poly.specs.Shapes.{solid_of}
use Rattle.solid_laws.specs.FaceLoop.{HasVertexCount}
use Rattle.solid_brush.proofs.Faces.{spaces_is, few_faces}
use Rattle.solid_brush.proofs.Fewness.{few_counted}
use Rattle.solid_brush.proofs.solid.Solid.vertex_count.Goals as goal

pub overflow_cast-result : goal.overflow_cast-result
overflow_cast-result c =
    let l = few_counted (solid_of c.self.inside.poly) (few_faces c.self.invariant) c.vertex_count.result c.vertex_count.ensures.count in search rules

pub returns : goal.returns
returns c = record { count = subst (λ F. HasVertexCount F c.vertex_count.result) (spaces_is c.args.self.now c.self.invariant c.self.view_is) c.vertex_count.ensures.count }
