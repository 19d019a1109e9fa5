use Rattle.std.proofs.Common.{subst, sym}
use Rattle.half_poly.specs.Shapes.{solid_of}
use Rattle.solid_laws.specs.FaceLoop.{HasLoopVertex}
use Rattle.solid_brush.specs.Sides.{half_spaces}
use Rattle.solid_brush.proofs.Faces.{spaces_is, few_faces}
use Rattle.solid_brush.proofs.Fewness.{few_in_loop}
use Rattle.solid_brush.proofs.solid.Solid.loop_vertex.Goals as goal

pub number_as_u32-requires : goal.number_as_u32-requires
number_as_u32-requires c = record { small = few_in_loop (solid_of c.self.inside.poly) (few_faces c.self.invariant) c.args.face c.args.k c.loop_of_face.result c.loop_of_face.ensures.vertex }

pub returns : goal.returns
returns c = record {
  vertex = subst (HasLoopVertex (half_spaces c.args.self.now) c.args.face c.args.k) (sym c.number_as_u32.ensures)
      (subst (λ F. HasLoopVertex F c.args.face c.args.k c.loop_of_face.result) (spaces_is c.args.self.now c.self.invariant c.self.view_is) c.loop_of_face.ensures.vertex);
}
