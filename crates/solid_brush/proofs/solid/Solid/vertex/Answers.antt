use Rattle.std.proofs.Common.{subst}
use Rattle.solid_laws.specs.FaceLoop.{HasVertex}
use Rattle.solid_brush.proofs.Faces.{spaces_is}
use Rattle.solid_brush.proofs.solid.Solid.vertex.Goals as goal

pub returns : goal.returns
returns c = record { vertex = subst (λ F. HasVertex F c.args.k c.vertex.result) (spaces_is c.args.self.now c.self.invariant c.self.view_is) c.vertex.ensures.vertex }
