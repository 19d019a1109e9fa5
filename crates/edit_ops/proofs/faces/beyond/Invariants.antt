use Rattle.std.specs.Prelude.{not, is_none}
use Rattle.exact_geom.specs.Planes.{first_out_of_range}
use Rattle.map_model.specs.Motions.{moved_plane}
use Rattle.edit_ops.proofs.FaceLoops.{NoneYet}
use Rattle.edit_ops.proofs.faces.beyond.Given as goal

abbrev pub invariant-loop-place : goal.invariant-loop-place
invariant-loop-place l = NoneYet (λ f. not (is_none (first_out_of_range (moved_plane l.motion f.plane)))) l.faces l.place
