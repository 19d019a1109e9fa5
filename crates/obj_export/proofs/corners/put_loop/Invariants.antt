use Rattle.std.proofs.Common.{◌≡◌, List, Some}
use Rattle.std.specs.Prelude.{slice_get}
use Rattle.algebra.specs.Space.{Homogeneous, HalfSpace}
use Rattle.solid_laws.specs.Names.{AreVertices}
use Rattle.solid_brush.specs.Sides.{half_spaces}
use Rattle.map_model.specs.Loops.{loop}
use Rattle.obj_export.proofs.Turned.{SoFar}
use Rattle.obj_export.proofs.corners.put_loop.Given as goal

abbrev pub invariant-loop-left : goal.invariant-loop-left
invariant-loop-left l =
    (V : List Homogeneous) (f : HalfSpace) → AreVertices (half_spaces l.solid) V → slice_get (half_spaces l.solid) l.face ≡ Some f →
    SoFar l.before (loop V f) l.fn.text.items l.text.items l.left

abbrev pub decreases-loop-left : goal.decreases-loop-left
decreases-loop-left l = l.left
