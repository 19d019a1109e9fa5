use Rattle.std.proofs.Common.{◌≡◌, ◌≤◌, List, Some, length}
use Rattle.std.specs.Prelude.{slice_get}
use Rattle.algebra.specs.Space.{Homogeneous, HalfSpace}
use Rattle.solid_laws.specs.Names.{AreVertices}
use Rattle.solid_brush.specs.Sides.{half_spaces}
use Rattle.map_model.specs.Loops.{loop}
use Rattle.obj_export.proofs.corners.loop_length.Given as goal

abbrev pub invariant-loop-k : goal.invariant-loop-k
invariant-loop-k l =
    (V : List Homogeneous) (f : HalfSpace) → AreVertices (half_spaces l.solid) V → slice_get (half_spaces l.solid) l.face ≡ Some f →
    l.k ≤ length (loop V f)
