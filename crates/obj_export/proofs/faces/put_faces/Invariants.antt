use Rattle.std.proofs.Common.{◌≡◌, ◌++◌, take, List}
use Rattle.std.specs.Prelude.{flat_map}
use Rattle.algebra.specs.Space.{Homogeneous}
use Rattle.solid_laws.specs.Names.{AreVertices}
use Rattle.map_model.specs.Shape.{half_spaces}
use Rattle.obj_export.specs.Text.{face_lines}
use Rattle.obj_export.proofs.faces.put_faces.Given as goal

abbrev pub invariant-loop-k : goal.invariant-loop-k
invariant-loop-k l =
    (V : List Homogeneous) → AreVertices (half_spaces l.fn.body) V → l.text.items ≡ l.fn.text.items ++ flat_map (face_lines l.fn.before V) (take l.k l.fn.body)
