use Rattle.std.proofs.Common.{◌≡◌, ◌++◌, take, List}
use Rattle.std.specs.Prelude.{flat_map}
use Rattle.algebra.specs.Space.{Homogeneous}
use Rattle.solid_laws.specs.Names.{AreVertices}
use Rattle.solid_brush.specs.Sides.{half_spaces}
use Rattle.obj_export.specs.Text.{vertex_line}
use Rattle.obj_export.proofs.vertices.put_vertices.Given as goal

abbrev pub invariant-loop-k : goal.invariant-loop-k
invariant-loop-k l =
    (V : List Homogeneous) → AreVertices (half_spaces l.solid) V → l.text.items ≡ l.fn.text.items ++ flat_map vertex_line (take l.k V)
