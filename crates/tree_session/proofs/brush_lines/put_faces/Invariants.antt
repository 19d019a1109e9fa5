use Rattle.std.proofs.Common.{◌≡◌, ◌++◌, take, List}
use Rattle.std.specs.Prelude.{flat_map}
use Rattle.std.specs.List.{enumerate_from}
use Rattle.algebra.specs.Space.{Homogeneous}
use Rattle.solid_laws.specs.Names.{AreVertices}
use Rattle.map_model.specs.Shape.{half_spaces}
use Rattle.map_model.specs.Listings.{face_line}
use Rattle.tree_session.proofs.brush_lines.put_faces.Given as goal

abbrev pub invariant-loop-k : goal.invariant-loop-k
invariant-loop-k l =
    (V : List Homogeneous) → AreVertices (half_spaces l.fn.body) V → l.listing ≡ l.fn.listing ++ flat_map (face_line V) (take l.k (enumerate_from 0 l.fn.body))
