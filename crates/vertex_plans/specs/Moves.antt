-- What `vertex` makes of a brush, and the rows on its vertices.
use Rattle.std.specs.Prelude.{◌≡◌, ℕ, not, List, [], ◌∷◌, Option, None, Some, Result, Ok, Err, ℤ}
use Rattle.std.specs.List.{list_any}
use Rattle.exact_geom.specs.declared.point.Point.{Point}
use Rattle.exact_geom.specs.Planes.{is_in_range}
use Rattle.map_model.specs.Faces.{Face}
use Rattle.map_model.specs.Tree.{Whole, faces_at}
use Rattle.map_model.specs.Below.{Below, IsRight}
use Rattle.map_model.specs.Brushes.{are_whole, changed_points, changed_faces, is_outside_world, moved_by, picked, spans_space}
use Rattle.map_model.specs.Commands.{Settings, Vertex, vector_in, points_in}
use Rattle.map_model.specs.Replies.{Refusal, NoVertex, FractionalVertex, PointRange, NoVolume, TooManyFaces, OutOfWorld}
use Rattle.map_model.specs.Rows.{at_each_pick, first, is_vertex, refuse, too_many}
use Rattle.map_laws.specs.Reshaping.{reshaping_rows}
use Rattle.tree_ops.specs.declared.fault.OpFault.{OpFault}
use Rattle.tree_ops.specs.declared.fault.OpFault.TheVariants.{No, Memory}
use Rattle.vertex_edit.specs.declared.fault.MoveFault.{MoveFault}
use Rattle.vertex_edit.specs.declared.fault.MoveFault.TheVariants.{NoVertex as StrangePick, Fractional, PointRange as FarPick, NoVolume as Flat, TooManyFaces as ManyFaces, OutOfWorld as LeavesWorld, Memory as NoMemory}

-- The rows on the vertices of the brush n, in order.
abbrev pub move_rows : Below → List Face → ℕ → List ℤ → List Point → List (Option Refusal)
move_rows b fs n shift picks =
    let v = vector_in shift in
    let change = picked v picks in
    at_each_pick 1 picks (λ p. not (is_vertex b fs p)) NoVertex
    ∷ refuse (not (are_whole b fs)) (FractionalVertex n)
    ∷ at_each_pick 1 picks (λ p. not (is_in_range (moved_by v.x v.y v.z p))) (PointRange n)
    ∷ refuse (not (spans_space (changed_points b change fs))) (NoVolume n)
    ∷ too_many n (changed_faces b change fs)
    ∷ refuse (list_any is_outside_world (changed_points b change fs)) (OutOfWorld n) ∷ []

-- By whatever right tests: no row refuses it, and the brush gets the faces of the moved vertices; or the first row that does. Want of
-- memory says nothing.
abbrev pub IsMovedBody : List Face → ℕ → List ℤ → List Point → Result (List Face) OpFault → Type 0
IsMovedBody fs n shift picks (Ok body) = (b : Below) → IsRight b → (changed_faces b (picked (vector_in shift) picks) fs ≡ body) × (first (move_rows b fs n shift picks) ≡ None)
IsMovedBody fs n shift picks (Err (No refusal)) = (b : Below) → IsRight b → first (move_rows b fs n shift picks) ≡ Some refusal
IsMovedBody fs n shift picks (Err Memory) = Unit {0}

-- The same with the rows on the brush itself before these.
abbrev pub IsVertexMoved : Settings → Whole → ℕ → List ℤ → List (List ℤ) → Result (List Face) OpFault → Type 0
IsVertexMoved s m n shift picks (Ok body) = (b : Below) → IsRight b →
    (changed_faces b (picked (vector_in shift) (points_in picks)) (faces_at m n) ≡ body) × (first (reshaping_rows b s m (Vertex n shift picks)) ≡ None)
IsVertexMoved s m n shift picks (Err (No refusal)) = (b : Below) → IsRight b → first (reshaping_rows b s m (Vertex n shift picks)) ≡ Some refusal
IsVertexMoved s m n shift picks (Err Memory) = Unit {0}

-- Why the vertices of the brush n can't be moved. The number of a pick counts from 1.
abbrev pub why : ℕ → MoveFault → OpFault
why n (StrangePick k) = No (NoVertex k)
why n Fractional = No (FractionalVertex n)
why n (FarPick k) = No (PointRange n k)
why n Flat = No (NoVolume n)
why n (ManyFaces count) = No (TooManyFaces n count)
why n LeavesWorld = No (OutOfWorld n)
why n NoMemory = Memory

-- The pick that is told.
abbrev pub pick_of : MoveFault → ℕ
pick_of (StrangePick k) = k
pick_of (FarPick k) = k
pick_of f = 0
