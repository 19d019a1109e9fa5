-- What `snap` makes of brushes, and the rows on their rounded vertices.
use Rattle.std.specs.Prelude.{◌≡◌, ℕ, cond, not, nat_lt, List, [], ◌∷◌, ◌++◌, length, map, Option, None, Some, Result, Ok, Err, ℤ}
use Rattle.map_model.specs.Faces.{Face}
use Rattle.map_model.specs.Tree.{Whole, faces_at}
use Rattle.map_model.specs.Below.{Below, IsRight}
use Rattle.map_model.specs.Brushes.{changed_points, changed_faces, rounded, spans_space}
use Rattle.map_model.specs.Commands.{Settings, Snap}
use Rattle.map_model.specs.Replies.{Refusal, NoVolume, TooManyFaces}
use Rattle.map_model.specs.Rows.{at_each, first, refuse}
use Rattle.map_laws.specs.Reshaping.{reshaping_rows}
use Rattle.tree_ops.specs.declared.fault.OpFault.{OpFault}
use Rattle.tree_ops.specs.declared.fault.OpFault.TheVariants.{No, Memory}
use Rattle.vertex_plans.specs.declared.putting.NewBody.{NewBody}
use Rattle.vertex_plans.specs.declared.snapping.Snapped.{Snapped}
use Rattle.vertex_plans.specs.declared.snapping.Snapped.TheVariants.{Few, Many}

-- The faces that the brush n gets, by tests.
abbrev pub faces_by : Whole → ℤ → Below → ℕ → List Face
faces_by m grid b n = changed_faces b (rounded grid) (faces_at m n)

-- No four of its rounded vertices span space.
abbrev pub flat : Whole → ℤ → Below → ℕ → Option Refusal
flat m grid b n = refuse (not (spans_space (changed_points b (rounded grid) (faces_at m n)))) (NoVolume n)

-- The brush n with its vertices rounded, by tests.
abbrev pub snapped_by : Whole → ℤ → Below → ℕ → Snapped
snapped_by m grid b n =
    let count = length (faces_by m grid b n) in cond (nat_lt 128 count) (Many n count) (Few (record { id = n; body = faces_by m grid b n }))

-- By whatever right tests. Want of memory says nothing.
abbrev pub IsSnapped : Whole → ℤ → ℕ → Result Snapped OpFault → Type 0
IsSnapped m grid n (Ok one) = (b : Below) → IsRight b → (snapped_by m grid b n ≡ one) × (flat m grid b n ≡ None)
IsSnapped m grid n (Err (No refusal)) = (b : Below) → IsRight b → flat m grid b n ≡ Some refusal
IsSnapped m grid n (Err Memory) = Unit {0}

abbrev pub AreSnapped : Whole → ℤ → List ℕ → Result (List Snapped) OpFault → Type 0
AreSnapped m grid ns (Ok list) = (b : Below) → IsRight b → (map (snapped_by m grid b) ns ≡ list) × (at_each ns (flat m grid b) ≡ None)
AreSnapped m grid ns (Err (No refusal)) = (b : Below) → IsRight b → at_each ns (flat m grid b) ≡ Some refusal
AreSnapped m grid ns (Err Memory) = Unit {0}

-- A brush with too many faces, and the brushes with few.
abbrev pub overfull : Snapped → Option Refusal
overfull (Few new) = None
overfull (Many n count) = Some (TooManyFaces n count)

abbrev pub bodies_of : List Snapped → List NewBody
bodies_of [] = []
bodies_of (Few new ∷ list) = new ∷ bodies_of list
bodies_of (Many n count ∷ list) = bodies_of list

abbrev pub AreFew : List Snapped → Result (List NewBody) OpFault → Type 0
AreFew list (Ok bodies) = (bodies ≡ bodies_of list) × (first (map overfull list) ≡ None)
AreFew list (Err (No refusal)) = first (map overfull list) ≡ Some refusal
AreFew list (Err Memory) = Unit {0}

-- One is kept where it has few faces.
abbrev pub IsKept : Snapped → (old new : List NewBody) → Result (Unit {0}) OpFault → Type 0
IsKept one old new (Ok kept) = (overfull one ≡ None) × (new ≡ old ++ bodies_of (one ∷ []))
IsKept one old new (Err (No refusal)) = overfull one ≡ Some refusal
IsKept one old new (Err Memory) = Unit {0}

-- All rows, and the brushes where none holds.
pub record AreRounded (s : Settings) (m : Whole) (grid : ℤ) (ns : List ℕ) (bodies : List NewBody) : Type 0 where
  pub passes : (b : Below) → IsRight b → first (reshaping_rows b s m (Snap grid ns)) ≡ None
  pub made : (b : Below) → IsRight b → map (λ n. record { id = n; body = faces_by m grid b n }) ns ≡ bodies

abbrev pub IsRounded : Settings → Whole → ℤ → List ℕ → Result (List NewBody) OpFault → Type 0
IsRounded s m grid ns (Ok bodies) = AreRounded s m grid ns bodies
IsRounded s m grid ns (Err (No refusal)) = (b : Below) → IsRight b → first (reshaping_rows b s m (Snap grid ns)) ≡ Some refusal
IsRounded s m grid ns (Err Memory) = Unit {0}
