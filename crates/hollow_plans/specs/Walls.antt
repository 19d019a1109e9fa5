-- Boxes that `hollow` makes hollow.
use Rattle.std.specs.Prelude.{◌≡◌, ℕ, ◌+◌, List, [], ◌∷◌, ◌++◌, length, map, not, Option, None, Some, Result, Ok, Err, ℤ, ◌+ℤ◌}
use Rattle.map_model.specs.Faces.{Face}
use Rattle.map_model.specs.Tree.{Whole, faces_at}
use Rattle.map_model.specs.Edits.{replace_by}
use Rattle.map_model.specs.Below.{Below, IsRight}
use Rattle.map_model.specs.Brushes.{pieces, inward, is_box, vertices_of}
use Rattle.map_model.specs.Replies.{Refusal, NotBox, Thick}
use Rattle.map_model.specs.Rows.{refuse, first, at_each, has_short_side}
use Rattle.tree_ops.specs.declared.fault.OpFault.{OpFault}
use Rattle.tree_ops.specs.declared.fault.OpFault.TheVariants.{No, Memory}
use Rattle.brush_plans.specs.NamedRows.{brush_rows}
use Rattle.hollow_plans.specs.declared.walls.Hollowed.{Hollowed}

-- The walls of a box: its pieces without the inner box, whose faces are those of the box moved inward.
abbrev pub walls_of : ℤ → Below → List Face → List (List Face)
walls_of t b fs = pieces b fs (map (inward t) fs)

-- A side of the brush n is at most twice as long as its walls would be thick.
abbrev pub too_thick : ℤ → ℕ → List Face → Below → Option Refusal
too_thick t n fs b = refuse (has_short_side (t +ℤ t) (vertices_of b fs)) (Thick n)

-- The walls of the box n with these faces, by whatever right tests; or they are too thick. Want of memory says nothing.
abbrev pub AreWalls : ℤ → ℕ → List Face → Result (List (List Face)) OpFault → Type 0
AreWalls t n fs (Ok walls) = (b : Below) → IsRight b → (walls_of t b fs ≡ walls) × (too_thick t n fs b ≡ None)
AreWalls t n fs (Err (No refusal)) = (b : Below) → IsRight b → too_thick t n fs b ≡ Some refusal
AreWalls t n fs (Err Memory) = Unit {0}

-- The brush n is no box.
abbrev pub no_box : Whole → ℕ → Option Refusal
no_box m n = refuse (not (is_box (faces_at m n))) (NotBox n)

-- The box n with its walls, by tests.
abbrev pub hollowed_by : Whole → ℤ → Below → ℕ → Hollowed
hollowed_by m t b n = record { id = n; walls = walls_of t b (faces_at m n) }

abbrev pub thick_any : Whole → ℤ → List ℕ → Below → Option Refusal
thick_any m t ns b = at_each ns (λ n. too_thick t n (faces_at m n) b)

abbrev pub IsHollowed : Whole → ℤ → ℕ → Result Hollowed OpFault → Type 0
IsHollowed m t n (Ok h) = (b : Below) → IsRight b → (hollowed_by m t b n ≡ h) × (too_thick t n (faces_at m n) b ≡ None)
IsHollowed m t n (Err (No refusal)) = (b : Below) → IsRight b → too_thick t n (faces_at m n) b ≡ Some refusal
IsHollowed m t n (Err Memory) = Unit {0}

abbrev pub AreHollowed : Whole → ℤ → List ℕ → Result (List Hollowed) OpFault → Type 0
AreHollowed m t ns (Ok list) = (b : Below) → IsRight b → (map (hollowed_by m t b) ns ≡ list) × (thick_any m t ns b ≡ None)
AreHollowed m t ns (Err (No refusal)) = (b : Below) → IsRight b → thick_any m t ns b ≡ Some refusal
AreHollowed m t ns (Err Memory) = Unit {0}

-- All rows, and the boxes with their walls where none holds.
abbrev pub hollow_refusal : Whole → ℤ → List ℕ → Below → Option Refusal
hollow_refusal m t ns b = first (brush_rows m ns ++ at_each ns (no_box m) ∷ thick_any m t ns b ∷ [])

pub record HaveWalls (m : Whole) (t : ℤ) (ns : List ℕ) (list : List Hollowed) : Type 0 where
  pub passes : (b : Below) → IsRight b → hollow_refusal m t ns b ≡ None
  pub made : (b : Below) → IsRight b → map (hollowed_by m t b) ns ≡ list

abbrev pub IsHollow : Whole → ℤ → List ℕ → Result (List Hollowed) OpFault → Type 0
IsHollow m t ns (Ok list) = HaveWalls m t ns list
IsHollow m t ns (Err (No refusal)) = (b : Below) → IsRight b → hollow_refusal m t ns b ≡ Some refusal
IsHollow m t ns (Err Memory) = Unit {0}

-- The walls in the map, each box's in its place, and how many numbers they draw.
abbrev pub put_walls : Hollowed → Whole → Whole
put_walls h m = replace_by h.id h.walls m

abbrev pub wall_count : List Hollowed → ℕ
wall_count [] = 0
wall_count (h ∷ hs) = length h.walls + wall_count hs
