-- Brushes from which `subtract` takes another.
use Rattle.std.specs.Prelude.{◌≡◌, ℕ, ◌+◌, ◌≤◌, not, List, [], ◌∷◌, ◌++◌, length, map, Option, None, Some, Result, Ok, Err}
use Rattle.map_nodes.specs.Seen.{sides_from}
use Rattle.map_model.specs.Faces.{Face}
use Rattle.map_model.specs.Tree.{Whole, faces_at}
use Rattle.map_model.specs.Edits.{each_in_turn, replace_by, delete}
use Rattle.map_model.specs.Below.{Below, IsRight}
use Rattle.map_model.specs.Brushes.{has_inside, pieces}
use Rattle.map_model.specs.Commands.{Settings, Subtract}
use Rattle.map_model.specs.Replies.{Refusal, Apart}
use Rattle.map_model.specs.Rows.{refuse, first, at_each, too_many}
use Rattle.map_laws.specs.Reshaping.{reshaping_rows}
use Rattle.tree_ops.specs.declared.fault.OpFault.{OpFault}
use Rattle.tree_ops.specs.declared.fault.OpFault.TheVariants.{No, Memory}
use Rattle.cut_plans.specs.declared.cutter.Cutter.{Cutter}
use Rattle.cut_plans.specs.declared.subtracting.Parted.{Parted}

-- The sides of the brush that cuts have the tags from 128 on, which no side of another brush has.
abbrev pub IsCutter : Cutter → Type 0
IsCutter cutter = cutter.solid ≡ sides_from 128 cutter.body

-- No point is inside both the brush n and the brush that cuts.
abbrev pub apart_row : Whole → List Face → ℕ → Below → Option Refusal
apart_row m by n b = refuse (not (has_inside b (faces_at m n ++ by))) (Apart n)

abbrev pub apart_any : Whole → List Face → List ℕ → Below → Option Refusal
apart_any m by ns b = at_each ns (λ n. apart_row m by n b)

-- The pieces of the brush n, by tests.
abbrev pub parted_by : Whole → List Face → Below → ℕ → Parted
parted_by m by b n = record { id = n; pieces = pieces b (faces_at m n) by }

-- A piece has too many faces.
abbrev pub overfull_piece : Parted → Option Refusal
overfull_piece p = at_each p.pieces (too_many p.id)

abbrev pub overfull_pieces : Whole → List Face → List ℕ → Below → Option Refusal
overfull_pieces m by ns b = at_each ns (λ n. overfull_piece (parted_by m by b n))

abbrev pub IsParted : Whole → List Face → ℕ → Result Parted OpFault → Type 0
IsParted m by n (Ok p) = (b : Below) → IsRight b → (parted_by m by b n ≡ p) × (overfull_piece p ≡ None)
IsParted m by n (Err (No refusal)) = (b : Below) → IsRight b → overfull_piece (parted_by m by b n) ≡ Some refusal
IsParted m by n (Err Memory) = Unit {0}

abbrev pub AreParted : Whole → List Face → List ℕ → Result (List Parted) OpFault → Type 0
AreParted m by ns (Ok list) = (b : Below) → IsRight b → (map (parted_by m by b) ns ≡ list) × (overfull_pieces m by ns b ≡ None)
AreParted m by ns (Err (No refusal)) = (b : Below) → IsRight b → overfull_pieces m by ns b ≡ Some refusal
AreParted m by ns (Err Memory) = Unit {0}

-- The pieces in the place of their brushes, and how many numbers they draw.
abbrev pub put_parted : Parted → Whole → Whole
put_parted p m = replace_by p.id p.pieces m

abbrev pub drawn_by : List Parted → ℕ
drawn_by [] = 0
drawn_by (p ∷ ps) = length p.pieces + drawn_by ps

-- Each brush has at most 128 pieces.
abbrev pub HaveFewPieces : List Parted → Type 0
HaveFewPieces [] = Unit {0}
HaveFewPieces (p ∷ ps) = (length p.pieces ≤ 128) × HaveFewPieces ps

-- Then the brush that cut goes.
abbrev pub subtracted : ℕ → List Parted → Whole → Whole
subtracted by list m = delete by (each_in_turn put_parted list m)

-- All rows, and the pieces where none holds.
abbrev pub subtract_refusal : Settings → Whole → ℕ → List ℕ → Below → Option Refusal
subtract_refusal s m by ns b = first (reshaping_rows b s m (Subtract by ns))

pub record AreSubtracted (s : Settings) (m : Whole) (by : ℕ) (ns : List ℕ) (list : List Parted) : Type 0 where
  pub passes : (b : Below) → IsRight b → subtract_refusal s m by ns b ≡ None
  pub made : (b : Below) → IsRight b → map (parted_by m (faces_at m by) b) ns ≡ list
  pub few : HaveFewPieces list

abbrev pub IsSubtracted : Settings → Whole → ℕ → List ℕ → Result (List Parted) OpFault → Type 0
IsSubtracted s m by ns (Ok list) = AreSubtracted s m by ns list
IsSubtracted s m by ns (Err (No refusal)) = (b : Below) → IsRight b → subtract_refusal s m by ns b ≡ Some refusal
IsSubtracted s m by ns (Err Memory) = Unit {0}
