-- The numbers of commands that move or copy nodes.
use Rattle.std.proofs.Common.{◌≡◌, ℕ, zero, suc, ◌≤◌, List, [], ◌∷◌, true, ℤ, pos, unsigned_abs, slice_index_or, arith, subst, refl}
use Rattle.std.specs.List.{AllByRecursion}
use Rattle.exact_geom.specs.declared.axis.Axis.{Axis}
use Rattle.cmd_text.specs.Kept.{IsShift, IsCoordinate, IsPoint, KeepsRanges}
use Rattle.orient48.proofs.Parts.{short_within}
use Rattle.map_model.specs.Commands.{Command, IsGood, vector_in, Copy, Move, Turn, Flip}
use Rattle.map_model.specs.Motions.{is_short}
use Rattle.map_laws.specs.MovingCommands.{is_moving_command}

shift_at : (l : List ℤ) (i : ℕ) → AllByRecursion IsShift l → unsigned_abs (slice_index_or l i (pos 0)) ≤ 1000000
shift_at [] i h = omega arith
shift_at (x ∷ xs) zero h = let a = h.0 in omega arith
shift_at (x ∷ xs) (suc i) h = shift_at xs i h.1

short_shift : (shift : List ℤ) → AllByRecursion IsShift shift → is_short (vector_in shift) ≡ true
short_shift shift h = short_within (vector_in shift) (record { x = shift_at shift 0 h; y = shift_at shift 1 h; z = shift_at shift 2 h })

pub short_copy : (c : Command) (shift : List ℤ) (ns : List ℕ) → c ≡ Copy shift ns → IsGood c → is_short (vector_in shift) ≡ true
short_copy c shift ns e good = short_shift shift (subst KeepsRanges e good.ranges).0

pub short_move : (c : Command) (shift : List ℤ) (ns : List ℕ) → c ≡ Move shift ns → IsGood c → is_short (vector_in shift) ≡ true
short_move c shift ns e good = short_shift shift (subst KeepsRanges e good.ranges).0

pub few_quarters : (c : Command) (axis : Axis) (quarters : ℕ) (about : List ℤ) (ns : List ℕ) → c ≡ Turn axis quarters about ns → IsGood c → quarters ≤ 3
few_quarters c axis quarters about ns e good = (subst KeepsRanges e good.ranges).0.1

pub near_point : (c : Command) (axis : Axis) (quarters : ℕ) (about : List ℤ) (ns : List ℕ) → c ≡ Turn axis quarters about ns → IsGood c → IsPoint about
near_point c axis quarters about ns e good = (subst KeepsRanges e good.ranges).1

pub near_place : (c : Command) (axis : Axis) (place : ℤ) (ns : List ℕ) → c ≡ Flip axis place ns → IsGood c → IsCoordinate place
near_place c axis place ns e good = (subst KeepsRanges e good.ranges).0

pub none_other : (c : Command) → is_moving_command c ≡ true → ((shift : List ℤ) (ns : List ℕ) → ¬ (c ≡ Copy shift ns)) → ((shift : List ℤ) (ns : List ℕ) → ¬ (c ≡ Move shift ns)) →
    ((axis : Axis) (quarters : ℕ) (about : List ℤ) (ns : List ℕ) → ¬ (c ≡ Turn axis quarters about ns)) → ((axis : Axis) (place : ℤ) (ns : List ℕ) → ¬ (c ≡ Flip axis place ns)) → ⊥
none_other (Copy shift ns) is copy move turn flip = copy shift ns refl
none_other (Move shift ns) is copy move turn flip = move shift ns refl
none_other (Turn axis quarters about ns) is copy move turn flip = turn axis quarters about ns refl
none_other (Flip axis place ns) is copy move turn flip = flip axis place ns refl
none_other c is copy move turn flip = absurd (cc)
