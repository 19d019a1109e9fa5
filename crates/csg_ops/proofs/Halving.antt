-- The halves of a split brush.
use Rattle.std.proofs.Common.{◌≡◌, ◌<◌, ◌≤◌, ℕ, List, [], ◌∷◌, ◌++◌, length, arith}
use Rattle.std.proofs.lemmas.List.{length-map}
use Rattle.algebra.specs.Members.{here, there, Every}
use Rattle.algebra.proofs.Members.{each_of_more, each_of_none}
use Rattle.solid_brush.specs.declared.side.Side.{Side}
use Rattle.solid_brush.specs.declared.meet_fault.MeetFault.{MeetFault}
use Rattle.solid_brush.specs.declared.meet_fault.MeetFault.TheVariants.{TooManyFaces as Overfull, Memory as NoMemory}
use Rattle.solid_brush.specs.Sides.{bounds, DistinctTags, no_sides, one_more_side, HaveTags, IsSolid}
use Rattle.solid_brush.specs.Blocks.{IsTrimmedTo, IsOverfull}
use Rattle.csg_ops.specs.Faults.{split_fault_of, overfull, later_overfull}
use Rattle.csg_ops.specs.Cuts.{reversed, IsNotSplitFor}

-- ---- tags of the reversed side
every_turned : (P : ℕ → Type 0) (a : List Side) (s : Side) → Every (λ t. P t.tag) (a ++ s ∷ []) → Every (λ t. P t.tag) (a ++ reversed s ∷ [])
every_turned P [] s each = each_of_more (λ t. P t.tag) (reversed s) [] (each s here) (each_of_none (λ t. P t.tag))
every_turned P (x ∷ a) s each = each_of_more (λ t. P t.tag) x (a ++ reversed s ∷ []) (each x here) (every_turned P a s (λ t m. each t (there m)))

distinct_turned : (a : List Side) (s : Side) → DistinctTags (a ++ s ∷ []) → DistinctTags (a ++ reversed s ∷ [])
distinct_turned [] s d = one_more_side (each_of_none (λ t. ¬ (s.tag ≡ t.tag))) no_sides
distinct_turned (x ∷ a) s (one_more_side apart others) = one_more_side (every_turned (λ n. ¬ (x.tag ≡ n)) a s apart) (distinct_turned a s others)

pub tags_turned : (a : List Side) (s : Side) → HaveTags (a ++ s ∷ []) → HaveTags (a ++ reversed s ∷ [])
tags_turned a s tags = record { distinct = distinct_turned a s tags.distinct; small = every_turned (λ n. n < 2147483648) a s tags.small }

-- ---- too many faces
pub few_of_solid : {sides : List Side} → IsSolid sides → length sides ≤ 128
few_of_solid {sides} s = let l = s.brush.most in let e = length-map sides bounds in omega arith

pub back_overfull : (a : List Side) (s : Side) {back front : List Side} → IsTrimmedTo (a ++ s ∷ []) back → IsTrimmedTo (a ++ reversed s ∷ []) front → (why : MeetFault) → IsOverfull back why → IsNotSplitFor a s (split_fault_of why)
back_overfull a s {back} {front} t u (Overfull n) h = record { back = back; front = front; is_back = t; is_front = u; first = overfull h.0 h.1 }
back_overfull a s t u NoMemory h = tt

pub front_overfull : (a : List Side) (s : Side) {back front : List Side} → IsTrimmedTo (a ++ s ∷ []) back → IsTrimmedTo (a ++ reversed s ∷ []) front → length back ≤ 128 → (why : MeetFault) → IsOverfull front why → IsNotSplitFor a s (split_fault_of why)
front_overfull a s {back} {front} t u l (Overfull n) h = record { back = back; front = front; is_back = t; is_front = u; first = later_overfull l (overfull h.0 h.1) }
front_overfull a s t u l NoMemory h = tt
