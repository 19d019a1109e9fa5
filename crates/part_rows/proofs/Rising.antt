-- Tags that rise, one side after another.
use Rattle.std.proofs.Common.{◌≡◌, ℕ, sym, subst, get_or, ◌∙◌, ◌+◌, ◌^◌, ◌<◌, ◌≤◌, List, [], ◌∷◌, ◌++◌, length, take, arith}
use Rattle.std.proofs.lemmas.List.{take_all, take_more}
use Rattle.algebra.specs.Members.{Every}
use Rattle.algebra.proofs.Members.{each_of_none}
use Rattle.solid_brush.specs.declared.side.Side.{Side}
use Rattle.solid_brush.specs.Sides.{DistinctTags, no_sides, HaveTags}
use Rattle.part_rows.proofs.Tagged.{each_and_last, distinct_and_last}

-- the sides have tags, all below a number
pub record Rise (least : ℕ) (sides : List Side) : Type 0 where
  pub tags : HaveTags sides
  pub low : Every (λ s. s.tag < least) sides

pub none_rise : (least : ℕ) (sides : List Side) → sides ≡ [] → Rise least sides
none_rise least [] e = record { tags = record { distinct = no_sides; small = each_of_none (λ t. t.tag < 2 ^ 31) }; low = each_of_none (λ t. t.tag < least) }
none_rise least (s ∷ sides) e = absurd (cc)

pub one_more_rises : (least : ℕ) (sides : List Side) (s : Side) → Rise least sides → least ≤ s.tag → s.tag < 2 ^ 31 → Rise (s.tag + 1) (sides ++ s ∷ [])
one_more_rises least sides s rise high small = record {
  tags = record {
    distinct = distinct_and_last sides s rise.tags.distinct (λ t m. let below = rise.low t m in omega arith);
    small = each_and_last (λ t. t.tag < 2 ^ 31) sides s rise.tags.small small;
  };
  low = each_and_last (λ t. t.tag < s.tag + 1) sides s (λ t m. let below = rise.low t m in omega arith) (omega arith);
}

-- the same along the first sides of a list
pub next_rises : (sides : List Side) (i least tag : ℕ) (s : Side) → i < length sides → s ≡ get_or sides i s → Rise least (take i sides) → tag ≡ s.tag → least ≤ tag → tag < 2 ^ 31 → Rise (tag + 1) (take (i + 1) sides)
next_rises sides i least tag s lt is rise e high small =
    subst (Rise (tag + 1)) (sym (take_more sides i s lt)) (subst (λ x. Rise (tag + 1) (take i sides ++ x ∷ [])) is
    (subst (λ n. Rise (n + 1) (take i sides ++ s ∷ [])) (sym e) (one_more_rises least (take i sides) s rise (omega arith) (omega arith))))

pub all_rise : (sides : List Side) (i least : ℕ) → length sides ≤ i → Rise least (take i sides) → HaveTags sides
all_rise sides i least le rise = subst HaveTags (take_all i sides le) rise.tags
