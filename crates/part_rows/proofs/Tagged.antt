-- Sides that are tagged one after another.
use Rattle.std.proofs.Common.{◌≡◌, ◌+◌, ◌^◌, ◌<◌, List, [], ◌∷◌, ◌++◌, length, arith}
use Rattle.std.proofs.lemmas.List.{length-append}
use Rattle.algebra.specs.Members.{here, there, Every}
use Rattle.algebra.proofs.Members.{each_of_none, each_of_more}
use Rattle.solid_brush.specs.declared.side.Side.{Side}
use Rattle.solid_brush.specs.Sides.{DistinctTags, no_sides, one_more_side}
use Rattle.part_rows.specs.Numbered.{AreNumbered}

pub each_and_last : {A : Type 0} (P : A → Type 0) (xs : List A) (y : A) → Every P xs → P y → Every P (xs ++ y ∷ [])
each_and_last P [] y ps p = each_of_more P y [] p (each_of_none P)
each_and_last P (x ∷ xs) y ps p = each_of_more P x (xs ++ y ∷ []) (ps x here) (each_and_last P xs y (λ z m. ps z (there m)) p)

pub distinct_and_last : (sides : List Side) (s : Side) → DistinctTags sides → Every (λ t. t.tag < s.tag) sides → DistinctTags (sides ++ s ∷ [])
distinct_and_last [] s no_sides low = one_more_side (each_of_none (λ t. ¬ (s.tag ≡ t.tag))) no_sides
distinct_and_last (t ∷ sides) s (one_more_side apart others) low =
    let below = low t here in
    one_more_side (each_and_last (λ u. ¬ (t.tag ≡ u.tag)) sides s apart (λ e. omega arith)) (distinct_and_last sides s others (λ u m. low u (there m)))

-- one more side, tagged by the count of those before it
pub one_more_numbered : (sides : List Side) (s : Side) → AreNumbered sides → s.tag ≡ length sides → s.tag < 256 → AreNumbered (sides ++ s ∷ [])
one_more_numbered sides s n is few =
    let longer : length (sides ++ s ∷ []) ≡ length sides + 1 = length-append sides (s ∷ []) in
    record {
      tags = record {
        distinct = distinct_and_last sides s n.tags.distinct (λ t m. let below = n.low t m in omega arith);
        small = each_and_last (λ t. t.tag < 2 ^ 31) sides s n.tags.small (omega arith);
      };
      low = each_and_last (λ t. t.tag < length (sides ++ s ∷ [])) sides s (λ t m. let below = n.low t m in omega arith) (omega arith);
      few = omega arith;
    }

pub none_numbered : (sides : List Side) → sides ≡ [] → AreNumbered sides
none_numbered [] e = record {
  tags = record { distinct = no_sides; small = each_of_none (λ t. t.tag < 2 ^ 31) };
  low = each_of_none (λ t. t.tag < 0);
  few = omega arith;
}
none_numbered (s ∷ sides) e = absurd (cc)
