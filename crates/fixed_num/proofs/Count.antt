-- Each number word has one count, which `count_of` computes.
use Rattle.std.proofs.Common.{◌≡◌, ◌↔◌, ℕ, ◌+◌, ◌*◌, ◌/◌, ◌%◌, ◌^◌, ◌<◌, ◌≤◌, List, Option, Some, None, ℤ, unsigned_abs, IsTrue, is_some, refl, arith, sym}
use Rattle.std.proofs.lemmas.Bool.{false≢true}
use Rattle.std.proofs.lemmas.Nat.{div-add-mod', mod_below}
use Rattle.fixed_num.specs.NumberWord.{Parts, HasParts, IsNumberWord}
use Rattle.fixed_num.specs.DecimalValue.{RoundsTo, numerator, denominator}
use Rattle.fixed_num.specs.Scan.{scan}
use Rattle.fixed_num.specs.Shortest.{shortest_decimal}
use Rattle.fixed_num.specs.Count.{is_number_word, nearest, count_of_parts, count_of, WordsHaveCounts}
use Rattle.fixed_num.proofs.Cuts.{scan-of_parts, HasParts-from_scan}
use Rattle.fixed_num.proofs.Counts.{same_count, RoundsTo-from_exact, positive_denominator}
use Rattle.fixed_num.proofs.Nearest.{IsBetween, IsNearest-from_between}
use Rattle.fixed_num.proofs.Decimals.{exact-shortest_decimal}

nearest-between : (top bottom : ℕ) → 0 < bottom → IsBetween top bottom (nearest top bottom)
nearest-between top bottom h =
    let cut : (2 * top + bottom) / (2 * bottom) * (2 * bottom) + (2 * top + bottom) % (2 * bottom) ≡ 2 * top + bottom = div-add-mod' (2 * top + bottom) (2 * bottom) in
    let rest : (2 * top + bottom) % (2 * bottom) < 2 * bottom = mod_below (2 * top + bottom) (2 * bottom) (omega arith) in
    record { low = omega arith; high = omega arith }

rounds_to_parts : (decimals : ℕ) (word : List ℕ) (parts : Parts) → HasParts word parts → RoundsTo decimals word (count_of_parts decimals parts)
rounds_to_parts decimals word parts h = record {
  parts = parts;
  has_parts = h;
  size = nearest (numerator parts * 10 ^ decimals) (denominator parts);
  nearest = IsNearest-from_between _ _ _ (nearest-between _ _ (positive_denominator parts));
  is_signed = refl;
}

pub count_of-parts : (decimals : ℕ) (word : List ℕ) (parts : Parts) → HasParts word parts → count_of decimals word ≡ count_of_parts decimals parts
unfolding count_of
count_of-parts decimals word parts h = rw (scan-of_parts word parts h) refl

pub rounds_to_count : (decimals : ℕ) (word : List ℕ) → IsNumberWord word → RoundsTo decimals word (count_of decimals word)
rounds_to_count decimals word w = rw (count_of-parts decimals word w.0 w.1) (rounds_to_parts decimals word w.0 w.1)

pub only_count : (decimals : ℕ) (word : List ℕ) (count : ℤ) → RoundsTo decimals word count → count ≡ count_of decimals word
only_count decimals word count r =
    same_count decimals word _ _ r (rounds_to_count decimals word (r.parts, r.has_parts))

word_from_scan : (word : List ℕ) (found : Option Parts) → scan word ≡ found → IsTrue (is_some found) → IsNumberWord word
word_from_scan word None e h = absurd (false≢true h)
word_from_scan word (Some parts) e h = (parts, HasParts-from_scan word parts e)

pub words_are : (word : List ℕ) → IsTrue (is_number_word word) ↔ IsNumberWord word
unfolding is_number_word
words_are word = (λ h. word_from_scan word (scan word) refl h, λ w. rw (scan-of_parts word w.0 w.1) refl)

pub words_have_counts : WordsHaveCounts
words_have_counts = record { words = words_are; rounds = rounds_to_count; only = only_count }

-- the count of a shortest decimal is the count that it was written of
pub count_of-shortest_decimal : (decimals : ℕ) (count : ℤ) → decimals ≤ 12 → unsigned_abs count < 10 ^ (6 + decimals)
    → count_of decimals (shortest_decimal decimals count) ≡ count
count_of-shortest_decimal decimals count few below =
    sym (only_count decimals _ count (RoundsTo-from_exact decimals _ count (exact-shortest_decimal decimals count few below)))
