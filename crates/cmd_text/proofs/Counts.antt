-- The count of a word, from what its reader says.
use Rattle.std.proofs.Common.{◌≡◌, ◌↔◌, ℕ, ◌≤◌, Bool, true, false, cond, nat_lt, List, Option, Some, None, Result, Ok, Err, IfOk, ℤ, unsigned_abs, IsTrue, inl, inr, refl, sym, ap, ◌∙◌, arith}
use Rattle.std.proofs.lemmas.Bool.{cases_lt}
use Rattle.std.proofs.lemmas.Bool.Decides.{nat_tests}
use Rattle.fixed_num.specs.declared.read.MicroFault.{MicroFault}
use Rattle.fixed_num.specs.declared.read.MicroFault.TheVariants.{NotNumber, TooLarge}
use Rattle.fixed_num.specs.NumberWord.{IsNumberWord}
use Rattle.fixed_num.specs.DecimalValue.{RoundsTo}
use Rattle.fixed_num.specs.Count.{is_number_word, count_of}
use Rattle.fixed_num.proofs.Count.{only_count, words_are}
use Rattle.cmd_text.specs.Spelling.{kept_if, count_below}

pub refuted : (b : Bool) → (IsTrue b → ⊥) → b ≡ false
refuted true h = absurd (h refl)
refuted false h = refl

-- the count that was read, if it was
abbrev pub read : Result ℤ MicroFault → Option ℤ
read (Ok count) = Some count
read (Err fault) = None

below : (decimals limit : ℕ) (word : List ℕ) (b : Bool) → is_number_word word ≡ true → nat_lt (unsigned_abs (count_of decimals word)) limit ≡ b
    → count_below decimals limit word ≡ cond b (Some (count_of decimals word)) None
unfolding count_below
below decimals limit word b is e =
    ap (λ t. cond t (cond (nat_lt (unsigned_abs (count_of decimals word)) limit) (Some (count_of decimals word)) None) None) is
    ∙ ap (λ t. cond t (Some (count_of decimals word)) None) e

no_word : (decimals limit : ℕ) (word : List ℕ) → is_number_word word ≡ false → count_below decimals limit word ≡ None
unfolding count_below
no_word decimals limit word is = ap (λ t. cond t (kept_if (λ count. nat_lt (unsigned_abs count) limit) (Some (count_of decimals word))) None) is

module _ (decimals limit : ℕ) (word : List ℕ) where
  pub count_is : (r : Result ℤ MicroFault) → IfOk r (RoundsTo decimals word) → ((r ≡ Err NotNumber) ↔ ¬ IsNumberWord word)
      → ((r ≡ Err TooLarge) ↔ ((count : ℤ) × RoundsTo decimals word count × (limit ≤ unsigned_abs count)))
      → read r ≡ count_below decimals limit word
  count_is (Ok count) ok not_number too_large =
      let is : IsNumberWord word = (ok.parts, ok.has_parts) in
      let same : count ≡ count_of decimals word = only_count decimals word count ok in
      elim (cases_lt (unsigned_abs count) limit) [
        | inl small ↦ ap Some same ∙ sym (below decimals limit word true ((words_are word).1 is) (ap (λ z. nat_lt (unsigned_abs z) limit) (sym same) ∙ grind (arith, nat_tests, small)))
        | inr large ↦ let no : Ok count ≡ Err TooLarge = too_large.1 (count, ok, large) in absurd (cc)
      ]
  count_is (Err NotNumber) ok not_number too_large =
      let no : ¬ IsNumberWord word = not_number.0 refl in
      sym (no_word decimals limit word (refuted (is_number_word word) (λ t. no ((words_are word).0 t))))
  count_is (Err TooLarge) ok not_number too_large =
      let past = too_large.0 refl in
      let same : past.0 ≡ count_of decimals word = only_count decimals word past.0 past.1 in
      let large : limit ≤ unsigned_abs past.0 = past.2 in
      sym (below decimals limit word false ((words_are word).1 (past.1.parts, past.1.has_parts)) (ap (λ z. nat_lt (unsigned_abs z) limit) (sym same) ∙ grind (arith, nat_tests, large)))
