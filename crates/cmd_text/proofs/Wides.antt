-- The whole number of a word, from what its reader says.
use Rattle.std.proofs.Common.{◌≡◌, ◌≢◌, ◌↔◌, ℕ, ◌^◌, ◌<◌, Bool, true, false, cond, List, Option, Some, None, Result, Ok, Err, IfOk, ℤ, pos, negsuc, ◌*ℤ◌, int_div, refl, sym, ◌∙◌, arith}
use Rattle.std.specs.Prelude.{int_rem}
use Rattle.std.specs.Ordering.{int_eq}
use Rattle.std.proofs.lemmas.Bool.Decides.{nat_tests, Decides-int_eq}
use Rattle.std.proofs.lemmas.Int.{ints}
use Rattle.fixed_num.specs.declared.whole.WholeFault.{WholeFault}
use Rattle.fixed_num.specs.declared.whole.WholeFault.TheVariants as whole
use Rattle.fixed_num.specs.NumberWord.{IsNumberWord}
use Rattle.fixed_num.specs.DecimalValue.{RoundsTo}
use Rattle.fixed_num.specs.Count.{is_number_word, count_of}
use Rattle.fixed_num.specs.Whole.{IsWide}
use Rattle.fixed_num.proofs.Count.{only_count, words_are}
use Rattle.fixed_num.proofs.Quotients.{no_remainder, whole_quotient}
use Rattle.cmd_text.specs.Spelling.{is_wide, wide_of}
use Rattle.cmd_text.proofs.Counts.{refuted}

whole_test : (word : List ℕ) (whole : ℤ) → RoundsTo 6 word (whole *ℤ pos (10 ^ 6)) → int_eq (int_rem (count_of 6 word) (pos (10 ^ 6))) (pos 0) ≡ true
whole_test word whole rounds = (Decides-int_eq _ _).1 (no_remainder (count_of 6 word) (pos (10 ^ 6)) whole (only_count 6 word _ rounds))

whole_value : (word : List ℕ) (whole : ℤ) → RoundsTo 6 word (whole *ℤ pos (10 ^ 6)) → int_div (count_of 6 word) (pos (10 ^ 6)) ≡ whole
whole_value word whole rounds =
    let count : whole *ℤ pos (10 ^ 6) ≡ count_of 6 word = only_count 6 word _ rounds in
    let cut : int_div (count_of 6 word) (pos (10 ^ 6)) *ℤ pos (10 ^ 6) ≡ count_of 6 word = whole_quotient (count_of 6 word) (pos (10 ^ 6)) (no_remainder (count_of 6 word) (pos (10 ^ 6)) whole count) in
    omega (arith, ints, count, cut)

fraction_test : (word : List ℕ) (count : ℤ) → RoundsTo 6 word count → ((whole : ℤ) → count ≢ whole *ℤ pos (10 ^ 6)) → int_eq (int_rem (count_of 6 word) (pos (10 ^ 6))) (pos 0) ≡ false
fraction_test word count rounds never = by (int_eq (int_rem (count_of 6 word) (pos (10 ^ 6))) (pos 0)) refl
  where
    by : (t : Bool) → int_eq (int_rem (count_of 6 word) (pos (10 ^ 6))) (pos 0) ≡ t → t ≡ false
    by false e = refl
    by true e = absurd (never (int_div (count_of 6 word) (pos (10 ^ 6))) (only_count 6 word _ rounds ∙ sym (whole_quotient (count_of 6 word) (pos (10 ^ 6)) ((Decides-int_eq _ _).0 e))))

wide_test : (whole : ℤ) → IsWide whole → is_wide whole ≡ true
wide_test (pos n) within = let h : n < 4294967296 = omega (arith, ints, within.1) in grind (arith, nat_tests, h)
wide_test (negsuc n) within = let h : n < 2147483648 = omega (arith, ints, within.0) in grind (arith, nat_tests, h)

narrow_test : (whole : ℤ) → (IsWide whole → ⊥) → is_wide whole ≡ false
narrow_test whole outside = by (is_wide whole) refl
  where
    from_test : (z : ℤ) → is_wide z ≡ true → IsWide z
    from_test (pos n) e = let h : n < 4294967296 = grind (arith, nat_tests, e) in (omega (arith, ints), omega (arith, ints, h))
    from_test (negsuc n) e = let h : n < 2147483648 = grind (arith, nat_tests, e) in (omega (arith, ints, h), omega (arith, ints))

    by : (t : Bool) → is_wide whole ≡ t → t ≡ false
    by false e = refl
    by true e = absurd (outside (from_test whole e))

-- the whole number that was read, if it was
abbrev pub read_whole : Result ℤ WholeFault → Option ℤ
read_whole (Ok whole) = Some whole
read_whole (Err fault) = None

wide_by : (word : List ℕ) (whole : ℤ) (t : Bool) → RoundsTo 6 word (whole *ℤ pos (10 ^ 6)) → is_wide whole ≡ t → wide_of word ≡ cond t (Some whole) None
unfolding wide_of
wide_by word whole t rounds e =
    rw ((words_are word).1 (rounds.parts, rounds.has_parts), whole_test word whole rounds, whole_value word whole rounds, e) refl

module _ (word : List ℕ) where
  pub wide_is : (r : Result ℤ WholeFault) → IfOk r (λ whole. RoundsTo 6 word (whole *ℤ pos (10 ^ 6)) × IsWide whole)
      → ((r ≡ Err whole.NotNumber) ↔ ¬ IsNumberWord word)
      → ((r ≡ Err whole.NotWhole) ↔ ((count : ℤ) × RoundsTo 6 word count × ((whole : ℤ) → count ≢ whole *ℤ pos (10 ^ 6))))
      → ((r ≡ Err whole.TooLarge) ↔ ((whole : ℤ) × RoundsTo 6 word (whole *ℤ pos (10 ^ 6)) × ¬ IsWide whole))
      → read_whole r ≡ wide_of word
  unfolding wide_of
  wide_is (Ok whole) ok not_number not_whole too_large = sym (wide_by word whole true ok.0 (wide_test whole ok.1))
  wide_is (Err whole.NotNumber) ok not_number not_whole too_large =
      let none : is_number_word word ≡ false = refuted (is_number_word word) (λ t. not_number.0 refl ((words_are word).0 t)) in
      rw none refl
  wide_is (Err whole.NotWhole) ok not_number not_whole too_large =
      let part = not_whole.0 refl in
      rw ((words_are word).1 (part.1.parts, part.1.has_parts), fraction_test word part.0 part.1 part.2) refl
  wide_is (Err whole.TooLarge) ok not_number not_whole too_large =
      let past = too_large.0 refl in
      sym (wide_by word past.0 false past.1 (narrow_test past.0 past.2))
