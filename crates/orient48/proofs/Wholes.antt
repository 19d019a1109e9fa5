-- What whole number a word is.
use Rattle.std.proofs.Common.{◌≡◌, ◌≢◌, ℕ, ◌^◌, ◌<◌, ◌≤◌, Bool, true, false, ◌&&◌, cond, List, Option, None, Some, ℤ, pos, ◌*ℤ◌, int_div, unsigned_abs, nat_le, refl, sym, ap, ◌∙◌, arith}
use Rattle.std.specs.Prelude.{int_rem, option_and_then}
use Rattle.std.specs.Ordering.{int_eq}
use Rattle.std.proofs.lemmas.Bool.Decides.{nat_tests, Decides-int_eq}
use Rattle.std.proofs.lemmas.Int.{ints}
use Rattle.fixed_num.specs.NumberWord.{IsNumberWord}
use Rattle.fixed_num.specs.DecimalValue.{RoundsTo}
use Rattle.fixed_num.specs.Count.{is_number_word, count_of}
use Rattle.fixed_num.proofs.Count.{words_are, only_count}
use Rattle.fixed_num.proofs.Quotients.{no_remainder, whole_quotient}
use Rattle.orient48.specs.Motions.{shift_limit}
use Rattle.orient48.specs.MotionTexts.{whole_in}
use Rattle.orient48.specs.Reading.{small_in}

is_word : (w : List ℕ) (count : ℤ) → RoundsTo 6 w count → is_number_word w ≡ true
is_word w count r = (words_are w).1 (r.parts, r.has_parts)

whole_test : (w : List ℕ) (whole : ℤ) → RoundsTo 6 w (whole *ℤ pos (10 ^ 6)) → int_eq (int_rem (count_of 6 w) (pos (10 ^ 6))) (pos 0) ≡ true
whole_test w whole r = (Decides-int_eq _ _).1 (no_remainder (count_of 6 w) (pos (10 ^ 6)) whole (only_count 6 w _ r))

whole_value : (w : List ℕ) (whole : ℤ) → RoundsTo 6 w (whole *ℤ pos (10 ^ 6)) → int_div (count_of 6 w) (pos (10 ^ 6)) ≡ whole
whole_value w whole r =
    let count : whole *ℤ pos (10 ^ 6) ≡ count_of 6 w = only_count 6 w _ r in
    let cut : int_div (count_of 6 w) (pos (10 ^ 6)) *ℤ pos (10 ^ 6) ≡ count_of 6 w = whole_quotient (count_of 6 w) (pos (10 ^ 6)) (no_remainder (count_of 6 w) (pos (10 ^ 6)) whole count) in
    omega (arith, ints, count, cut)

chosen : (a b : Bool) (d n : ℤ) → a ≡ true → b ≡ true → d ≡ n → cond (a && b) (Some d) None ≡ Some n
chosen true true d n p q e = ap Some e
chosen true false d n p q e = cc
chosen false b d n p q e = cc

whole_in_is : (w : List ℕ) (whole : ℤ) → RoundsTo 6 w (whole *ℤ pos (10 ^ 6)) → whole_in w ≡ Some whole
whole_in_is w whole r =
    chosen (is_number_word w) (int_eq (int_rem (count_of 6 w) (pos 1000000)) (pos 0)) (int_div (count_of 6 w) (pos 1000000)) whole (is_word w _ r) (whole_test w whole r) (whole_value w whole r)

none_left : (b : Bool) (o : Option ℤ) → b ≡ false → cond b o None ≡ None
none_left false o e = refl
none_left true o e = cc

no_word : (w : List ℕ) → (IsNumberWord w → ⊥) → is_number_word w ≡ false
no_word w never = by (is_number_word w) refl
  where
    by : (b : Bool) → is_number_word w ≡ b → is_number_word w ≡ false
    by true e = absurd (never ((words_are w).0 e))
    by false e = e

no_whole : (w : List ℕ) (count : ℤ) → RoundsTo 6 w count → ((whole : ℤ) → count ≢ whole *ℤ pos (10 ^ 6)) → int_eq (int_rem (count_of 6 w) (pos (10 ^ 6))) (pos 0) ≡ false
no_whole w count r never = by (int_eq (int_rem (count_of 6 w) (pos (10 ^ 6))) (pos 0)) refl
  where
    by : (b : Bool) → int_eq (int_rem (count_of 6 w) (pos (10 ^ 6))) (pos 0) ≡ b → int_eq (int_rem (count_of 6 w) (pos (10 ^ 6))) (pos 0) ≡ false
    by true e = absurd (never (int_div (count_of 6 w) (pos (10 ^ 6))) (only_count 6 w _ r ∙ sym (whole_quotient (count_of 6 w) (pos (10 ^ 6)) ((Decides-int_eq _ _).0 e))))
    by false e = e

and_false : (a b : Bool) → b ≡ false → (a && b) ≡ false
and_false true b e = e
and_false false b e = refl

-- ---- the whole numbers of at most 1,000,000
abbrev limited : ℤ → Option ℤ
limited n = cond (nat_le (unsigned_abs n) shift_limit) (Some n) None

pub small_some : (w : List ℕ) (whole : ℤ) → RoundsTo 6 w (whole *ℤ pos (10 ^ 6)) → unsigned_abs whole ≤ 1000000 → Some whole ≡ small_in w
small_some w whole r l =
    let t : nat_le (unsigned_abs whole) 1000000 ≡ true = grind (arith, nat_tests) in
    sym (ap (option_and_then limited) (whole_in_is w whole r) ∙ ap (λ b. cond b (Some whole) None) t)

pub small_far : (w : List ℕ) (whole : ℤ) → RoundsTo 6 w (whole *ℤ pos (10 ^ 6)) → 1000000 < unsigned_abs whole → None ≡ small_in w
small_far w whole r l =
    let t : nat_le (unsigned_abs whole) 1000000 ≡ false = grind (arith, nat_tests) in
    sym (ap (option_and_then limited) (whole_in_is w whole r) ∙ ap (λ b. cond b (Some whole) None) t)

pub small_no_word : (w : List ℕ) → (IsNumberWord w → ⊥) → None ≡ small_in w
small_no_word w never =
    sym (ap (option_and_then limited) (none_left (is_number_word w && int_eq (int_rem (count_of 6 w) (pos 1000000)) (pos 0)) (Some (int_div (count_of 6 w) (pos 1000000)))
    (ap (λ b. b && int_eq (int_rem (count_of 6 w) (pos 1000000)) (pos 0)) (no_word w never))))

pub small_fraction : (w : List ℕ) → (count : ℤ) × RoundsTo 6 w count × ((whole : ℤ) → count ≢ whole *ℤ pos (10 ^ 6)) → None ≡ small_in w
small_fraction w h =
    sym (ap (option_and_then limited) (none_left (is_number_word w && int_eq (int_rem (count_of 6 w) (pos 1000000)) (pos 0)) (Some (int_div (count_of 6 w) (pos 1000000)))
    (and_false (is_number_word w) _ (no_whole w h.0 h.1 h.2))))
