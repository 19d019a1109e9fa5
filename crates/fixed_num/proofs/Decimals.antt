-- The decimal that is written is exact, and no plain decimal of its value is as short.
use Rattle.std.proofs.Common.{◌≡◌, ℕ, ◌+◌, ◌*◌, ◌-◌, ◌/◌, ◌%◌, ◌^◌, ◌<◌, ◌≤◌, zero, suc, Bool, true, false, cond, eqb, List, [], ◌∷◌, ◌++◌, length, refl, arith, sym, ap, ◌∙◌, ⊎_elim, subst, inl, inr, ℤ, pos, negsuc, unsigned_abs, add-zero}
use Rattle.std.proofs.Math.Nat.{one-le-pow, pow-suc}
use Rattle.std.proofs.lemmas.Bool.Decides.{nat_tests, eqb_tells}
use Rattle.std.proofs.lemmas.Fmt.{decimal_is_IsNumeral, decimal-digits_value, length-decimal-le}
use Rattle.std.proofs.lemmas.Int.Digits.{digits_value-lt}
use Rattle.std.proofs.lemmas.List.{append-nil, append_assoc, length-append}
use Rattle.std.proofs.lemmas.Nat.{mul-le, pow-add, div-add-mod', mod_below, div_below, same_from_place}
use Rattle.std.proofs.lemmas.Str.Parse.{IsNumeralModel, numerals_by_value, tells_digits, digit_from_value}
use Rattle.std.specs.Char.{digit_value}
use Rattle.std.specs.Fmt.{decimal}
use Rattle.std.specs.Str.Parse.{AllDigits, digits_value, IsNumeral}
use Rattle.fixed_num.specs.NumberWord.{Parts, HasParts, IsSign, IsPointed, IsPower}
use Rattle.fixed_num.specs.DecimalValue.{IsExactly, with_sign}
use Rattle.fixed_num.specs.Shortest.{IsPlainDecimal, IsShortest, minus_of, places, fraction_text, shortest_decimal}
use Rattle.fixed_num.proofs.Counts.{unsigned_abs-with_sign}
use Rattle.fixed_num.proofs.Kept.{digits_value_after-is, digits_value-append}
use Rattle.fixed_num.proofs.Rounding.{digit_value-is}

-- ---- decimal places

pub places-none : (n : ℕ) → places n 0 ≡ []
places-none zero = refl
places-none (suc n) = refl

pub places-some : (n rest : ℕ) → 0 < rest → places (suc n) rest ≡ (48 + rest / 10 ^ n) ∷ places n (rest % 10 ^ n)
places-some n rest h = let test : eqb rest 0 ≡ false = grind (arith, nat_tests) in rw test refl

digit_of_place : (n rest : ℕ) → rest < 10 ^ suc n → rest / 10 ^ n < 10
digit_of_place n rest h = div_below rest (10 ^ n) 10 (one-le-pow n 10 (omega arith)) (omega (arith, pow-suc 10 n))

value_of_digit : (q : ℕ) → q < 10 → digit_value (48 + q) ≡ q
value_of_digit q h = digit_value-is (48 + q) (omega arith) (omega arith) ∙ omega arith

digit_is_below : (q : ℕ) → q < 10 → digit_value (48 + q) < 10
digit_is_below q h = rw (value_of_digit q h) h

pub AllDigits-places : (n rest : ℕ) → rest < 10 ^ n → AllDigits 10 (places n rest)
AllDigits-places zero rest h = tt
AllDigits-places (suc n) rest h = ⊎_elim
    (λ e. rw (e.0) tt)
    (λ e. rw (e.0) (digit_is_below (rest / 10 ^ n) (digit_of_place n rest h), AllDigits-places n (rest % 10 ^ n) (mod_below rest (10 ^ n) (one-le-pow n 10 (omega arith)))))
    (eqb_tells rest 0)

pub length-places : (n rest : ℕ) → length (places n rest) ≤ n
length-places zero rest = omega arith
length-places (suc n) rest = ⊎_elim (λ e. rw (e.0) (omega arith)) (λ e. rw (e.0) (omega (arith, length-places n (rest % 10 ^ n)))) (eqb_tells rest 0)

value_of_place : (value q p r rest l later : ℕ) → value ≡ q * l + later → q * p + r ≡ rest → later * p ≡ r * l → value * (p * 10) ≡ rest * (l * 10)
value_of_place value q p r rest l later e f g = rw (e, ← f) (omega (arith, ap (λ x. x * 10) g))

value_of_first_place : (n rest : ℕ) (later : List ℕ) → rest / 10 ^ n < 10 → digits_value 10 later * 10 ^ n ≡ rest % 10 ^ n * 10 ^ length later
    → digits_value 10 ((48 + rest / 10 ^ n) ∷ later) * (10 ^ n * 10) ≡ rest * (10 ^ length later * 10)
value_of_first_place n rest later small same =
    let value : digits_value 10 ((48 + rest / 10 ^ n) ∷ later) ≡ (0 * 10 + digit_value (48 + rest / 10 ^ n)) * 10 ^ length later + digits_value 10 later = digits_value_after-is _ later in
    let digit : digit_value (48 + rest / 10 ^ n) ≡ rest / 10 ^ n = value_of_digit (rest / 10 ^ n) small in
    let cut : rest / 10 ^ n * 10 ^ n + rest % 10 ^ n ≡ rest = div-add-mod' rest (10 ^ n) in
    value_of_place (digits_value 10 ((48 + rest / 10 ^ n) ∷ later)) (rest / 10 ^ n) (10 ^ n) (rest % 10 ^ n) rest (10 ^ length later) (digits_value 10 later)
    (value ∙ ap (λ d. (0 * 10 + d) * 10 ^ length later + digits_value 10 later) digit ∙ omega arith) cut same

-- the places write rest / 10^n
pub value_of_places : (n rest : ℕ) → rest < 10 ^ n → digits_value 10 (places n rest) * 10 ^ n ≡ rest * 10 ^ length (places n rest)
value_of_places zero rest h = let none : rest ≡ 0 = omega arith in rw none refl
value_of_places (suc n) rest h = ⊎_elim
    (λ e. rw (e.0, e.1) (omega arith))
    (λ e. rw (e.0, pow-suc 10 n, pow-suc 10 (length (places n (rest % 10 ^ n)))) (value_of_first_place n rest (places n (rest % 10 ^ n)) (digit_of_place n rest h) (value_of_places n (rest % 10 ^ n) (mod_below rest (10 ^ n) (one-le-pow n 10 (omega arith))))))
    (eqb_tells rest 0)

-- ---- the text is a plain decimal of the count

is_negative : ℤ → Bool
is_negative (pos n) = false
is_negative (negsuc n) = true

sign_of_count : (count : ℤ) → with_sign (is_negative count) (unsigned_abs count) ≡ count
unfolding is_negative
sign_of_count (pos n) = refl
sign_of_count (negsuc n) = refl

IsSign-minus_of : (count : ℤ) → IsSign (minus_of count) (is_negative count)
unfolding is_negative
IsSign-minus_of (pos n) = inl refl
IsSign-minus_of (negsuc n) = refl

pub length-minus_of : (count : ℤ) → length (minus_of count) ≤ 1
length-minus_of (pos n) = omega arith
length-minus_of (negsuc n) = omega arith

IsPointed-fraction_text : (n rest : ℕ) → rest < 10 ^ n → IsPointed (fraction_text n rest) (places n rest)
IsPointed-fraction_text n rest h = ⊎_elim
    (λ e. rw (e.0, e.1) (inl (refl, places-none n)))
    (λ e. rw (e.0) (inr (refl, AllDigits-places n rest h)))
    (eqb_tells rest 0)

length-fraction_text : (n rest : ℕ) → length (fraction_text n rest) ≤ n + 1
length-fraction_text n rest = ⊎_elim (λ e. rw (e.0) (omega arith)) (λ e. rw (e.0) (omega (arith, length-places n rest))) (eqb_tells rest 0)

-- the parts of the text
text_parts : ℕ → ℤ → Parts
text_parts decimals count = record {
  negative = is_negative count;
  whole = decimal (unsigned_abs count / 10 ^ decimals);
  fraction = places decimals (unsigned_abs count % 10 ^ decimals);
  lowers = false;
  exponent = 0;
}

-- what is needed of the sizes: the whole part has at most six digits
record IsWritable (decimals : ℕ) (count : ℤ) : Type 0 where
  few : decimals ≤ 12
  whole : unsigned_abs count / 10 ^ decimals < 10 ^ 6
  rest : unsigned_abs count % 10 ^ decimals < 10 ^ decimals

IsWritable-from_below : (decimals : ℕ) (count : ℤ) → decimals ≤ 12 → unsigned_abs count < 10 ^ (6 + decimals) → IsWritable decimals count
IsWritable-from_below decimals count few below = record {
  few = few;
  whole = div_below (unsigned_abs count) (10 ^ decimals) (10 ^ 6) (one-le-pow decimals 10 (omega arith)) (omega (arith, pow-add 10 6 decimals));
  rest = mod_below (unsigned_abs count) (10 ^ decimals) (one-le-pow decimals 10 (omega arith));
}

-- the digits of the whole part
record IsWritten (n : ℕ) : Type 0 where
  all_digits : AllDigits 10 (decimal n)
  some : 1 ≤ length (decimal n)
  value : digits_value 10 (decimal n) ≡ n
  few : length (decimal n) ≤ 6

IsWritten-below : (n : ℕ) → n < 10 ^ 6 → IsWritten n
IsWritten-below n h =
    let fits : n < 2 ^ 64 = omega arith in
    let numeral : IsNumeral 10 (decimal n) × (digits_value 10 (decimal n) ≡ n) = decimal_is_IsNumeral n fits in
    record { all_digits = numeral.0.1; some = numeral.0.0; value = numeral.1; few = length-decimal-le 6 n (omega arith) h fits }

text_has_parts : (decimals : ℕ) (count : ℤ) → IsWritable decimals count → HasParts (shortest_decimal decimals count) (text_parts decimals count)
unfolding text_parts
text_has_parts decimals count w =
    let size : ℕ = unsigned_abs count in
    let written : IsWritten (unsigned_abs count / 10 ^ decimals) = IsWritten-below _ w.whole in
    let whole_few : length (decimal (unsigned_abs count / 10 ^ decimals)) ≤ 6 = written.few in
    let whole_some : 1 ≤ length (decimal (unsigned_abs count / 10 ^ decimals)) = written.some in
    let few : decimals ≤ 12 = w.few in
    let fraction_few : length (fraction_text decimals (unsigned_abs count % 10 ^ decimals)) ≤ decimals + 1 = length-fraction_text decimals _ in
    let len : length (shortest_decimal decimals count) ≡ length (minus_of count) + (length (decimal (unsigned_abs count / 10 ^ decimals)) + length (fraction_text decimals (unsigned_abs count % 10 ^ decimals))) =
    length-append (minus_of count) _ ∙ ap (λ n. length (minus_of count) + n) (length-append (decimal (unsigned_abs count / 10 ^ decimals)) (fraction_text decimals (unsigned_abs count % 10 ^ decimals))) in
    let minus_few : length (minus_of count) ≤ 1 = length-minus_of count in
    record {
      sign = minus_of count;
      pointed = fraction_text decimals (unsigned_abs count % 10 ^ decimals);
      power = [];
      joined = ap (λ x. minus_of count ++ (decimal (unsigned_abs count / 10 ^ decimals) ++ x)) (sym (append-nil (fraction_text decimals (unsigned_abs count % 10 ^ decimals))));
      short = omega arith;
      signed = IsSign-minus_of count;
      whole_digits = written.all_digits;
      fraction_digits = IsPointed-fraction_text decimals _ w.rest;
      some_digit = omega arith;
      scaled = inl (refl, refl, refl);
    }

-- whole and places together
exact_text : (size p whole rest places_value l : ℕ) → whole * p + rest ≡ size → places_value * p ≡ rest * l → (whole * l + places_value) * 1 * p ≡ size * l
exact_text size p whole rest places_value l e f = rw (← e) (omega (arith, f))

text_is_exact : (decimals : ℕ) (count : ℤ) → IsWritable decimals count → IsExactly decimals (shortest_decimal decimals count) count
unfolding text_parts
text_is_exact decimals count w =
    let written : IsWritten (unsigned_abs count / 10 ^ decimals) = IsWritten-below _ w.whole in
    let fraction : List ℕ = places decimals (unsigned_abs count % 10 ^ decimals) in
    let joined : digits_value 10 (decimal (unsigned_abs count / 10 ^ decimals) ++ places decimals (unsigned_abs count % 10 ^ decimals))
    ≡ unsigned_abs count / 10 ^ decimals * 10 ^ length (places decimals (unsigned_abs count % 10 ^ decimals)) + digits_value 10 (places decimals (unsigned_abs count % 10 ^ decimals)) =
    digits_value-append (decimal (unsigned_abs count / 10 ^ decimals)) (places decimals (unsigned_abs count % 10 ^ decimals))
    ∙ ap (λ v. v * 10 ^ length (places decimals (unsigned_abs count % 10 ^ decimals)) + digits_value 10 (places decimals (unsigned_abs count % 10 ^ decimals))) written.value in
    record {
      parts = text_parts decimals count;
      has_parts = text_has_parts decimals count w;
      size = unsigned_abs count;
      exact = rw (joined, add-zero (length (places decimals (unsigned_abs count % 10 ^ decimals)))) (exact_text (unsigned_abs count) (10 ^ decimals) (unsigned_abs count / 10 ^ decimals) (unsigned_abs count % 10 ^ decimals)
          (digits_value 10 (places decimals (unsigned_abs count % 10 ^ decimals))) (10 ^ length (places decimals (unsigned_abs count % 10 ^ decimals)))
          (div-add-mod' (unsigned_abs count) (10 ^ decimals)) (value_of_places decimals (unsigned_abs count % 10 ^ decimals) w.rest));
      is_signed = sym (sign_of_count count);
    }

text_is_plain : (decimals : ℕ) (count : ℤ) → IsWritable decimals count → IsPlainDecimal decimals (shortest_decimal decimals count) count
unfolding text_is_exact text_has_parts text_parts
text_is_plain decimals count w = record {
  is_exact = text_is_exact decimals count w;
  no_power = refl;
  has_whole = let written : IsWritten (unsigned_abs count / 10 ^ decimals) = IsWritten-below _ w.whole in written.some;
}

-- ---- no other is as short

-- long is at least as long as short, and equal to it where it is no longer
record IsShortOf (short long : List ℕ) : Type 0 where
  longer : length short ≤ length long
  same : length long ≤ length short → long ≡ short

IsShortOf-equal : (short long : List ℕ) → long ≡ short → IsShortOf short long
IsShortOf-equal short long e = record { longer = rw e (omega arith); same = λ _. e }

IsShortOf-nil : (long : List ℕ) → IsShortOf [] long
IsShortOf-nil [] = record { longer = omega arith; same = λ _. refl }
IsShortOf-nil (b ∷ long) = record { longer = omega arith; same = λ h. absurd (omega arith) }

IsShortOf-cons : (b : ℕ) (short long : List ℕ) → IsShortOf short long → IsShortOf (b ∷ short) (b ∷ long)
IsShortOf-cons b short long h = record {
  longer = let l : length short ≤ length long = h.longer in omega arith;
  same = λ k. ap (λ x. b ∷ x) (h.same (omega arith));
}

IsShortOf-append : (a b c d : List ℕ) → IsShortOf a b → IsShortOf c d → IsShortOf (a ++ c) (b ++ d)
IsShortOf-append a b c d h k =
    let first : length a ≤ length b = h.longer in
    let second : length c ≤ length d = k.longer in
    let short : length (a ++ c) ≡ length a + length c = length-append a c in
    let long : length (b ++ d) ≡ length b + length d = length-append b d in
    record {
      longer = omega arith;
      same = λ e. ap (λ x. x ++ d) (h.same (omega arith)) ∙ ap (λ x. a ++ x) (k.same (omega arith));
    }

-- digits are at least as many as `decimal` writes of their value
numerals : IsNumeralModel (AllDigits 10) (digits_value 10)
numerals = numerals_by_value (AllDigits 10) tells_digits

zero_digit : (ds : List ℕ) → digits_value 10 (48 ∷ ds) ≡ digits_value 10 ds
zero_digit ds = digits_value_after-is _ ds ∙ omega arith

IsShortOf-longer : (b : ℕ) (short long : List ℕ) → IsShortOf short long → IsShortOf short (b ∷ long)
IsShortOf-longer b short long h =
    let l : length short ≤ length long = h.longer in
    record { longer = omega arith; same = λ k. absurd (omega arith) }

after_zero : (c : ℕ) (ds : List ℕ) → c ≡ 48 → (digits_value 10 ds < 2 ^ 64 → IsShortOf (decimal (digits_value 10 ds)) ds) → digits_value 10 (c ∷ ds) < 2 ^ 64
    → IsShortOf (decimal (digits_value 10 (c ∷ ds))) (c ∷ ds)
after_zero c ds e later fits =
    let value : digits_value 10 (c ∷ ds) ≡ digits_value 10 ds = ap (λ x. digits_value 10 (x ∷ ds)) e ∙ zero_digit ds in
    rw value (IsShortOf-longer c (decimal (digits_value 10 ds)) ds (later (rw value at fits)))

whole_is_short : (ds : List ℕ) → AllDigits 10 ds → 1 ≤ length ds → digits_value 10 ds < 2 ^ 64 → IsShortOf (decimal (digits_value 10 ds)) ds
whole_is_short [] h some fits = absurd (omega arith)
whole_is_short (c ∷ []) h some fits =
    IsShortOf-equal _ _ (sym (decimal-digits_value numerals (c ∷ []) h (omega arith) (λ _. refl) fits))
whole_is_short (c ∷ d ∷ ds) h some fits = ⊎_elim
    (λ e. after_zero c (d ∷ ds) (e.1) (λ k. whole_is_short (d ∷ ds) h.1 (omega arith) k) fits)
    (λ e. IsShortOf-equal _ _ (sym (decimal-digits_value numerals (c ∷ d ∷ ds) h (omega arith) (λ z. absurd (e.1 z)) fits)))
    (eqb_tells c 48)

-- digits with the value of the places are at least as many
-- (digit * l + later) / (l * 10) is (q * p + r) / (p * 10): the first places agree, and the later ones
place_digits : (digit q p r rest l later c : ℕ) → q * p + r ≡ rest → r < p → later < l
    → ((0 * 10 + digit) * l + later) * (p * 10) ≡ rest * (l * 10) → digit ≡ c - 48 → 48 ≤ c → (c ≡ 48 + q) × (later * p ≡ r * l)
place_digits digit q p r rest l later c cut below after same is_digit low =
    let places : digit * (p * l) + later * p ≡ q * (p * l) + r * l = let e : ((0 * 10 + digit) * l + later) * (p * 10) ≡ (q * p + r) * (l * 10) = rw (← cut) at same in omega arith in
    let first_rest : later * p < p * l = omega (arith, mul-le (later + 1) p l p (omega arith) (omega arith)) in
    let second_rest : r * l < p * l = omega (arith, mul-le (r + 1) l p l (omega arith) (omega arith)) in
    let parts : (digit ≡ q) × (later * p ≡ r * l) = same_from_place digit (later * p) q (r * l) (p * l) first_rest second_rest places in
    (omega arith, parts.1)

first_place : (c : ℕ) (ds : List ℕ) (n rest : ℕ) → AllDigits 10 (c ∷ ds) → rest < 10 ^ suc n → digits_value 10 (c ∷ ds) * 10 ^ suc n ≡ rest * 10 ^ length (c ∷ ds)
    → (c ≡ 48 + rest / 10 ^ n) × (digits_value 10 ds * 10 ^ n ≡ rest % 10 ^ n * 10 ^ length ds)
first_place c ds n rest h small same =
    let value : digits_value 10 (c ∷ ds) ≡ (0 * 10 + digit_value c) * 10 ^ length ds + digits_value 10 ds = digits_value_after-is _ ds in
    let range : (48 ≤ c) × (c ≤ 57) = digit_from_value c h.0 in
    let digit : digit_value c ≡ c - 48 = digit_value-is c range.0 range.1 in
    let below : digits_value 10 ds < 10 ^ length ds = digits_value-lt 10 ds h.1 in
    let rest_below : rest % 10 ^ n < 10 ^ n = mod_below rest (10 ^ n) (one-le-pow n 10 (omega arith)) in
    let p : 1 ≤ 10 ^ n = one-le-pow n 10 (omega arith) in
    let l : 1 ≤ 10 ^ length ds = one-le-pow (length ds) 10 (omega arith) in
    place_digits (digit_value c) (rest / 10 ^ n) (10 ^ n) (rest % 10 ^ n) rest (10 ^ length ds) (digits_value 10 ds) c (div-add-mod' rest (10 ^ n)) rest_below below
    (rw (value, pow-suc 10 n, pow-suc 10 (length ds)) at same) digit range.0

places_are_short : (n rest : ℕ) (ds : List ℕ) → AllDigits 10 ds → rest < 10 ^ n → digits_value 10 ds * 10 ^ n ≡ rest * 10 ^ length ds → IsShortOf (places n rest) ds
places_are_short zero rest ds h small same = IsShortOf-nil ds
places_are_short (suc n) rest [] h small same =
    let none : rest ≡ 0 = omega arith in rw none (IsShortOf-nil [])
places_are_short (suc n) rest (c ∷ ds) h small same = ⊎_elim
    (λ e. rw (e.0) (IsShortOf-nil (c ∷ ds)))
    (λ e. rw (e.0) (let first : (c ≡ 48 + rest / 10 ^ n) × (digits_value 10 ds * 10 ^ n ≡ rest % 10 ^ n * 10 ^ length ds) = first_place c ds n rest h small same in
    subst (λ x. IsShortOf ((48 + rest / 10 ^ n) ∷ places n (rest % 10 ^ n)) (x ∷ ds)) (sym (first.0))
    (IsShortOf-cons (48 + rest / 10 ^ n) (places n (rest % 10 ^ n)) ds (places_are_short n (rest % 10 ^ n) ds h.1 (mod_below rest (10 ^ n) (one-le-pow n 10 (omega arith))) first.1))))
    (eqb_tells rest 0)

no_rest : (n rest : ℕ) (fraction : List ℕ) → fraction ≡ [] → digits_value 10 fraction * 10 ^ n ≡ rest * 10 ^ length fraction → rest ≡ 0
no_rest n rest fraction e same = let same' : 0 * 10 ^ n ≡ rest * 1 = rw e at same in omega arith

fraction_is_short : (n rest : ℕ) (pointed fraction : List ℕ) → IsPointed pointed fraction → rest < 10 ^ n → digits_value 10 fraction * 10 ^ n ≡ rest * 10 ^ length fraction
    → IsShortOf (fraction_text n rest) pointed
fraction_is_short n rest pointed fraction h small same = ⊎_elim
    (λ none. rw (none.0) (IsShortOf-nil pointed))
    (λ some. rw (some.0) (⊎_elim
    (λ e. absurd (some.1 (no_rest n rest fraction e.1 same)))
    (λ e. rw (e.0) (IsShortOf-cons 46 (places n rest) fraction (places_are_short n rest fraction e.1 small same)))
    h))
    (eqb_tells rest 0)

minus_is_short : (count : ℤ) (sign : List ℕ) (negative : Bool) (size : ℕ) → IsSign sign negative → count ≡ with_sign negative size → IsShortOf (minus_of count) sign
minus_is_short (pos n) sign negative size h e = IsShortOf-nil sign
minus_is_short (negsuc n) sign true size h e = IsShortOf-equal _ _ h
minus_is_short (negsuc n) sign false size h e = absurd (cc)

no_exponent : (power : List ℕ) (lowers : Bool) (exponent : ℕ) → power ≡ [] → IsPower power lowers exponent → (lowers ≡ false) × (exponent ≡ 0)
no_exponent power lowers exponent e h = ⊎_elim (λ k. (k.1, k.2)) (λ w. absurd (let j : [] ≡ w.mark ∷ (w.sign ++ w.digits) = sym e ∙ w.joined in cc)) h

value_without_exponent : (value f d size size' : ℕ) (lowers : Bool) (exponent : ℕ) → lowers ≡ false → exponent ≡ 0 → size' ≡ size
    → value * 10 ^ (cond lowers 0 exponent) * 10 ^ d ≡ size * 10 ^ (f + cond lowers exponent 0) → value * 10 ^ d ≡ size' * 10 ^ f
value_without_exponent value f d size size' lowers exponent e g same h =
    let h' : value * 1 * 10 ^ d ≡ size * 10 ^ (f + 0) = rw (e, g) at h in
    let h'' : value * 1 * 10 ^ d ≡ size * 10 ^ f = rw (add-zero f) at h' in
    rw same (omega arith)

fraction_digits_of : (pointed fraction : List ℕ) → IsPointed pointed fraction → AllDigits 10 fraction
fraction_digits_of pointed fraction h = ⊎_elim (λ e. rw (e.1) tt) (λ e. e.1) h

split_value : (whole l fraction p a r size : ℕ) → a * p + r ≡ size → r < p → fraction < l → (whole * l + fraction) * p ≡ size * l → (whole ≡ a) × (fraction * p ≡ r * l)
split_value whole l fraction p a r size cut rest below same =
    let both : whole * (p * l) + fraction * p ≡ a * (p * l) + r * l = let e : (whole * l + fraction) * p ≡ (a * p + r) * l = rw (← cut) at same in omega arith in
    let first_rest : fraction * p < p * l = omega (arith, mul-le (fraction + 1) p l p (omega arith) (omega arith)) in
    let second_rest : r * l < p * l = omega (arith, mul-le (r + 1) l p l (omega arith) (omega arith)) in
    same_from_place whole (fraction * p) a (r * l) (p * l) first_rest second_rest both

-- a plain decimal's value, by its digits alone
plain_value : (decimals : ℕ) (word : List ℕ) (count : ℤ) → (plain : IsPlainDecimal decimals word count)
    → let parts : Parts = plain.is_exact.parts in
    digits_value 10 (parts.whole ++ parts.fraction) * 10 ^ decimals ≡ unsigned_abs count * 10 ^ length parts.fraction
plain_value decimals word count plain =
    let exact : IsExactly decimals word count = plain.is_exact in
    let none : (exact.parts.lowers ≡ false) × (exact.parts.exponent ≡ 0) = no_exponent exact.has_parts.power exact.parts.lowers exact.parts.exponent plain.no_power exact.has_parts.scaled in
    let size : unsigned_abs count ≡ exact.size = ap unsigned_abs exact.is_signed ∙ unsigned_abs-with_sign exact.parts.negative exact.size in
    value_without_exponent (digits_value 10 (exact.parts.whole ++ exact.parts.fraction)) (length exact.parts.fraction) decimals exact.size (unsigned_abs count) exact.parts.lowers exact.parts.exponent none.0 none.1 size exact.exact

-- its whole part and its fraction are those of the count
plain_digits : (decimals size : ℕ) (whole fraction : List ℕ) → AllDigits 10 fraction → digits_value 10 (whole ++ fraction) * 10 ^ decimals ≡ size * 10 ^ length fraction
    → (digits_value 10 whole ≡ size / 10 ^ decimals) × (digits_value 10 fraction * 10 ^ decimals ≡ size % 10 ^ decimals * 10 ^ length fraction)
plain_digits decimals size whole fraction h same =
    let below : digits_value 10 fraction < 10 ^ length fraction = digits_value-lt 10 fraction h in
    let rest : size % 10 ^ decimals < 10 ^ decimals = mod_below size (10 ^ decimals) (one-le-pow decimals 10 (omega arith)) in
    split_value (digits_value 10 whole) (10 ^ length fraction) (digits_value 10 fraction) (10 ^ decimals) (size / 10 ^ decimals) (size % 10 ^ decimals) size
    (div-add-mod' size (10 ^ decimals)) rest below (rw (digits_value-append whole fraction) at same)

IsShortest-others : (decimals : ℕ) (count : ℤ) (other : List ℕ) → IsWritable decimals count → IsPlainDecimal decimals other count → IsShortOf (shortest_decimal decimals count) other
IsShortest-others decimals count other w plain =
    let exact : IsExactly decimals other count = plain.is_exact in
    let fraction : AllDigits 10 exact.parts.fraction = fraction_digits_of exact.has_parts.pointed exact.parts.fraction exact.has_parts.fraction_digits in
    let value : digits_value 10 (exact.parts.whole ++ exact.parts.fraction) * 10 ^ decimals ≡ unsigned_abs count * 10 ^ length exact.parts.fraction = plain_value decimals other count plain in
    let parts : (digits_value 10 exact.parts.whole ≡ unsigned_abs count / 10 ^ decimals) × (digits_value 10 exact.parts.fraction * 10 ^ decimals ≡ unsigned_abs count % 10 ^ decimals * 10 ^ length exact.parts.fraction) =
    plain_digits decimals (unsigned_abs count) exact.parts.whole exact.parts.fraction fraction value in
    let minus : IsShortOf (minus_of count) exact.has_parts.sign = minus_is_short count exact.has_parts.sign exact.parts.negative exact.size exact.has_parts.signed exact.is_signed in
    let whole_value : digits_value 10 exact.parts.whole ≡ unsigned_abs count / 10 ^ decimals = parts.0 in
    let small : unsigned_abs count / 10 ^ decimals < 10 ^ 6 = w.whole in
    let whole : IsShortOf (decimal (unsigned_abs count / 10 ^ decimals)) exact.parts.whole =
    rw whole_value at (whole_is_short exact.parts.whole exact.has_parts.whole_digits plain.has_whole (omega arith)) in
    let rest : IsShortOf (fraction_text decimals (unsigned_abs count % 10 ^ decimals)) exact.has_parts.pointed =
    fraction_is_short decimals _ exact.has_parts.pointed exact.parts.fraction exact.has_parts.fraction_digits w.rest parts.1 in
    let joined : other ≡ exact.has_parts.sign ++ (exact.parts.whole ++ exact.has_parts.pointed) =
    exact.has_parts.joined ∙ ap (λ x. exact.has_parts.sign ++ (exact.parts.whole ++ (exact.has_parts.pointed ++ x))) plain.no_power
    ∙ ap (λ x. exact.has_parts.sign ++ (exact.parts.whole ++ x)) (append-nil exact.has_parts.pointed) in
    subst (IsShortOf (shortest_decimal decimals count)) (sym joined) (IsShortOf-append _ _ _ _ minus (IsShortOf-append _ _ _ _ whole rest))

pub IsShortest-shortest_decimal : (decimals : ℕ) (count : ℤ) → decimals ≤ 12 → unsigned_abs count < 10 ^ (6 + decimals) → IsShortest decimals (shortest_decimal decimals count) count
IsShortest-shortest_decimal decimals count few below =
    let w : IsWritable decimals count = IsWritable-from_below decimals count few below in
    record {
      plain = text_is_plain decimals count w;
      others = λ other plain shorter. let short : IsShortOf (shortest_decimal decimals count) other = IsShortest-others decimals count other w plain in short.same shorter;
    }

pub exact-shortest_decimal : (decimals : ℕ) (count : ℤ) → decimals ≤ 12 → unsigned_abs count < 10 ^ (6 + decimals) → IsExactly decimals (shortest_decimal decimals count) count
exact-shortest_decimal decimals count few below = text_is_exact decimals count (IsWritable-from_below decimals count few below)

-- the room that the text takes
pub length-shortest_whole : (decimals size : ℕ) → size < 10 ^ (6 + decimals) → length (decimal (size / 10 ^ decimals)) ≤ 6
length-shortest_whole decimals size below =
    let whole : size / 10 ^ decimals < 10 ^ 6 = div_below size (10 ^ decimals) (10 ^ 6) (one-le-pow decimals 10 (omega arith)) (omega (arith, pow-add 10 6 decimals)) in
    let written : IsWritten (size / 10 ^ decimals) = IsWritten-below _ whole in
    written.few

-- one more place
pub places-push : (buf place text : List ℕ) (left rest unit : ℕ) → 0 < left → 0 < rest → unit ≡ 10 ^ (left - 1) → place ≡ buf ++ ((48 + rest / unit) ∷ [])
    → buf ++ places left rest ≡ text → place ++ places (left - 1) (rest % unit) ≡ text
places-push buf place text left rest unit some more e f same =
    let step : places (suc (left - 1)) rest ≡ (48 + rest / 10 ^ (left - 1)) ∷ places (left - 1) (rest % 10 ^ (left - 1)) = places-some (left - 1) rest more in
    let back : suc (left - 1) ≡ left = omega arith in
    let step' : places left rest ≡ (48 + rest / 10 ^ (left - 1)) ∷ places (left - 1) (rest % 10 ^ (left - 1)) = ap (λ n. places n rest) (sym back) ∙ step in
    rw (f, e) (append_assoc buf ((48 + rest / 10 ^ (left - 1)) ∷ []) (places (left - 1) (rest % 10 ^ (left - 1))) ∙ ap (λ x. buf ++ x) (sym step') ∙ same)

pub one_left : (left rest : ℕ) → 0 < rest → rest < 10 ^ left → 0 < left
one_left zero rest some below = absurd (omega arith)
one_left (suc left) rest some below = omega arith
