-- A number word without an exponent, read in one pass.
use Rattle.std.proofs.Common.{◌≡◌, ◌≢◌, ℕ, ◌+◌, ◌*◌, ◌-◌, ◌^◌, ◌<◌, ◌≤◌, Bool, true, false, cond, ltb, eqb, List, [], ◌∷◌, ◌++◌, length, take, drop, get_or, refl, arith, sym, ap, ◌∙◌, ⊎_elim, subst, inl, inr, add-zero}
use Rattle.std.proofs.Math.Nat.{pow-le-pow_right}
use Rattle.std.proofs.lemmas.Bool.{cases_lt, false≢true}
use Rattle.std.proofs.lemmas.Bool.Decides.{eqb_tells}
use Rattle.std.proofs.lemmas.Int.Digits.{digits_value-lt}
use Rattle.std.proofs.lemmas.List.{append-nil, length-append, length-drop, length-take-le, take_all, take_more, take-append-drop, get_or_past, get_or-append-add, get_or-drop}
use Rattle.std.proofs.lemmas.Nat.{mul-le, pow-add}
use Rattle.std.specs.Char.{digit_value, is_ascii_digit}
use Rattle.std.specs.List.{list_all}
use Rattle.std.specs.Str.Parse.{AllDigits, digits_value, digits_value_after}
use Rattle.fixed_num.specs.DecimalValue.{IsNearest, numerator, denominator}
use Rattle.fixed_num.specs.NumberWord.{Parts, HasParts, IsSign, IsPointed}
use Rattle.fixed_num.specs.PlainWord.{Continues, IsBehindPoint, IsRoundedBehind, IsPlainSize}
use Rattle.fixed_num.specs.Scan.{squeezed, rounded_at, power_of, parts_of, starts_with_minus, behind_sign, KeepsCount}
use Rattle.fixed_num.proofs.Cuts.{sign_of, value-from_is_digit, all_digits_from_test}
use Rattle.fixed_num.proofs.Kept.{squeezed-small, squeezed-great, digits_value_after-append, digits_value_after-is}
use Rattle.fixed_num.proofs.Rounding.{AllDigits-append, nearest_at_places}
use Rattle.fixed_num.proofs.Steps.{digits_value_after-more, take-append, fraction_of_pointed, places_kept-raised}

-- ---- what stands behind the first bytes

pub rest_is : (n : ℕ) (ds : List ℕ) → take (length ds - n) (drop n ds) ≡ drop n ds
rest_is n ds = take_all (length ds - n) (drop n ds) (omega (arith, length-drop n ds))

pub next_behind : (n : ℕ) (ds : List ℕ) → get_or (take (length ds - n) (drop n ds)) 0 0 ≡ get_or ds n 0
next_behind n ds = ap (λ l. get_or l 0 0) (rest_is n ds) ∙ get_or-drop n ds 0 0 ∙ ap (λ i. get_or ds i 0) (add-zero n)

pub later_digits : (n : ℕ) (ds : List ℕ) → list_all is_ascii_digit (take (length ds - n) (drop n ds)) ≡ true → AllDigits 10 (drop n ds)
later_digits n ds h = all_digits_from_test (drop n ds) (rw (rest_is n ds) at h)

pub none_from_test : (n : ℕ) → true ≡ eqb n 0 → n ≡ 0
none_from_test n e = ⊎_elim (λ k. k.1) (λ k. absurd (false≢true (sym (k.0) ∙ sym e))) (eqb_tells n 0)

pub some_from_test : (n : ℕ) → false ≡ eqb n 0 → 1 ≤ n
some_from_test n e = ⊎_elim (λ k. absurd (false≢true (e ∙ k.0))) (λ k. let some : n ≢ 0 = k.1 in omega arith) (eqb_tells n 0)

pub none_behind : (n : ℕ) (ds : List ℕ) → true ≡ eqb (length (take (length ds - n) (drop n ds))) 0 → length ds ≤ n
none_behind n ds e =
    let len : length (take (length ds - n) (drop n ds)) ≡ length ds - n = ap length (rest_is n ds) ∙ length-drop n ds in
    omega (arith, none_from_test _ e)

-- ---- digits behind a value

value_below : (value k : ℕ) (ds : List ℕ) → AllDigits 10 ds → value < 10 ^ k → digits_value_after 10 value ds < 10 ^ (k + length ds)
value_below value k ds h small =
    let rest : digits_value 10 ds < 10 ^ length ds = digits_value-lt 10 ds h in
    rw (digits_value_after-is value ds, pow-add 10 k (length ds)) (omega (arith, mul-le (value + 1) (10 ^ length ds) (10 ^ k) (10 ^ length ds) (omega arith) (omega arith)))

total_below : (value : ℕ) (bytes : List ℕ) (most total count : ℕ) → value < 10 ^ (18 - most) → Continues value bytes most total count → total < 10 ^ (18 - most + count)
total_below value bytes most total count small k =
    let len : length (take count bytes) ≡ count = length-take-le count bytes k.within in
    let below : digits_value_after 10 value (take count bytes) < 10 ^ (18 - most + length (take count bytes)) = value_below value (18 - most) (take count bytes) k.all_digits small in
    rw (k.total_is) (rw len at below)

below_power : (total a b : ℕ) → total < 10 ^ a → a ≤ b → total < 10 ^ b
below_power total a b h k =
    let ten : 0 < 10 = omega arith in
    let power : 10 ^ a ≤ 10 ^ b = pow-le-pow_right ten k in
    omega arith

pub total_fits : (value : ℕ) (bytes : List ℕ) (most total count : ℕ) → most ≤ 18 → value < 10 ^ (18 - most) → Continues value bytes most total count → total < 10 ^ 18
total_fits value bytes most total count few small k =
    let within : count ≤ most = k.few in
    below_power total (18 - most + count) 18 (total_below value bytes most total count small k) (omega arith)

pub total_fits_next : (value : ℕ) (bytes : List ℕ) (most total count : ℕ) → most ≤ 18 → value < 10 ^ (18 - most) → Continues value bytes most total count → count ≢ most → total < 10 ^ 17
total_fits_next value bytes most total count few small k more =
    let within : count ≤ most = k.few in
    below_power total (18 - most + count) 17 (total_below value bytes most total count small k) (omega arith)

pub whole_fits : (bytes : List ℕ) (most total count : ℕ) → Continues 0 bytes most total count → total < 10 ^ most
whole_fits bytes most total count k =
    let len : length (take count bytes) ≡ count = length-take-le count bytes k.within in
    let below : digits_value 10 (take count bytes) < 10 ^ length (take count bytes) = digits_value-lt 10 (take count bytes) k.all_digits in
    below_power total count most (rw (k.total_is) (rw len at below)) k.few

pub Continues-none : (value : ℕ) (bytes : List ℕ) (most : ℕ) → Continues value bytes most value 0
Continues-none value bytes most = record { within = omega arith; few = omega arith; all_digits = tt; total_is = refl }

pub Continues-more : (value : ℕ) (bytes : List ℕ) (most total count digit : ℕ) → Continues value bytes most total count → count < length bytes → count ≢ most
    → is_ascii_digit (get_or bytes count 0) ≡ true → digit ≡ digit_value (get_or bytes count 0) → Continues value bytes most (total * 10 + digit) (count + 1)
Continues-more value bytes most total count digit k more below is_digit e =
    let within : count ≤ most = k.few in
    record {
      within = omega arith;
      few = omega arith;
      all_digits = rw (take_more bytes count 0 more) (AllDigits-append (take count bytes) (get_or bytes count 0 ∷ []) k.all_digits (value-from_is_digit (get_or bytes count 0) is_digit, tt));
      total_is = rw (k.total_is, e) (sym (digits_value_after-more value bytes count more));
    }

-- ---- rounding behind the point

size_below : (total a b : ℕ) → total < 10 ^ a → a + b ≡ 18 → total * 10 ^ b ≤ 10 ^ 18
size_below total a b h e =
    let power : 10 ^ 18 ≡ 10 ^ a * 10 ^ b = ap (λ n. 10 ^ n) (sym e) ∙ pow-add 10 a b in
    rw power (mul-le total (10 ^ b) (10 ^ a) (10 ^ b) (omega arith) (omega arith))

pub size_fits : (whole : ℕ) (fraction : List ℕ) (decimals total count : ℕ) → decimals ≤ 12 → whole < 10 ^ (18 - decimals) → Continues whole fraction decimals total count
    → total * 10 ^ (decimals - count) ≤ 10 ^ 18
size_fits whole fraction decimals total count few small k =
    let within : count ≤ decimals = k.few in
    size_below total (18 - decimals + count) (decimals - count) (total_below whole fraction decimals total count small k) (omega arith)

all_taken : (whole : ℕ) (fraction : List ℕ) (decimals total count : ℕ) → Continues whole fraction decimals total count → length fraction ≤ count
    → AllDigits 10 fraction × (total ≡ digits_value_after 10 whole fraction)
all_taken whole fraction decimals total count k h =
    let all : take count fraction ≡ fraction = take_all count fraction h in
    (subst (AllDigits 10) all k.all_digits, k.total_is ∙ ap (digits_value_after 10 whole) all)

rounded_at_end : (front fraction : List ℕ) (decimals n : ℕ) → length fraction ≤ decimals → n ≡ decimals - length fraction
    → digits_value 10 (front ++ fraction) * 10 ^ n ≡ rounded_at (front ++ fraction) (length front + decimals)
unfolding rounded_at
rounded_at_end front fraction decimals n h e =
    let len : length (front ++ fraction) ≡ length front + length fraction = length-append front fraction in
    let past : length (front ++ fraction) ≤ length front + decimals = omega arith in
    let zeros : length front + decimals - length (front ++ fraction) ≡ n = omega arith in
    rw (take_all (length front + decimals) (front ++ fraction) past, get_or_past (front ++ fraction) (length front + decimals) 0 past, zeros) (omega arith)

pub rounded_behind_all : (whole : ℕ) (fraction : List ℕ) (decimals total count : ℕ) → decimals ≤ 12 → whole < 10 ^ (18 - decimals) → Continues whole fraction decimals total count
    → length fraction ≤ count → IsRoundedBehind decimals whole fraction (total * 10 ^ (decimals - count))
rounded_behind_all whole fraction decimals total count few small k h =
    let within : count ≤ length fraction = k.within in
    let most : count ≤ decimals = k.few in
    let taken : AllDigits 10 fraction × (total ≡ digits_value_after 10 whole fraction) = all_taken whole fraction decimals total count k h in
    record {
      all_digits = taken.0;
      small = size_fits whole fraction decimals total count few small k;
      rounds = λ front e.
          ap (λ n. n * 10 ^ (decimals - count)) (taken.1 ∙ ap (λ n. digits_value_after 10 n fraction) (sym e) ∙ sym (digits_value_after-append 0 front fraction))
          ∙ rounded_at_end front fraction decimals (decimals - count) (omega arith) (omega arith);
    }

-- behind the last place, the next digit decides
rounded_at_cut : (front fraction : List ℕ) (decimals : ℕ) → decimals ≤ length fraction
    → rounded_at (front ++ fraction) (length front + decimals) ≡ digits_value_after 10 (digits_value 10 front) (take decimals fraction) + cond (ltb (get_or fraction decimals 0) 53) 0 1
unfolding rounded_at
rounded_at_cut front fraction decimals h =
    let len : length (front ++ fraction) ≡ length front + length fraction = length-append front fraction in
    let zeros : length front + decimals - length (front ++ fraction) ≡ 0 = omega arith in
    let behind : length front + decimals - length front ≡ decimals = omega arith in
    let cut : take (length front + decimals) (front ++ fraction) ≡ front ++ take decimals fraction =
    take-append (length front + decimals) front fraction ∙ rw (take_all (length front + decimals) front (omega arith), behind) refl in
    rw (cut, zeros, get_or-append-add front fraction decimals 0, digits_value_after-append 0 front (take decimals fraction)) (omega arith)

pub rounded_behind_cut : (whole : ℕ) (fraction : List ℕ) (decimals total count up : ℕ) → decimals ≤ 12 → whole < 10 ^ (18 - decimals) → Continues whole fraction decimals total count
    → count ≡ decimals → AllDigits 10 (drop count fraction) → up ≡ cond (ltb (get_or fraction count 0) 53) 0 1 → up ≤ 1 → IsRoundedBehind decimals whole fraction (total + up)
rounded_behind_cut whole fraction decimals total count up few small k at_end later e one =
    let below : total < 10 ^ 18 = total_fits whole fraction decimals total count (omega arith) small k in
    let within : count ≤ length fraction = k.within in
    record {
      all_digits = subst (AllDigits 10) (take-append-drop count fraction) (AllDigits-append (take count fraction) (drop count fraction) k.all_digits later);
      small = omega arith;
      rounds = λ front f. rw (← at_end) (rw (k.total_is, e, ← f) (sym (rounded_at_cut front fraction count within)));
    }

-- ---- the whole word

squeezed-up_to : (n : ℕ) → n ≤ 10 ^ 18 → n ≡ squeezed n
squeezed-up_to n h = ⊎_elim (λ k. sym (squeezed-small n k))
    (λ k. let same : n ≡ 10 ^ 18 = omega arith in omega (arith, squeezed-great n k)) (cases_lt n (10 ^ 18))

IsPointed-from_behind : (pointed fraction : List ℕ) → IsBehindPoint pointed fraction → AllDigits 10 fraction → IsPointed pointed fraction
IsPointed-from_behind pointed fraction h digits = ⊎_elim (λ e. inl e) (λ e. inr (e, digits)) h

pub plain_size_is : (decimals : ℕ) (bytes fraction : List ℕ) (whole count size : ℕ) → Continues 0 bytes (18 - decimals) whole count → IsBehindPoint (drop count bytes) fraction
    → 1 ≤ count + length fraction → IsRoundedBehind decimals whole fraction size → IsPlainSize decimals bytes size
plain_size_is decimals bytes fraction whole count size k point some r =
    let len : length (take count bytes) ≡ count = length-take-le count bytes k.within in
    record {
      whole = take count bytes;
      pointed = drop count bytes;
      fraction = fraction;
      joined = sym (take-append-drop count bytes);
      whole_digits = k.all_digits;
      fraction_digits = IsPointed-from_behind (drop count bytes) fraction point r.all_digits;
      some_digit = omega arith;
      small = r.small;
      rounds = r.rounds (take count bytes) (sym k.total_is);
    }

plain_parts : (decimals : ℕ) (word bytes : List ℕ) (negative : Bool) (size : ℕ) → length word ≤ 64 → negative ≡ starts_with_minus word → bytes ≡ behind_sign word
    → (p : IsPlainSize decimals bytes size) → HasParts word (parts_of negative p.whole p.fraction (power_of false 0))
plain_parts decimals word bytes negative size short e f p =
    let sign : (sign : List ℕ) × (word ≡ sign ++ behind_sign word) × IsSign sign (starts_with_minus word) = sign_of word in
    record {
      sign = sign.0;
      pointed = p.pointed;
      power = [];
      joined = sign.1 ∙ ap (λ x. sign.0 ++ x) (sym f ∙ p.joined ∙ ap (λ x. p.whole ++ x) (sym (append-nil p.pointed)));
      short = short;
      signed = subst (IsSign sign.0) (sym e) sign.2;
      whole_digits = p.whole_digits;
      fraction_digits = p.fraction_digits;
      some_digit = p.some_digit;
      scaled = inl (refl, refl, refl);
    }

plain_nearest : (decimals : ℕ) (bytes : List ℕ) (negative : Bool) (size : ℕ) → (p : IsPlainSize decimals bytes size)
    → let parts : Parts = parts_of negative p.whole p.fraction (power_of false 0) in
    IsNearest (numerator parts * 10 ^ decimals) (denominator parts) size
plain_nearest decimals bytes negative size p =
    let K : ℕ = length p.whole + decimals in
    let rounds : size ≡ rounded_at (p.whole ++ p.fraction) (length p.whole + decimals + 0) = p.rounds ∙ ap (rounded_at (p.whole ++ p.fraction)) (sym (add-zero (length p.whole + decimals))) in
    rw rounds (nearest_at_places decimals negative p.whole p.fraction false 0 (length p.whole + decimals + 0) p.whole_digits (fraction_of_pointed p.pointed p.fraction p.fraction_digits).0
    (sym (places_kept-raised (length p.whole + decimals) 0 false refl)))

pub keeps_plain : (decimals : ℕ) (word bytes : List ℕ) (negative : Bool) (size : ℕ) → length word ≤ 64 → negative ≡ starts_with_minus word → bytes ≡ behind_sign word
    → IsPlainSize decimals bytes size → KeepsCount decimals word negative size
keeps_plain decimals word bytes negative size short e f p = record {
  parts = parts_of negative p.whole p.fraction (power_of false 0);
  has_parts = plain_parts decimals word bytes negative size short e f p;
  keeps = record { size = size; nearest = plain_nearest decimals bytes negative size p; is_squeezed = squeezed-up_to size p.small };
  is_signed = refl;
}
