-- Rounding by one digit gives the nearest count.
use Rattle.std.proofs.Common.{◌≡◌, ℕ, ◌+◌, ◌*◌, ◌-◌, ◌^◌, ◌<◌, ◌≤◌, zero, suc, Bool, true, false, cond, ltb, List, [], ◌∷◌, ◌++◌, length, take, drop, get_or, refl, arith, sym, ap, ◌∙◌, ⊎_elim, subst, add-zero, Some, None}
use Rattle.std.proofs.Math.Nat.{one-le-pow, pow-suc}
use Rattle.std.proofs.lemmas.Nat.{mul-le, pow-add}
use Rattle.std.proofs.lemmas.List.{length-append, take-append-drop, length-drop, drop_more, get_or_past, take_all}
use Rattle.std.proofs.lemmas.Bool.{cases_lt}
use Rattle.std.proofs.lemmas.Bool.Decides.{nat_tests}
use Rattle.std.proofs.lemmas.Int.Digits.{digits_value-lt}
use Rattle.std.proofs.lemmas.Str.Parse.{digit_at}
use Rattle.std.specs.Char.{digit_value}
use Rattle.std.specs.Int.{IsInRange}
use Rattle.std.specs.Str.Parse.{AllDigits, digits_value}
use Rattle.fixed_num.specs.DecimalValue.{IsNearest, numerator, denominator}
use Rattle.fixed_num.specs.NumberWord.{Parts}
use Rattle.fixed_num.specs.Scan.{rounded_at, places_kept, power_of, parts_of}
use Rattle.fixed_num.proofs.Kept.{digits_value_after-is, digits_value-append}
use Rattle.fixed_num.proofs.Nearest.{IsBetween, IsBetween-scaled, IsNearest-from_between, nearest_of_exact, nearest_of_small}

pub AllDigits-append : (ds es : List ℕ) → AllDigits 10 ds → AllDigits 10 es → AllDigits 10 (ds ++ es)
AllDigits-append [] es h k = k
AllDigits-append (c ∷ ds) es h k = (h.0, AllDigits-append ds es h.1 k)

pub AllDigits-take : (n : ℕ) (ds : List ℕ) → AllDigits 10 ds → AllDigits 10 (take n ds)
AllDigits-take zero ds h = tt
AllDigits-take (suc n) [] h = tt
AllDigits-take (suc n) (c ∷ ds) h = (h.0, AllDigits-take n ds h.1)

pub AllDigits-drop : (n : ℕ) (ds : List ℕ) → AllDigits 10 ds → AllDigits 10 (drop n ds)
AllDigits-drop zero ds h = h
AllDigits-drop (suc n) [] h = tt
AllDigits-drop (suc n) (c ∷ ds) h = AllDigits-drop n ds h.1

pub digit_value-is : (c : ℕ) → 48 ≤ c → c ≤ 57 → digit_value c ≡ c - 48
digit_value-is c h k = grind (arith, nat_tests)

-- a number cut behind its first K digits, of K + 1 + m
cut_value : (ds : List ℕ) (K m : ℕ) → length ds ≡ K + suc m
    → digits_value 10 ds ≡ digits_value 10 (take K ds) * 10 ^ suc m + (digit_value (get_or ds K 0) * 10 ^ m + digits_value 10 (drop (K + 1) ds))
cut_value ds K m e =
    let rest_len : length (drop K ds) ≡ suc m = omega (arith, length-drop K ds) in
    let last_len : length (drop (K + 1) ds) ≡ m = omega (arith, length-drop (K + 1) ds) in
    let whole : digits_value 10 (take K ds ++ drop K ds) ≡ digits_value 10 (take K ds) * 10 ^ length (drop K ds) + digits_value 10 (drop K ds) = digits_value-append (take K ds) (drop K ds) in
    let next : digits_value 10 (get_or ds K 0 ∷ drop (K + 1) ds) ≡ (0 * 10 + digit_value (get_or ds K 0)) * 10 ^ length (drop (K + 1) ds) + digits_value 10 (drop (K + 1) ds) = digits_value_after-is _ (drop (K + 1) ds) in
    ap (digits_value 10) (sym (take-append-drop K ds)) ∙ whole
    ∙ ap (λ n. digits_value 10 (take K ds) * 10 ^ n + digits_value 10 (drop K ds)) rest_len
    ∙ ap (λ n. digits_value 10 (take K ds) * 10 ^ suc m + n) (ap (digits_value 10) (drop_more ds K 0 (omega arith)) ∙ next
    ∙ ap (λ n. (0 * 10 + digit_value (get_or ds K 0)) * 10 ^ n + digits_value 10 (drop (K + 1) ds)) last_len ∙ omega arith)

-- cut behind a place, a number is nearest to what the digit behind it decides
between_at_cut : (value front digit rest p : ℕ) → value ≡ front * (p * 10) + (digit * p + rest) → rest < p → digit < 5 → IsBetween value (p * 10) front
between_at_cut value front digit rest p e below small = record {
  low = omega arith;
  high = omega (arith, mul-le digit p 4 p (omega arith) (omega arith));
}

between_above_cut : (value front digit rest p : ℕ) → value ≡ front * (p * 10) + (digit * p + rest) → rest < p → 5 ≤ digit → digit < 10 → IsBetween value (p * 10) (front + 1)
between_above_cut value front digit rest p e below great small = record {
  low = omega (arith, mul-le 5 p digit p great (omega arith));
  high = omega (arith, mul-le digit p 9 p (omega arith) (omega arith));
}

pub between_from_digit : (ds : List ℕ) (K m : ℕ) → AllDigits 10 ds → length ds ≡ K + suc m
    → IsBetween (digits_value 10 ds) (10 ^ suc m) (digits_value 10 (take K ds) + cond (ltb (get_or ds K 0) 53) 0 1)
between_from_digit ds K m h e =
    let value : digits_value 10 ds ≡ digits_value 10 (take K ds) * 10 ^ suc m + (digit_value (get_or ds K 0) * 10 ^ m + digits_value 10 (drop (K + 1) ds)) = cut_value ds K m e in
    let rest : digits_value 10 (drop (K + 1) ds) < 10 ^ length (drop (K + 1) ds) = digits_value-lt 10 (drop (K + 1) ds) (AllDigits-drop (K + 1) ds h) in
    let last_len : length (drop (K + 1) ds) ≡ m = omega (arith, length-drop (K + 1) ds) in
    let rest_below : digits_value 10 (drop (K + 1) ds) < 10 ^ m = rw last_len at rest in
    let range : IsInRange 48 57 (get_or ds K 0) = digit_at ds K h (omega arith) in
    let digit : digit_value (get_or ds K 0) ≡ get_or ds K 0 - 48 = digit_value-is (get_or ds K 0) (omega arith) (omega arith) in
    let value' : digits_value 10 ds ≡ digits_value 10 (take K ds) * (10 ^ m * 10) + (digit_value (get_or ds K 0) * 10 ^ m + digits_value 10 (drop (K + 1) ds)) = rw (pow-suc 10 m) at value in
    rw (pow-suc 10 m) (⊎_elim
    (λ c_small. let test : ltb (get_or ds K 0) 53 ≡ true = grind (arith, nat_tests) in
    rw test (subst (λ x. IsBetween (digits_value 10 ds) (10 ^ m * 10) x) (sym (add-zero (digits_value 10 (take K ds)))) (between_at_cut _ _ _ _ _ value' rest_below (omega arith))))
    (λ c_great. let test : ltb (get_or ds K 0) 53 ≡ false = grind (arith, nat_tests) in
    rw test (between_above_cut _ _ _ _ _ value' rest_below (omega arith) (omega arith)))
    (cases_lt (get_or ds K 0) 53))

-- at a place within the digits
nearest_within : (ds : List ℕ) (F n up low K m : ℕ) → AllDigits 10 ds → length ds ≡ K + suc m → K + low + F ≡ length ds + n + up
    → IsNearest (digits_value 10 ds * 10 ^ up * 10 ^ n) (10 ^ (F + low)) (rounded_at ds K)
unfolding rounded_at
nearest_within ds F n up low K m h e same =
    let bottom : F + low ≡ suc m + (up + n) = omega arith in
    let no_zeros : K - length ds ≡ 0 = omega arith in
    let at_cut : IsBetween (digits_value 10 ds * 10 ^ (up + n)) (10 ^ suc m * 10 ^ (up + n)) (digits_value 10 (take K ds) + cond (ltb (get_or ds K 0) 53) 0 1) =
    IsBetween-scaled _ _ _ (10 ^ (up + n)) (one-le-pow (up + n) 10 (omega arith)) (between_from_digit ds K m h e) in
    let top_is : digits_value 10 ds * 10 ^ (up + n) ≡ digits_value 10 ds * 10 ^ up * 10 ^ n = rw (pow-add 10 up n) (omega arith) in
    let bottom_is : 10 ^ suc m * 10 ^ (up + n) ≡ 10 ^ (F + low) = sym (ap (λ x. 10 ^ x) bottom ∙ pow-add 10 (suc m) (up + n)) in
    let count_is : digits_value 10 (take K ds) + cond (ltb (get_or ds K 0) 53) 0 1 ≡ digits_value 10 (take K ds) * 10 ^ (K - length ds) + cond (ltb (get_or ds K 0) 53) 0 1 = rw no_zeros (omega arith) in
    IsNearest-from_between _ _ _ (rw (top_is, bottom_is, count_is) at at_cut)

-- at a place behind the digits, where zeros stand
nearest_beyond : (ds : List ℕ) (F n up low K : ℕ) → length ds ≤ K → K + low + F ≡ length ds + n + up
    → IsNearest (digits_value 10 ds * 10 ^ up * 10 ^ n) (10 ^ (F + low)) (rounded_at ds K)
unfolding rounded_at
nearest_beyond ds F n up low K h same =
    let zeros : up + n ≡ (K - length ds) + (F + low) = omega arith in
    let powers : 10 ^ up * 10 ^ n ≡ 10 ^ (K - length ds) * 10 ^ (F + low) = sym (pow-add 10 up n) ∙ ap (λ x. 10 ^ x) zeros ∙ pow-add 10 (K - length ds) (F + low) in
    rw (take_all K ds h, get_or_past ds K 0 h) (IsNearest-from_between _ _ _ (nearest_of_exact _ _ _ (one-le-pow (F + low) 10 (omega arith)) (omega (arith, ap (λ x. digits_value 10 ds * x) powers))))

pub nearest_at : (ds : List ℕ) (F n up low K : ℕ) → AllDigits 10 ds → K + low + F ≡ length ds + n + up
    → IsNearest (digits_value 10 ds * 10 ^ up * 10 ^ n) (10 ^ (F + low)) (rounded_at ds K)
nearest_at ds F n up low K h same =
    ⊎_elim (λ k. nearest_within ds F n up low K (length ds - K - 1) h (omega arith) same)
    (λ k. nearest_beyond ds F n up low K k same)
    (cases_lt K (length ds))

-- before the place ahead of all digits
pub nearest_ahead : (ds : List ℕ) (F n low : ℕ) → AllDigits 10 ds → length ds + n < F + low
    → IsNearest (digits_value 10 ds * 10 ^ 0 * 10 ^ n) (10 ^ (F + low)) 0
nearest_ahead ds F n low h k =
    let value : digits_value 10 ds < 10 ^ length ds = digits_value-lt 10 ds h in
    let more : F + low ≡ suc (F + low - suc (length ds + n)) + (length ds + n) = omega arith in
    let one : 1 ≤ 10 ^ (F + low - suc (length ds + n)) = one-le-pow _ 10 (omega arith) in
    let bottom : 10 ^ (F + low) ≡ 10 ^ (F + low - suc (length ds + n)) * 10 * (10 ^ length ds * 10 ^ n) =
    ap (λ x. 10 ^ x) more ∙ pow-add 10 (suc (F + low - suc (length ds + n))) (length ds + n) ∙ rw (pow-suc 10 (F + low - suc (length ds + n)), pow-add 10 (length ds) n) refl in
    let pn : 1 ≤ 10 ^ n = one-le-pow n 10 (omega arith) in
    let top : (digits_value 10 ds + 1) * 10 ^ n ≤ 10 ^ length ds * 10 ^ n = mul-le (digits_value 10 ds + 1) (10 ^ n) (10 ^ length ds) (10 ^ n) (omega arith) (omega arith) in
    let great : 1 * (10 ^ length ds * 10 ^ n) ≤ 10 ^ (F + low - suc (length ds + n)) * (10 ^ length ds * 10 ^ n) = mul-le _ _ _ _ one (omega arith) in
    IsNearest-from_between _ _ _ (nearest_of_small _ _ (omega arith))

-- the sizes that the reader keeps, over the parts of a word
pub nearest_at_places : (decimals : ℕ) (negative : Bool) (whole fraction : List ℕ) (lowers : Bool) (size K : ℕ) → AllDigits 10 whole → AllDigits 10 fraction
    → places_kept (length whole + decimals) (power_of lowers size) ≡ Some K
    → let parts : Parts = parts_of negative whole fraction (power_of lowers size) in
    IsNearest (numerator parts * 10 ^ decimals) (denominator parts) (rounded_at (whole ++ fraction) K)
unfolding places_kept
nearest_at_places decimals negative whole fraction true size K h k e =
    let len : length (whole ++ fraction) ≡ length whole + length fraction = length-append whole fraction in
    let ahead : size + K ≡ length whole + decimals = grind (arith, nat_tests) in
    nearest_at (whole ++ fraction) (length fraction) decimals 0 size K (AllDigits-append whole fraction h k) (omega arith)
nearest_at_places decimals negative whole fraction false size K h k e =
    let len : length (whole ++ fraction) ≡ length whole + length fraction = length-append whole fraction in
    let ahead : K ≡ length whole + decimals + size = grind (arith, nat_tests) in
    nearest_at (whole ++ fraction) (length fraction) decimals size 0 K (AllDigits-append whole fraction h k) (omega arith)

pub nearest_without_places : (decimals : ℕ) (negative : Bool) (whole fraction : List ℕ) (lowers : Bool) (size : ℕ) → AllDigits 10 whole → AllDigits 10 fraction
    → places_kept (length whole + decimals) (power_of lowers size) ≡ None
    → let parts : Parts = parts_of negative whole fraction (power_of lowers size) in
    IsNearest (numerator parts * 10 ^ decimals) (denominator parts) 0
unfolding places_kept
nearest_without_places decimals negative whole fraction true size h k e =
    let len : length (whole ++ fraction) ≡ length whole + length fraction = length-append whole fraction in
    let behind : length whole + decimals < size = grind (arith, nat_tests) in
    nearest_ahead (whole ++ fraction) (length fraction) decimals size (AllDigits-append whole fraction h k) (omega arith)
nearest_without_places decimals negative whole fraction false size h k e = absurd (cc)
