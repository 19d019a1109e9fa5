-- The reader's cut from the left gives the parts of a number word, and there are no others.
use Rattle.std.proofs.Common.{◌≡◌, ℕ, ◌+◌, ◌<◌, ◌≤◌, Bool, true, false, cond, ltb, eqb, List, [], ◌∷◌, ◌++◌, length, drop, refl, arith, sym, ap, ◌∙◌, ⊎_elim, subst, inl, inr, ◌⊎◌, ◌≢◌, Option, Some, None, one-add}
use Rattle.std.proofs.lemmas.Bool.{cases_lt, false≢true}
use Rattle.std.proofs.lemmas.Bool.Decides.{nat_tests, eqb_tells}
use Rattle.std.proofs.lemmas.List.{take-append-drop, take_at, drop_at}
use Rattle.std.proofs.lemmas.Str.Parse.{digit_from_value}
use Rattle.std.specs.Char.{digit_value, is_ascii_digit}
use Rattle.std.specs.Int.{IsInRange}
use Rattle.std.specs.List.{list_all, prefix_len}
use Rattle.std.specs.Option.{option_map}
use Rattle.std.specs.Str.Parse.{AllDigits, digits_value}
use Rattle.fixed_num.specs.NumberWord.{Parts, HasParts, IsNumberWord, IsSign, IsPointed, IsPower, IsWrittenPower}
use Rattle.fixed_num.specs.Scan.{digits_front, behind_digits, starts_with_minus, behind_sign, fraction_front, behind_fraction, Power, power_of, parts_of, short_number, written_power, scan_power, scan_unsigned, scan}

-- ---- the front of digits

abbrev pub BeginsWithNoDigit : List ℕ → Type 0
BeginsWithNoDigit [] = Unit {0}
BeginsWithNoDigit (b ∷ bytes) = is_ascii_digit b ≡ false

pub is_digit-from_value : (c : ℕ) → digit_value c < 10 → is_ascii_digit c ≡ true
is_digit-from_value c h = let range : IsInRange 48 57 c = digit_from_value c h in grind (arith, nat_tests)

pub value-from_is_digit : (c : ℕ) → is_ascii_digit c ≡ true → digit_value c < 10
value-from_is_digit c h = grind (arith, nat_tests)

prefix_len_of_digits : (ds rest : List ℕ) → AllDigits 10 ds → BeginsWithNoDigit rest → prefix_len is_ascii_digit (ds ++ rest) ≡ length ds
prefix_len_of_digits [] [] h k = refl
prefix_len_of_digits [] (b ∷ rest) h k = rw k refl
prefix_len_of_digits (c ∷ ds) rest h k = rw (is_digit-from_value c h.0) (omega (arith, prefix_len_of_digits ds rest h.1 k))

pub digits_front-of_digits : (ds rest : List ℕ) → AllDigits 10 ds → BeginsWithNoDigit rest → digits_front (ds ++ rest) ≡ ds
digits_front-of_digits ds rest h k = take_at ds rest _ (sym (prefix_len_of_digits ds rest h k))

pub behind_digits-of_digits : (ds rest : List ℕ) → AllDigits 10 ds → BeginsWithNoDigit rest → behind_digits (ds ++ rest) ≡ rest
behind_digits-of_digits ds rest h k = drop_at ds rest _ (sym (prefix_len_of_digits ds rest h k))

digits_front-digit : (c : ℕ) (bytes : List ℕ) → is_ascii_digit c ≡ true → digits_front (c ∷ bytes) ≡ c ∷ digits_front bytes
digits_front-digit c bytes h = rw (h, one-add) refl

behind_digits-digit : (c : ℕ) (bytes : List ℕ) → is_ascii_digit c ≡ true → behind_digits (c ∷ bytes) ≡ behind_digits bytes
behind_digits-digit c bytes h = rw (h, one-add) refl

cases_bool : (b : Bool) → (b ≡ true) ⊎ (b ≡ false)
cases_bool true = inl refl
cases_bool false = inr refl

pub AllDigits-digits_front : (bytes : List ℕ) → AllDigits 10 (digits_front bytes)
AllDigits-digits_front [] = tt
AllDigits-digits_front (c ∷ bytes) =
    ⊎_elim (λ h. rw (digits_front-digit c bytes h) (value-from_is_digit c h, AllDigits-digits_front bytes))
    (λ h. rw h tt) (cases_bool (is_ascii_digit c))

pub begins_behind_digits : (bytes : List ℕ) → BeginsWithNoDigit (behind_digits bytes)
begins_behind_digits [] = tt
begins_behind_digits (c ∷ bytes) =
    ⊎_elim (λ h. rw (behind_digits-digit c bytes h) (begins_behind_digits bytes))
    (λ h. let P : Bool → Type 0 = λ b. BeginsWithNoDigit (drop (cond b (1 + prefix_len is_ascii_digit bytes) 0) (c ∷ bytes)) in subst P (sym h) h) (cases_bool (is_ascii_digit c))

pub digits_joined : (bytes : List ℕ) → digits_front bytes ++ behind_digits bytes ≡ bytes
digits_joined bytes = take-append-drop (prefix_len is_ascii_digit bytes) bytes

-- ---- each piece, where it stands first

no_sign_from_range : (c : ℕ) → 48 ≤ c → (c ≢ 45) × (c ≢ 43)
no_sign_from_range c h = ((λ e. omega arith), (λ e. omega arith))

-- what may follow a sign
abbrev BeginsWithNoSign : List ℕ → Type 0
BeginsWithNoSign [] = Unit {0}
BeginsWithNoSign (b ∷ bytes) = (b ≢ 45) × (b ≢ 43)

-- what may follow the digits behind a point, or stand without one
abbrev BeginsWithNoPoint : List ℕ → Type 0
BeginsWithNoPoint [] = Unit {0}
BeginsWithNoPoint (b ∷ bytes) = (b ≢ 46) × (is_ascii_digit b ≡ false)

no_digit_from_no_point : (bytes : List ℕ) → BeginsWithNoPoint bytes → BeginsWithNoDigit bytes
no_digit_from_no_point [] h = tt
no_digit_from_no_point (b ∷ bytes) h = h.1

minus-of_sign : (sign : List ℕ) (negative : Bool) (rest : List ℕ) → IsSign sign negative → BeginsWithNoSign rest → starts_with_minus (sign ++ rest) ≡ negative
minus-of_sign sign true rest h k = rw h refl
minus-of_sign sign false [] h k = ⊎_elim (λ e. rw e refl) (λ e. rw e refl) h
minus-of_sign sign false (b ∷ rest) h k = ⊎_elim (λ e. rw e (grind (arith, nat_tests))) (λ e. rw e refl) h

rest-of_sign : (sign : List ℕ) (negative : Bool) (rest : List ℕ) → IsSign sign negative → BeginsWithNoSign rest → behind_sign (sign ++ rest) ≡ rest
rest-of_sign sign true rest h k = rw h refl
rest-of_sign sign false [] h k = ⊎_elim (λ e. rw e refl) (λ e. rw e refl) h
rest-of_sign sign false (b ∷ rest) h k = ⊎_elim (λ e. rw e (grind (arith, nat_tests))) (λ e. rw e refl) h

fraction-of_pointed : (pointed fraction rest : List ℕ) → IsPointed pointed fraction → BeginsWithNoPoint rest → fraction_front (pointed ++ rest) ≡ fraction
fraction-of_pointed pointed fraction [] h k = ⊎_elim (λ e. rw (e.0, e.1) refl) (λ e. rw (e.0) (digits_front-of_digits fraction [] e.1 tt)) h
fraction-of_pointed pointed fraction (b ∷ rest) h k =
    ⊎_elim (λ e. rw (e.0, e.1) (grind (arith, nat_tests))) (λ e. rw (e.0) (digits_front-of_digits fraction (b ∷ rest) e.1 k.1)) h

rest-of_pointed : (pointed fraction rest : List ℕ) → IsPointed pointed fraction → BeginsWithNoPoint rest → behind_fraction (pointed ++ rest) ≡ rest
rest-of_pointed pointed fraction [] h k = ⊎_elim (λ e. rw (e.0) refl) (λ e. rw (e.0) (behind_digits-of_digits fraction [] e.1 tt)) h
rest-of_pointed pointed fraction (b ∷ rest) h k =
    ⊎_elim (λ e. rw (e.0) (grind (arith, nat_tests))) (λ e. rw (e.0) (behind_digits-of_digits fraction (b ∷ rest) e.1 k.1)) h

all_digits_test : (ds : List ℕ) → AllDigits 10 ds → list_all is_ascii_digit ds ≡ true
all_digits_test [] h = refl
all_digits_test (c ∷ ds) h = rw (is_digit-from_value c h.0) (all_digits_test ds h.1)

pub all_digits_from_test : (ds : List ℕ) → list_all is_ascii_digit ds ≡ true → AllDigits 10 ds
all_digits_from_test [] h = tt
all_digits_from_test (c ∷ ds) h =
    ⊎_elim (λ e. (value-from_is_digit c e, all_digits_from_test ds (rw e at h))) (λ e. absurd (false≢true (rw e at h))) (cases_bool (is_ascii_digit c))

short_number-is : (ds : List ℕ) → AllDigits 10 ds → 1 ≤ length ds → length ds ≤ 4 → short_number ds ≡ Some (digits_value 10 ds)
unfolding short_number
short_number-is ds h one four =
    let test : list_all is_ascii_digit ds ≡ true = all_digits_test ds h in
    grind (arith, nat_tests)

digits_no_sign : (ds : List ℕ) → AllDigits 10 ds → 1 ≤ length ds → BeginsWithNoSign ds
digits_no_sign [] h k = tt
digits_no_sign (c ∷ ds) h k = no_sign_from_range c (digit_from_value c h.0).0

scan_power-of_mark : (mark : ℕ) (bytes : List ℕ) → (mark ≡ 101) ⊎ (mark ≡ 69) → scan_power (mark ∷ bytes) ≡ written_power bytes
unfolding scan_power
scan_power-of_mark mark bytes h = ⊎_elim (λ e. rw e refl) (λ e. rw e refl) h

scan_power-of_written : (text : List ℕ) (lowers : Bool) (exponent : ℕ) → IsWrittenPower text lowers exponent → scan_power text ≡ Some (power_of lowers exponent)
unfolding written_power
scan_power-of_written text lowers exponent w =
    let free : BeginsWithNoSign w.digits = digits_no_sign w.digits w.all_digits w.some in
    let minus : starts_with_minus (w.sign ++ w.digits) ≡ lowers = minus-of_sign w.sign lowers w.digits w.signed free in
    let rest : behind_sign (w.sign ++ w.digits) ≡ w.digits = rest-of_sign w.sign lowers w.digits w.signed free in
    let number : short_number w.digits ≡ Some (digits_value 10 w.digits) = short_number-is w.digits w.all_digits w.some w.few in
    rw (w.joined, w.value, scan_power-of_mark w.mark (w.sign ++ w.digits) w.marked, minus, rest, number) refl

scan_power-of_power : (text : List ℕ) (lowers : Bool) (exponent : ℕ) → IsPower text lowers exponent → scan_power text ≡ Some (power_of lowers exponent)
unfolding scan_power
scan_power-of_power text lowers exponent h = ⊎_elim (λ e. rw (e.0, e.1, e.2) refl) (λ w. scan_power-of_written text lowers exponent w) h

power_no_point : (text : List ℕ) (lowers : Bool) (exponent : ℕ) → IsPower text lowers exponent → BeginsWithNoPoint text
power_no_point text lowers exponent h =
    ⊎_elim (λ e. rw (e.0) tt) (λ w. rw (w.joined) (⊎_elim (λ e. rw e ((λ x. cc), refl)) (λ e. rw e ((λ x. cc), refl)) w.marked)) h

-- ---- the whole word

pointed_no_digit : (pointed fraction power : List ℕ) → IsPointed pointed fraction → BeginsWithNoPoint power → BeginsWithNoDigit (pointed ++ power)
pointed_no_digit pointed fraction power h k =
    ⊎_elim (λ e. rw (e.0) (no_digit_from_no_point power k)) (λ e. rw (e.0) refl) h

one_from_sum : (n : ℕ) → 1 ≤ 0 + n → 1 ≤ n
one_from_sum n h = omega arith

point_no_sign : (pointed fraction power : List ℕ) → IsPointed pointed fraction → 1 ≤ length fraction → BeginsWithNoSign (pointed ++ power)
point_no_sign pointed fraction power k some =
    ⊎_elim (λ e. absurd (omega (arith, ap length e.1))) (λ e. rw (e.0) ((λ x. cc), (λ x. cc))) k

body_no_sign : (whole pointed fraction power : List ℕ) → AllDigits 10 whole → IsPointed pointed fraction → 1 ≤ length whole + length fraction
    → BeginsWithNoSign (whole ++ (pointed ++ power))
body_no_sign [] pointed fraction power h k some = point_no_sign pointed fraction power k (one_from_sum (length fraction) some)
body_no_sign (c ∷ whole) pointed fraction power h k some = no_sign_from_range c (digit_from_value c h.0).0

scan_unsigned-of_pieces : (negative lowers : Bool) (whole pointed fraction power : List ℕ) (exponent : ℕ) → AllDigits 10 whole → IsPointed pointed fraction
    → 1 ≤ length whole + length fraction → IsPower power lowers exponent
    → scan_unsigned negative (whole ++ (pointed ++ power)) ≡ Some (parts_of negative whole fraction (power_of lowers exponent))
unfolding scan_unsigned
scan_unsigned-of_pieces negative lowers whole pointed fraction power exponent h k some p =
    let no_point : BeginsWithNoPoint power = power_no_point power lowers exponent p in
    let no_digit : BeginsWithNoDigit (pointed ++ power) = pointed_no_digit pointed fraction power k no_point in
    let front : digits_front (whole ++ (pointed ++ power)) ≡ whole = digits_front-of_digits whole (pointed ++ power) h no_digit in
    let behind : behind_digits (whole ++ (pointed ++ power)) ≡ pointed ++ power = behind_digits-of_digits whole (pointed ++ power) h no_digit in
    let fraction_is : fraction_front (pointed ++ power) ≡ fraction = fraction-of_pointed pointed fraction power k no_point in
    let power_is : behind_fraction (pointed ++ power) ≡ power = rest-of_pointed pointed fraction power k no_point in
    let scanned : scan_power power ≡ Some (power_of lowers exponent) = scan_power-of_power power lowers exponent p in
    let test : eqb (length whole + length fraction) 0 ≡ false = grind (arith, nat_tests) in
    rw (front, behind, fraction_is, power_is, scanned, test) refl

pub scan-of_parts : (word : List ℕ) (parts : Parts) → HasParts word parts → scan word ≡ Some parts
unfolding scan
scan-of_parts word parts w =
    let body : List ℕ = parts.whole ++ (w.pointed ++ w.power) in
    let no_sign : BeginsWithNoSign (parts.whole ++ (w.pointed ++ w.power)) = body_no_sign parts.whole w.pointed parts.fraction w.power w.whole_digits w.fraction_digits w.some_digit in
    let minus : starts_with_minus (w.sign ++ (parts.whole ++ (w.pointed ++ w.power))) ≡ parts.negative = minus-of_sign w.sign parts.negative _ w.signed no_sign in
    let rest : behind_sign (w.sign ++ (parts.whole ++ (w.pointed ++ w.power))) ≡ parts.whole ++ (w.pointed ++ w.power) = rest-of_sign w.sign parts.negative _ w.signed no_sign in
    let short : ltb 64 (length word) ≡ false = let h : length word ≤ 64 = w.short in grind (arith, nat_tests) in
    let minus' : starts_with_minus word ≡ parts.negative = ap starts_with_minus w.joined ∙ minus in
    let rest' : behind_sign word ≡ parts.whole ++ (w.pointed ++ w.power) = ap behind_sign w.joined ∙ rest in
    rw (short, minus', rest') (scan_unsigned-of_pieces parts.negative parts.lowers parts.whole w.pointed parts.fraction w.power parts.exponent w.whole_digits w.fraction_digits w.some_digit w.scaled)

-- ---- and back

sign_piece : List ℕ → List ℕ
sign_piece [] = []
sign_piece (b ∷ bytes) = cond (eqb b 45) (b ∷ []) (cond (eqb b 43) (b ∷ []) [])

sign_joined : (word : List ℕ) → word ≡ sign_piece word ++ behind_sign word
unfolding sign_piece
sign_joined [] = refl
sign_joined (b ∷ bytes) = grind (arith, nat_tests)

-- by cases on a test of one byte
by_byte : (P : Bool → Type 0) (b c : ℕ) → (b ≡ c → P true) → (b ≢ c → P false) → P (eqb b c)
by_byte P b c at_c else_ = ⊎_elim (λ e. subst P (sym (e.0)) (at_c (e.1))) (λ e. subst P (sym (e.0)) (else_ (e.1))) (eqb_tells b c)

IsSign-first : (b : ℕ) (bytes : List ℕ) → IsSign (cond (eqb b 45) (b ∷ []) (cond (eqb b 43) (b ∷ []) [])) (eqb b 45)
IsSign-first b bytes =
    by_byte (λ t. IsSign (cond t (b ∷ []) (cond (eqb b 43) (b ∷ []) [])) t) b 45 (λ e. ap (λ x. x ∷ []) e)
    (λ _. by_byte (λ t. IsSign (cond t (b ∷ []) []) false) b 43 (λ e. inr (ap (λ x. x ∷ []) e)) (λ _. inl refl))

IsSign-sign_piece : (word : List ℕ) → IsSign (sign_piece word) (starts_with_minus word)
unfolding sign_piece
IsSign-sign_piece [] = inl refl
IsSign-sign_piece (b ∷ bytes) = IsSign-first b bytes

-- a word is cut behind its sign
pub sign_of : (word : List ℕ) → (sign : List ℕ) × (word ≡ sign ++ behind_sign word) × IsSign sign (starts_with_minus word)
sign_of word = (sign_piece word, sign_joined word, IsSign-sign_piece word)

pointed_piece : List ℕ → List ℕ
pointed_piece [] = []
pointed_piece (b ∷ bytes) = cond (eqb b 46) (b ∷ digits_front bytes) []

pointed_joined : (bytes : List ℕ) → bytes ≡ pointed_piece bytes ++ behind_fraction bytes
unfolding pointed_piece
pointed_joined [] = refl
pointed_joined (b ∷ bytes) =
    by_byte (λ t. b ∷ bytes ≡ cond t (b ∷ digits_front bytes) [] ++ cond t (behind_digits bytes) (b ∷ bytes)) b 46
    (λ _. ap (λ x. b ∷ x) (sym (digits_joined bytes))) (λ _. refl)

IsPointed-pointed_piece : (bytes : List ℕ) → IsPointed (pointed_piece bytes) (fraction_front bytes)
unfolding pointed_piece
IsPointed-pointed_piece [] = inl (refl, refl)
IsPointed-pointed_piece (b ∷ bytes) =
    by_byte (λ t. IsPointed (cond t (b ∷ digits_front bytes) []) (cond t (digits_front bytes) [])) b 46
    (λ e. inr (ap (λ x. x ∷ digits_front bytes) e, AllDigits-digits_front bytes)) (λ _. inl (refl, refl))

option_map-some : {X Y : Type 0} (f : X → Y) (o : Option X) (y : Y) → option_map f o ≡ Some y → (x : X) × (o ≡ Some x) × (y ≡ f x)
option_map-some f None y e = absurd (cc)
option_map-some f (Some x) y e = (x, refl, cc)

record IsShortNumber (digits : List ℕ) (n : ℕ) : Type 0 where
  some : 1 ≤ length digits
  few : length digits ≤ 4
  all_digits : AllDigits 10 digits
  value : n ≡ digits_value 10 digits

short_number-some : (digits : List ℕ) (n : ℕ) → short_number digits ≡ Some n → IsShortNumber digits n
unfolding short_number
short_number-some digits n e =
    ⊎_elim (λ h. absurd (grind (arith, nat_tests))) (λ h.
    ⊎_elim (λ k. absurd (grind (arith, nat_tests))) (λ k.
    ⊎_elim (λ t. record { some = h; few = k; all_digits = all_digits_from_test digits t; value = grind (arith, nat_tests) })
    (λ t. absurd (grind (arith, nat_tests)))
    (cases_bool (list_all is_ascii_digit digits)))
    (cases_lt 4 (length digits)))
    (cases_lt (length digits) 1)

IsPower-from_written : (mark : ℕ) (bytes : List ℕ) (power : Power) → (mark ≡ 101) ⊎ (mark ≡ 69) → written_power bytes ≡ Some power → IsPower (mark ∷ bytes) power.lowers power.size
unfolding written_power
IsPower-from_written mark bytes power h e =
    let found : (n : ℕ) × (short_number (behind_sign bytes) ≡ Some n) × (power ≡ power_of (starts_with_minus bytes) n) = option_map-some (power_of (starts_with_minus bytes)) (short_number (behind_sign bytes)) power e in
    let number : IsShortNumber (behind_sign bytes) found.0 = short_number-some _ _ found.1 in
    let P : Power → Type 0 = λ p. IsPower (mark ∷ bytes) p.lowers p.size in
    subst P (sym (found.2)) (inr (record {
      mark = mark;
      sign = sign_piece bytes;
      digits = behind_sign bytes;
      joined = ap (λ x. mark ∷ x) (sign_joined bytes);
      marked = h;
      signed = IsSign-sign_piece bytes;
      all_digits = number.all_digits;
      some = number.some;
      few = number.few;
      value = number.value;
    }))

IsPower-from_scan : (bytes : List ℕ) (power : Power) → scan_power bytes ≡ Some power → IsPower bytes power.lowers power.size
unfolding scan_power
IsPower-from_scan [] power e = inl (refl, cc, cc)
IsPower-from_scan (b ∷ bytes) power e =
    by_byte (λ t. cond t (written_power bytes) (cond (eqb b 69) (written_power bytes) None) ≡ Some power → IsPower (b ∷ bytes) power.lowers power.size) b 101
    (λ h k. IsPower-from_written b bytes power (inl h) k)
    (λ _. by_byte (λ t. cond t (written_power bytes) None ≡ Some power → IsPower (b ∷ bytes) power.lowers power.size) b 69
    (λ h k. IsPower-from_written b bytes power (inr h) k) (λ _ k. absurd (cc)))
    e

one_from_some : (n : ℕ) → n ≢ 0 → 1 ≤ n
one_from_some n h = omega arith

-- the parts from what stands behind a sign
HasParts-from_body : (word : List ℕ) (parts : Parts) → length word ≤ 64 → scan_unsigned (starts_with_minus word) (behind_sign word) ≡ Some parts → HasParts word parts
unfolding scan_unsigned
HasParts-from_body word parts short e =
    ⊎_elim (λ none. absurd (let h : None ≡ Some parts = rw (none.0) at e in cc)) (λ some.
    let found : (power : Power) × (scan_power (behind_fraction (behind_digits (behind_sign word))) ≡ Some power) × (parts ≡ parts_of (starts_with_minus word) (digits_front (behind_sign word)) (fraction_front (behind_digits (behind_sign word))) power) =
    option_map-some _ _ parts (rw (some.0) at e) in
    subst (HasParts word) (sym (found.2)) (record {
      sign = sign_piece word;
      pointed = pointed_piece (behind_digits (behind_sign word));
      power = behind_fraction (behind_digits (behind_sign word));
      joined = sign_joined word ∙ ap (λ x. sign_piece word ++ x) (sym (digits_joined (behind_sign word)) ∙ ap (λ x. digits_front (behind_sign word) ++ x) (pointed_joined (behind_digits (behind_sign word))));
      short = short;
      signed = IsSign-sign_piece word;
      whole_digits = AllDigits-digits_front (behind_sign word);
      fraction_digits = IsPointed-pointed_piece (behind_digits (behind_sign word));
      some_digit = one_from_some (length (digits_front (behind_sign word)) + length (fraction_front (behind_digits (behind_sign word)))) (some.1);
      scaled = IsPower-from_scan (behind_fraction (behind_digits (behind_sign word))) found.0 found.1;
    }))
    (eqb_tells (length (digits_front (behind_sign word)) + length (fraction_front (behind_digits (behind_sign word)))) 0)

pub HasParts-from_scan : (word : List ℕ) (parts : Parts) → scan word ≡ Some parts → HasParts word parts
unfolding scan
HasParts-from_scan word parts e =
    ⊎_elim (λ long. absurd (let test : ltb 64 (length word) ≡ true = grind (arith, nat_tests) in let h : None ≡ Some parts = rw test at e in cc))
    (λ short. let test : ltb 64 (length word) ≡ false = grind (arith, nat_tests) in HasParts-from_body word parts short (rw test at e))
    (cases_lt 64 (length word))

pub no_word_from_scan : (word : List ℕ) → scan word ≡ None → IsNumberWord word → ⊥
no_word_from_scan word e w = let some : scan word ≡ Some w.0 = scan-of_parts word w.0 w.1 in cc
