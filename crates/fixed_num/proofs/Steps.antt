-- The reader's steps, over plain lists and numbers.
use Rattle.std.proofs.Common.{◌≡◌, ℕ, ◌+◌, ◌*◌, ◌-◌, ◌^◌, ◌<◌, ◌≤◌, zero, suc, Bool, true, false, ltb, List, [], ◌∷◌, ◌++◌, length, take, get_or, min, refl, arith, sym, ap, ◌∙◌, ⊎_elim, subst, Option, Some, None, Result, Ok, Err, IfSome, IfOk, add-one}
use Rattle.std.proofs.Math.Nat.{pow-suc, pow-le-pow_right}
use Rattle.std.proofs.lemmas.Bool.{cases_lt}
use Rattle.std.proofs.lemmas.Bool.Decides.{nat_tests}
use Rattle.std.proofs.lemmas.List.{take_more, length-append, length-take-le}
use Rattle.std.proofs.lemmas.Int.Digits.{digits_value-lt}
use Rattle.std.specs.Char.{digit_value}
use Rattle.std.specs.Option.{SomeIff, MatchOption}
use Rattle.std.specs.Str.Parse.{AllDigits, digits_value, digits_value_after}
use Rattle.fixed_num.specs.Scan.{squeezed, rounded_at, places_kept, power_of, parts_of, starts_with_minus, behind_sign, scan_unsigned, scan, IsReadable}
use Rattle.fixed_num.specs.NumberWord.{HasParts, IsPointed, IsPower}
use Rattle.fixed_num.proofs.Rounding.{AllDigits-take}
use Rattle.fixed_num.proofs.Kept.{squeezed-more, squeezed-next, squeezed-zeros, digits_value_after-append}

pub digit_below : (ds : List ℕ) (i : ℕ) → AllDigits 10 ds → i < length ds → digit_value (get_or ds i 0) < 10
digit_below [] i h k = absurd (omega arith)
digit_below (c ∷ ds) zero h k = h.0
digit_below (c ∷ ds) (suc i) h k = digit_below ds i h.1 (omega arith)

pub digits_value_after-more : (n : ℕ) (ds : List ℕ) (i : ℕ) → i < length ds
    → digits_value_after 10 n (take (i + 1) ds) ≡ digits_value_after 10 n (take i ds) * 10 + digit_value (get_or ds i 0)
digits_value_after-more n ds i h = ap (digits_value_after 10 n) (take_more ds i 0 h) ∙ digits_value_after-append n (take i ds) (get_or ds i 0 ∷ [])

-- one more digit, and one more zero
pub kept_more : (kept next digit count : ℕ) (ds : List ℕ) (i : ℕ) → i < length ds → kept ≡ squeezed (digits_value_after 10 count (take i ds))
    → digit ≡ digit_value (get_or ds i 0) → next ≡ squeezed (kept * 10 + digit) → next ≡ squeezed (digits_value_after 10 count (take (i + 1) ds))
kept_more kept next digit count ds i h k d e =
    e ∙ rw (k, d) (squeezed-more (digits_value_after 10 count (take i ds)) (digit_value (get_or ds i 0)) ∙ ap squeezed (sym (digits_value_after-more count ds i h)))

pub kept_zero : (kept next count i : ℕ) → kept ≡ squeezed (count * 10 ^ i) → next ≡ squeezed (kept * 10 + 0) → next ≡ squeezed (count * 10 ^ (i + 1))
kept_zero kept next count i k e =
    e ∙ rw k (squeezed-more (count * 10 ^ i) 0 ∙ ap squeezed (rw (add-one, pow-suc 10 i) (omega arith)))

pub kept_zeros : (kept count zeros i : ℕ) → i ≡ min zeros 18 → kept ≡ squeezed (count * 10 ^ i) → kept ≡ squeezed (count * 10 ^ zeros)
kept_zeros kept count zeros i e k =
    ⊎_elim (λ h. let same : i ≡ zeros = omega arith in rw same at k)
    (λ h. let eighteen : i ≡ 18 = omega arith in
    let more : zeros ≡ 18 + (zeros - 18) = omega arith in
    let k' : kept ≡ squeezed (count * 10 ^ 18) = rw eighteen at k in
    k' ∙ squeezed-zeros count (zeros - 18) ∙ ap (λ z. squeezed (count * 10 ^ z)) (sym more))
    (cases_lt zeros 18)

take_nil_append : (n : ℕ) (ys : List ℕ) → take n ys ≡ take n [] ++ take n ys
take_nil_append zero ys = refl
take_nil_append (suc n) ys = refl

pub take-append : (n : ℕ) (xs ys : List ℕ) → take n (xs ++ ys) ≡ take n xs ++ take (n - length xs) ys
take-append n [] ys = let same : n ≡ n - 0 = omega arith in take_nil_append n ys ∙ ap (λ k. take n [] ++ take k ys) same
take-append zero (x ∷ xs) ys = let same : 0 ≡ 0 - suc (length xs) = omega arith in ap (λ k. take k ys) same
take-append (suc n) (x ∷ xs) ys =
    let same : n - length xs ≡ suc n - suc (length xs) = omega arith in
    ap (λ l. x ∷ l) (take-append n xs ys) ∙ ap (λ k. x ∷ (take n xs ++ take k ys)) same

-- the digits of two lists, one after the other, and zeros
pub kept_at : (whole fraction : List ℕ) (places first second third : ℕ)
    → first ≡ squeezed (digits_value_after 10 0 (take places whole))
    → second ≡ squeezed (digits_value_after 10 (digits_value_after 10 0 (take places whole)) (take (places - length whole) fraction))
    → third ≡ squeezed (digits_value_after 10 (digits_value_after 10 0 (take places whole)) (take (places - length whole) fraction) * 10 ^ (places - (length whole + length fraction)))
    → third ≡ squeezed (digits_value 10 (take places (whole ++ fraction)) * 10 ^ (places - length (whole ++ fraction)))
kept_at whole fraction places first second third e f g =
    let digits : digits_value 10 (take places (whole ++ fraction)) ≡ digits_value_after 10 (digits_value_after 10 0 (take places whole)) (take (places - length whole) fraction) =
    ap (digits_value 10) (take-append places whole fraction) ∙ digits_value_after-append 0 (take places whole) (take (places - length whole) fraction) in
    rw (digits, length-append whole fraction) g

pub rounded_up : (digits : List ℕ) (places kept next : ℕ) → kept ≡ squeezed (digits_value 10 (take places digits) * 10 ^ (places - length digits))
    → 53 ≤ get_or digits places 0 → next ≡ squeezed (kept + 1) → next ≡ squeezed (rounded_at digits places)
unfolding rounded_at
rounded_up digits places kept next k h e =
    let test : ltb (get_or digits places 0) 53 ≡ false = grind (arith, nat_tests) in
    rw test (e ∙ rw k (squeezed-next (digits_value 10 (take places digits) * 10 ^ (places - length digits))))

pub rounded_down : (digits : List ℕ) (places kept : ℕ) → kept ≡ squeezed (digits_value 10 (take places digits) * 10 ^ (places - length digits))
    → get_or digits places 0 < 53 → kept ≡ squeezed (rounded_at digits places)
unfolding rounded_at
rounded_down digits places kept k h =
    let test : ltb (get_or digits places 0) 53 ≡ true = grind (arith, nat_tests) in
    rw test (k ∙ ap squeezed (omega arith))

pub places_kept-lowered : (ahead size : ℕ) (lowers : Bool) (r : Option ℕ) → lowers ≡ true → SomeIff r (size ≤ ahead) (ahead - size) → r ≡ places_kept ahead (power_of lowers size)
unfolding places_kept
places_kept-lowered ahead size lowers None e h = rw e (⊎_elim (λ k. grind (arith, nat_tests)) (λ k. absurd (h k)) (cases_lt ahead size))
places_kept-lowered ahead size lowers (Some x) e h = rw e (let k : size ≤ ahead = h.0 in let same : x ≡ ahead - size = h.1 in grind (arith, nat_tests))

pub places_kept-raised : (ahead size : ℕ) (lowers : Bool) → lowers ≡ false → Some (ahead + size) ≡ places_kept ahead (power_of lowers size)
unfolding places_kept
places_kept-raised ahead size lowers e = rw e refl

pub short_below : (ds : List ℕ) (i : ℕ) → AllDigits 10 ds → i < length ds → length ds ≤ 4 → digits_value 10 (take i ds) < 1000
short_below ds i h k four =
    let below : digits_value 10 (take i ds) < 10 ^ length (take i ds) = digits_value-lt 10 (take i ds) (AllDigits-take i ds h) in
    let len : length (take i ds) ≡ i = length-take-le i ds (omega arith) in
    let three : i ≤ 3 = omega arith in
    let ten : 0 < 10 = omega arith in
    let power : 10 ^ i ≤ 10 ^ 3 = pow-le-pow_right ten three in
    let below' : digits_value 10 (take i ds) < 10 ^ i = rw len at below in
    omega arith

small_power : (text : List ℕ) (lowers : Bool) (exponent : ℕ) → IsPower text lowers exponent → exponent < 10 ^ 4
small_power text lowers exponent h =
    ⊎_elim (λ e. rw (e.2) (omega arith)) (λ w.
    let below : digits_value 10 w.digits < 10 ^ length w.digits = digits_value-lt 10 w.digits w.all_digits in
    let ten : 0 < 10 = omega arith in
    let power : 10 ^ length w.digits ≤ 10 ^ 4 = pow-le-pow_right ten w.few in
    let value : exponent ≡ digits_value 10 w.digits = w.value in
    omega arith) h

pub fraction_of_pointed : (pointed fraction : List ℕ) → IsPointed pointed fraction → AllDigits 10 fraction × (length fraction ≤ length pointed)
fraction_of_pointed pointed fraction h =
    ⊎_elim (λ e. rw (e.1) (tt, omega arith)) (λ e. (e.1, let len : length pointed ≡ suc (length fraction) = ap length (e.0) in omega arith)) h

-- the limits of a number word's parts
pub IsReadable-from_parts : (word : List ℕ) (negative : Bool) (whole fraction : List ℕ) (lowers : Bool) (size : ℕ)
    → HasParts word (parts_of negative whole fraction (power_of lowers size)) → IsReadable whole fraction size
IsReadable-from_parts word negative whole fraction lowers size h =
    let pointed : AllDigits 10 fraction × (length fraction ≤ length h.pointed) = fraction_of_pointed h.pointed fraction h.fraction_digits in
    let len : length word ≡ length h.sign + (length whole + (length h.pointed + length h.power)) =
    ap length h.joined ∙ length-append h.sign (whole ++ (h.pointed ++ h.power)) ∙ ap (λ n. length h.sign + n) (length-append whole (h.pointed ++ h.power) ∙ ap (λ n. length whole + n) (length-append h.pointed h.power)) in
    let fits : length word ≤ 64 = h.short in
    let shorter : length fraction ≤ length h.pointed = pointed.1 in
    record {
      whole_digits = h.whole_digits;
      fraction_digits = pointed.0;
      short = omega arith;
      small = small_power h.power lowers size h.scaled;
    }

pub weaker : {X : Type 0} (P Q : Type 0) (R S : X → Type 0) (o : Option X) → (P → Q) → ((x : X) → R x → S x) → MatchOption o P R → MatchOption o Q S
weaker P Q R S None f g h = f h
weaker P Q R S (Some x) f g h = g x h

pub some_weaker : {X : Type 0} (R S : X → Type 0) (o : Option X) → ((x : X) → R x → S x) → IfSome o R → IfSome o S
some_weaker R S None g h = h
some_weaker R S (Some x) g h = g x h

pub ok_weaker : {X E : Type 0} (R S : X → Type 0) (r : Result X E) → ((x : X) → R x → S x) → IfOk r R → IfOk r S
ok_weaker R S (Ok x) g h = g x h
ok_weaker R S (Err e) g h = h

pub at_some : {X : Type 0} (P : Type 0) (R : X → Type 0) (o : Option X) (x : X) → o ≡ Some x → MatchOption o P R → R x
at_some P R o x e h = subst (λ v. MatchOption v P R) e h

pub scan-short : (word : List ℕ) (negative : Bool) (bytes : List ℕ) → length word ≤ 64 → negative ≡ starts_with_minus word → bytes ≡ behind_sign word
    → scan word ≡ scan_unsigned negative bytes
unfolding scan
scan-short word negative bytes h e f =
    let test : ltb 64 (length word) ≡ false = grind (arith, nat_tests) in
    rw (test, e, f) refl
