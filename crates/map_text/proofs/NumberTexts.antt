-- What the number of a token is.
use Rattle.std.proofs.Common.{◌≡◌, ◌≢◌, ℕ, ◌*◌, ◌^◌, ◌<◌, ◌≤◌, Bool, true, false, not, nat_lt, cond, List, [], ◌∷◌, Option, None, Some, Result, Ok, Err, ℤ, pos, ◌*ℤ◌, int_div, unsigned_abs, refl, sym, ◌∙◌, arith, ⊎_elim}
use Rattle.std.proofs.lemmas.Bool.{cases_lt}
use Rattle.std.proofs.lemmas.Bool.Decides.{nat_tests, Decides-int_eq}
use Rattle.std.proofs.lemmas.Int.{ints}
use Rattle.map_lex.specs.TokenList.{TokenValue}
use Rattle.fixed_num.specs.NumberWord.{IsNumberWord}
use Rattle.fixed_num.specs.DecimalValue.{RoundsTo}
use Rattle.fixed_num.specs.Count.{is_number_word, count_of}
use Rattle.fixed_num.proofs.Count.{words_are, only_count}
use Rattle.fixed_num.proofs.Quotients.{no_remainder, whole_quotient}
use Rattle.map_text.specs.declared.document.Reason.{Reason}
use Rattle.map_text.specs.declared.document.Reason.TheVariants.{Point as NoWholePoint, Range}
use Rattle.map_text.specs.declared.read_fault.ReadFault.TheVariants.{Expected}
use Rattle.map_text.specs.declared.read_fault.What.TheVariants.{Number}
use Rattle.map_text.specs.Grammar.{symbol_of, word}
use Rattle.map_text.specs.Meaning.{is_whole, whole_of, is_large}
use Rattle.map_text.specs.Refusals.{a_number, is_number}
use Rattle.map_text.specs.Reading.{ReaderState, IsNext, IsRead, IsRefused}
use Rattle.map_text.specs.Judged.{judge, coordinate_reason, coordinate_in, count_or, count_in}
use Rattle.map_text.specs.Parts.{coordinate_part, number_part}
use Rattle.map_text.proofs.Passing.{passes_token, stops_token, word_of, and_left, and_right, not_true}

-- ---- tests

number_from_word : (t : TokenValue) → t.quoted ≡ false → IsNumberWord t.text → is_number t ≡ true
number_from_word t plain w = rw (plain, (words_are t.text).1 w) refl

no_number_from_word : (t : TokenValue) → (IsNumberWord t.text → ⊥) → is_number t ≡ false
no_number_from_word t never = by (is_number t) refl
  where
    by : (b : Bool) → is_number t ≡ b → is_number t ≡ false
    by true e = absurd (never ((words_are t.text).0 (and_right (not t.quoted) _ e)))
    by false e = e

pub none_from_quoted : {A : Type 0} (t : TokenValue) (x : Option A) → t.quoted ≡ true → None ≡ cond (is_number t) x None
none_from_quoted t x quoted = rw quoted refl

pub none_from_no_word : {A : Type 0} (t : TokenValue) (x : Option A) → (IsNumberWord t.text → ⊥) → None ≡ cond (is_number t) x None
none_from_no_word t x never = rw (no_number_from_word t never) refl

pub some_from_word : {A : Type 0} (t : TokenValue) (x y : A) → t.quoted ≡ false → IsNumberWord t.text → x ≡ y → Some x ≡ cond (is_number t) (Some y) None
some_from_word t x y plain w e = rw (number_from_word t plain w, e) refl

pub word_of_rounds : (decimals : ℕ) (w : List ℕ) (count : ℤ) → RoundsTo decimals w count → IsNumberWord w
word_of_rounds decimals w count r = (r.parts, r.has_parts)

-- ---- coordinates

pub whole_test : (w : List ℕ) (whole : ℤ) → RoundsTo 6 w (whole *ℤ pos (10 ^ 6)) → is_whole w ≡ true
whole_test w whole r = (Decides-int_eq _ _).1 (no_remainder (count_of 6 w) (pos (10 ^ 6)) whole (only_count 6 w _ r))

pub whole_value : (w : List ℕ) (whole : ℤ) → RoundsTo 6 w (whole *ℤ pos (10 ^ 6)) → whole_of w ≡ whole
whole_value w whole r =
    let count : whole *ℤ pos (10 ^ 6) ≡ count_of 6 w = only_count 6 w _ r in
    let cut : int_div (count_of 6 w) (pos (10 ^ 6)) *ℤ pos (10 ^ 6) ≡ count_of 6 w = whole_quotient (count_of 6 w) (pos (10 ^ 6)) (no_remainder (count_of 6 w) (pos (10 ^ 6)) whole count) in
    omega (arith, ints, count, cut)

pub fraction_test : (w : List ℕ) (count : ℤ) → RoundsTo 6 w count → ((whole : ℤ) → count ≢ whole *ℤ pos (10 ^ 6)) → is_whole w ≡ false
fraction_test w count r never = by (is_whole w) refl
  where
    by : (b : Bool) → is_whole w ≡ b → is_whole w ≡ false
    by true e = absurd (never (whole_of w) (only_count 6 w _ r ∙ sym (whole_quotient (count_of 6 w) (pos (10 ^ 6)) ((Decides-int_eq _ _).0 e))))
    by false e = e

near_reason : (w : List ℕ) (whole : ℤ) → RoundsTo 6 w (whole *ℤ pos (10 ^ 6)) → unsigned_abs whole ≤ 4352 → coordinate_reason w ≡ None
near_reason w whole r near =
    let test : nat_lt 4352 (unsigned_abs whole) ≡ false = grind (arith, nat_tests) in
    rw (whole_test w whole r, whole_value w whole r, test) refl

far_reason : (w : List ℕ) (whole : ℤ) → RoundsTo 6 w (whole *ℤ pos (10 ^ 6)) → 4352 < unsigned_abs whole → coordinate_reason w ≡ Some Range
far_reason w whole r far =
    let test : nat_lt 4352 (unsigned_abs whole) ≡ true = grind (arith, nat_tests) in
    rw (whole_test w whole r, whole_value w whole r, test) refl

fraction_reason : (w : List ℕ) (count : ℤ) → RoundsTo 6 w count → ((whole : ℤ) → count ≢ whole *ℤ pos (10 ^ 6)) → coordinate_reason w ≡ Some NoWholePoint
fraction_reason w count r never = rw (fraction_test w count r never) refl

pub coordinate_near : (t : TokenValue) (whole : ℤ) → t.quoted ≡ false → RoundsTo 6 t.text (whole *ℤ pos (10 ^ 6)) → unsigned_abs whole ≤ 4352 → Some (Ok whole) ≡ coordinate_in t
coordinate_near t whole plain r near =
    some_from_word t (Ok whole) (judge (coordinate_reason t.text) (whole_of t.text)) plain (word_of_rounds 6 t.text _ r)
    (rw (near_reason t.text whole r near, whole_value t.text whole r) refl)

pub coordinate_far : (t : TokenValue) → t.quoted ≡ false → (whole : ℤ) × RoundsTo 6 t.text (whole *ℤ pos (10 ^ 6)) × (4352 < unsigned_abs whole) → Some (Err Range) ≡ coordinate_in t
coordinate_far t plain h =
    some_from_word t (Err Range) (judge (coordinate_reason t.text) (whole_of t.text)) plain (word_of_rounds 6 t.text _ h.1) (rw (far_reason t.text h.0 h.1 h.2) refl)

pub coordinate_fraction : (t : TokenValue) → t.quoted ≡ false → (count : ℤ) × RoundsTo 6 t.text count × ((whole : ℤ) → count ≢ whole *ℤ pos (10 ^ 6)) → Some (Err NoWholePoint) ≡ coordinate_in t
coordinate_fraction t plain h =
    some_from_word t (Err NoWholePoint) (judge (coordinate_reason t.text) (whole_of t.text)) plain (word_of_rounds 6 t.text _ h.1) (rw (fraction_reason t.text h.0 h.1 h.2) refl)

-- ---- numbers of textures

pub number_small : (reason : Reason) (decimals : ℕ) (t : TokenValue) (count : ℤ) → t.quoted ≡ false → RoundsTo decimals t.text count
    → ((count : ℤ) × RoundsTo decimals t.text count × (1000000 * 10 ^ decimals ≤ unsigned_abs count) → ⊥) → Some (Ok count) ≡ count_in reason decimals t
number_small reason decimals t count plain r never =
    let small : unsigned_abs count < 1000000 * 10 ^ decimals = ⊎_elim (λ l. l) (λ l. absurd (never (count, r, l))) (cases_lt (unsigned_abs count) (1000000 * 10 ^ decimals)) in
    let is : count ≡ count_of decimals t.text = only_count decimals t.text count r in
    let test : is_large decimals t.text ≡ false = rw (← is) (grind (arith, nat_tests)) in
    some_from_word t (Ok count) (count_or reason decimals t.text) plain (word_of_rounds decimals t.text _ r) (rw (test, is) refl)

pub number_large : (reason : Reason) (decimals : ℕ) (t : TokenValue) → t.quoted ≡ false
    → (count : ℤ) × RoundsTo decimals t.text count × (1000000 * 10 ^ decimals ≤ unsigned_abs count) → Some (Err reason) ≡ count_in reason decimals t
number_large reason decimals t plain h =
    let is : h.0 ≡ count_of decimals t.text = only_count decimals t.text h.0 h.1 in
    let large : 1000000 * 10 ^ decimals ≤ unsigned_abs (count_of decimals t.text) = rw (← is) h.2 in
    let test : is_large decimals t.text ≡ true = grind (arith, nat_tests) in
    some_from_word t (Err reason) (count_or reason decimals t.text) plain (word_of_rounds decimals t.text _ h.1) (rw test refl)

-- ---- a token that spells a number is one

pub number_if : {A : Type 0} (t : TokenValue) (x y : A) → Some x ≡ cond (is_number t) (Some y) None → (is_number t ≡ true) × (x ≡ y)
number_if t x y = by (is_number t)
  where
    by : (b : Bool) → Some x ≡ cond b (Some y) None → (b ≡ true) × (x ≡ y)
    by true e = (refl, cc)
    by false e = absurd (cc)

pub no_number_if : {A : Type 0} (t : TokenValue) (y : A) → None ≡ cond (is_number t) (Some y) None → is_number t ≡ false
no_number_if t y = by (is_number t)
  where
    by : (b : Bool) → None ≡ cond b (Some y) None → b ≡ false
    by true e = absurd (cc)
    by false e = refl

pub number_fits : (t : TokenValue) → is_number t ≡ true → is_number_word t.text ≡ true
number_fits t h = and_right (not t.quoted) _ h

pub number_symbol : (t : TokenValue) → is_number t ≡ true → symbol_of t ≡ word t.text
number_symbol t h = word_of t (not_true t.quoted (and_left (not t.quoted) _ h))

pub coordinate_read : (old new : ReaderState) (t : TokenValue) (value : Result ℤ Reason) → IsNext old t new → Some value ≡ coordinate_in t → IsRead coordinate_part (a_number ∷ []) [] old new value
coordinate_read old new t value next found =
    let is : (is_number t ≡ true) × (value ≡ judge (coordinate_reason t.text) (whole_of t.text)) = number_if t value (judge (coordinate_reason t.text) (whole_of t.text)) found in
    record {
      text = t.text;
      fit = number_fits t is.0;
      passes = passes_token old new a_number t [] (word t.text) next refl (rw (is.0) refl) (number_symbol t is.0);
      meaning = is.1;
    }

pub number_read : (reason : Reason) (decimals : ℕ) (old new : ReaderState) (t : TokenValue) (value : Result ℤ Reason) → IsNext old t new → Some value ≡ count_in reason decimals t
    → IsRead (number_part reason decimals) (a_number ∷ []) [] old new value
number_read reason decimals old new t value next found =
    let is : (is_number t ≡ true) × (value ≡ count_or reason decimals t.text) = number_if t value (count_or reason decimals t.text) found in
    record {
      text = t.text;
      fit = number_fits t is.0;
      passes = passes_token old new a_number t [] (word t.text) next refl (rw (is.0) refl) (number_symbol t is.0);
      meaning = is.1;
    }

pub no_number : {A : Type 0} (old new : ReaderState) (t : TokenValue) (y : A) → IsNext old t new → None ≡ cond (is_number t) (Some y) None → IsRefused old (a_number ∷ []) (Expected Number t.line)
no_number old new t y next none =
    let is : is_number t ≡ false = no_number_if t y none in
    stops_token old new a_number t (Expected Number t.line) next (rw is refl)
