-- The words of numbers: that they are words, and what they count.
use Rattle.std.proofs.Common.{◌≡◌, ℕ, zero, suc, ◌+◌, ◌*◌, ◌/◌, ◌%◌, ◌^◌, ◌<◌, ◌≤◌, ◌⊎◌, inl, inr, Bool, true, false, not, ◌&&◌, ◌||◌, ◌==◌, eqb, leb, ltb, cond, List, [], ◌∷◌, ◌++◌, length, refl, ap, sym, ◌∙◌, arith, append-nil, length-append, ℤ, pos, neg_ℤ, negsuc, unsigned_abs, nat_abs}
use Rattle.std.specs.List.{list_all}
use Rattle.std.specs.Fmt.{decimal, signed_decimal, digit_glyph, digits_onto, digits}
use Rattle.std.specs.Str.Parse.{AllDigits, digits_value, IsNumeral}
use Rattle.std.specs.Int.{IsInRange}
use Rattle.std.specs.Ordering.{int_eq}
use Rattle.std.specs.Prelude.{int_div, int_rem}
use Rattle.std.proofs.lemmas.Bool.{and_parts, and_from, and_left, ltb-true}
use Rattle.std.proofs.lemmas.Bool.Decides.{nat_tests}
use Rattle.std.proofs.lemmas.Fmt.{decimal_is_IsNumeral, length-decimal-le}
use Rattle.std.proofs.lemmas.Nat.{pow-add}
use Rattle.std.proofs.lemmas.Str.Parse.{digit_from_value}
use Rattle.fixed_num.specs.NumberWord.{Parts, HasParts, IsNumberWord, IsSign, IsPointed, IsPower}
use Rattle.fixed_num.specs.Count.{is_number_word, count_of}
use Rattle.fixed_num.specs.Shortest.{shortest_decimal}
use Rattle.fixed_num.specs.DecimalValue.{IsExactly}
use Rattle.fixed_num.proofs.Decimals.{exact-shortest_decimal}
use Rattle.fixed_num.proofs.Count.{words_have_counts}
use Rattle.fixed_num.proofs.Counts.{RoundsTo-from_exact}
use Rattle.map_lex.specs.Bytes.{is_blank, is_stray, begins_comment}
use Rattle.map_lex.specs.Cut.{begins_word}
use Rattle.map_text.specs.Meaning.{is_whole, whole_of, is_large}
use Rattle.map_text.specs.Spelled.{is_small}
use Rattle.map_write.proofs.Tests.{all_append, all_weaker, none_pass}
use Rattle.map_write.proofs.Tokens.{IsWord}

-- ---- the bytes of number words

-- a byte that no blank, no stray byte, no quote and no slash is
abbrev pub is_number_byte : ℕ → Bool
is_number_byte b = leb 43 b && not (eqb b 47)

digit_byte : (c : ℕ) → IsInRange 48 57 c → is_number_byte c ≡ true
digit_byte c h = grind arith

digits_bytes : (ds : List ℕ) → AllDigits 10 ds → list_all is_number_byte ds ≡ true
digits_bytes [] all = refl
digits_bytes (d ∷ ds) all = and_from (is_number_byte d) (list_all is_number_byte ds) (digit_byte d (digit_from_value d all.0)) (digits_bytes ds all.1)

sign_bytes : (text : List ℕ) (negative : Bool) → IsSign text negative → list_all is_number_byte text ≡ true
sign_bytes text true sign = ap (list_all is_number_byte) sign
sign_bytes text false sign = elim sign [ inl e ↦ ap (list_all is_number_byte) e | inr e ↦ ap (list_all is_number_byte) e ]

pointed_bytes : (text fraction : List ℕ) → IsPointed text fraction → list_all is_number_byte text ≡ true
pointed_bytes text fraction pointed =
    elim pointed [ inl h ↦ ap (list_all is_number_byte) h.0 | inr h ↦ ap (list_all is_number_byte) h.0 ∙ digits_bytes fraction h.1 ]

mark_byte : (mark : ℕ) → (mark ≡ 101) ⊎ (mark ≡ 69) → is_number_byte mark ≡ true
mark_byte mark marked = elim marked [ inl e ↦ ap is_number_byte e | inr e ↦ ap is_number_byte e ]

power_bytes : (text : List ℕ) (lowers : Bool) (exponent : ℕ) → IsPower text lowers exponent → list_all is_number_byte text ≡ true
power_bytes text lowers exponent power = elim power [
  | inl h ↦ ap (list_all is_number_byte) h.0
  | inr w ↦ ap (list_all is_number_byte) w.joined
      ∙ and_from (is_number_byte w.mark) (list_all is_number_byte (w.sign ++ w.digits)) (mark_byte w.mark w.marked)
      (all_append is_number_byte w.sign w.digits (sign_bytes w.sign lowers w.signed) (digits_bytes w.digits w.all_digits))
]

number_bytes : (w : List ℕ) (parts : Parts) → HasParts w parts → list_all is_number_byte w ≡ true
number_bytes w parts has =
    ap (list_all is_number_byte) has.joined
    ∙ all_append is_number_byte has.sign (parts.whole ++ (has.pointed ++ has.power)) (sign_bytes has.sign parts.negative has.signed)
    (all_append is_number_byte parts.whole (has.pointed ++ has.power) (digits_bytes parts.whole has.whole_digits)
    (all_append is_number_byte has.pointed has.power (pointed_bytes has.pointed parts.fraction has.fraction_digits) (power_bytes has.power parts.lowers parts.exponent has.scaled)))

fraction_within : (pointed fraction : List ℕ) → IsPointed pointed fraction → length fraction ≤ length pointed
fraction_within pointed fraction is = elim is [
  | inl h ↦ omega (arith, ap length h.1)
  | inr h ↦ omega (arith, ap length h.0)
]

number_long : (w : List ℕ) (parts : Parts) → HasParts w parts → 0 < length w
number_long w parts has =
    omega (arith, ap length has.joined, length-append has.sign (parts.whole ++ (has.pointed ++ has.power)), length-append parts.whole (has.pointed ++ has.power), length-append has.pointed has.power, fraction_within has.pointed parts.fraction has.fraction_digits, has.some_digit)

byte_no_blank : (b : ℕ) → is_number_byte b ≡ true → is_blank b ≡ false
byte_no_blank b e = grind arith

byte_no_stray : (b : ℕ) → is_number_byte b ≡ true → is_stray b ≡ false
byte_no_stray b e = grind arith

byte_no_quote : (b : ℕ) → is_number_byte b ≡ true → eqb b 34 ≡ false
byte_no_quote b e = grind arith

byte_no_slash : (b : ℕ) → is_number_byte b ≡ true → eqb b 47 ≡ false
byte_no_slash b e = grind arith

no_comment : (b : ℕ) (bs : List ℕ) → is_number_byte b ≡ true → begins_comment (b ∷ bs) ≡ false
no_comment b [] e = refl
no_comment b (c ∷ bs) e = and_left (b == 47) (c == 47) (byte_no_slash b e)

bytes_begin : (w : List ℕ) → list_all is_number_byte w ≡ true → 0 < length w → begins_word w ≡ true
bytes_begin [] e long = absurd (omega arith)
bytes_begin (b ∷ bs) e long =
    let first = (and_parts (is_number_byte b) (list_all is_number_byte bs) e).0 in
    let blank = byte_no_blank b first in
    let quote = byte_no_quote b first in
    let comment = no_comment b bs first in
    λ i. not (blank i || quote i || comment i)

word_of_bytes : (w : List ℕ) → list_all is_number_byte w ≡ true → 0 < length w → IsWord w
word_of_bytes w e long = record {
  begins = bytes_begin w e long;
  unblank = none_pass is_blank w (all_weaker is_number_byte (λ b. not (is_blank b)) (λ b h. ap not (byte_no_blank b h)) w e);
  clean = none_pass is_stray w (all_weaker is_number_byte (λ b. not (is_stray b)) (λ b h. ap not (byte_no_stray b h)) w e);
}

number_is_word : (w : List ℕ) → IsNumberWord w → IsWord w
number_is_word w is = word_of_bytes w (number_bytes w is.0 is.1) (number_long w is.0 is.1)

-- ---- the digits of a number in a comment: no line ends in them, and no byte of them is stray

glyph_byte : (d : ℕ) → d < 10 → is_number_byte (digit_glyph false d) ≡ true
glyph_byte d h = let below : ltb d 10 ≡ true = grind (arith, nat_tests) in rw below (grind arith)

chosen_bytes : (last : Bool) (xs ys : List ℕ) → list_all is_number_byte xs ≡ true → list_all is_number_byte ys ≡ true → list_all is_number_byte (cond last xs ys) ≡ true
chosen_bytes true xs ys e f = e
chosen_bytes false xs ys e f = f

onto_bytes : (k n : ℕ) (acc : List ℕ) → list_all is_number_byte acc ≡ true → list_all is_number_byte (digits_onto k 10 false n acc) ≡ true
onto_bytes zero n acc e = e
onto_bytes (suc k) n acc e =
    let glyph = digit_glyph false (n % 10) in
    let longer : list_all is_number_byte (digit_glyph false (n % 10) ∷ acc) ≡ true =
    and_from (is_number_byte (digit_glyph false (n % 10))) (list_all is_number_byte acc) (glyph_byte (n % 10) (omega arith)) e in
    chosen_bytes (n / 10 == 0) (glyph ∷ acc) (digits_onto k 10 false (n / 10) (glyph ∷ acc)) longer (onto_bytes k (n / 10) (glyph ∷ acc) longer)

pub decimal_bytes : (n : ℕ) → list_all is_number_byte (decimal n) ≡ true
unfolding digits
decimal_bytes n = onto_bytes 64 n [] refl

-- ---- the shortest decimals of small counts

-- a word that is a number word with this count of so many decimals, and stands as a word
pub record Spells (decimals : ℕ) (w : List ℕ) (count : ℤ) : Type 0 where
  pub number : is_number_word w ≡ true
  pub counted : count_of decimals w ≡ count
  pub is_word : IsWord w

spells_exactly : (decimals : ℕ) (w : List ℕ) (count : ℤ) → IsExactly decimals w count → Spells decimals w count
spells_exactly decimals w count exact =
    let is : IsNumberWord w = (exact.parts, exact.has_parts) in record {
      number = (words_have_counts.words w).1 is;
      counted = sym (words_have_counts.only decimals w count (RoundsTo-from_exact decimals w count exact));
      is_word = number_is_word w is;
    }

pub shortest_spells : (decimals : ℕ) → decimals ≤ 12 → (count : ℤ) → is_small decimals count ≡ true → Spells decimals (shortest_decimal decimals count) count
shortest_spells decimals few count small =
    let below : unsigned_abs count < 1000000 * 10 ^ decimals = ltb-true (unsigned_abs count) (1000000 * 10 ^ decimals) small in
    spells_exactly decimals (shortest_decimal decimals count) count (exact-shortest_decimal decimals count few (omega (arith, below, pow-add 10 6 decimals)))

pub small_not_large : (decimals : ℕ) (w : List ℕ) (count : ℤ) → is_small decimals count ≡ true → Spells decimals w count → is_large decimals w ≡ false
small_not_large decimals w count small spells =
    ap (λ z. leb (1000000 * 10 ^ decimals) (unsigned_abs z)) spells.counted ∙ above (unsigned_abs count) (1000000 * 10 ^ decimals) small
  where
    above : (n limit : ℕ) → ltb n limit ≡ true → leb limit n ≡ false
    above n limit e = grind (arith, nat_tests)

-- ---- whole numbers

-- a whole number in millionths
abbrev pub millionths : ℤ → ℤ
millionths (pos n) = pos (n * 1000000)
millionths (negsuc n) = negsuc (n * 1000000 + 999999)

-- the digits of a number of 64 bits
record IsWritten (n : ℕ) : Type 0 where
  all_digits : AllDigits 10 (decimal n)
  some : 1 ≤ length (decimal n)
  value : digits_value 10 (decimal n) ≡ n
  few : length (decimal n) ≤ 20

written_digits : (n : ℕ) → n < 2 ^ 64 → IsWritten n
written_digits n fits =
    let numeral : IsNumeral 10 (decimal n) × (digits_value 10 (decimal n) ≡ n) = decimal_is_IsNumeral n fits in
    record { all_digits = numeral.0.1; some = numeral.0.0; value = numeral.1; few = length-decimal-le 20 n (omega arith) (omega arith) fits }

whole_parts : Bool → ℕ → Parts
whole_parts negative size = record { negative = negative; whole = decimal size; fraction = []; lowers = false; exponent = 0 }

has_whole_parts : (w sign : List ℕ) (negative : Bool) (size : ℕ) → w ≡ sign ++ (decimal size ++ []) → IsSign sign negative → length sign ≤ 1 → IsWritten size → HasParts w (whole_parts negative size)
unfolding whole_parts
has_whole_parts w sign negative size joined signed short written =
    let few : length (decimal size) ≤ 20 = written.few in
    let some : 1 ≤ length (decimal size) = written.some in
    record {
      sign = sign;
      pointed = [];
      power = [];
      joined = joined;
      short = omega (arith, ap length joined, length-append sign (decimal size ++ []), length-append (decimal size) [], short, few);
      signed = signed;
      whole_digits = written.all_digits;
      fraction_digits = inl (refl, refl);
      some_digit = omega (arith, some);
      scaled = inl (refl, refl, refl);
    }

whole_exact : (n value : ℕ) → value ≡ n → value * 10 ^ 0 * 10 ^ 6 ≡ n * 1000000 * 10 ^ 0
whole_exact n value e = omega (arith, e)

whole_is_exact : (z : ℤ) → unsigned_abs z < 2 ^ 64 → IsExactly 6 (signed_decimal z) (millionths z)
unfolding whole_parts
whole_is_exact (pos n) fits =
    let written = written_digits n fits in
    record {
      parts = whole_parts false n;
      has_parts = has_whole_parts (decimal n) [] false n (sym (append-nil (decimal n))) (inl refl) (omega arith) written;
      size = n * 1000000;
      exact = whole_exact n (digits_value 10 (decimal n ++ [])) (ap (digits_value 10) (append-nil (decimal n)) ∙ written.value);
      is_signed = refl;
    }
whole_is_exact (negsuc n) fits =
    let written = written_digits (suc n) fits in
    let size : suc (n * 1000000 + 999999) ≡ suc n * 1000000 = omega arith in
    record {
      parts = whole_parts true (suc n);
      has_parts = has_whole_parts (45 ∷ decimal (suc n)) (45 ∷ []) true (suc n) (ap (λ w. 45 ∷ w) (sym (append-nil (decimal (suc n))))) refl (omega arith) written;
      size = suc n * 1000000;
      exact = whole_exact (suc n) (digits_value 10 (decimal (suc n) ++ [])) (ap (digits_value 10) (append-nil (decimal (suc n))) ∙ written.value);
      is_signed = ap (λ m. neg_ℤ (pos m)) size;
    }

-- a whole number that is spelled: it is whole, and it is this one
pub record SpellsWhole (w : List ℕ) (z : ℤ) : Type 0 where
  pub spells : Spells 6 w (millionths z)
  pub whole : is_whole w ≡ true
  pub value : whole_of w ≡ z

no_rest : (z : ℤ) → int_eq (int_rem (millionths z) (pos 1000000)) (pos 0) ≡ true
no_rest (pos n) = let rest : n * 1000000 % 1000000 ≡ 0 = omega arith in rw rest refl
no_rest (negsuc n) = let rest : suc (n * 1000000 + 999999) % 1000000 ≡ 0 = omega arith in rw rest refl

quotient : (z : ℤ) → int_div (millionths z) (pos 1000000) ≡ z
quotient (pos n) = let whole : n * 1000000 / 1000000 ≡ n = omega arith in rw whole refl
quotient (negsuc n) = let whole : suc (n * 1000000 + 999999) / 1000000 ≡ suc n = omega arith in rw whole refl

pub whole_spells : (z : ℤ) → unsigned_abs z < 2 ^ 64 → SpellsWhole (signed_decimal z) z
whole_spells z fits =
    let spells : Spells 6 (signed_decimal z) (millionths z) = spells_exactly 6 (signed_decimal z) (millionths z) (whole_is_exact z fits) in
    record {
      spells = spells;
      whole = ap (λ c. int_eq (int_rem c (pos 1000000)) (pos 0)) spells.counted ∙ no_rest z;
      value = ap (λ c. int_div c (pos 1000000)) spells.counted ∙ quotient z;
    }

-- a coordinate
pub coordinate_spells : (z : ℤ) → leb (nat_abs z) 4352 ≡ true → SpellsWhole (signed_decimal z) z
coordinate_spells z e = whole_spells z (fits (nat_abs z) e)
  where
    fits : (n : ℕ) → leb n 4352 ≡ true → n < 2 ^ 64
    fits n e = grind (arith, nat_tests)
