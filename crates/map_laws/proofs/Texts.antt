-- Texts that are one token where they are saved: those that a line gives, and the numbers of an origin.
use Rattle.std.proofs.Common.{◌≡◌, ◌≢◌, ℕ, ◌+◌, ◌<◌, ◌≤◌, List, [], ◌∷◌, ◌++◌, length, Bool, true, false, not, ◌==◌, ◌&&◌, ◌||◌, inl, inr, refl, ap, sym, subst, ◌∙◌, arith, eqb-true}
use Rattle.std.specs.Prelude.{ℤ, pos, negsuc, zero, suc, cond, ◌/◌, nat_lt, unsigned_abs, ◌%◌, ◌^◌}
use Rattle.std.specs.List.{list_all, list_any, join_with_byte}
use Rattle.std.specs.Fmt.{decimal, signed_decimal}
use Rattle.std.proofs.lemmas.Bool.{and_parts, and_from, or_cases, or_parts, ne_eqb, eq-eqb, ltb-true, ltb-false, lt-ltb, le-ltb}
use Rattle.std.proofs.Math.Nat.{div-le_self}
use Rattle.std.proofs.lemmas.Fmt.{decimal_by_steps}
use Rattle.std.proofs.lemmas.List.Folds.{list_all-append}
use Rattle.map_lex.specs.Bytes.{is_blank, is_stray}
use Rattle.map_lex.specs.OneToken.{quotes_are_escaped, is_value_text, is_key_text, is_material_text, needs_quotes, begins_with_quote, ends_with_backslash}
use Rattle.algebra.specs.Space.{Vector}
use Rattle.fixed_num.specs.Shortest.{shortest_decimal, minus_of, places, fraction_text}
use Rattle.cmd_text.specs.Cut.{is_quote, is_stray as is_line_stray}
use Rattle.cmd_text.specs.Kept.{IsPoint, IsText, IsNameText}
use Rattle.cmd_text.specs.Spelling.{is_name}
use Rattle.map_model.specs.Commands.{point_in}
use Rattle.map_model.specs.Own.{point_text}
use Rattle.map_model.specs.Origins.{written_origin}
use Rattle.map_laws.proofs.Slots.{by_bool}

-- A byte that may stand anywhere in a value: no quote, no line feed, and none that is stray.
pub record Fair (b : ℕ) : Type 0 where
  pub no_quote : (b == 34) ≡ false
  pub fine : (not (b == 10) && not (is_stray b)) ≡ true

no_quotes : (p : ℕ → Bool) → ((b : ℕ) → p b ≡ true → Fair b) → (previous : ℕ) (text : List ℕ) → list_all p text ≡ true → quotes_are_escaped previous text ≡ true
no_quotes p fair previous [] e = refl
no_quotes p fair previous (b ∷ text) e =
    let parts = and_parts (p b) (list_all p text) e in
    (λ i. (not ((fair b parts.0).no_quote i) || (previous == 92)) && quotes_are_escaped b text) ∙ no_quotes p fair b text parts.1

all_fine : (p : ℕ → Bool) → ((b : ℕ) → p b ≡ true → Fair b) → (text : List ℕ) → list_all p text ≡ true → list_all (λ b. not (b == 10) && not (is_stray b)) text ≡ true
all_fine p fair [] e = refl
all_fine p fair (b ∷ text) e =
    let parts = and_parts (p b) (list_all p text) e in
    and_from (not (b == 10) && not (is_stray b)) (list_all (λ b. not (b == 10) && not (is_stray b)) text) (fair b parts.0).fine (all_fine p fair text parts.1)

-- A text of fair bytes is a value.
pub fair_value : (p : ℕ → Bool) → ((b : ℕ) → p b ≡ true → Fair b) → (text : List ℕ) → list_all p text ≡ true → is_value_text text ≡ true
fair_value p fair text e =
    and_from (quotes_are_escaped 34 text) (list_all (λ b. not (b == 10) && not (is_stray b)) text) (no_quotes p fair 34 text e) (all_fine p fair text e)

-- The bytes of numbers, with the blanks between them.
abbrev is_calm : ℕ → Bool
is_calm b = nat_lt 34 b || (b == 32)

fair_from : (b : ℕ) → b ≢ 34 → 32 ≤ b → Fair b
fair_from b ne most = record {
  no_quote = ne_eqb b 34 ne;
  fine = (λ i. not (ne_eqb b 10 (λ e. omega arith) i) && not (le-ltb b 32 most i && not (is_blank b)));
}

calm_fair : (b : ℕ) → is_calm b ≡ true → Fair b
calm_fair b e = elim (or_cases (nat_lt 34 b) (b == 32) e) [
  | inl lt ↦ fair_from b (λ s. omega (arith, ltb-true 34 b lt)) (omega (arith, ltb-true 34 b lt))
  | inr is ↦ fair_from b (λ s. omega (arith, eqb-true b 32 is)) (omega (arith, eqb-true b 32 is))
]

calm_digit : (d : ℕ) → is_calm (48 + d) ≡ true
calm_digit d = ap (λ x. x || ((48 + d) == 32)) (lt-ltb 34 (48 + d) (omega arith))

calm_all : (xs ys : List ℕ) → list_all is_calm xs ≡ true → list_all is_calm ys ≡ true → list_all is_calm (xs ++ ys) ≡ true
calm_all xs ys e f = list_all-append is_calm xs ys ∙ and_from (list_all is_calm xs) (list_all is_calm ys) e f

calm_one : (d : ℕ) → list_all is_calm ((48 + d) ∷ []) ≡ true
calm_one d = and_from (is_calm (48 + d)) true (calm_digit d) refl

calm_decimal : (n : ℕ) → n < 2 ^ 64 → list_all is_calm (decimal n) ≡ true
calm_decimal n h = decimal_by_steps (λ n ds. list_all is_calm ds ≡ true) (λ n lt. calm_one n) (λ n ds ge rest. calm_all ds ((48 + n % 10) ∷ []) rest (calm_one (n % 10))) n h

calm_signed : (z : ℤ) → unsigned_abs z ≤ 4352 → list_all is_calm (signed_decimal z) ≡ true
calm_signed (pos n) h = calm_decimal n (omega arith)
calm_signed (negsuc n) h = and_from true (list_all is_calm (decimal (suc n))) refl (calm_decimal (suc n) (omega arith))

-- The texts of a line.
no_clash : (b : Bool) → b ≡ true → not b ≡ true → ⊥
no_clash b e f = cc

abbrev is_plain : ℕ → Bool
is_plain b = not (is_quote b) && not (is_line_stray b)

plain_fair : (b : ℕ) → is_plain b ≡ true → Fair b
plain_fair b e =
    let k = and_parts (not (is_quote b)) (not (is_line_stray b)) e in
    by_bool (nat_lt b 32)
    (λ low. tab b (λ t. no_clash (is_line_stray b) (and_from (nat_lt b 32) (not (b == 9)) low t) k.1))
    (λ high. fair_from b (λ s. no_clash (is_quote b) (eq-eqb b 34 s) k.0) (ltb-false b 32 high))
  where
    tab : (b : ℕ) → (not (b == 9) ≡ true → ⊥) → Fair b
    tab b h = by_bool (b == 9) (λ e. subst Fair (sym (eqb-true b 9 e)) (record { no_quote = refl; fine = refl })) (λ e. absurd (h (ap not e)))

all_plain : (text : List ℕ) → list_all (λ b. not (is_quote b)) text ≡ true → list_any is_line_stray text ≡ false → list_all is_plain text ≡ true
all_plain [] e f = refl
all_plain (b ∷ text) e f =
    let k = and_parts (not (is_quote b)) (list_all (λ b. not (is_quote b)) text) e in
    let l = or_parts (is_line_stray b) (list_any is_line_stray text) f in
    and_from (is_plain b) (list_all is_plain text) (and_from (not (is_quote b)) (not (is_line_stray b)) k.0 (ap not l.0)) (all_plain text k.1 l.1)

pub text_value : (text : List ℕ) → IsText text → is_value_text text ≡ true
text_value text h = fair_value is_plain plain_fair text (all_plain text h.no_quote h.no_stray)

pub name_value : (name : List ℕ) → IsNameText name → is_value_text name ≡ true
name_value name h = text_value name h.is_text

pub name_key : (name : List ℕ) → IsNameText name → is_key_text name ≡ true
unfolding is_name
name_key name h = and_from (is_value_text name) (not (ends_with_backslash name)) (name_value name h) (and_parts (nat_lt 0 (length name)) (not (ends_with_backslash name)) h.name).1

-- A name is a material that can be saved.
either_way : (t a b : Bool) → a ≡ true → b ≡ true → cond t a b ≡ true
either_way true a b e f = e
either_way false a b e f = f

no_strays : (text : List ℕ) → list_all is_plain text ≡ true → list_all (λ b. not (is_stray b)) text ≡ true
no_strays [] e = refl
no_strays (b ∷ text) e =
    let k = and_parts (is_plain b) (list_all is_plain text) e in
    and_from (not (is_stray b)) (list_all (λ b. not (is_stray b)) text) (and_parts (not (b == 10)) (not (is_stray b)) (plain_fair b k.0).fine).1 (no_strays text k.1)

no_first_quote : (text : List ℕ) → list_all is_plain text ≡ true → not (begins_with_quote text) ≡ true
no_first_quote [] e = refl
no_first_quote (b ∷ text) e = ap not ((plain_fair b (and_parts (is_plain b) (list_all is_plain text) e).0).no_quote)

pub name_material : (name : List ℕ) → IsNameText name → is_material_text name ≡ true
name_material name h =
    let plain = all_plain name h.is_text.no_quote h.is_text.no_stray in
    either_way (needs_quotes name) (is_key_text name) (not (begins_with_quote name) && list_all (λ b. not (is_stray b)) name) (name_key name h)
    (and_from (not (begins_with_quote name)) (list_all (λ b. not (is_stray b)) name) (no_first_quote name plain) (no_strays name plain))

pub name_some : (name : List ℕ) → IsNameText name → (length name == 0) ≡ false
unfolding is_name
name_some name h =
    let some = ltb-true 0 (length name) (and_parts (nat_lt 0 (length name)) (not (ends_with_backslash name)) h.name).0 in
    ne_eqb (length name) 0 (λ e. omega arith)

-- Three coordinates, with a blank between two.
point_value : (x y z : ℤ) → unsigned_abs x ≤ 4352 → unsigned_abs y ≤ 4352 → unsigned_abs z ≤ 4352 → is_value_text (join_with_byte 32 (signed_decimal x ∷ signed_decimal y ∷ signed_decimal z ∷ [])) ≡ true
point_value x y z hx hy hz =
    fair_value is_calm calm_fair (join_with_byte 32 (signed_decimal x ∷ signed_decimal y ∷ signed_decimal z ∷ []))
    (calm_all (signed_decimal x) _ (calm_signed x hx) (and_from true _ refl (calm_all (signed_decimal y) _ (calm_signed y hy) (and_from true _ refl (calm_signed z hz)))))

pub place_value : (at : List ℤ) → IsPoint at → is_value_text (point_text (point_in at)) ≡ true
place_value [] h = point_value (pos 0) (pos 0) (pos 0) (omega arith) (omega arith) (omega arith)
place_value (x ∷ []) h = point_value x (pos 0) (pos 0) h.0 (omega arith) (omega arith)
place_value (x ∷ y ∷ []) h = point_value x y (pos 0) h.0 h.1.0 (omega arith)
place_value (x ∷ y ∷ z ∷ more) h = point_value x y z h.0 h.1.0 h.1.1.0

-- The moved place of an entity, in decimals.
calm_places : (decimals rest : ℕ) → list_all is_calm (places decimals rest) ≡ true
calm_places zero rest = refl
calm_places (suc n) rest = elim (rest == 0) as (λ b. list_all is_calm (cond b [] ((48 + rest / 10 ^ n) ∷ places n (rest % 10 ^ n))) ≡ true) [
  | true ↦ refl
  | false ↦ and_from (is_calm (48 + rest / 10 ^ n)) (list_all is_calm (places n (rest % 10 ^ n))) (calm_digit (rest / 10 ^ n)) (calm_places n (rest % 10 ^ n))
]

calm_fraction : (decimals rest : ℕ) → list_all is_calm (fraction_text decimals rest) ≡ true
calm_fraction decimals rest = elim (rest == 0) as (λ b. list_all is_calm (cond b [] (46 ∷ places decimals rest)) ≡ true) [
  | true ↦ refl
  | false ↦ and_from true (list_all is_calm (places decimals rest)) refl (calm_places decimals rest)
]

calm_minus : (z : ℤ) → list_all is_calm (minus_of z) ≡ true
calm_minus (pos n) = refl
calm_minus (negsuc n) = refl

calm_shortest : (z : ℤ) → unsigned_abs z < 1000000000000 → list_all is_calm (shortest_decimal 6 z) ≡ true
calm_shortest z h =
    calm_all (minus_of z) _ (calm_minus z) (calm_all (decimal (unsigned_abs z / 1000000)) _ (calm_decimal (unsigned_abs z / 1000000) (omega (arith, div-le_self (unsigned_abs z) 1000000))) (calm_fraction 6 (unsigned_abs z % 1000000)))

pub written_value : (v : Vector) → unsigned_abs v.x < 1000000000000 → unsigned_abs v.y < 1000000000000 → unsigned_abs v.z < 1000000000000 → is_value_text (written_origin v) ≡ true
written_value v hx hy hz =
    fair_value is_calm calm_fair (written_origin v)
    (calm_all (shortest_decimal 6 v.x) _ (calm_shortest v.x hx) (and_from true _ refl (calm_all (shortest_decimal 6 v.y) _ (calm_shortest v.y hy) (and_from true _ refl (calm_shortest v.z hz)))))
