-- A key that joins the protected ones, or leaves them, leaves them right.
use Rattle.std.proofs.Common.{◌≡◌, ℕ, List, [], ◌∷◌, ◌++◌, length, Bool, true, false, cond, not, ◌==◌, ◌&&◌, ◌||◌, refl, ap, sym, ◌∙◌}
use Rattle.std.specs.List.{list_all, list_any, join_with_byte}
use Rattle.std.specs.Prelude.{filter}
use Rattle.std.specs.Str.{bytes_eq}
use Rattle.std.proofs.lemmas.Bool.{and_parts, and_from, or_parts, true≢false}
use Rattle.std.proofs.lemmas.Slice.Eq.{bytes_eq-Decides}
use Rattle.map_lex.specs.Bytes.{is_stray}
use Rattle.map_lex.specs.OneToken.{quotes_are_escaped, is_value_text}
use Rattle.map_model.specs.Shape.{ProtectedOk, texts_are_distinct, can_be_protected, joined_keys}
use Rattle.map_model.specs.Props.{is_text_among, is_file_key, is_reserved_key, classname, origin}
use Rattle.map_model.specs.Own.{with_key, without_text}
use Rattle.map_write.proofs.Tests.{all_parts}
use Rattle.map_laws.proofs.Slots.{by_bool}

-- Texts with `;` between them.
all_append : (t : ℕ → Bool) (xs ys : List ℕ) → list_all t xs ≡ true → list_all t ys ≡ true → list_all t (xs ++ ys) ≡ true
all_append t [] ys e f = f
all_append t (x ∷ xs) ys e f = let k = and_parts (t x) (list_all t xs) e in and_from (t x) (list_all t (xs ++ ys)) k.0 (all_append t xs ys k.1 f)

quotes_append : (previous : ℕ) (xs ys : List ℕ) → quotes_are_escaped previous xs ≡ true → quotes_are_escaped 59 ys ≡ true → quotes_are_escaped previous (xs ++ 59 ∷ ys) ≡ true
quotes_append previous [] ys e f = f
quotes_append previous (x ∷ xs) ys e f =
    let k = and_parts (not (x == 34) || (previous == 92)) (quotes_are_escaped x xs) e in
    and_from (not (x == 34) || (previous == 92)) (quotes_are_escaped x (xs ++ 59 ∷ ys)) k.0 (quotes_append x xs ys k.1 f)

quotes_later : (ys : List ℕ) → quotes_are_escaped 34 ys ≡ true → quotes_are_escaped 59 ys ≡ true
quotes_later [] e = refl
quotes_later (y ∷ ys) e = e

value_append : (xs ys : List ℕ) → is_value_text xs ≡ true → is_value_text ys ≡ true → is_value_text (xs ++ 59 ∷ ys) ≡ true
value_append xs ys e f =
    let k = and_parts (quotes_are_escaped 34 xs) (list_all (λ b. not (b == 10) && not (is_stray b)) xs) e in
    let l = and_parts (quotes_are_escaped 34 ys) (list_all (λ b. not (b == 10) && not (is_stray b)) ys) f in
    and_from (quotes_are_escaped 34 (xs ++ 59 ∷ ys)) (list_all (λ b. not (b == 10) && not (is_stray b)) (xs ++ 59 ∷ ys)) (quotes_append 34 xs ys k.0 (quotes_later ys l.0))
    (all_append (λ b. not (b == 10) && not (is_stray b)) xs (59 ∷ ys) k.1 l.1)

-- The keys with one more behind them.
longer : (x y z : List ℕ) → (x ++ 59 ∷ y) ++ 59 ∷ z ≡ x ++ 59 ∷ (y ++ 59 ∷ z)
longer [] y z = refl
longer (b ∷ x) y z = ap (λ l. b ∷ l) (longer x y z)

joined_more : (k : List ℕ) (keys : List (List ℕ)) (key : List ℕ) → join_with_byte 59 ((k ∷ keys) ++ key ∷ []) ≡ join_with_byte 59 (k ∷ keys) ++ 59 ∷ key
joined_more k [] key = refl
joined_more k (l ∷ keys) key = ap (λ t. k ++ 59 ∷ t) (joined_more l keys key) ∙ sym (longer k (join_with_byte 59 (l ∷ keys)) key)

joined_value : (keys : List (List ℕ)) (key : List ℕ) → is_value_text (joined_keys keys) ≡ true → is_value_text key ≡ true → is_value_text (joined_keys (keys ++ key ∷ [])) ≡ true
joined_value [] key e f = f
joined_value (k ∷ keys) key e f = ap is_value_text (joined_more k keys key) ∙ value_append (join_with_byte 59 (k ∷ keys)) key e f

other_way : (a b : List ℕ) → bytes_eq a b ≡ false → bytes_eq b a ≡ false
other_way a b e = by_bool (bytes_eq b a)
    (λ f. absurd (true≢false (sym ((bytes_eq-Decides a b).1 (sym ((bytes_eq-Decides b a).0 f))) ∙ e)))
    (λ f. f)

not_among : (t : List ℕ) (ts : List (List ℕ)) (key : List ℕ) → is_text_among t ts ≡ false → bytes_eq t key ≡ false → is_text_among t (ts ++ key ∷ []) ≡ false
not_among t [] key e f = ap (λ b. b || false) f
not_among t (x ∷ ts) key e f =
    let k = or_parts (bytes_eq t x) (is_text_among t ts) e in
    (λ i. k.0 i || not_among t ts key k.1 f i)

distinct_more : (keys : List (List ℕ)) (key : List ℕ) → texts_are_distinct keys ≡ true → is_text_among key keys ≡ false → texts_are_distinct (keys ++ key ∷ []) ≡ true
distinct_more [] key e f = refl
distinct_more (t ∷ ts) key e f =
    let k = and_parts (not (is_text_among t ts)) (texts_are_distinct ts) e in
    let l = or_parts (bytes_eq key t) (is_text_among key ts) f in
    and_from (not (is_text_among t (ts ++ key ∷ []))) (texts_are_distinct (ts ++ key ∷ []))
    (ap not (not_among t ts key (not_is (is_text_among t ts) k.0) (other_way key t l.0))) (distinct_more ts key k.1 l.1)
  where
    not_is : (b : Bool) → not b ≡ true → b ≡ false
    not_is true e = absurd (true≢false (sym e))
    not_is false e = refl

each_more : (keys : List (List ℕ)) (key : List ℕ) → list_all can_be_protected keys ≡ true → can_be_protected key ≡ true → list_all can_be_protected (keys ++ key ∷ []) ≡ true
each_more [] key e f = and_from (can_be_protected key) true f refl
each_more (t ∷ ts) key e f = let k = and_parts (can_be_protected t) (list_all can_be_protected ts) e in and_from (can_be_protected t) (list_all can_be_protected (ts ++ key ∷ [])) k.0 (each_more ts key k.1 f)

pub key_joins : (keys : List (List ℕ)) (key : List ℕ) → ProtectedOk keys → is_value_text key ≡ true → can_be_protected key ≡ true → ProtectedOk (with_key key keys)
key_joins keys key ok value can = by (is_text_among key keys) refl
  where
    by : (b : Bool) → is_text_among key keys ≡ b → ProtectedOk (cond b keys (keys ++ key ∷ []))
    by true e = ok
    by false e = record { distinct = distinct_more keys key ok.distinct e; each = each_more keys key ok.each can; joined = joined_value keys key ok.joined value }

-- What the row of reserved keys tells.
pub may_be_protected : (key : List ℕ) → (length key == 0) ≡ false → (is_file_key key || (bytes_eq key classname || (bytes_eq key origin || list_any (λ b. b == 59) key))) ≡ false → can_be_protected key ≡ true
may_be_protected key some row =
    let a = or_parts (is_file_key key) _ row in
    let c = or_parts (bytes_eq key classname) _ a.1 in
    let o = or_parts (bytes_eq key origin) (list_any (λ b. b == 59) key) c.1 in
    (λ i. not (some i) && (not (c.0 i || (o.0 i || a.0 i)) && not (o.1 i)))

-- A key that leaves. ------------------------------------------------------------------------------------------------------------------------

quotes_parts : (previous : ℕ) (xs ys : List ℕ) → quotes_are_escaped previous (xs ++ 59 ∷ ys) ≡ true → (quotes_are_escaped previous xs ≡ true) × (quotes_are_escaped 59 ys ≡ true)
quotes_parts previous [] ys e = (refl, e)
quotes_parts previous (x ∷ xs) ys e =
    let k = and_parts (not (x == 34) || (previous == 92)) (quotes_are_escaped x (xs ++ 59 ∷ ys)) e in
    let l = quotes_parts x xs ys k.1 in
    (and_from (not (x == 34) || (previous == 92)) (quotes_are_escaped x xs) k.0 l.0, l.1)

quotes_sooner : (ys : List ℕ) → quotes_are_escaped 59 ys ≡ true → quotes_are_escaped 34 ys ≡ true
quotes_sooner [] e = refl
quotes_sooner (y ∷ ys) e = e

value_parts : (xs ys : List ℕ) → is_value_text (xs ++ 59 ∷ ys) ≡ true → (is_value_text xs ≡ true) × (is_value_text ys ≡ true)
value_parts xs ys e =
    let k = and_parts (quotes_are_escaped 34 (xs ++ 59 ∷ ys)) (list_all (λ b. not (b == 10) && not (is_stray b)) (xs ++ 59 ∷ ys)) e in
    let q = quotes_parts 34 xs ys k.0 in
    let a = all_parts (λ b. not (b == 10) && not (is_stray b)) xs (59 ∷ ys) k.1 in (
      and_from (quotes_are_escaped 34 xs) (list_all (λ b. not (b == 10) && not (is_stray b)) xs) q.0 a.0,
      and_from (quotes_are_escaped 34 ys) (list_all (λ b. not (b == 10) && not (is_stray b)) ys) (quotes_sooner ys q.1) a.1,
    )

values_of_joined : (keys : List (List ℕ)) → is_value_text (joined_keys keys) ≡ true → list_all is_value_text keys ≡ true
values_of_joined [] e = refl
values_of_joined (k ∷ []) e = and_from (is_value_text k) true e refl
values_of_joined (k ∷ l ∷ keys) e =
    let p = value_parts k (join_with_byte 59 (l ∷ keys)) e in and_from (is_value_text k) (list_all is_value_text (l ∷ keys)) p.0 (values_of_joined (l ∷ keys) p.1)

joined_of_values : (keys : List (List ℕ)) → list_all is_value_text keys ≡ true → is_value_text (joined_keys keys) ≡ true
joined_of_values [] e = refl
joined_of_values (k ∷ []) e = (and_parts (is_value_text k) true e).0
joined_of_values (k ∷ l ∷ keys) e =
    let p = and_parts (is_value_text k) (list_all is_value_text (l ∷ keys)) e in value_append k (join_with_byte 59 (l ∷ keys)) p.0 (joined_of_values (l ∷ keys) p.1)

module _ (keep : List ℕ → Bool) where
  all_kept : (t : List ℕ → Bool) (keys : List (List ℕ)) → list_all t keys ≡ true → list_all t (filter keep keys) ≡ true
  all_kept t [] e = refl
  all_kept t (x ∷ keys) e =
      let p = and_parts (t x) (list_all t keys) e in
      by_bool (keep x)
      (λ f. ap (λ b. list_all t (cond b (x ∷ filter keep keys) (filter keep keys))) f ∙ and_from (t x) (list_all t (filter keep keys)) p.0 (all_kept t keys p.1))
      (λ f. ap (λ b. list_all t (cond b (x ∷ filter keep keys) (filter keep keys))) f ∙ all_kept t keys p.1)

  none_kept : (t : List ℕ) (keys : List (List ℕ)) → is_text_among t keys ≡ false → is_text_among t (filter keep keys) ≡ false
  none_kept t [] e = refl
  none_kept t (x ∷ keys) e =
      let p = or_parts (bytes_eq t x) (is_text_among t keys) e in
      by_bool (keep x)
      (λ f. ap (λ b. is_text_among t (cond b (x ∷ filter keep keys) (filter keep keys))) f ∙ (λ i. p.0 i || none_kept t keys p.1 i))
      (λ f. ap (λ b. is_text_among t (cond b (x ∷ filter keep keys) (filter keep keys))) f ∙ none_kept t keys p.1)

  distinct_kept : (keys : List (List ℕ)) → texts_are_distinct keys ≡ true → texts_are_distinct (filter keep keys) ≡ true
  distinct_kept [] e = refl
  distinct_kept (x ∷ keys) e =
      let p = and_parts (not (is_text_among x keys)) (texts_are_distinct keys) e in
      by_bool (keep x)
      (λ f. ap (λ b. texts_are_distinct (cond b (x ∷ filter keep keys) (filter keep keys))) f
      ∙ and_from (not (is_text_among x (filter keep keys))) (texts_are_distinct (filter keep keys)) (ap not (none_kept x keys (not_is (is_text_among x keys) p.0))) (distinct_kept keys p.1))
      (λ f. ap (λ b. texts_are_distinct (cond b (x ∷ filter keep keys) (filter keep keys))) f ∙ distinct_kept keys p.1)
    where
      not_is : (b : Bool) → not b ≡ true → b ≡ false
      not_is true e = absurd (true≢false (sym e))
      not_is false e = refl

pub key_leaves : (keys : List (List ℕ)) (key : List ℕ) → ProtectedOk keys → ProtectedOk (without_text key keys)
key_leaves keys key ok =
    let keep = λ (k : List ℕ). not (bytes_eq k key) in
    record {
      distinct = distinct_kept keep keys ok.distinct;
      each = all_kept keep can_be_protected keys ok.each;
      joined = joined_of_values (filter keep keys) (all_kept keep is_value_text keys (values_of_joined keys ok.joined));
    }

-- Another key is among the protected ones still.
pub still_without : (k key : List ℕ) (keys : List (List ℕ)) → bytes_eq k key ≡ false → is_text_among k (without_text key keys) ≡ false → is_text_among k keys ≡ false
still_without k key [] ne e = refl
still_without k key (x ∷ keys) ne e = by_bool (bytes_eq x key)
    (λ f. let rest = sym (ap (λ b. is_text_among k (cond (not b) (x ∷ without_text key keys) (without_text key keys))) f) ∙ e in
    (λ i. (ap (bytes_eq k) ((bytes_eq-Decides x key).0 f) ∙ ne) i || still_without k key keys ne rest i))
    (λ f. let p = or_parts (bytes_eq k x) (is_text_among k (without_text key keys)) (sym (ap (λ b. is_text_among k (cond (not b) (x ∷ without_text key keys) (without_text key keys))) f) ∙ e) in
    (λ i. p.0 i || still_without k key keys ne p.1 i))

-- A protected key is none of those that can't be.
pub protected_can : (keys : List (List ℕ)) (key : List ℕ) → list_all can_be_protected keys ≡ true → is_text_among key keys ≡ true → can_be_protected key ≡ true
protected_can [] key all e = absurd (true≢false (sym e))
protected_can (x ∷ keys) key all e =
    let p = and_parts (can_be_protected x) (list_all can_be_protected keys) all in
    by_bool (bytes_eq key x)
    (λ f. ap can_be_protected ((bytes_eq-Decides key x).0 f) ∙ p.0)
    (λ f. protected_can keys key p.1 (sym (ap (λ b. b || is_text_among key keys) f) ∙ e))

pub record PlainKey (key : List ℕ) : Type 0 where
  pub file : is_file_key key ≡ false
  pub origin : bytes_eq key origin ≡ false

pub plain_key : (key : List ℕ) → can_be_protected key ≡ true → PlainKey key
plain_key key e =
    let r = and_parts (not (is_reserved_key key)) (not (list_any (λ b. b == 59) key)) (and_parts (not (length key == 0)) (not (is_reserved_key key) && not (list_any (λ b. b == 59) key)) e).1 in
    let c = or_parts (bytes_eq key classname) _ (not_is (is_reserved_key key) r.0) in
    let o = or_parts (bytes_eq key origin) (is_file_key key) c.1 in
    record { file = o.1; origin = o.0 }
  where
    not_is : (b : Bool) → not b ≡ true → b ≡ false
    not_is true e = absurd (true≢false (sym e))
    not_is false e = refl
