-- What is read of an entity that a text can spell is a node of a map.
use Rattle.std.proofs.Common.{◌≡◌, ℕ, zero, suc, Bool, true, false, cond, not, ◌==◌, ◌&&◌, ◌||◌, List, [], ◌∷◌, ◌++◌, length, refl, ap, sym, ◌∙◌, subst, inl, inr, bytes_eq, codes}
use Rattle.std.specs.Prelude.{filter, Option, Some, None}
use Rattle.std.specs.Option.{option_map_or}
use Rattle.std.specs.List.{list_any, list_all, join_with_byte}
use Rattle.std.proofs.lemmas.Bool.{cases_Bool, cases_eq, eqb-true, eq-eqb, ne_eqb, both_ways, and_parts, and_from, or_cases, or_left, or_right, or_from, not-true, not-false, false_from_ne_true, cond-true, cond-false}
use Rattle.std.proofs.lemmas.Slice.Eq.{bytes_eq-Decides}
use Rattle.uv_lock.specs.declared.texture.Format.{Format}
use Rattle.map_lex.specs.Bytes.{is_stray}
use Rattle.map_lex.specs.OneToken.{is_value_text, is_key_text, quotes_are_escaped}
use Rattle.map_text.specs.Spelled.{keys_are_distinct}
use Rattle.map_model.specs.Tree.{Props, Kind, world, layer, group, entity, brush, same_kind}
use Rattle.map_model.specs.Props.{value_at, is_text_among, is_reserved_key}
use Rattle.map_model.specs.Shape.{PropsOk, ProtectedOk, NodeOk, taken_keys, is_plain_type, texts_are_distinct, can_be_protected, joined_keys}
use Rattle.map_model.specs.Brushes.{first_of_each}
use Rattle.file_laws.specs.Numbers.{pieces_at, put_first}
use Rattle.file_laws.specs.Readings.{stays, kept_props, text_in, protects, protected_in, kind_of_type, kind_in, node_in}

-- ---- lists

all_filter : {A : Type 0} (p q : A → Bool) (xs : List A) → list_all p xs ≡ true → list_all p (filter q xs) ≡ true
all_filter p q [] h = refl
all_filter p q (x ∷ xs) h =
    let r = and_parts (p x) (list_all p xs) h in
    elim (cases_Bool (q x)) [
      | inl e ↦ rw e (and_from (p x) (list_all p (filter q xs)) r.0 (all_filter p q xs r.1))
      | inr e ↦ rw e (all_filter p q xs r.1)
    ]

passes_filter : {A : Type 0} (q : A → Bool) (xs : List A) → list_all q (filter q xs) ≡ true
passes_filter q [] = refl
passes_filter q (x ∷ xs) = elim (cases_Bool (q x)) [
  | inl e ↦ rw e (and_from (q x) (list_all q (filter q xs)) e (passes_filter q xs))
  | inr e ↦ rw e (passes_filter q xs)
]

all_firsts : {A : Type 0} (p : A → Bool) (same : A → A → Bool) (xs : List A) → list_all p xs ≡ true → list_all p (first_of_each same xs) ≡ true
all_firsts p same [] h = refl
all_firsts p same (x ∷ xs) h =
    let r = and_parts (p x) (list_all p xs) h in
    and_from (p x) (list_all p (filter (λ y. not (same x y)) (first_of_each same xs))) r.0 (all_filter p (λ y. not (same x y)) (first_of_each same xs) (all_firsts p same xs r.1))

all_more : {A : Type 0} (p q : A → Bool) (xs : List A) → ((x : A) → p x ≡ true → q x ≡ true) → list_all p xs ≡ true → list_all q xs ≡ true
all_more p q [] f h = refl
all_more p q (x ∷ xs) f h = let r = and_parts (p x) (list_all p xs) h in and_from (q x) (list_all q xs) (f x r.0) (all_more p q xs f r.1)

all_two : {A : Type 0} (p q : A → Bool) (xs : List A) → list_all p xs ≡ true → list_all q xs ≡ true → list_all (λ x. p x && q x) xs ≡ true
all_two p q [] h k = refl
all_two p q (x ∷ xs) h k =
    let r = and_parts (p x) (list_all p xs) h in let s = and_parts (q x) (list_all q xs) k in
    and_from (p x && q x) (list_all (λ y. p y && q y) xs) (and_from (p x) (q x) r.0 s.0) (all_two p q xs r.1 s.1)

-- ---- properties

keys_filter : (q : List ℕ × List ℕ → Bool) (ps : Props) → keys_are_distinct ps ≡ true → keys_are_distinct (filter q ps) ≡ true
keys_filter q [] h = refl
keys_filter q (p ∷ ps) h =
    let r = and_parts (list_all (λ x. not (bytes_eq x.0 p.0)) ps) (keys_are_distinct ps) h in
    elim (cases_Bool (q p)) [
      | inl e ↦ rw e (and_from (list_all (λ x. not (bytes_eq x.0 p.0)) (filter q ps)) (keys_are_distinct (filter q ps)) (all_filter (λ x. not (bytes_eq x.0 p.0)) q ps r.0) (keys_filter q ps r.1))
      | inr e ↦ rw e (keys_filter q ps r.1)
    ]

-- Properties that a text can spell.
pub record Spelled (ps : Props) : Type 0 where
  pub distinct : keys_are_distinct ps ≡ true
  pub each : list_all (λ p. is_key_text p.0 && is_value_text p.1) ps ≡ true

pub kept_ok : (k : Kind) (ps : Props) → Spelled ps → PropsOk k (kept_props k ps)
kept_ok k ps s = record {
  distinct = keys_filter (stays k) ps s.distinct;
  keys = all_filter (λ p. is_key_text p.0) (stays k) ps (all_more (λ p. is_key_text p.0 && is_value_text p.1) (λ p. is_key_text p.0) ps (λ p h. (and_parts (is_key_text p.0) (is_value_text p.1) h).0) s.each);
  values = all_filter (λ p. is_value_text p.1) (stays k) ps (all_more (λ p. is_key_text p.0 && is_value_text p.1) (λ p. is_value_text p.1) ps (λ p h. (and_parts (is_key_text p.0) (is_value_text p.1) h).1) s.each);
  free = passes_filter (stays k) ps;
}

value_quotable : (key : List ℕ) (ps : Props) → list_all (λ p. is_key_text p.0 && is_value_text p.1) ps ≡ true → is_value_text (text_in key ps) ≡ true
value_quotable key [] h = refl
value_quotable key (p ∷ ps) h =
    let r = and_parts (is_key_text p.0 && is_value_text p.1) (list_all (λ p. is_key_text p.0 && is_value_text p.1) ps) h in
    elim (cases_Bool (bytes_eq p.0 key)) [
      | inl e ↦ rw e (and_parts (is_key_text p.0) (is_value_text p.1) r.0).1
      | inr e ↦ rw e (value_quotable key ps r.1)
    ]

-- ---- protected keys

abbrev is_plain_byte : ℕ → Bool
is_plain_byte b = not (b == 10) && not (is_stray b)

-- A piece between two `;`.
abbrev is_piece : List ℕ → Bool
is_piece t = quotes_are_escaped 59 t && (list_all is_plain_byte t && not (list_any (λ b. b == 59) t))

-- The first piece, behind the byte before it, and the others.
record PiecesOk (previous : ℕ) (pieces : List (List ℕ)) : Type 0 where
  first : List ℕ
  rest : List (List ℕ)
  are : pieces ≡ first ∷ rest
  escaped : quotes_are_escaped previous first ≡ true
  plain : list_all is_plain_byte first ≡ true
  whole : list_any (λ b. b == 59) first ≡ false
  others : list_all is_piece rest ≡ true

pieces_ok : (previous : ℕ) (text : List ℕ) → quotes_are_escaped previous text ≡ true → list_all is_plain_byte text ≡ true → PiecesOk previous (pieces_at 59 text)
pieces_ok previous [] h k = record { first = []; rest = []; are = refl; escaped = refl; plain = refl; whole = refl; others = refl }
pieces_ok previous (c ∷ text) h k =
    let a = and_parts (not (c == 34) || previous == 92) (quotes_are_escaped c text) h in
    let b = and_parts (is_plain_byte c) (list_all is_plain_byte text) k in
    let r = pieces_ok c text a.1 b.1 in
    elim (cases_eq c 59) [
      | inl e ↦ record {
        first = [];
        rest = pieces_at 59 text;
        are = cond-true (c == 59) ([] ∷ pieces_at 59 text) (put_first c (pieces_at 59 text)) (eq-eqb c 59 e);
        escaped = refl;
        plain = refl;
        whole = refl;
        others = subst (λ (l : List (List ℕ)). list_all is_piece l ≡ true) (sym r.are)
            (and_from (is_piece r.first) (list_all is_piece r.rest)
            (and_from (quotes_are_escaped 59 r.first) (list_all is_plain_byte r.first && not (list_any (λ b. b == 59) r.first))
            (subst (λ (p : ℕ). quotes_are_escaped p r.first ≡ true) e r.escaped)
            (and_from (list_all is_plain_byte r.first) (not (list_any (λ b. b == 59) r.first)) r.plain (ap not r.whole)))
            r.others);
      }
      | inr d ↦ record {
        first = c ∷ r.first;
        rest = r.rest;
        are = cond-false (c == 59) ([] ∷ pieces_at 59 text) (put_first c (pieces_at 59 text)) (ne_eqb c 59 d) ∙ ap (put_first c) r.are;
        escaped = and_from (not (c == 34) || previous == 92) (quotes_are_escaped c r.first) a.0 r.escaped;
        plain = and_from (is_plain_byte c) (list_all is_plain_byte r.first) b.0 r.plain;
        whole = or_from (c == 59) (list_any (λ b. b == 59) r.first) (ne_eqb c 59 d) r.whole;
        others = r.others;
      }
    ]

-- Behind a `"` and behind a `;` a text is escaped alike.
alike : (t : List ℕ) → quotes_are_escaped 34 t ≡ quotes_are_escaped 59 t
alike [] = refl
alike (b ∷ t) = refl

pieces_are_pieces : (text : List ℕ) → is_value_text text ≡ true → list_all is_piece (pieces_at 59 text) ≡ true
pieces_are_pieces text h =
    let a = and_parts (quotes_are_escaped 34 text) (list_all is_plain_byte text) h in
    let r = pieces_ok 34 text a.0 a.1 in
    subst (λ (l : List (List ℕ)). list_all is_piece l ≡ true) (sym r.are)
    (and_from (is_piece r.first) (list_all is_piece r.rest)
    (and_from (quotes_are_escaped 59 r.first) (list_all is_plain_byte r.first && not (list_any (λ b. b == 59) r.first)) (sym (alike r.first) ∙ r.escaped)
    (and_from (list_all is_plain_byte r.first) (not (list_any (λ b. b == 59) r.first)) r.plain (ap not r.whole)))
    r.others)

escaped_before : (previous : ℕ) (t rest : List ℕ) → quotes_are_escaped previous t ≡ true → quotes_are_escaped 59 rest ≡ true → quotes_are_escaped previous (t ++ (59 ∷ rest)) ≡ true
escaped_before previous [] rest h k = k
escaped_before previous (b ∷ t) rest h k =
    let a = and_parts (not (b == 34) || previous == 92) (quotes_are_escaped b t) h in
    and_from (not (b == 34) || previous == 92) (quotes_are_escaped b (t ++ (59 ∷ rest))) a.0 (escaped_before b t rest a.1 k)

plain_before : (t rest : List ℕ) → list_all is_plain_byte t ≡ true → list_all is_plain_byte rest ≡ true → list_all is_plain_byte (t ++ (59 ∷ rest)) ≡ true
plain_before [] rest h k = k
plain_before (b ∷ t) rest h k =
    let a = and_parts (is_plain_byte b) (list_all is_plain_byte t) h in
    and_from (is_plain_byte b) (list_all is_plain_byte (t ++ (59 ∷ rest))) a.0 (plain_before t rest a.1 k)

joined_piece : (keys : List (List ℕ)) → list_all is_piece keys ≡ true → (quotes_are_escaped 59 (joined_keys keys) ≡ true) × (list_all is_plain_byte (joined_keys keys) ≡ true)
joined_piece [] h = (refl, refl)
joined_piece (t ∷ []) h =
    let a = and_parts (is_piece t) true h in
    let b = and_parts (quotes_are_escaped 59 t) (list_all is_plain_byte t && not (list_any (λ b. b == 59) t)) a.0 in
    (b.0, (and_parts (list_all is_plain_byte t) (not (list_any (λ b. b == 59) t)) b.1).0)
joined_piece (t ∷ u ∷ keys) h =
    let a = and_parts (is_piece t) (list_all is_piece (u ∷ keys)) h in
    let b = and_parts (quotes_are_escaped 59 t) (list_all is_plain_byte t && not (list_any (λ b. b == 59) t)) a.0 in
    let ih = joined_piece (u ∷ keys) a.1 in (
      escaped_before 59 t (join_with_byte 59 (u ∷ keys)) b.0 ih.0,
      plain_before t (join_with_byte 59 (u ∷ keys)) (and_parts (list_all is_plain_byte t) (not (list_any (λ b. b == 59) t)) b.1).0 ih.1,
    )

firsts_distinct : (ts : List (List ℕ)) → texts_are_distinct (first_of_each bytes_eq ts) ≡ true
firsts_distinct [] = refl
firsts_distinct (t ∷ ts) =
    and_from (not (is_text_among t (filter (λ y. not (bytes_eq t y)) (first_of_each bytes_eq ts)))) (texts_are_distinct (filter (λ y. not (bytes_eq t y)) (first_of_each bytes_eq ts)))
    (ap not (none_left (first_of_each bytes_eq ts))) (still (first_of_each bytes_eq ts) (firsts_distinct ts))
  where
    none_left : (us : List (List ℕ)) → list_any (bytes_eq t) (filter (λ y. not (bytes_eq t y)) us) ≡ false
    none_left [] = refl
    none_left (u ∷ us) = elim (cases_Bool (bytes_eq t u)) [
      | inl e ↦ rw e (none_left us)
      | inr e ↦ rw (e, e) (none_left us)
    ]

    not_among : (u : List ℕ) (us : List (List ℕ)) → list_any (bytes_eq u) us ≡ false → list_any (bytes_eq u) (filter (λ y. not (bytes_eq t y)) us) ≡ false
    not_among u [] h = refl
    not_among u (v ∷ us) h =
        let r = Rattle.std.proofs.lemmas.Bool.or_parts (bytes_eq u v) (list_any (bytes_eq u) us) h in
        elim (cases_Bool (bytes_eq t v)) [
          | inl e ↦ rw e (not_among u us r.1)
          | inr e ↦ rw e (or_from (bytes_eq u v) (list_any (bytes_eq u) (filter (λ y. not (bytes_eq t y)) us)) r.0 (not_among u us r.1))
        ]

    still : (us : List (List ℕ)) → texts_are_distinct us ≡ true → texts_are_distinct (filter (λ y. not (bytes_eq t y)) us) ≡ true
    still [] h = refl
    still (u ∷ us) h =
        let r = and_parts (not (is_text_among u us)) (texts_are_distinct us) h in
        elim (cases_Bool (bytes_eq t u)) [
          | inl e ↦ rw e (still us r.1)
          | inr e ↦ rw e (and_from (not (is_text_among u (filter (λ y. not (bytes_eq t y)) us))) (texts_are_distinct (filter (λ y. not (bytes_eq t y)) us))
              (ap not (not_among u us (not-true (is_text_among u us) r.0))) (still us r.1))
        ]

pub protected_ok : (ps : Props) → Spelled ps → ProtectedOk (protected_in ps)
protected_ok ps s =
    let text = text_in (codes "_tb_protected_properties") ps in
    let pieces = pieces_are_pieces (text_in (codes "_tb_protected_properties") ps) (value_quotable (codes "_tb_protected_properties") ps s.each) in
    let kept = all_firsts is_piece bytes_eq (filter protects (pieces_at 59 text)) (all_filter is_piece protects (pieces_at 59 text) pieces) in
    let named = all_firsts protects bytes_eq (filter protects (pieces_at 59 text)) (passes_filter protects (pieces_at 59 text)) in
    let j = joined_piece (protected_in ps) kept in
    record {
      distinct = firsts_distinct (filter protects (pieces_at 59 text));
      each = all_more (λ t. is_piece t && protects t) can_be_protected (protected_in ps) key_ok (all_two is_piece protects (protected_in ps) kept named);
      joined = and_from (quotes_are_escaped 34 (joined_keys (protected_in ps))) (list_all is_plain_byte (joined_keys (protected_in ps))) (alike (joined_keys (protected_in ps)) ∙ j.0) j.1;
    }
  where
    key_ok : (t : List ℕ) → (is_piece t && protects t) ≡ true → can_be_protected t ≡ true
    key_ok t h =
        let a = and_parts (is_piece t) (protects t) h in
        let b = and_parts (quotes_are_escaped 59 t) (list_all is_plain_byte t && not (list_any (λ b. b == 59) t)) a.0 in
        let c = and_parts (list_all is_plain_byte t) (not (list_any (λ b. b == 59) t)) b.1 in
        let d = and_parts (not (length t == 0)) (not (is_reserved_key t)) a.1 in
        and_from (not (length t == 0)) (not (is_reserved_key t) && not (list_any (λ b. b == 59) t)) d.0 (and_from (not (is_reserved_key t)) (not (list_any (λ b. b == 59) t)) d.1 c.1)

-- ---- entities stay entities

value_stays : (k : Kind) (key : List ℕ) (ps : Props) → is_text_among key (taken_keys k) ≡ false → value_at key (filter (stays k) ps) ≡ value_at key ps
value_stays k key [] h = refl
value_stays k key (p ∷ ps) h = elim (cases_Bool (stays k p)) [
  | inl e ↦ elim (cases_Bool (bytes_eq p.0 key)) [
    | inl f ↦ rw (e, f) refl
    | inr f ↦ rw (e, f) (value_stays k key ps h)
  ]
  | inr e ↦ elim (cases_Bool (bytes_eq p.0 key)) [
    | inl f ↦ absurd (both_ways (is_text_among p.0 (taken_keys k)) (ap (λ x. is_text_among x (taken_keys k)) ((bytes_eq-Decides p.0 key).0 f) ∙ h) (not-false (is_text_among p.0 (taken_keys k)) e))
    | inr f ↦ rw (e, f) (value_stays k key ps h)
  ]
]

plain_by_kind : (v : Option (List ℕ)) → same_kind (option_map_or kind_of_type v entity) entity ≡ true →
    option_map_or (λ t. not (bytes_eq t (codes "_tb_layer") || bytes_eq t (codes "_tb_group"))) v true ≡ true
plain_by_kind None h = refl
plain_by_kind (Some t) h = by_tests (bytes_eq t (codes "_tb_layer")) (bytes_eq t (codes "_tb_group")) h
  where
    by_tests : (a b : Bool) → same_kind (cond a layer (cond b group entity)) entity ≡ true → not (a || b) ≡ true
    by_tests true b h = absurd (cc h)
    by_tests false true h = absurd (cc h)
    by_tests false false h = refl

pub entity_is_plain : (place : ℕ) (ps : Props) → same_kind (kind_in (suc place) ps) entity ≡ true → is_plain_type (kept_props entity ps) ≡ true
entity_is_plain place ps h =
    ap (λ v. option_map_or (λ t. not (bytes_eq t (codes "_tb_layer") || bytes_eq t (codes "_tb_group"))) v true) (value_stays entity (codes "_tb_type") ps refl)
    ∙ plain_by_kind (value_at (codes "_tb_type") ps) h

-- What is read of an entity, but for its brushes.
pub node_ok : (format : Format) (place : ℕ) (ps : Props) → Spelled ps → NodeOk format (node_in format ps (kind_in place ps))
node_ok format zero ps s = kept_ok world ps s
node_ok format (suc place) ps s = by_kind (kind_in (suc place) ps) refl
  where
    by_kind : (k : Kind) → kind_in (suc place) ps ≡ k → NodeOk format (node_in format ps (kind_in (suc place) ps))
    by_kind world e = subst (λ (k : Kind). NodeOk format (node_in format ps k)) (sym e) (kept_ok world ps s)
    by_kind layer e = subst (λ (k : Kind). NodeOk format (node_in format ps k)) (sym e) (value_quotable (codes "_tb_name") ps s.each, kept_ok layer ps s)
    by_kind group e = subst (λ (k : Kind). NodeOk format (node_in format ps k)) (sym e) (value_quotable (codes "_tb_name") ps s.each, tt, kept_ok group ps s)
    by_kind entity e = subst (λ (k : Kind). NodeOk format (node_in format ps k)) (sym e)
        (kept_ok entity ps s, entity_is_plain place ps (ap (λ k. same_kind k entity) e), protected_ok ps s)
    by_kind brush e = absurd (both_ways (same_kind (kind_in (suc place) ps) brush) (Rattle.file_laws.proofs.Growing.kind_in_file (suc place) ps).1 (ap (λ k. same_kind k brush) e))
