-- Properties that are set and taken away stay right.
use Rattle.std.proofs.Common.{◌≡◌, ℕ, List, [], ◌∷◌, Bool, true, false, cond, not, ◌||◌, ◌⊎◌, inl, inr, refl, ap, sym, ◌∙◌, subst, Some, None, filter}
use Rattle.std.specs.Prelude.{codes}
use Rattle.std.specs.Option.{option_map_or}
use Rattle.std.specs.List.{list_all}
use Rattle.std.specs.Str.{bytes_eq}
use Rattle.std.proofs.lemmas.Bool.{and_parts, and_from, or_parts, false_from_ne_true}
use Rattle.std.proofs.lemmas.Slice.Eq.{bytes_eq-Decides}
use Rattle.uv_lock.specs.declared.texture.Format.{Format}
use Rattle.algebra.specs.Members.{◌∈◌, here, there}
use Rattle.key_table.specs.Tables.{file_words}
use Rattle.map_lex.specs.OneToken.{is_value_text, is_key_text}
use Rattle.map_text.specs.Spelled.{keys_are_distinct}
use Rattle.map_model.specs.Tree.{Node, World, Layer, Group, Entity, Brush, Props, Kind, world, entity, kind_of, props_of, with_props}
use Rattle.map_model.specs.Props.{value_at, set_value, without_key, is_text_among, is_file_key, classname}
use Rattle.map_model.specs.Shape.{PropsOk, NodeOk, taken_keys}
use Rattle.map_laws.proofs.Slots.{by_bool}
use Rattle.map_laws.proofs.Skeleton.{not_both}

Property : Type 0
Property = List ℕ × List ℕ

all_put : (p : (List ℕ × List ℕ) → Bool) (key value : List ℕ) (ps : Props) → p (key, value) ≡ true → list_all p ps ≡ true → list_all p (set_value key value ps) ≡ true
all_put p key value [] own all = and_from (p (key, value)) true own refl
all_put p key value (x ∷ xs) own all =
    let parts = and_parts (p x) (list_all p xs) all in
    by_bool (bytes_eq x.0 key)
    (λ t. ap (λ b. list_all p (cond b ((key, value) ∷ xs) (x ∷ set_value key value xs))) t ∙ and_from (p (key, value)) (list_all p xs) own parts.1)
    (λ t. ap (λ b. list_all p (cond b ((key, value) ∷ xs) (x ∷ set_value key value xs))) t ∙ and_from (p x) (list_all p (set_value key value xs)) parts.0 (all_put p key value xs own parts.1))

bytes_flip : (a b : List ℕ) → bytes_eq a b ≡ false → bytes_eq b a ≡ false
bytes_flip a b e = false_from_ne_true (bytes_eq b a) (λ t. not_both (bytes_eq a b) ((bytes_eq-Decides a b).1 (sym ((bytes_eq-Decides b a).0 t))) e)

distinct_put : (key value : List ℕ) (ps : Props) → keys_are_distinct ps ≡ true → keys_are_distinct (set_value key value ps) ≡ true
distinct_put key value [] e = refl
distinct_put key value (x ∷ xs) e =
    let parts = and_parts (list_all (λ q. not (bytes_eq q.0 x.0)) xs) (keys_are_distinct xs) e in
    by_bool (bytes_eq x.0 key)
    (λ t. ap (λ b. keys_are_distinct (cond b ((key, value) ∷ xs) (x ∷ set_value key value xs))) t
    ∙ and_from (list_all (λ q. not (bytes_eq q.0 key)) xs) (keys_are_distinct xs) (subst (λ k. list_all (λ q. not (bytes_eq q.0 k)) xs ≡ true) ((bytes_eq-Decides x.0 key).0 t) parts.0) parts.1)
    (λ t. ap (λ b. keys_are_distinct (cond b ((key, value) ∷ xs) (x ∷ set_value key value xs))) t
    ∙ and_from (list_all (λ q. not (bytes_eq q.0 x.0)) (set_value key value xs)) (keys_are_distinct (set_value key value xs))
    (all_put (λ q. not (bytes_eq q.0 x.0)) key value xs (ap not (bytes_flip x.0 key t)) parts.0) (distinct_put key value xs parts.1))

value_put_other : (k key value : List ℕ) (ps : Props) → bytes_eq key k ≡ false → value_at k (set_value key value ps) ≡ value_at k ps
value_put_other k key value [] ne = ap (λ b. cond b (Some value) None) ne
value_put_other k key value (x ∷ xs) ne = by_bool (bytes_eq x.0 key)
    (λ t. ap (λ b. value_at k (cond b ((key, value) ∷ xs) (x ∷ set_value key value xs))) t ∙ ap (λ b. cond b (Some value) (value_at k xs)) ne
    ∙ sym (ap (λ b. cond b (Some x.1) (value_at k xs)) (ap (λ z. bytes_eq z k) ((bytes_eq-Decides x.0 key).0 t) ∙ ne)))
    (λ t. ap (λ b. value_at k (cond b ((key, value) ∷ xs) (x ∷ set_value key value xs))) t ∙ ap (cond (bytes_eq x.0 k) (Some x.1)) (value_put_other k key value xs ne))

all_filter : (p f : (List ℕ × List ℕ) → Bool) (ps : Props) → list_all p ps ≡ true → list_all p (filter f ps) ≡ true
all_filter p f [] e = refl
all_filter p f (x ∷ xs) e =
    let parts = and_parts (p x) (list_all p xs) e in
    by_bool (f x)
    (λ t. ap (λ b. list_all p (cond b (x ∷ filter f xs) (filter f xs))) t ∙ and_from (p x) (list_all p (filter f xs)) parts.0 (all_filter p f xs parts.1))
    (λ t. ap (λ b. list_all p (cond b (x ∷ filter f xs) (filter f xs))) t ∙ all_filter p f xs parts.1)

distinct_filter : (f : (List ℕ × List ℕ) → Bool) (ps : Props) → keys_are_distinct ps ≡ true → keys_are_distinct (filter f ps) ≡ true
distinct_filter f [] e = refl
distinct_filter f (x ∷ xs) e =
    let parts = and_parts (list_all (λ q. not (bytes_eq q.0 x.0)) xs) (keys_are_distinct xs) e in
    by_bool (f x)
    (λ t. ap (λ b. keys_are_distinct (cond b (x ∷ filter f xs) (filter f xs))) t
    ∙ and_from (list_all (λ q. not (bytes_eq q.0 x.0)) (filter f xs)) (keys_are_distinct (filter f xs)) (all_filter (λ q. not (bytes_eq q.0 x.0)) f xs parts.0) (distinct_filter f xs parts.1))
    (λ t. ap (λ b. keys_are_distinct (cond b (x ∷ filter f xs) (filter f xs))) t ∙ distinct_filter f xs parts.1)

value_without_other : (k key : List ℕ) (ps : Props) → bytes_eq key k ≡ false → value_at k (without_key key ps) ≡ value_at k ps
value_without_other k key [] ne = refl
value_without_other k key (x ∷ xs) ne = by_bool (bytes_eq x.0 key)
    (λ t. ap (λ b. value_at k (cond (not b) (x ∷ without_key key xs) (without_key key xs))) t ∙ value_without_other k key xs ne
    ∙ sym (ap (λ b. cond b (Some x.1) (value_at k xs)) (ap (λ z. bytes_eq z k) ((bytes_eq-Decides x.0 key).0 t) ∙ ne)))
    (λ t. ap (λ b. value_at k (cond (not b) (x ∷ without_key key xs) (without_key key xs))) t ∙ ap (cond (bytes_eq x.0 k) (Some x.1)) (value_without_other k key xs ne))

pub props_put : (k : Kind) (key value : List ℕ) (ps : Props) → PropsOk k ps → is_key_text key ≡ true → is_value_text value ≡ true → is_text_among key (taken_keys k) ≡ false → PropsOk k (set_value key value ps)
props_put k key value ps h savable quotable free = record {
  distinct = distinct_put key value ps h.distinct;
  keys = all_put (λ p. is_key_text p.0) key value ps savable h.keys;
  values = all_put (λ p. is_value_text p.1) key value ps quotable h.values;
  free = all_put (λ p. not (is_text_among p.0 (taken_keys k))) key value ps (ap not free) h.free;
}

pub props_without : (k : Kind) (key : List ℕ) (ps : Props) → PropsOk k ps → PropsOk k (without_key key ps)
props_without k key ps h = record {
  distinct = distinct_filter (λ p. not (bytes_eq p.0 key)) ps h.distinct;
  keys = all_filter (λ p. is_key_text p.0) (λ p. not (bytes_eq p.0 key)) ps h.keys;
  values = all_filter (λ p. is_value_text p.1) (λ p. not (bytes_eq p.0 key)) ps h.values;
  free = all_filter (λ p. not (is_text_among p.0 (taken_keys k))) (λ p. not (bytes_eq p.0 key)) ps h.free;
}

none_of : (key : List ℕ) (words : List (List ℕ)) → is_text_among key words ≡ false → (w : List ℕ) → w ∈ words → bytes_eq key w ≡ false
none_of key [] e w i = elim i [ ]
none_of key (x ∷ xs) e w here = (or_parts (bytes_eq key x) (is_text_among key xs) e).0
none_of key (x ∷ xs) e w (there i) = none_of key xs (or_parts (bytes_eq key x) (is_text_among key xs) e).1 w i

or_false : (a b : Bool) → a ≡ false → b ≡ false → (a || b) ≡ false
or_false a b e f = λ i. e i || f i

-- Which words a key isn't, where it is none of the program's own.
free_of_entity : (key : List ℕ) → is_file_key key ≡ false → is_text_among key (taken_keys entity) ≡ false
free_of_entity key e =
    or_false (bytes_eq key (codes "_tb_layer")) _ (none_of key file_words e (codes "_tb_layer") (there (there (there here))))
    (or_false (bytes_eq key (codes "_tb_group")) _ (none_of key file_words e (codes "_tb_group") (there (there (there (there here)))))
    (or_false (bytes_eq key (codes "_tb_protected_properties")) false (none_of key file_words e (codes "_tb_protected_properties") (there (there (there (there (there (there (there (there here))))))))) refl))

free_of_world : (key : List ℕ) → is_file_key key ≡ false → bytes_eq key classname ≡ false → is_text_among key (taken_keys world) ≡ false
free_of_world key e f =
    or_false (bytes_eq key classname) _ f
    (or_false (bytes_eq key (codes "mapversion")) false (none_of key file_words e (codes "mapversion") (there (there (there (there (there (there (there (there (there here)))))))))) refl)

type_free : (key : List ℕ) → is_file_key key ≡ false → bytes_eq key (codes "_tb_type") ≡ false
type_free key e = none_of key file_words e (codes "_tb_type") here

-- A node on which a key is set.
pub node_put : (f : Format) (key value : List ℕ) (x : Node) → NodeOk f x → is_key_text key ≡ true → is_value_text value ≡ true → is_file_key key ≡ false → (kind_of x ≡ world → bytes_eq key classname ≡ false) →
    (kind_of x ≡ world) ⊎ (kind_of x ≡ entity) → NodeOk f (with_props (set_value key value (props_of x)) x)
node_put f key value (World a ps b c) h s q file class k = props_put world key value ps h s q (free_of_world key file (class refl))
node_put f key value (Layer a b c d e) h s q file class k = absurd (elim k [ inl e ↦ absurd (cc) | inr e ↦ absurd (cc) ])
node_put f key value (Group a b c d e g i) h s q file class k = absurd (elim k [ inl e ↦ absurd (cc) | inr e ↦ absurd (cc) ])
node_put f key value (Entity a b ps d e) h s q file class k = (
  props_put entity key value ps h.0 s q (free_of_entity key file),
  ap (λ o. option_map_or (λ v. not (bytes_eq v (codes "_tb_layer") || bytes_eq v (codes "_tb_group"))) o true) (value_put_other (codes "_tb_type") key value ps (type_free key file)) ∙ h.1,
  h.2,
)
node_put f key value (Brush a b c) h s q file class k = absurd (elim k [ inl e ↦ absurd (cc) | inr e ↦ absurd (cc) ])

-- A node from which a key is taken.
pub node_without : (f : Format) (key : List ℕ) (x : Node) → NodeOk f x → is_file_key key ≡ false → (kind_of x ≡ world) ⊎ (kind_of x ≡ entity) → NodeOk f (with_props (without_key key (props_of x)) x)
node_without f key (World a ps b c) h file k = props_without world key ps h
node_without f key (Layer a b c d e) h file k = absurd (elim k [ inl e ↦ absurd (cc) | inr e ↦ absurd (cc) ])
node_without f key (Group a b c d e g i) h file k = absurd (elim k [ inl e ↦ absurd (cc) | inr e ↦ absurd (cc) ])
node_without f key (Entity a b ps d e) h file k = (
  props_without entity key ps h.0,
  ap (λ o. option_map_or (λ v. not (bytes_eq v (codes "_tb_layer") || bytes_eq v (codes "_tb_group"))) o true) (value_without_other (codes "_tb_type") key ps (type_free key file)) ∙ h.1,
  h.2,
)
node_without f key (Brush a b c) h file k = absurd (elim k [ inl e ↦ absurd (cc) | inr e ↦ absurd (cc) ])
