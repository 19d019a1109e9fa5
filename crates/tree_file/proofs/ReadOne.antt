-- An entity that doesn't ask for links names no set, and protects no keys.
use Rattle.std.proofs.Common.{◌≡◌, ℕ, zero, suc, Bool, true, false, cond, ◌&&◌, nat_lt, List, [], ◌∷◌, length, Option, Some, None, is_some, codes, bytes_eq, refl, sym, ◌∙◌, arith, inl, inr}
use Rattle.std.specs.Option.{option_map_or}
use Rattle.std.specs.List.{list_any, list_all}
use Rattle.map_lex.specs.OneToken.{is_key_text, is_value_text}
use Rattle.map_text.specs.Spelled.{is_spelled_entity, is_spelled_brush, keys_are_distinct}
use Rattle.std.proofs.lemmas.Bool.{cases_Bool, or_parts, and_parts, lt-ltb, both_ways}
use Rattle.algebra.specs.Members.{◌∈◌, here, there}
use Rattle.map_text.specs.declared.document.RawEntity.{RawEntity}
use Rattle.map_model.specs.Tree.{Kind, Props, group, same_kind}
use Rattle.map_model.specs.Props.{value_at, has_key}
use Rattle.file_laws.specs.Readings.{kind_in, kind_of_type, named_set, named_set_in}
use Rattle.tree_file.specs.Promises.{asks_for_links}

pub none_at : {A : Type 0} (p : A → Bool) (xs : List A) → list_any p xs ≡ false → (x : A) → x ∈ xs → p x ≡ false
none_at p [] h x i = elim i [ ]
none_at p (y ∷ xs) h x here = (or_parts (p y) (list_any p xs) h).0
none_at p (y ∷ xs) h x (there i) = none_at p xs (or_parts (p y) (list_any p xs) h).1 x i

no_value : {A : Type 0} (o : Option A) → is_some o ≡ false → o ≡ None
no_value None h = refl
no_value (Some x) h = absurd (cc h)

abbrev pub has_group_type : Props → Bool
has_group_type ps = option_map_or (λ type. bytes_eq type (codes "_tb_group")) (value_at (codes "_tb_type") ps) false

abbrev pub has_set_text : Props → Bool
has_set_text ps = option_map_or (λ text. nat_lt 0 (length text)) (value_at (codes "_tb_linked_group_id") ps) false

pub protects_none : (e : RawEntity) → asks_for_links e ≡ false → value_at (codes "_tb_protected_properties") e.props ≡ None
protects_none e h = no_value (value_at (codes "_tb_protected_properties") e.props) (or_parts (has_key (codes "_tb_protected_properties") e.props) (has_group_type e.props && has_set_text e.props) h).0

empty_set : (o : Option (List ℕ)) → option_map_or (λ text. nat_lt 0 (length text)) o false ≡ false → named_set o ≡ None
empty_set None h = refl
empty_set (Some []) h = refl
empty_set (Some (b ∷ text)) h = absurd (both_ways (nat_lt 0 (length (b ∷ text))) h (lt-ltb 0 (length (b ∷ text)) (omega arith)))

-- the kind by a type is that of a group only where the type says so
by_type : (o : Option (List ℕ)) (t : Bool) → option_map_or (λ type. bytes_eq type (codes "_tb_group")) o false ≡ t → (set : Option (List ℕ)) → (t ≡ true → set ≡ None) →
    cond (same_kind (option_map_or kind_of_type o Rattle.map_model.specs.Tree.entity) group) set None ≡ None
by_type None t e set h = refl
by_type (Some text) t e set h = elim (cases_Bool (bytes_eq text (codes "_tb_layer"))) [
  | inl l ↦ rw l refl
  | inr l ↦ elim (cases_Bool (bytes_eq text (codes "_tb_group"))) [
    | inl g ↦ rw (l, g) (h (sym e ∙ g))
    | inr g ↦ rw (l, g) refl
  ]
]

pub names_none : (e : RawEntity) (place : ℕ) → asks_for_links e ≡ false → named_set_in (kind_in place e.props) e.props ≡ None
names_none e zero h = refl
names_none e (suc place) h =
    let r = (or_parts (has_key (codes "_tb_protected_properties") e.props) (has_group_type e.props && has_set_text e.props) h).1 in
    by_type (value_at (codes "_tb_type") e.props) (has_group_type e.props) refl (named_set (value_at (codes "_tb_linked_group_id") e.props))
    (λ g. empty_set (value_at (codes "_tb_linked_group_id") e.props) (second (has_group_type e.props) (has_set_text e.props) r g))
  where
    second : (a b : Bool) → (a && b) ≡ false → a ≡ true → b ≡ false
    second true b h e = h
    second false b h e = absurd (cc e)

-- what is spelled of an entity
pub record SpelledParts (e : RawEntity) : Type 0 where
  pub distinct : keys_are_distinct e.props ≡ true
  pub brushes : list_all is_spelled_brush e.brushes ≡ true

pub spelled_parts : (e : RawEntity) → is_spelled_entity e ≡ true → SpelledParts e
spelled_parts e h =
    let a = and_parts (keys_are_distinct e.props) (list_all (λ p. is_key_text p.0 && is_value_text p.1) e.props && list_all is_spelled_brush e.brushes) h in
    let b = and_parts (list_all (λ p. is_key_text p.0 && is_value_text p.1) e.props) (list_all is_spelled_brush e.brushes) a.1 in
    record { distinct = a.0; brushes = b.1 }
