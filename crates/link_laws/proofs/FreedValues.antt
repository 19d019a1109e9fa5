-- A key that is protected no more, with the value that another entity has: what the node's properties are then, and that they are right.
use Rattle.std.proofs.Common.{◌≡◌, ℕ, List, [], ◌∷◌, true, false, not, inr, refl, ap, sym, ◌∙◌, subst, Option, Some, None}
use Rattle.std.specs.Prelude.{is_some, if◌then◌else◌}
use Rattle.std.specs.List.{list_all}
use Rattle.std.specs.Str.{bytes_eq}
use Rattle.std.proofs.lemmas.Bool.{and_parts}
use Rattle.std.proofs.lemmas.Slice.Eq.{bytes_eq-Decides}
use Rattle.uv_lock.specs.declared.texture.Format.{Format}
use Rattle.map_lex.specs.OneToken.{is_value_text, is_key_text}
use Rattle.map_model.specs.Tree.{Node, World, Layer, Group, Entity, Brush, Props, entity, kind_of, parent_of, brushes_of, others_of, link_of, mark_of, format_of_node, props_of, protected_of, with_props, with_protected}
use Rattle.map_model.specs.Props.{value_at, set_value, without_key, is_file_key}
use Rattle.map_model.specs.Own.{value_from, without_text}
use Rattle.map_model.specs.Shape.{NodeOk}
use Rattle.map_laws.specs.Placed.{KeepsAll}
use Rattle.map_laws.proofs.Properties.{node_put, node_without}
use Rattle.link_laws.proofs.Values.{by_bool, text_is, value_here, value_there, value_filter_in, value_filter_out, key_in}
use Rattle.link_laws.proofs.ProtectedKeys.{key_leaves}

same_text : (k : List ℕ) → bytes_eq k k ≡ true
same_text k = (bytes_eq-Decides k k).1 refl

-- Values of keys that are set or taken away.
set_own : (key value : List ℕ) (ps : Props) → value_at key (set_value key value ps) ≡ Some value
set_own key value [] = value_here key (key, value) [] (same_text key)
set_own key value (p ∷ ps) = by_bool (bytes_eq p.0 key)
    (λ e. ap (λ b. value_at key (if b then (key, value) ∷ ps else p ∷ set_value key value ps)) e ∙ value_here key (key, value) ps (same_text key))
    (λ e. ap (λ b. value_at key (if b then (key, value) ∷ ps else p ∷ set_value key value ps)) e ∙ value_there key p (set_value key value ps) e ∙ set_own key value ps)

set_other : (k key value : List ℕ) (ps : Props) → bytes_eq key k ≡ false → value_at k (set_value key value ps) ≡ value_at k ps
set_other k key value [] ne = value_there k (key, value) [] ne
set_other k key value (p ∷ ps) ne = by_bool (bytes_eq p.0 key)
    (λ e. ap (λ b. value_at k (if b then (key, value) ∷ ps else p ∷ set_value key value ps)) e ∙ value_there k (key, value) ps ne
    ∙ sym (value_there k p ps (ap (λ t. bytes_eq t k) (text_is p.0 key e) ∙ ne)))
    (λ e. ap (λ b. value_at k (if b then (key, value) ∷ ps else p ∷ set_value key value ps)) e ∙ by_bool (bytes_eq p.0 k)
    (λ f. value_here k p (set_value key value ps) f ∙ sym (value_here k p ps f))
    (λ f. value_there k p (set_value key value ps) f ∙ set_other k key value ps ne ∙ sym (value_there k p ps f)))

without_own : (key : List ℕ) (ps : Props) → value_at key (without_key key ps) ≡ None
without_own key ps = value_filter_out key (λ p. not (bytes_eq p.0 key)) ps (λ p s. ap (λ t. not (bytes_eq t key)) s ∙ ap not (same_text key))

without_other : (k key : List ℕ) (ps : Props) → bytes_eq k key ≡ false → value_at k (without_key key ps) ≡ value_at k ps
without_other k key ps ne = value_filter_in k (λ p. not (bytes_eq p.0 key)) ps (λ p s. ap (λ t. not (bytes_eq t key)) s ∙ ap not ne)

-- The value that another node has.
abbrev pub put_or_take : List ℕ → Props → Option (List ℕ) → Props
put_or_take key ps None = without_key key ps
put_or_take key ps (Some value) = set_value key value ps

from_is : (key : List ℕ) (x : Node) (ps : Props) → value_from key (Some x) ps ≡ put_or_take key ps (value_at key (props_of x))
from_is key x ps = by (value_at key (props_of x))
  where
    by : (o : Option (List ℕ)) → (elim o as (λ o. Props) [ None ↦ without_key key ps | Some value ↦ set_value key value ps ]) ≡ put_or_take key ps o
    by None = refl
    by (Some value) = refl

pub value_taken : (key : List ℕ) (x : Node) (ps : Props) → value_at key (value_from key (Some x) ps) ≡ value_at key (props_of x)
value_taken key x ps = ap (value_at key) (from_is key x ps) ∙ by (value_at key (props_of x))
  where
    by : (o : Option (List ℕ)) → value_at key (put_or_take key ps o) ≡ o
    by None = without_own key ps
    by (Some value) = set_own key value ps

pub value_left : (k key : List ℕ) (source : Option Node) (ps : Props) → bytes_eq key k ≡ false → bytes_eq k key ≡ false → value_at k (value_from key source ps) ≡ value_at k ps
value_left k key None ps ne other = refl
value_left k key (Some x) ps ne other = ap (value_at k) (from_is key x ps) ∙ by (value_at key (props_of x))
  where
    by : (o : Option (List ℕ)) → value_at k (put_or_take key ps o) ≡ value_at k ps
    by None = without_other k key ps other
    by (Some value) = set_other k key value ps ne

-- The node. ---------------------------------------------------------------------------------------------------------------------------------

abbrev pub freed : List ℕ → Option Node → Node → Node
freed key source x = with_props (value_from key source (props_of x)) (with_protected (without_text key (protected_of x)) x)

pub keeps_freed : (key : List ℕ) (source : Option Node) → KeepsAll (freed key source)
keeps_freed key source = record {
  place = record {
    kind = λ x. elim x as (λ x. kind_of (freed key source x) ≡ kind_of x) [ World a b c d ↦ refl | _ ↦ refl ];
    parent = λ x. elim x as (λ x. parent_of (freed key source x) ≡ parent_of x) [ World a b c d ↦ refl | _ ↦ refl ];
    brushes = λ x. elim x as (λ x. brushes_of (freed key source x) ≡ brushes_of x) [ World a b c d ↦ refl | _ ↦ refl ];
    others = λ x. elim x as (λ x. others_of (freed key source x) ≡ others_of x) [ World a b c d ↦ refl | _ ↦ refl ];
  };
  link = λ x. elim x as (λ x. link_of (freed key source x) ≡ link_of x) [ World a b c d ↦ refl | _ ↦ refl ];
  mark = λ x. elim x as (λ x. mark_of (freed key source x) ≡ mark_of x) [ World a b c d ↦ refl | _ ↦ refl ];
  format = λ x. elim x as (λ x. format_of_node (freed key source x) ≡ format_of_node x) [ World a b c d ↦ refl | _ ↦ refl ];
}

record RightTexts (ps : Props) : Type 0 where
  keys : list_all (λ p. is_key_text p.0) ps ≡ true
  values : list_all (λ p. is_value_text p.1) ps ≡ true

right_texts : (f : Format) (x : Node) → NodeOk f x → RightTexts (props_of x)
right_texts f (World a b c d) h = record { keys = h.keys; values = h.values }
right_texts f (Layer a b c d e) h = record { keys = h.1.keys; values = h.1.values }
right_texts f (Group a b c d e g i) h = record { keys = h.2.keys; values = h.2.values }
right_texts f (Entity a b c d e) h = record { keys = h.0.keys; values = h.0.values }
right_texts f (Brush a b c) h = record { keys = refl; values = refl }

value_in : (k v : List ℕ) (ps : Props) → list_all (λ p. is_value_text p.1) ps ≡ true → value_at k ps ≡ Some v → is_value_text v ≡ true
value_in k v [] h e = absurd (cc)
value_in k v (p ∷ ps) h e =
    let q = and_parts (is_value_text p.1) (list_all (λ p. is_value_text p.1) ps) h in
    by_bool (bytes_eq p.0 k) (λ f. ap is_value_text (some_is (sym e ∙ value_here k p ps f)) ∙ q.0) (λ f. value_in k v ps q.1 (sym (value_there k p ps f) ∙ e))
  where
    some_is : {a b : List ℕ} → Some a ≡ Some b → a ≡ b
    some_is {a} {b} e = cc

pub freed_ok : (f : Format) (key : List ℕ) (source : Option Node) (x : Node) → NodeOk f x → is_file_key key ≡ false → ((y : Node) → source ≡ Some y → NodeOk f y) → kind_of x ≡ entity → NodeOk f (freed key source x)
freed_ok f key source (World a b c d) h file right k = absurd (cc)
freed_ok f key source (Layer a b c d e) h file right k = absurd (cc)
freed_ok f key source (Group a b c d e g i) h file right k = absurd (cc)
freed_ok f key None (Entity a b ps pr bs) h file right k = (h.0, h.1, key_leaves pr key h.2)
freed_ok f key (Some y) (Entity a b ps pr bs) h file right k =
    let texts = right_texts f y (right y refl) in
    subst_ok (by (value_at key (props_of y)) refl texts)
  where
    subst_ok : NodeOk f (Entity a b (put_or_take key ps (value_at key (props_of y))) (without_text key pr) bs) → NodeOk f (freed key (Some y) (Entity a b ps pr bs))
    subst_ok = subst (λ qs. NodeOk f (Entity a b qs (without_text key pr) bs)) (sym (from_is key y ps))

    by : (o : Option (List ℕ)) → value_at key (props_of y) ≡ o → RightTexts (props_of y) → NodeOk f (Entity a b (put_or_take key ps o) (without_text key pr) bs)
    by None e texts = node_without f key (Entity a b ps (without_text key pr) bs) (h.0, h.1, key_leaves pr key h.2) file (inr refl)
    by (Some v) e texts = node_put f key v (Entity a b ps (without_text key pr) bs) (h.0, h.1, key_leaves pr key h.2)
        (key_in is_key_text key (props_of y) texts.keys (ap is_some e)) (value_in key v (props_of y) texts.values e) file (λ w. absurd (cc)) (inr refl)
freed_ok f key source (Brush a b c) h file right k = absurd (cc)
