-- Commands that change one node where no other sees it keep the shape, and new nodes are right.
use Rattle.std.proofs.Common.{◌≡◌, ℕ, List, [], ◌∷◌, Bool, true, false, ◌==◌, ◌&&◌, ◌||◌, ◌⊎◌, inl, inr, refl, ap, sym, ◌∙◌, Some, None, option_map}
use Rattle.std.specs.Str.{bytes_eq}
use Rattle.std.proofs.lemmas.Bool.{or_parts, and_from, eq-eqb}
use Rattle.uv_lock.specs.declared.texture.Format.{Format}
use Rattle.algebra.specs.Members.{here}
use Rattle.map_lex.specs.OneToken.{is_value_text}
use Rattle.map_model.specs.Tree.{Whole, Node, Kind, world, layer, group, entity, brush, at, kind_of, props_of, with_props, with_frozen, format_of, Layer as LayerNode, Group as GroupNode, Entity as EntityNode}
use Rattle.map_model.specs.Edits.{renew}
use Rattle.map_model.specs.Shape.{Shape}
use Rattle.map_model.specs.Below.{Below}
use Rattle.map_model.specs.Props.{set_value, without_key, is_file_key, classname, origin}
use Rattle.map_model.specs.Commands.{IsGood, Settings, Set, Unset}
use Rattle.map_model.specs.Replies.{ReservedKey}
use Rattle.map_model.specs.Rows.{rows, first, has_props}
use Rattle.map_laws.specs.Placed.{NewOk}
use Rattle.map_laws.proofs.Skeleton.{kind_at, is_kind_by}
use Rattle.map_laws.proofs.Refused.{nodes_fit, refuse_none}
use Rattle.map_laws.proofs.Pruned.{test_kind}
use Rattle.map_laws.proofs.Renewing.{renew_shape}
use Rattle.map_laws.proofs.Properties.{node_put, node_without}
use Rattle.map_laws.proofs.Parts.{keeps_props, keeps_frozen, frozen_ok}
use Rattle.map_laws.proofs.Texts.{text_value, name_key}
use Rattle.map_laws.proofs.RowsPass.{rows_pass}

world_or_entity : (k : Kind) → has_props k ≡ true → (k ≡ world) ⊎ (k ≡ entity)
world_or_entity world e = inl refl
world_or_entity layer e = absurd (cc)
world_or_entity group e = absurd (cc)
world_or_entity entity e = inr refl
world_or_entity brush e = absurd (cc)

kind_by_slot : (m : Whole) (n : ℕ) (x : Node) (k : Kind) → at m n ≡ Some x → kind_at m n ≡ Some k → kind_of x ≡ k
kind_by_slot m n x k e f = some_is (sym (ap (option_map kind_of) e) ∙ f)
  where
    some_is : Some (kind_of x) ≡ Some k → kind_of x ≡ k
    some_is e = cc

-- New nodes are right.
pub new_layer : (f : Format) (name : List ℕ) → is_value_text name ≡ true → NewOk f (LayerNode name false [] [] [])
new_layer f name q = record { ok = (q, record { distinct = refl; keys = refl; values = refl; free = refl }); no_link = refl; no_mark = refl }

pub new_group : (f : Format) (name : List ℕ) → is_value_text name ≡ true → NewOk f (GroupNode 0 None name None [] [] [])
new_group f name q = record { ok = (q, tt, record { distinct = refl; keys = refl; values = refl; free = refl }); no_link = refl; no_mark = refl }

pub new_entity : (f : Format) (class : List ℕ) → is_value_text class ≡ true → NewOk f (EntityNode 0 None ((classname, class) ∷ []) [] [])
new_entity f class q = record {
  ok = (record { distinct = refl; keys = refl; values = and_from (is_value_text class) true q refl; free = refl }, refl, record { distinct = refl; each = refl; joined = refl });
  no_link = refl;
  no_mark = refl;
}

pub new_point_entity : (f : Format) (class place : List ℕ) → is_value_text class ≡ true → is_value_text place ≡ true → NewOk f (EntityNode 0 None ((classname, class) ∷ (origin, place) ∷ []) [] [])
new_point_entity f class place q r = record {
  ok = (
    record { distinct = refl; keys = refl; values = and_from (is_value_text class) (is_value_text place && true) q (and_from (is_value_text place) true r refl); free = refl },
    refl,
    record { distinct = refl; each = refl; joined = refl },
  );
  no_link = refl;
  no_mark = refl;
}

-- set, unset, freeze and thaw keep the shape.
pub set_shape : (b : Below) (s : Settings) (m : Whole) (n : ℕ) (key value : List ℕ) → IsGood (Set n key value) → Shape m → first (rows b s m (Set n key value)) ≡ None →
    Shape (renew n (λ x. with_props (set_value key value (props_of x)) x) m)
set_shape b s m n key value words shape none =
    let k = test_kind has_props m n ((nodes_fit b s m (Set n key value) none).fit n here) in
    let row = or_parts (is_file_key key) ((n == 0) && bytes_eq key classname) (refuse_none (is_file_key key || ((n == 0) && bytes_eq key classname)) (ReservedKey n) (rows_pass b s m (Set n key value) none).key) in
    renew_shape m n (λ x. with_props (set_value key value (props_of x)) x) (keeps_props (λ x. set_value key value (props_of x))) shape
    (λ x is. node_put (format_of m) key value x (shape.each_node n x is) (name_key key words.texts.0) (text_value value words.texts.1) row.0
    (λ w. sym (ap (λ b. b && bytes_eq key classname) (eq-eqb n 0 (shape.standing.one_world n (is_kind_by m world n (ap (option_map kind_of) is ∙ ap Some w))))) ∙ row.1)
    (elim (world_or_entity k.0 k.2) [ inl w ↦ inl (kind_by_slot m n x k.0 is k.1 ∙ w) | inr w ↦ inr (kind_by_slot m n x k.0 is k.1 ∙ w) ]))

pub unset_shape : (b : Below) (s : Settings) (m : Whole) (n : ℕ) (key : List ℕ) → Shape m → first (rows b s m (Unset n key)) ≡ None → Shape (renew n (λ x. with_props (without_key key (props_of x)) x) m)
unset_shape b s m n key shape none =
    let k = test_kind has_props m n ((nodes_fit b s m (Unset n key) none).fit n here) in
    let row = or_parts (is_file_key key) (bytes_eq key classname) (refuse_none (is_file_key key || bytes_eq key classname) (ReservedKey n) (rows_pass b s m (Unset n key) none).key) in
    renew_shape m n (λ x. with_props (without_key key (props_of x)) x) (keeps_props (λ x. without_key key (props_of x))) shape
    (λ x is. node_without (format_of m) key x (shape.each_node n x is) row.0
    (elim (world_or_entity k.0 k.2) [ inl w ↦ inl (kind_by_slot m n x k.0 is k.1 ∙ w) | inr w ↦ inr (kind_by_slot m n x k.0 is k.1 ∙ w) ]))

pub frozen_shape : (m : Whole) (n : ℕ) (b : Bool) → Shape m → Shape (renew n (with_frozen b) m)
frozen_shape m n b shape = renew_shape m n (with_frozen b) (keeps_frozen b) shape (λ x is. frozen_ok (format_of m) b x (shape.each_node n x is))
