-- The commands of the tree, where no group is linked: from the shape before to the shape after.
use Rattle.std.proofs.Common.{◌≡◌, ℕ, List, [], ◌∷◌, flat_map, Bool, true, false, ◌==◌, ◌&&◌, ◌||◌, ◌⊎◌, inl, inr, refl, ap, sym, ◌∙◌, arith, Some, None, option_map}
use Rattle.std.specs.Str.{bytes_eq}
use Rattle.std.proofs.lemmas.Bool.{or_parts, and_from, eq-eqb}
use Rattle.uv_lock.specs.declared.texture.Format.{Format}
use Rattle.algebra.specs.Members.{here}
use Rattle.map_lex.specs.OneToken.{is_value_text}
use Rattle.map_model.specs.Tree.{Whole, Node, Kind, world, layer, group, entity, brush, at, kind_of, props_of, with_props, with_frozen, format_of}
use Rattle.map_model.specs.Tree.{Layer as LayerNode, Group as GroupNode, Entity as EntityNode}
use Rattle.map_model.specs.Edits.{renew}
use Rattle.map_model.specs.Shape.{Shape, NodeOk}
use Rattle.map_model.specs.Below.{Below}
use Rattle.map_model.specs.Props.{set_value, without_key, is_file_key, classname, origin}
use Rattle.map_model.specs.Commands.{Command, IsGood, point_in, Settings, Delete, Entity, Set, Unset, Tie, Untie, Layer, Freeze, Thaw, Group, Ungroup, Into}
use Rattle.map_model.specs.Replies.{ReservedKey}
use Rattle.map_model.specs.Rows.{rows, first, edits, has_props}
use Rattle.map_model.specs.Own.{own, point_text}
use Rattle.map_model.specs.Apply.{prune}
use Rattle.map_laws.specs.Placed.{KeepsAll, NewOk}
use Rattle.map_laws.specs.Unlinked.{Unlinked}
use Rattle.map_laws.specs.TreeCommands.{is_tree_command, UnlinkedApplyLaw, UnlinkedRowsLaw, TreeCommandLaw}
use Rattle.map_laws.proofs.Skeleton.{kind_at, is_kind_by}
use Rattle.map_laws.proofs.Refused.{nodes_fit, refuse_none}
use Rattle.map_laws.proofs.Pruned.{not_emptied, prune_none, test_kind}
use Rattle.map_laws.proofs.Deleting.{delete_pruned}
use Rattle.map_laws.proofs.GoingInto.{into_pruned}
use Rattle.map_laws.proofs.Dissolving.{ungroup_pruned}
use Rattle.map_laws.proofs.Untying.{untie_pruned}
use Rattle.map_laws.proofs.Gathering.{group_pruned, tie_pruned}
use Rattle.map_laws.proofs.Renewing.{renew_alike, renew_shape, same_children, same_linked}
use Rattle.map_laws.proofs.Properties.{node_put, node_without}
use Rattle.map_laws.proofs.Parts.{keeps_props, keeps_frozen, frozen_ok}
use Rattle.map_laws.proofs.Texts.{text_value, name_value, name_key, place_value}
use Rattle.map_laws.proofs.NewNodes.{put_in_world}
use Rattle.map_laws.proofs.RowsPass.{rows_pass}
use Rattle.map_laws.proofs.Unlinking.{Outcome, EndsPlainly, outcome_of, outcome_same, apply_is, accepted_shape}
use Rattle.map_laws.proofs.TreeRows.{rows_are}

-- A command that changes one node where no other sees it.
pub renewed : (m : Whole) (c : Command) (n : ℕ) (g : Node → Node) → KeepsAll g → Shape m → Unlinked m → ((x : Node) → at m n ≡ Some x → NodeOk (format_of m) (g x)) → Outcome m c (renew n g m)
renewed m c n g keeps shape unlinked ok =
    let l = renew_alike m n g keeps in
    let u : Unlinked (renew n g m) = λ q. same_linked l q ∙ unlinked q in
    let same : prune m c (renew n g m) ≡ renew n g m = prune_none m c (renew n g m) (λ q. not_emptied m (renew n g m) q (λ had j is s. had (sym (same_children l q) ∙ s))) in
    outcome_same m c (renew n g m) same (renew_shape m n g keeps shape ok) u

world_or_entity : (k : Kind) → has_props k ≡ true → (k ≡ world) ⊎ (k ≡ entity)
world_or_entity world e = inl refl
world_or_entity layer e = absurd (cc)
world_or_entity group e = absurd (cc)
world_or_entity entity e = inr refl
world_or_entity brush e = absurd (cc)

kind_by_slot : (m : Whole) (n : ℕ) (x : Node) (k : Kind) → at m n ≡ Some x → kind_at m n ≡ Some k → kind_of x ≡ k
kind_by_slot m n x k e f = some_is (sym (ap (option_map kind_of) e) ∙ f)
  where
    some_is : Some (kind_of x) ≡ Some k → kind_of x ≡ k
    some_is e = cc

-- New nodes are right.
new_layer : (f : Format) (name : List ℕ) → is_value_text name ≡ true → NewOk f (LayerNode name false [] [] [])
new_layer f name q = record { ok = (q, record { distinct = refl; keys = refl; values = refl; free = refl }); no_link = refl; no_mark = refl }

new_group : (f : Format) (name : List ℕ) → is_value_text name ≡ true → NewOk f (GroupNode 0 None name None [] [] [])
new_group f name q = record { ok = (q, tt, record { distinct = refl; keys = refl; values = refl; free = refl }); no_link = refl; no_mark = refl }

new_entity : (f : Format) (class : List ℕ) → is_value_text class ≡ true → NewOk f (EntityNode 0 None ((classname, class) ∷ []) [] [])
new_entity f class q = record {
  ok = (record { distinct = refl; keys = refl; values = and_from (is_value_text class) true q refl; free = refl }, refl, record { distinct = refl; each = refl; joined = refl });
  no_link = refl;
  no_mark = refl;
}

new_point_entity : (f : Format) (class place : List ℕ) → is_value_text class ≡ true → is_value_text place ≡ true → NewOk f (EntityNode 0 None ((classname, class) ∷ (origin, place) ∷ []) [] [])
new_point_entity f class place q r = record {
  ok = (
    record { distinct = refl; keys = refl; values = and_from (is_value_text class) (is_value_text place && true) q (and_from (is_value_text place) true r refl); free = refl },
    refl,
    record { distinct = refl; each = refl; joined = refl },
  );
  no_link = refl;
  no_mark = refl;
}

-- set and unset.
key_set : (b : Below) (s : Settings) (m : Whole) (n : ℕ) (key value : List ℕ) → IsGood (Set n key value) → Shape m → Unlinked m → first (rows b s m (Set n key value)) ≡ None →
    Outcome m (Set n key value) (renew n (λ x. with_props (set_value key value (props_of x)) x) m)
key_set b s m n key value words shape u none =
    let k = test_kind has_props m n ((nodes_fit b s m (Set n key value) none).fit n here) in
    let row = or_parts (is_file_key key) ((n == 0) && bytes_eq key classname) (refuse_none (is_file_key key || ((n == 0) && bytes_eq key classname)) (ReservedKey n) (rows_pass b s m (Set n key value) none).key) in
    renewed m (Set n key value) n (λ x. with_props (set_value key value (props_of x)) x) (keeps_props (λ x. set_value key value (props_of x))) shape u
    (λ x is. node_put (format_of m) key value x (shape.each_node n x is) (name_key key words.texts.0) (text_value value words.texts.1) row.0
    (λ w. sym (ap (λ b. b && bytes_eq key classname) (eq-eqb n 0 (shape.standing.one_world n (is_kind_by m world n (ap (option_map kind_of) is ∙ ap Some w))))) ∙ row.1)
    (elim (world_or_entity k.0 k.2) [ inl w ↦ inl (kind_by_slot m n x k.0 is k.1 ∙ w) | inr w ↦ inr (kind_by_slot m n x k.0 is k.1 ∙ w) ]))

key_unset : (b : Below) (s : Settings) (m : Whole) (n : ℕ) (key : List ℕ) → Shape m → Unlinked m → first (rows b s m (Unset n key)) ≡ None →
    Outcome m (Unset n key) (renew n (λ x. with_props (without_key key (props_of x)) x) m)
key_unset b s m n key shape u none =
    let k = test_kind has_props m n ((nodes_fit b s m (Unset n key) none).fit n here) in
    let row = or_parts (is_file_key key) (bytes_eq key classname) (refuse_none (is_file_key key || bytes_eq key classname) (ReservedKey n) (rows_pass b s m (Unset n key) none).key) in
    renewed m (Unset n key) n (λ x. with_props (without_key key (props_of x)) x) (keeps_props (λ x. without_key key (props_of x))) shape u
    (λ x is. node_without (format_of m) key x (shape.each_node n x is) row.0
    (elim (world_or_entity k.0 k.2) [ inl w ↦ inl (kind_by_slot m n x k.0 is k.1 ∙ w) | inr w ↦ inr (kind_by_slot m n x k.0 is k.1 ∙ w) ]))

freezes : (m : Whole) (c : Command) (n : ℕ) (frozen : Bool) → Shape m → Unlinked m → Outcome m c (renew n (with_frozen frozen) m)
freezes m c n frozen shape u = renewed m c n (with_frozen frozen) (keeps_frozen frozen) shape u (λ x is. frozen_ok (format_of m) frozen x (shape.each_node n x is))

-- What comes of each command.
outcome : (b : Below) (s : Settings) (m : Whole) (c : Command) → is_tree_command c ≡ true → IsGood c → Shape m → Unlinked m → first (rows b s m c) ≡ None → Outcome m c (own b s m c)
outcome b s m (Delete ns) is words shape u e =
    outcome_of m (Delete ns) (own b s m (Delete ns)) shape u (delete_pruned (format_of m) m ns shape.standing shape.numbers.nodes (nodes_fit b s m (Delete ns) e))
outcome b s m (Entity class point) is words shape u e =
    put_in_world m (Entity class point) (EntityNode 0 None ((classname, class) ∷ (origin, point_text (point_in point)) ∷ []) [] []) shape u refl refl refl refl (λ e. cc)
    (new_point_entity (format_of m) class (point_text (point_in point)) (name_value class words.texts) (place_value point words.ranges))
outcome b s m (Set n key value) is words shape u e = key_set b s m n key value words shape u e
outcome b s m (Unset n key) is words shape u e = key_unset b s m n key shape u e
outcome b s m (Tie class []) is words shape u e = absurd (omega (arith, words.counts))
outcome b s m (Tie class (n ∷ ns)) is words shape u e =
    outcome_of m (Tie class (n ∷ ns)) (own b s m (Tie class (n ∷ ns))) shape u
    (tie_pruned (format_of m) m class n ns shape.standing shape.numbers.nodes (nodes_fit b s m (Tie class (n ∷ ns)) e) (new_entity (format_of m) class (name_value class words.texts)))
outcome b s m (Untie ns) is words shape u e =
    outcome_of m (Untie ns) (own b s m (Untie ns)) shape u (untie_pruned (format_of m) m ns shape.standing shape.numbers.nodes (nodes_fit b s m (Untie ns) e))
outcome b s m (Layer name) is words shape u e =
    put_in_world m (Layer name) (LayerNode name false [] [] []) shape u refl refl refl refl (λ e. cc) (new_layer (format_of m) name (name_value name words.texts))
outcome b s m (Freeze n) is words shape u e = freezes m (Freeze n) n true shape u
outcome b s m (Thaw n) is words shape u e = freezes m (Thaw n) n false shape u
outcome b s m (Group name []) is words shape u e = absurd (omega (arith, words.counts))
outcome b s m (Group name (n ∷ ns)) is words shape u e =
    outcome_of m (Group name (n ∷ ns)) (own b s m (Group name (n ∷ ns))) shape u
    (group_pruned (format_of m) m name n ns shape.standing shape.numbers.nodes (nodes_fit b s m (Group name (n ∷ ns)) e) (new_group (format_of m) name (name_value name words.texts)))
outcome b s m (Ungroup ns) is words shape u e =
    outcome_of m (Ungroup ns) (own b s m (Ungroup ns)) shape u (ungroup_pruned (format_of m) m ns shape.standing shape.numbers.nodes (nodes_fit b s m (Ungroup ns) e))
outcome b s m (Into place ns) is words shape u e =
    outcome_of m (Into place ns) (own b s m (Into place ns)) shape u (into_pruned (format_of m) m place ns shape.standing shape.numbers.nodes (nodes_fit b s m (Into place ns) e))
outcome b s m c is words shape u e = absurd (cc)

ends : (b : Below) (s : Settings) (m : Whole) (c : Command) → is_tree_command c ≡ true → EndsPlainly b s m c
ends b s m (Delete ns) is = record { accepted = refl; editing = flat_map (edits m (Delete ns)) ns; edits = λ k. refl }
ends b s m (Entity class point) is = record { accepted = refl; editing = []; edits = λ k. refl }
ends b s m (Set n key value) is = record { accepted = refl; editing = flat_map (edits m (Set n key value)) (n ∷ []); edits = λ k. refl }
ends b s m (Unset n key) is = record { accepted = refl; editing = flat_map (edits m (Unset n key)) (n ∷ []); edits = λ k. refl }
ends b s m (Tie class ns) is = record { accepted = refl; editing = flat_map (edits m (Tie class ns)) ns; edits = λ k. refl }
ends b s m (Untie ns) is = record { accepted = refl; editing = flat_map (edits m (Untie ns)) ns; edits = λ k. refl }
ends b s m (Layer name) is = record { accepted = refl; editing = []; edits = λ k. refl }
ends b s m (Freeze n) is = record { accepted = refl; editing = flat_map (edits m (Freeze n)) (n ∷ []); edits = λ k. refl }
ends b s m (Thaw n) is = record { accepted = refl; editing = flat_map (edits m (Thaw n)) (n ∷ []); edits = λ k. refl }
ends b s m (Group name ns) is = record { accepted = refl; editing = flat_map (edits m (Group name ns)) ns; edits = λ k. refl }
ends b s m (Ungroup ns) is = record { accepted = refl; editing = flat_map (edits m (Ungroup ns)) ns; edits = λ k. refl }
ends b s m (Into place ns) is = record { accepted = refl; editing = flat_map (edits m (Into place ns)) (place ∷ ns); edits = λ k. refl }
ends b s m c is = absurd (cc)

pub unlinked_apply : UnlinkedApplyLaw
unlinked_apply b s m c is words shape u = apply_is b s m c (ends b s m c is) u (outcome b s m c is words shape u)

pub unlinked_rows : UnlinkedRowsLaw
unlinked_rows b s m c is u = rows_are b s m c is u

pub tree_command : TreeCommandLaw
tree_command b s m c a is words shape u e = accepted_shape b s m c a (outcome b s m c is words shape u) (sym (unlinked_apply b s m c is words shape u) ∙ e)
