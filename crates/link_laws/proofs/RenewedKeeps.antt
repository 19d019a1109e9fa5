-- The commands that change one node where no other sees it keep the sets of linked groups: set, unset, freeze and thaw.
use Rattle.std.proofs.Common.{◌≡◌, ℕ, List, [], ◌∷◌, flat_map, true, false, refl, Some, ap, sym, ◌∙◌, subst}
use Rattle.std.specs.Prelude.{option_to_list}
use Rattle.algebra.specs.Members.{◌∈◌, here}
use Rattle.map_model.specs.Tree.{Whole, Node, Kind, layer, group, over, is_linked, props_of, with_props, with_frozen}
use Rattle.map_model.specs.Edits.{renew}
use Rattle.map_model.specs.Shape.{Shape}
use Rattle.map_model.specs.Props.{set_value, without_key}
use Rattle.map_model.specs.Commands.{Command, Set, Unset, Freeze, Thaw}
use Rattle.map_model.specs.Rows.{named, edits, has_props}
use Rattle.map_model.specs.Apply.{prune}
use Rattle.map_laws.specs.Placed.{KeepsAll}
use Rattle.map_laws.proofs.Skeleton.{kind_at, not_both, placed_of, kind_is}
use Rattle.map_laws.proofs.Pruned.{not_emptied, prune_none, test_kind}
use Rattle.map_laws.proofs.Refused.{nodes_fit}
use Rattle.map_laws.proofs.Renewing.{renew_alike, alike_placed, same_children}
use Rattle.map_laws.proofs.Parts.{keeps_props, keeps_frozen}
use Rattle.link_laws.specs.Keeping.{KeepsAllOne}
use Rattle.link_laws.proofs.Contents.{SameContent}
use Rattle.link_laws.proofs.Edited.{renew_content}
use Rattle.link_laws.proofs.Renewals.{set_shape, unset_shape, frozen_shape}
use Rattle.link_laws.proofs.RenewedSpread.{renewed_spread}
use Rattle.link_laws.proofs.TwoMembers.{one_edited}
use Rattle.link_laws.proofs.Finishing.{keeps}

-- No content changes but those of groups over the node.
leaves : (m : Whole) (c : Command) (n : ℕ) (g : Node → Node) → KeepsAll g → Shape m → named c ≡ n ∷ [] → (k : Kind) → kind_at m n ≡ Some k → (k ≡ group → ⊥) → ((a : ℕ) → edits m c a ≡ option_to_list (over m a)) →
    (h : ℕ) → is_linked m h ≡ true → (h ∈ flat_map (edits m c) (named c) → ⊥) → SameContent h m (renew n g m)
leaves m c n g keep shape name k is other same h l out =
    let alike = renew_alike m n g keep in
    let pruned : prune m c (renew n g m) ≡ renew n g m = prune_none m c (renew n g m) (λ q. not_emptied m (renew n g m) q (λ had j i s. had (sym (same_children alike q) ∙ s))) in
    subst (SameContent h m) pruned (renew_content m shape.standing shape.numbers.nodes shape.marks h l c n g name (alike_placed alike (placed_of shape.standing)) k is other same out)

no_group : (k : Kind) → has_props k ≡ true → k ≡ group → ⊥
no_group k e s = not_both (has_props k) e (ap has_props s)

layer_is_none : layer ≡ group → ⊥
layer_is_none e = cc

pub set_keeps : (n : ℕ) (key value : List ℕ) → KeepsAllOne (Set n key value)
set_keeps n key value b s m a right good shape all e =
    keeps b s m (Set n key value) a right refl (λ none empty most.
    let k = test_kind has_props m n ((nodes_fit b s m (Set n key value) none).fit n here) in
    renewed_spread m (Set n key value) n (λ x. with_props (set_value key value (props_of x)) x) (keeps_props (λ x. set_value key value (props_of x))) (set_shape b s m n key value good shape none) shape (λ k. refl)
    (leaves m (Set n key value) n (λ x. with_props (set_value key value (props_of x)) x) (keeps_props (λ x. set_value key value (props_of x))) shape refl k.0 k.1 (no_group k.0 k.2) (λ a. refl))
    all (one_edited b s m (Set n key value) none) most) e

pub unset_keeps : (n : ℕ) (key : List ℕ) → KeepsAllOne (Unset n key)
unset_keeps n key b s m a right good shape all e =
    keeps b s m (Unset n key) a right refl (λ none empty most.
    let k = test_kind has_props m n ((nodes_fit b s m (Unset n key) none).fit n here) in
    renewed_spread m (Unset n key) n (λ x. with_props (without_key key (props_of x)) x) (keeps_props (λ x. without_key key (props_of x))) (unset_shape b s m n key shape none) shape (λ k. refl)
    (leaves m (Unset n key) n (λ x. with_props (without_key key (props_of x)) x) (keeps_props (λ x. without_key key (props_of x))) shape refl k.0 k.1 (no_group k.0 k.2) (λ a. refl))
    all (one_edited b s m (Unset n key) none) most) e

pub freeze_keeps : (n : ℕ) → KeepsAllOne (Freeze n)
freeze_keeps n b s m a right good shape all e =
    keeps b s m (Freeze n) a right refl (λ none empty most.
    renewed_spread m (Freeze n) n (with_frozen true) (keeps_frozen true) (frozen_shape m n true shape) shape (λ k. refl)
    (leaves m (Freeze n) n (with_frozen true) (keeps_frozen true) shape refl layer (kind_is m layer n ((nodes_fit b s m (Freeze n) none).fit n here)) layer_is_none (λ a. refl))
    all (one_edited b s m (Freeze n) none) most) e

pub thaw_keeps : (n : ℕ) → KeepsAllOne (Thaw n)
thaw_keeps n b s m a right good shape all e =
    keeps b s m (Thaw n) a right refl (λ none empty most.
    renewed_spread m (Thaw n) n (with_frozen false) (keeps_frozen false) (frozen_shape m n false shape) shape (λ k. refl)
    (leaves m (Thaw n) n (with_frozen false) (keeps_frozen false) shape refl layer (kind_is m layer n ((nodes_fit b s m (Thaw n) none).fit n here)) layer_is_none (λ a. refl))
    all (one_edited b s m (Thaw n) none) most) e
