-- unprotect keeps the sets of linked groups.
use Rattle.std.proofs.Common.{◌≡◌, ℕ, List, [], true, false, not, ◌&&◌, refl, ap, sym, ◌∙◌, Option, None, Some, option_map}
use Rattle.std.specs.Prelude.{unwrap_or}
use Rattle.std.proofs.lemmas.Bool.{and_right}
use Rattle.uv_lock.specs.declared.texture.Format.{Format}
use Rattle.algebra.specs.Members.{here}
use Rattle.map_model.specs.Tree.{Whole, Node, World, Layer, Group, Entity, Brush, entity, at, is_linked, all_numbers, kind_of, protected_of, protected_at, format_of}
use Rattle.map_model.specs.Edits.{renew}
use Rattle.map_model.specs.Shape.{NodeOk}
use Rattle.map_model.specs.Below.{Below}
use Rattle.map_model.specs.Props.{is_text_among}
use Rattle.map_model.specs.Commands.{Command, Unprotect, Settings}
use Rattle.map_model.specs.Replies.{NoKey}
use Rattle.map_model.specs.Rows.{rows, first, no_node, repeated, wrong_kind, nested_ids, locked_layer, two_members, reserved_key, no_key}
use Rattle.map_model.specs.Own.{first_free, others_over}
use Rattle.map_laws.proofs.Skeleton.{kind_at, kind_is}
use Rattle.map_laws.proofs.Tests.{not_false}
use Rattle.map_laws.proofs.Refused.{first_none, refuse_none, nodes_fit}
use Rattle.map_laws.proofs.Pruned.{not_emptied, prune_none}
use Rattle.map_laws.proofs.Renewing.{renew_alike, renew_shape, same_children}
use Rattle.map_laws.proofs.Unlinking.{filter_none}
use Rattle.link_laws.specs.Keeping.{KeepsAllOne}
use Rattle.link_laws.proofs.ProtectedKeys.{PlainKey, plain_key, protected_can}
use Rattle.link_laws.proofs.FreedValues.{freed, keeps_freed, freed_ok}
use Rattle.link_laws.proofs.Unprotecting.{unprotect_is, first_node}
use Rattle.link_laws.proofs.PlainRenewals.{plain_spread}
use Rattle.link_laws.proofs.Finishing.{keeps}

key_row : (b : Below) (s : Settings) (m : Whole) (c : Command) → first (rows b s m c) ≡ None → no_key m c ≡ None
key_row b s m c e =
    let a1 = first_none (no_node m c) _ e in
    let a2 = first_none (repeated c) _ a1.1 in
    let a3 = first_none (wrong_kind m c) _ a2.1 in
    let a4 = first_none (nested_ids m c) _ a3.1 in
    let a5 = first_none (locked_layer m c) _ a4.1 in
    let a6 = first_none (two_members m c) _ a5.1 in
    let a7 = first_none (reserved_key c) _ a6.1 in
    (first_none (no_key m c) _ a7.1).0

-- A protected key is none of those that can't be.
slot_key : (f : Format) (key : List ℕ) (o : Option Node) → ((x : Node) → o ≡ Some x → NodeOk f x) → option_map kind_of o ≡ Some entity → is_text_among key (unwrap_or (option_map protected_of o) []) ≡ true → PlainKey key
slot_key f key None each is e = absurd (cc)
slot_key f key (Some (World a b c d)) each is e = absurd (cc)
slot_key f key (Some (Layer a b c d g)) each is e = absurd (cc)
slot_key f key (Some (Group a b c d g h i)) each is e = absurd (cc)
slot_key f key (Some (Entity a b ps pr bs)) each is e = plain_key key (protected_can pr key (each (Entity a b ps pr bs) refl).2.each e)
slot_key f key (Some (Brush a b c)) each is e = absurd (cc)

pub unprotect_keeps : (n : ℕ) (key : List ℕ) → KeepsAllOne (Unprotect n key)
unprotect_keeps n key b s m a right good shape all e =
    keeps b s m (Unprotect n key) a right refl (λ none empty most.
    let source = first_free m n key (others_over m n) in
    let is = kind_is m entity n ((nodes_fit b s m (Unprotect n key) none).fit n here) in
    let plain = slot_key (format_of m) key (at m n) (λ x e. shape.each_node n x e) is
    (not_false (is_text_among key (protected_at m n)) (refuse_none (not (is_text_among key (protected_at m n))) (NoKey n) (key_row b s m (Unprotect n key) none))) in
    plain_spread m (renew n (freed key source) m) (Unprotect n key)
    (renew_shape m n (freed key source) (keeps_freed key source) shape (λ x at_n. freed_ok (format_of m) key source x (shape.each_node n x at_n) plain.file
    (λ y f. let z = first_node m n key (others_over m n) y f in shape.each_node z.0 y z.1) (kind_there x at_n is)))
    (unprotect_is m n key plain.origin shape all is)
    (prune_none m (Unprotect n key) (renew n (freed key source) m)
    (λ q. not_emptied m (renew n (freed key source) m) q (λ had j i s. had (sym (same_children (renew_alike m n (freed key source) (keeps_freed key source)) q) ∙ s))))
    (filter_none (λ g. is_linked (renew n (freed key source) m) g && false) (λ g. and_right (is_linked (renew n (freed key source) m) g) false refl) (all_numbers m))
    most) e
  where
    kind_there : (x : Node) → at m n ≡ Some x → kind_at m n ≡ Some entity → kind_of x ≡ entity
    kind_there x f k = some_is (ap (option_map kind_of) (sym f) ∙ k)
      where
        some_is : Some (kind_of x) ≡ Some entity → kind_of x ≡ entity
        some_is e = cc
