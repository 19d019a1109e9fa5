-- protect keeps the sets of linked groups.
use Rattle.std.proofs.Common.{◌≡◌, ℕ, List, false, ◌==◌, ◌&&◌, ◌||◌, refl, sym, ◌∙◌, None}
use Rattle.std.specs.List.{list_any}
use Rattle.std.specs.Str.{bytes_eq}
use Rattle.std.proofs.lemmas.Bool.{and_right}
use Rattle.uv_lock.specs.declared.texture.Format.{Format}
use Rattle.map_model.specs.Tree.{Whole, Node, World, Layer, Group, Entity, Brush, is_linked, all_numbers, protected_of, with_protected, format_of}
use Rattle.map_model.specs.Edits.{renew}
use Rattle.map_model.specs.Shape.{NodeOk}
use Rattle.map_model.specs.Below.{Below}
use Rattle.map_model.specs.Props.{is_file_key, classname, origin}
use Rattle.map_model.specs.Commands.{Protect, IsGood, Settings}
use Rattle.map_model.specs.Replies.{ReservedKey}
use Rattle.map_model.specs.Rows.{rows, first}
use Rattle.map_model.specs.Own.{with_key}
use Rattle.map_laws.proofs.Refused.{refuse_none}
use Rattle.map_laws.proofs.RowsPass.{rows_pass}
use Rattle.map_laws.proofs.Pruned.{not_emptied, prune_none}
use Rattle.map_laws.proofs.Renewing.{renew_alike, renew_shape, same_children}
use Rattle.map_laws.proofs.Texts.{name_value, name_some}
use Rattle.map_laws.proofs.Unlinking.{filter_none}
use Rattle.link_laws.specs.Keeping.{KeepsAllOne}
use Rattle.link_laws.proofs.Protecting.{keeps_protected, protect_is}
use Rattle.link_laws.proofs.ProtectedKeys.{key_joins, may_be_protected}
use Rattle.link_laws.proofs.PlainRenewals.{plain_spread}
use Rattle.link_laws.proofs.Finishing.{keeps}

node_protects : (f : Format) (key : List ℕ) (b : Below) (s : Settings) (m : Whole) (n : ℕ) → IsGood (Protect n key) → first (rows b s m (Protect n key)) ≡ None → (x : Node) → NodeOk f x →
    NodeOk f (with_protected (with_key key (protected_of x)) x)
node_protects f key b s m n good none (World own props brushes others) h = h
node_protects f key b s m n good none (Layer name frozen props brushes others) h = h
node_protects f key b s m n good none (Group parent mark name link props brushes others) h = h
node_protects f key b s m n good none (Entity parent mark props protected brushes) h = (
  h.0,
  h.1,
  key_joins protected key h.2 (name_value key good.texts) (may_be_protected key (name_some key good.texts)
      (refuse_none (is_file_key key || (bytes_eq key classname || (bytes_eq key origin || list_any (λ b. b == 59) key))) (ReservedKey n) (rows_pass b s m (Protect n key) none).key)),
)
node_protects f key b s m n good none (Brush parent mark faces) h = h

pub protect_keeps : (n : ℕ) (key : List ℕ) → KeepsAllOne (Protect n key)
protect_keeps n key b s m a right good shape all e =
    keeps b s m (Protect n key) a right refl (λ none empty most.
    plain_spread m (renew n (λ x. with_protected (with_key key (protected_of x)) x) m) (Protect n key)
    (renew_shape m n (λ x. with_protected (with_key key (protected_of x)) x) (keeps_protected (λ x. with_key key (protected_of x))) shape
    (λ x is. node_protects (format_of m) key b s m n good none x (shape.each_node n x is)))
    (protect_is m n key all)
    (prune_none m (Protect n key) (renew n (λ x. with_protected (with_key key (protected_of x)) x) m)
    (λ q. not_emptied m (renew n (λ x. with_protected (with_key key (protected_of x)) x) m) q
    (λ had j i s. had (sym (same_children (renew_alike m n (λ x. with_protected (with_key key (protected_of x)) x) (keeps_protected (λ x. with_key key (protected_of x)))) q) ∙ s))))
    (filter_none (λ g. is_linked (renew n (λ x. with_protected (with_key key (protected_of x)) x) m) g && false) (λ g. and_right (is_linked (renew n (λ x. with_protected (with_key key (protected_of x)) x) m) g) false refl) (all_numbers m))
    most) e
