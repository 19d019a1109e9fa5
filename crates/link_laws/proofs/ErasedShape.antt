-- The map without its links and marks has the shape of maps.
use Rattle.std.proofs.Common.{◌≡◌, refl, ap, sym, ◌∙◌, subst, option_map}
use Rattle.uv_lock.specs.declared.texture.Format.{Format}
use Rattle.map_model.specs.Tree.{Whole, Node, World, Layer, Group, Entity, Brush, group, at, link_of, format_of}
use Rattle.map_model.specs.Shape.{Shape, NodeOk, LinkOk}
use Rattle.map_laws.specs.Placed.{Placed, NewOk}
use Rattle.map_laws.specs.Unlinked.{Unlinked}
use Rattle.map_laws.proofs.Lists.{tally}
use Rattle.map_laws.proofs.Forest.{Grown}
use Rattle.map_laws.proofs.Skeleton.{forest, planted, unplanted, placed_of}
use Rattle.map_laws.proofs.Renewing.{renewed_slot}
use Rattle.map_laws.proofs.FairMaps.{Fair, fair_shape}
use Rattle.link_laws.proofs.Erasing.{erased, erase, erased_kinds, erased_ups, erased_lists, erased_children, erased_is, erased_linked, erased_format}

same_forest : (m : Whole) → forest (erase m) ≡ forest m
same_forest m = λ i. record { kinds = λ q. erased_kinds m q i; ups = λ q. erased_ups m q i; lists = λ b r q. tally q (erased_lists m b r i) }

pub erased_placed : (m : Whole) → Placed m → Placed (erase m)
erased_placed m placed = unplanted (erase m) (subst Grown (sym (same_forest m)) (planted placed))

pub placed_by_erased : (m : Whole) → Placed (erase m) → Placed m
placed_by_erased m placed = unplanted m (subst Grown (same_forest m) (planted placed))

-- A node is right without its link and its mark, and with them where its link is.
erased_new : (f : Format) (x : Node) → NodeOk f x → NewOk f (erased x)
erased_new f (World a b c d) h = record { ok = h; no_link = refl; no_mark = refl }
erased_new f (Layer a b c d e) h = record { ok = h; no_link = refl; no_mark = refl }
erased_new f (Group a b c d e g i) h = record { ok = (h.0, tt, h.2); no_link = refl; no_mark = refl }
erased_new f (Entity a b c d e) h = record { ok = h; no_link = refl; no_mark = refl }
erased_new f (Brush a b c) h = record { ok = h; no_link = refl; no_mark = refl }

pub right_with_link : (f : Format) (x : Node) → NodeOk f (erased x) → LinkOk (link_of x) → NodeOk f x
right_with_link f (World a b c d) h l = h
right_with_link f (Layer a b c d e) h l = h
right_with_link f (Group a b c d e g i) h l = (h.0, l, h.2)
right_with_link f (Entity a b c d e) h l = h
right_with_link f (Brush a b c) h l = h

pub right_link : (f : Format) (x : Node) → NodeOk f x → LinkOk (link_of x)
right_link f (World a b c d) h = tt
right_link f (Layer a b c d e) h = tt
right_link f (Group a b c d e g i) h = h.1
right_link f (Entity a b c d e) h = tt
right_link f (Brush a b c) h = tt

erased_fair : (m : Whole) → Shape m → Fair (format_of m) (erase m)
erased_fair m shape = record {
  placed = erased_placed m (placed_of shape.standing);
  bound = λ q far. ap (option_map erased) (shape.numbers.nodes q far);
  each = λ q y e. let x = renewed_slot erased (at m q) y e in subst (NewOk (format_of m)) x.2 (erased_new (format_of m) x.0 (shape.each_node q x.0 x.1));
  format = erased_format m;
}

pub erased_shape : (m : Whole) → Shape m → Shape (erase m)
erased_shape m shape = fair_shape (erased_fair m shape) (λ g is none. shape.standing.no_empty_group g (sym (erased_is m group g) ∙ is) (sym (erased_children m g) ∙ none)) shape.numbers.most

pub erased_unlinked : (m : Whole) → Unlinked (erase m)
erased_unlinked m n = erased_linked m n
