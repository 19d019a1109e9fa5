-- A group that leaves its set: where linked groups stand over nodes, and what stands as before.
use Rattle.std.proofs.Common.{◌≡◌, ◌≢◌, ℕ, zero, suc, [], ◌++◌, Bool, true, false, refl, ap, sym, ◌∙◌, subst, Option, Some, None, option_map}
use Rattle.std.specs.Prelude.{unwrap_or, is_some, option_and_then}
use Rattle.std.proofs.lemmas.Bool.{true≢false}
use Rattle.algebra.specs.Members.{◌∈◌}
use Rattle.uv_lock.specs.declared.texture.Format.{Format}
use Rattle.map_model.specs.Tree.{Whole, Node, World, Layer, Group, Entity, Brush, group, at, up, over, above, above_by, children, is_linked, link_at, set_at, mark_at, kind_of, parent_of, link_of, mark_of, with_link, format_of, format_of_node}
use Rattle.uv_lock.specs.declared.texture.Format.TheVariants.{Standard}
use Rattle.map_model.specs.Edits.{renew}
use Rattle.map_model.specs.Shape.{Shape, NodeOk, EachNode}
use Rattle.map_laws.specs.Placed.{Placed, Bounded, NoEmptyGroup}
use Rattle.map_laws.proofs.Lists.{by_eq, tally}
use Rattle.map_laws.proofs.Beneath.{Beneath, itself, under}
use Rattle.map_laws.proofs.Fuel.{from_above}
use Rattle.map_laws.proofs.Forest.{Grown, not_none, up_or_not, with_parent_live}
use Rattle.map_laws.proofs.Skeleton.{kind_at, list_at, forest, children_are, planted, unplanted, placed_of, kind_is, is_kind_by}
use Rattle.map_laws.proofs.Slots.{slot_list, at-renew_same, at-renew_other, renew-keeps}
use Rattle.map_laws.proofs.Placing.{chains}
use Rattle.map_laws.proofs.Renewing.{linked_is, renew_each}
use Rattle.link_laws.proofs.Edited.{group_linked}
use Rattle.link_laws.proofs.Untouched.{over_is}
use Rattle.link_laws.proofs.Filtering.{find_is}
use Rattle.link_laws.proofs.Remarked.{by_option}

-- A linked group over a node stands above its parent.
pub over_from : (m : Whole) → Placed m → Bounded m → (n g : ℕ) → over m n ≡ Some g → (p : ℕ) × (up m n ≡ Some p) × Beneath (up m) g p × (is_linked m g ≡ true)
over_from m placed bound n g e =
    let r = find_is (is_linked m) g (above m n) e in
    up_or_not (up m n)
    (λ none. absurd (no_above (subst (λ l. g ∈ l) (ap (above_by m.next m) none ∙ nothing m.next) r.0)))
    (λ q u. let w = from_above (chains m (planted placed) bound) g n (with_parent_live (planted placed) n q u) r.0 in (w.0, w.1, w.2, r.1))
  where
    nothing : (f : ℕ) → above_by f m None ≡ []
    nothing zero = refl
    nothing (suc f) = refl

    no_above : g ∈ [] → ⊥
    no_above i = elim i [ ]

kind_kept : (o : Option Node) → option_map kind_of (option_map (with_link None) o) ≡ option_map kind_of o
kind_kept None = refl
kind_kept (Some (World a b c d)) = refl
kind_kept (Some (Layer a b c d g)) = refl
kind_kept (Some (Group a b c d g h i)) = refl
kind_kept (Some (Entity a b c d g)) = refl
kind_kept (Some (Brush a b c)) = refl

up_kept : (o : Option Node) → option_and_then parent_of (option_map (with_link None) o) ≡ option_and_then parent_of o
up_kept None = refl
up_kept (Some (World a b c d)) = refl
up_kept (Some (Layer a b c d g)) = refl
up_kept (Some (Group a b c d g h i)) = refl
up_kept (Some (Entity a b c d g)) = refl
up_kept (Some (Brush a b c)) = refl

list_kept : (b : Bool) (o : Option Node) → slot_list b (option_map (with_link None) o) ≡ slot_list b o
list_kept b None = refl
list_kept true (Some (World a c d e)) = refl
list_kept false (Some (World a c d e)) = refl
list_kept true (Some (Layer a c d e g)) = refl
list_kept false (Some (Layer a c d e g)) = refl
list_kept true (Some (Group a c d e g h i)) = refl
list_kept false (Some (Group a c d e g h i)) = refl
list_kept true (Some (Entity a c d e g)) = refl
list_kept false (Some (Entity a c d e g)) = refl
list_kept true (Some (Brush a c d)) = refl
list_kept false (Some (Brush a c d)) = refl

mark_kept : (o : Option Node) → unwrap_or (option_map mark_of (option_map (with_link None) o)) None ≡ unwrap_or (option_map mark_of o) None
mark_kept None = refl
mark_kept (Some (World a b c d)) = refl
mark_kept (Some (Layer a b c d g)) = refl
mark_kept (Some (Group a b c d g h i)) = refl
mark_kept (Some (Entity a b c d g)) = refl
mark_kept (Some (Brush a b c)) = refl

format_kept : (o : Option Node) → unwrap_or (option_map format_of_node (option_map (with_link None) o)) Standard ≡ unwrap_or (option_map format_of_node o) Standard
format_kept None = refl
format_kept (Some (World a b c d)) = refl
format_kept (Some (Layer a b c d g)) = refl
format_kept (Some (Group a b c d g h i)) = refl
format_kept (Some (Entity a b c d g)) = refl
format_kept (Some (Brush a b c)) = refl

link_gone : (o : Option Node) → unwrap_or (option_map link_of (option_map (with_link None) o)) None ≡ None
link_gone None = refl
link_gone (Some (World a b c d)) = refl
link_gone (Some (Layer a b c d g)) = refl
link_gone (Some (Group a b c d g h i)) = refl
link_gone (Some (Entity a b c d g)) = refl
link_gone (Some (Brush a b c)) = refl

node_unlinked : (f : Format) (x : Node) → NodeOk f x → NodeOk f (with_link None x)
node_unlinked f (World a b c d) h = h
node_unlinked f (Layer a b c d g) h = h
node_unlinked f (Group a b c d g h i) k = (k.0, tt, k.2)
node_unlinked f (Entity a b c d g) h = h
node_unlinked f (Brush a b c) h = h

module _ (m : Whole) (g : ℕ) (shape : Shape m) (linked : is_linked m g ≡ true) where
  abbrev k : Whole
  k = renew g (with_link None) m

  placed_m : Placed m
  placed_m = placed_of shape.standing

  pub kinds : (q : ℕ) → kind_at k q ≡ kind_at m q
  kinds q = renew-keeps (option_map kind_of) (with_link None) kind_kept m g q

  pub ups : (q : ℕ) → up k q ≡ up m q
  ups q = renew-keeps (λ o. option_and_then parent_of o) (with_link None) up_kept m g q

  pub lists : (b : Bool) (q : ℕ) → list_at b k q ≡ list_at b m q
  lists b q = renew-keeps (slot_list b) (with_link None) (list_kept b) m g q

  pub marks : (q : ℕ) → mark_at k q ≡ mark_at m q
  marks q = renew-keeps (λ o. unwrap_or (option_map mark_of o) None) (with_link None) mark_kept m g q

  pub placed_k : Placed k
  placed_k = unplanted k (subst Grown path (planted placed_m))
    where
      path : forest m ≡ forest k
      path = λ i. record { kinds = λ q. sym (kinds q) i; ups = λ q. sym (ups q) i; lists = λ b r q. tally q (sym (lists b r) i) }

  pub bound_k : Bounded k
  bound_k q far = by_eq q g
      (λ s. absurd (not_none (group_linked m g linked) (ap (option_map kind_of) (ap (at m) (sym s) ∙ shape.numbers.nodes q far))))
      (λ ne. at-renew_other m g q (with_link None) ne ∙ shape.numbers.nodes q far)

  pub same_children : (q : ℕ) → children k q ≡ children m q
  same_children q = children_are k q ∙ (λ i. lists true q i ++ lists false q i) ∙ sym (children_are m q)

  pub full : NoEmptyGroup k
  full q is none = shape.standing.no_empty_group q (is_kind_by m group q (sym (kinds q) ∙ kind_is k group q is)) (sym (same_children q) ∙ none)

  pub each_k : EachNode k
  each_k = renew_each m g (with_link None) (renew-keeps (λ o. unwrap_or (option_map format_of_node o) Standard) (with_link None) format_kept m g 0) shape.each_node (λ x e. node_unlinked (format_of m) x (shape.each_node g x e))

  -- links: those of before but for that of g
  link_k : link_at k g ≡ None
  link_k = ap (λ o. unwrap_or (option_map link_of o) None) (at-renew_same m g g (with_link None) refl) ∙ link_gone (at m g)

  link_other : (q : ℕ) → q ≢ g → link_at k q ≡ link_at m q
  link_other q ne = ap (λ o. unwrap_or (option_map link_of o) None) (at-renew_other m g q (with_link None) ne)

  pub still : (q : ℕ) → is_linked k q ≡ true → (q ≢ g) × (is_linked m q ≡ true)
  still q l = by_eq q g
      (λ s. absurd (true≢false (sym l ∙ linked_is k q ∙ ap (λ x. is_some (link_at k x)) s ∙ ap is_some link_k)))
      (λ ne. (ne, linked_is m q ∙ ap is_some (sym (link_other q ne)) ∙ sym (linked_is k q) ∙ l))

  pub set_other : (q : ℕ) → q ≢ g → set_at k q ≡ set_at m q
  set_other q ne = ap (option_map (λ l. l.set)) (link_other q ne)

  pub set_before : (q s : ℕ) → set_at k q ≡ Some s → set_at m q ≡ Some s
  set_before q s e = by_eq q g
      (λ t. absurd (not_none e (ap (set_at k) t ∙ ap (option_map (λ l. l.set)) link_k)))
      (λ ne. sym (set_other q ne) ∙ e)

  beneath_m : {h q : ℕ} → Beneath (up k) h q → Beneath (up m) h q
  beneath_m itself = itself
  beneath_m (under q p e b) = under q p (sym (ups q) ∙ e) (beneath_m b)

  -- what stands over a node now did so before
  pub over_before : (n h : ℕ) → over k n ≡ Some h → over m n ≡ Some h
  over_before n h e =
      let w = over_from k placed_k bound_k n h e in
      let u : up m n ≡ Some w.0 = sym (ups n) ∙ w.1 in
      over_is m (chains m (planted placed_m) shape.numbers.nodes) shape.marks.not_nested h n w.0 (with_parent_live (planted placed_m) n w.0 u) u (beneath_m w.2) (still h w.3).1

  pub apart_k : (q : ℕ) → is_linked k q ≡ true → over k q ≡ None
  apart_k q l = by_option (over k q) (λ e. e) (λ h e. absurd (not_none (over_before q h e) (shape.marks.not_nested q (still q l).1)))

  pub over_linked : (n h : ℕ) → over k n ≡ Some h → is_linked k h ≡ true
  over_linked n h e = (over_from k placed_k bound_k n h e).3
