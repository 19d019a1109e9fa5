-- The command that copies nodes, where no group is linked: each copy stands at the end of the node's parent, and old nodes stay.
use Rattle.std.proofs.Common.{◌≡◌, ℕ, ◌<◌, List, [], ◌∷◌, ◌++◌, flat_map, Bool, true, inl, inr, refl, ap, sym, ◌∙◌, subst, arith, Some, option_map}
use Rattle.std.specs.Prelude.{unwrap_or}
use Rattle.std.proofs.lemmas.Bool.{cases_lt}
use Rattle.uv_lock.specs.declared.texture.Format.{Format}
use Rattle.algebra.specs.Members.{◌∈◌, here, there}
use Rattle.map_model.specs.Motions.{Motion, is_signed_permutation}
use Rattle.map_model.specs.Tree.{Whole, Node, World, Layer, Group, Entity, Brush, Kind, at, up, children, preorder, kind_of, parent_of, brushes_of, others_of, format_of}
use Rattle.map_model.specs.Edits.{each_in_turn, copy_last}
use Rattle.map_model.specs.Shape.{Shape, NodeOk}
use Rattle.map_model.specs.Below.{Below, IsRight}
use Rattle.map_model.specs.Commands.{Command}
use Rattle.map_model.specs.Own.{copied_node}
use Rattle.map_model.specs.Apply.{prune}
use Rattle.map_laws.specs.Placed.{Placed, Bounded, NoEmptyGroup, KeepsPlace, NewOk, can_hold}
use Rattle.map_laws.specs.Unlinked.{Unlinked}
use Rattle.map_laws.proofs.Lists.{tally-member, member-flat}
use Rattle.map_laws.proofs.Beneath.{Beneath, itself, under, no_circle}
use Rattle.map_laws.proofs.Fuel.{Chains, in_preorder, from_preorder, parent_rooted}
use Rattle.map_laws.proofs.Forest.{not_none}
use Rattle.map_laws.proofs.Nodes.{says_parent}
use Rattle.map_laws.proofs.Skeleton.{kind_at, planted, placed_of, up_child}
use Rattle.map_laws.proofs.Placing.{chains, no_slot}
use Rattle.map_laws.proofs.Kept.{Comes, comes_then, comes_itself, bounded_by}
use Rattle.map_laws.proofs.Drawing.{copy_comes}
use Rattle.map_laws.proofs.CopyLast.{copy_placed, copy_kinds, copy_ups, copy_nodes, copy_full, slot_live}
use Rattle.map_laws.proofs.Pruned.{Pruned, not_emptied, prune_none, child_of, some_child}
use Rattle.map_laws.proofs.Holding.{parent_said, kind_p, parent_holds}
use Rattle.map_laws.proofs.MovedNodes.{CanBeMoved, node_moved}
use Rattle.map_laws.proofs.Unlinking.{Outcome, outcome_of}

-- Copied nodes are right. ------------------------------------------------------------------------------------------------------------

keeps_copied : (lock : Bool) (r : Motion) → KeepsPlace (copied_node lock r)
keeps_copied lock r = record {
  kind = λ x. elim x as (λ x. kind_of (copied_node lock r x) ≡ kind_of x) [ World a b c d ↦ refl | _ ↦ refl ];
  parent = λ x. elim x as (λ x. parent_of (copied_node lock r x) ≡ parent_of x) [ World a b c d ↦ refl | _ ↦ refl ];
  brushes = λ x. elim x as (λ x. brushes_of (copied_node lock r x) ≡ brushes_of x) [ World a b c d ↦ refl | _ ↦ refl ];
  others = λ x. elim x as (λ x. others_of (copied_node lock r x) ≡ others_of x) [ World a b c d ↦ refl | _ ↦ refl ];
}

new_copy : (b : Below) (lock : Bool) (r : Motion) (format : Format) (x : Node) → IsRight b → is_signed_permutation r.matrix ≡ true → NodeOk format x → CanBeMoved b lock r x → NewOk format (copied_node lock r x)
new_copy b lock r format (World a c d e) right p h can = record { ok = h; no_link = refl; no_mark = refl }
new_copy b lock r format (Layer a c d e g) right p h can = record { ok = h; no_link = refl; no_mark = refl }
new_copy b lock r format (Group a c d e g i j) right p h can = record { ok = (h.0, tt, h.2); no_link = refl; no_mark = refl }
new_copy b lock r format (Entity a c ps d e) right p h can = record { ok = node_moved b lock r format (Entity a c ps d e) right p h can; no_link = refl; no_mark = refl }
new_copy b lock r format (Brush a c faces) right p h can = record { ok = node_moved b lock r format (Brush a c faces) right p h can; no_link = refl; no_mark = refl }

-- One after another. -----------------------------------------------------------------------------------------------------------------

-- The map k, which came from m by copies of some of the nodes.
pub record AfterCopies (m : Whole) (all : List ℕ) (k : Whole) : Type 0 where
  pub placed : Placed k
  pub comes : Comes (format_of m) m k
  pub full : NoEmptyGroup k
  pub kinds : (q : ℕ) → q < m.next → kind_at k q ≡ kind_at m q
  pub ups : (q : ℕ) → q < m.next → up k q ≡ up m q
  pub nodes : (q : ℕ) → q < m.next → ((n : ℕ) → n ∈ all → up m n ≡ Some q → ⊥) → at k q ≡ at m q

module _ (b : Below) (lock : Bool) (r : Motion) (m : Whole) (all : List ℕ) (right : IsRight b) (p : is_signed_permutation r.matrix ≡ true) (shape : Shape m)
    (kinds : (n : ℕ) → n ∈ all → (k : Kind) × (kind_at m n ≡ Some k) × (says_parent k ≡ true))
    (apart : (x y : ℕ) → x ∈ all → y ∈ all → Beneath (up m) x y → x ≡ y)
    (can : (q : ℕ) (x : Node) → q ∈ flat_map (preorder m) all → at m q ≡ Some x → CanBeMoved b lock r x) where
  pub placed : Placed m
  placed = placed_of shape.standing

  bound : Bounded m
  bound = shape.numbers.nodes

  pub c : Chains m
  c = chains m (planted placed) bound

  below : (q : ℕ) (k : Kind) → kind_at m q ≡ Some k → q < m.next
  below q k e = elim (cases_lt q m.next) [ inl lt ↦ lt | inr far ↦ absurd (not_none e (no_slot (at m q) (bound q far))) ]

  pub rooted : (n : ℕ) → n ∈ all → Beneath (up m) 0 n
  rooted n i = let k = kinds n i in (planted placed).rooted n k.0 k.1

  pub live : (n q : ℕ) → n ∈ all → Beneath (up m) n q → q < m.next
  live n q i itself = let k = kinds n i in below n k.0 k.1
  live n q i (under t s e w) = let k = slot_live m q s e in below q k.0 k.1

  -- No parent of a named node stands beneath one.
  pub no_parent : (n q : ℕ) → n ∈ all → Beneath (up m) n q → (a : ℕ) → a ∈ all → up m a ≡ Some q → ⊥
  no_parent n q i w a j e =
      no_circle (planted placed).top (parent_rooted c q (rooted a j) e) e (subst (λ z. Beneath (up m) z q) (apart n a i j (under a q e w)) w)

  -- What stands beneath a named node in k did so in m.
  descend : (k : Whole) → AfterCopies m all k → (n q : ℕ) → n ∈ all → Beneath (up k) n q → Beneath (up m) n q
  descend k s n q i itself = itself
  descend k s n q i (under t o e w) =
      let v : Beneath (up m) n o = descend k s n o i w in
      let same : at k o ≡ at m o = s.nodes o (live n o i v) (no_parent n o i v) in
      let child : q ∈ children k o = tally-member q (children k o) (omega (arith, up_child k (planted s.placed) o q e)) in
      under q o (placed.children_stand o q (subst (λ x. q ∈ unwrap_or (option_map (λ y. brushes_of y ++ others_of y) x) []) same child)) v

  copies_one : (k : Whole) → AfterCopies m all k → (n : ℕ) → n ∈ all → AfterCopies m all (copy_last (unwrap_or (up k n) 0) (copied_node lock r) n k)
  copies_one k s n i = subst (λ o. AfterCopies m all (copy_last (unwrap_or o 0) (copied_node lock r) n k)) (sym up_k) (record {
    placed = copy_placed k par.0 n (copied_node lock r) j.0 kn.0 s.placed bound_k kind_j kind_n held kn.2 (keeps_copied lock r);
    comes = comes_then s.comes (copy_comes (format_of m) k par.0 (copied_node lock r) n bound_k new);
    full = copy_full k par.0 n (copied_node lock r) j.0 kn.0 s.placed bound_k kind_j kind_n held kn.2 (keeps_copied lock r) s.full;
    kinds = λ q lt. copy_kinds k par.0 n (copied_node lock r) j.0 kn.0 s.placed bound_k kind_j kind_n held kn.2 (keeps_copied lock r) q (later q lt) ∙ s.kinds q lt;
    ups = λ q lt. copy_ups k par.0 n (copied_node lock r) j.0 kn.0 s.placed bound_k kind_j kind_n held kn.2 (keeps_copied lock r) q (later q lt) ∙ s.ups q lt;
    nodes = λ q lt none. copy_nodes k par.0 n (copied_node lock r) j.0 kn.0 s.placed bound_k kind_j kind_n held kn.2 (keeps_copied lock r) q (later q lt)
        (λ t. none n i (par.1 ∙ ap Some (sym t))) ∙ s.nodes q lt none;
  })
    where
      kn : (k : Kind) × (kind_at m n ≡ Some k) × (says_parent k ≡ true)
      kn = kinds n i

      par : (o : ℕ) × (up m n ≡ Some o)
      par = parent_said m n kn.0 kn.1 kn.2

      j : (k : Kind) × (kind_at m par.0 ≡ Some k)
      j = kind_p m placed n par.0 par.1

      held : can_hold j.0 kn.0 ≡ true
      held = parent_holds m placed n par.0 par.1 j.0 kn.0 j.1 kn.1

      bound_k : Bounded k
      bound_k = bounded_by s.comes

      later : (q : ℕ) → q < m.next → q < k.next
      later q lt = omega (arith, s.comes.next, lt)

      kind_j : kind_at k par.0 ≡ Some j.0
      kind_j = s.kinds par.0 (below par.0 j.0 j.1) ∙ j.1

      kind_n : kind_at k n ≡ Some kn.0
      kind_n = s.kinds n (below n kn.0 kn.1) ∙ kn.1

      up_k : up k n ≡ Some par.0
      up_k = s.ups n (below n kn.0 kn.1) ∙ par.1

      new : (q : ℕ) (x : Node) → q ∈ preorder k n → at k q ≡ Some x → NewOk (format_of m) (copied_node lock r x)
      new q x w e =
          let v : Beneath (up m) n q = descend k s n q i (from_preorder (chains k (planted s.placed) bound_k) k.next n q w) in
          let was : at m q ≡ Some x = sym (s.nodes q (live n q i v) (no_parent n q i v)) ∙ e in
          new_copy b lock r (format_of m) x right p (shape.each_node q x was) (can q x (member-flat (preorder m) q n all i (in_preorder c n (rooted n i) v)) was)

  pub copies_all : (ns : List ℕ) → ((n : ℕ) → n ∈ ns → n ∈ all) → (k : Whole) → AfterCopies m all k → AfterCopies m all (each_in_turn (λ n k. copy_last (unwrap_or (up k n) 0) (copied_node lock r) n k) ns k)
  copies_all [] sub k s = s
  copies_all (n ∷ ns) sub k s = copies_all ns (λ x i. sub x (there i)) (copy_last (unwrap_or (up k n) 0) (copied_node lock r) n k) (copies_one k s n (sub n here))

  subst_pruned : (command : Command) (k : Whole) → prune m command k ≡ k → AfterCopies m all k → Pruned (format_of m) m command k
  subst_pruned command k same s = record {
    placed = subst Placed (sym same) s.placed;
    comes = subst (Comes (format_of m) m) (sym same) s.comes;
    empties = λ g is none. absurd (subst NoEmptyGroup (sym same) s.full g is none);
  }

  -- No copy is made yet.
  pub begins : AfterCopies m all m
  begins = record {
    placed = placed;
    comes = comes_itself (format_of m) m bound;
    full = shape.standing.no_empty_group;
    kinds = λ q lt. refl;
    ups = λ q lt. refl;
    nodes = λ q lt none. refl;
  }

  -- No node has lost its last child.
  pub nothing_pruned : (command : Command) (k : Whole) → AfterCopies m all k → prune m command k ≡ k
  nothing_pruned command k s = prune_none m command k (λ n. not_emptied m k n (λ had j e.
      let x = child_of m placed n had in
      some_child k s.placed n x.0 (s.ups x.0 (below x.0 (slot_live m x.0 n x.1).0 (slot_live m x.0 n x.1).1) ∙ x.1)))

  pub copies_outcome : (command : Command) → Unlinked m → Outcome m command (each_in_turn (λ n k. copy_last (unwrap_or (up k n) 0) (copied_node lock r) n k) all m)
  copies_outcome command u =
      let k = each_in_turn (λ n k. copy_last (unwrap_or (up k n) 0) (copied_node lock r) n k) all m in
      let s = copies_all all (λ x i. i) m begins in
      outcome_of m command k shape u (subst_pruned command k (nothing_pruned command k s) s)
