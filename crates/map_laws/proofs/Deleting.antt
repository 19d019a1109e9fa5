-- delete: what is left, pruned.
use Rattle.std.proofs.Common.{◌≡◌, ◌≢◌, ℕ, suc, ◌≤◌, List, [], ◌∷◌, true, false, cond, ◌==◌, inl, inr, refl, ap, sym, ◌∙◌, arith, Some}
use Rattle.uv_lock.specs.declared.texture.Format.{Format}
use Rattle.algebra.specs.Members.{◌∈◌, here, there}
use Rattle.map_model.specs.Tree.{Whole, Kind, world, group, up, above, lies_beneath}
use Rattle.map_model.specs.Edits.{each_in_turn, delete}
use Rattle.map_model.specs.Commands.{Delete}
use Rattle.map_model.specs.Rows.{may_be_deleted}
use Rattle.map_model.specs.Shape.{Standing}
use Rattle.map_laws.specs.Placed.{Placed, Bounded}
use Rattle.map_laws.proofs.Lists.{tally, tally-head, member-tally, tally-no_member, member-flat}
use Rattle.map_laws.proofs.Beneath.{Beneath, some_one, itself, under}
use Rattle.map_laws.proofs.Forest.{not_none}
use Rattle.map_laws.proofs.Skeleton.{kind_at, planted, placed_of, not_both, kind_is, is_kind_by}
use Rattle.map_laws.proofs.Slots.{member_among}
use Rattle.map_laws.proofs.Placing.{chains}
use Rattle.map_laws.proofs.Pruning.{Upwards, ToDo, HadChildren}
use Rattle.map_laws.proofs.InTurn.{AreNodes, Apart, Deleted, delete_all, chains_up, by_member}
use Rattle.map_laws.proofs.Refused.{NodesFit}
use Rattle.map_laws.proofs.Pruned.{Pruned, chain_list, child_of, is_above, no_child, parent_above, pruned_by, rooted_at, test_kind}

-- delete.
module _ (f : Format) (m : Whole) (ns : List ℕ) (standing : Standing m) (bound : Bounded m) (fit : NodesFit m (Delete ns)) where
  placed : Placed m
  placed = placed_of standing

  kind_of_named : (n : ℕ) → n ∈ ns → (k : Kind) × (kind_at m n ≡ Some k) × (may_be_deleted k ≡ true)
  kind_of_named n i = test_kind may_be_deleted m n (fit.fit n i)

  no_world : (k : Kind) → may_be_deleted k ≡ true → k ≡ world → ⊥
  no_world k e s = cc (sym e ∙ ap may_be_deleted s)

  pub delete_nodes : AreNodes m ns
  delete_nodes n i = let w = kind_of_named n i in (w.0, w.1, (λ s. no_world w.0 w.2 (some_one (sym (ap (kind_at m) s) ∙ w.1) (planted placed).world_stands)))

  pub delete_rooted : (n : ℕ) → n ∈ ns → Beneath (up m) 0 n
  delete_rooted n i = let w = kind_of_named n i in rooted_at m placed bound n w.0 w.1

  nested : (n q : ℕ) → n ∈ ns → q ∈ ns → n ≢ q → Beneath (up m) n q → ⊥
  nested n q i j ne itself = ne refl
  nested n q i j ne (under t p e b) = not_both (lies_beneath m q n) (member_among n (above m q) (is_above m placed bound q p n e b)) (fit.apart q n j i)

  apart_by : (l : List ℕ) → ((x : ℕ) → x ∈ l → x ∈ ns) → ((x : ℕ) → tally x l ≤ 1) → Apart m l
  apart_by [] all once = tt
  apart_by (x ∷ xs) all once = (
    (λ q i b. nested x q (all x here) (all q (there i)) (λ s. omega (arith, once x, tally-head x xs, member-tally q xs i, ap (λ z. tally z xs) s)) b),
    apart_by xs (λ y i. all y (there i)) (λ y. omega (arith, once y, less y x xs)),
  )
    where
      less : (a x : ℕ) (xs : List ℕ) → tally a xs ≤ tally a (x ∷ xs)
      less a x xs = elim (x == a) as (λ b. tally a xs ≤ cond b (suc (tally a xs)) (tally a xs)) [ true ↦ omega arith | false ↦ omega arith ]

  once : (x : ℕ) → tally x ns ≤ 1
  once x = by_member x ns (λ i. fit.once x i) (λ none. omega (arith, tally-no_member x ns none))

  pub deleted : Deleted f ns m (each_in_turn delete ns m)
  deleted = delete_all f ns m placed bound delete_nodes (apart_by ns (λ x i. i) once)

  upwards : Upwards (each_in_turn delete ns m) (chain_list m (Delete ns))
  upwards = chains_up (each_in_turn delete ns m) (chains m (planted placed) bound) ns delete_rooted (λ n q p t i e b u. deleted.without.ups q t u)

  had : HadChildren m (each_in_turn delete ns m) (chain_list m (Delete ns))
  had g i is = standing.no_empty_group g (is_kind_by m group g (deleted.without.kinds g group (kind_is (each_in_turn delete ns m) group g is)))

  todo : ToDo (chain_list m (Delete ns)) (each_in_turn delete ns m) (chain_list m (Delete ns))
  todo g is none =
      let is_g : kind_at m g ≡ Some group = deleted.without.kinds g group (kind_is (each_in_turn delete ns m) group g is) in
      let q = child_of m placed g (standing.no_empty_group g (is_kind_by m group g is_g)) in
      inr (elim (deleted.without.left q.0) [
        | inl s ↦ absurd (no_child (each_in_turn delete ns m) deleted.placed g q.0 none (s.0 ∙ q.1))
        | inr l ↦ member-flat (above m) g l.0 ns l.1 (elim l.2 [
          | inl s ↦ parent_above m placed bound l.0 g (ap (up m) (sym s) ∙ q.1)
          | inr r ↦ absurd (not_none (kind_is (each_in_turn delete ns m) group g is) (ap (kind_at (each_in_turn delete ns m)) (some_one q.1 r.1) ∙ r.2))
        ])
      ])

  pub delete_pruned : Pruned f m (Delete ns) (each_in_turn delete ns m)
  delete_pruned = pruned_by f m (each_in_turn delete ns m) (Delete ns) deleted.placed deleted.comes upwards had todo
