-- into: nodes that go to the end of another, pruned.
use Rattle.std.proofs.Common.{◌≡◌, ◌≢◌, ℕ, List, [], ◌∷◌, Bool, true, false, cond, inr, refl, ap, sym, ◌∙◌, arith, Some}
use Rattle.uv_lock.specs.declared.texture.Format.{Format}
use Rattle.algebra.specs.Members.{◌∈◌, here, there}
use Rattle.map_model.specs.Tree.{Whole, Kind, world, layer, group, entity, brush, up, above, lies_beneath, is_brush}
use Rattle.map_model.specs.Edits.{move_all}
use Rattle.map_model.specs.Commands.{Into}
use Rattle.map_model.specs.Rows.{kind_passes, is_movable, may_take}
use Rattle.map_model.specs.Shape.{Standing}
use Rattle.std.specs.List.{list_all}
use Rattle.std.proofs.lemmas.Bool.{and_parts, eq-eqb, ne_eqb}
use Rattle.map_laws.specs.Placed.{Placed, Bounded, can_hold}
use Rattle.map_laws.proofs.Lists.{tally, tally-head, member-tally, member-flat}
use Rattle.map_laws.proofs.Beneath.{Beneath, itself, under}
use Rattle.map_laws.proofs.Forest.{brush_kind, is_brush_kind}
use Rattle.map_laws.proofs.Skeleton.{kind_at, is_brush_is, planted, placed_of, not_both, kind_is, is_kind_by}
use Rattle.map_laws.proofs.Slots.{member_among}
use Rattle.map_laws.proofs.Placing.{chains}
use Rattle.map_laws.proofs.Pruning.{Upwards, ToDo, HadChildren}
use Rattle.map_laws.proofs.InTurn.{MayGo, Gone, move_all_gone, chains_up, by_member}
use Rattle.map_laws.proofs.Refused.{NodesFit}
use Rattle.map_laws.proofs.Pruned.{Pruned, chain_list, child_of, is_above, no_child, parent_above, pruned_by, rooted_at, test_kind}
use Rattle.map_laws.proofs.Holding.{movable_says}

no_brush_test : (b : Bool) → b ≡ true → false ≡ true → ⊥
no_brush_test b e f = cc

-- What `into` may name as its target holds what it moves.
take-holds : (b : Bool) (j k : Kind) → may_take b j ≡ true → is_movable k ≡ true → (b ≡ true → brush_kind k ≡ true) → can_hold j k ≡ true
take-holds b world group e f g = refl
take-holds b world entity e f g = refl
take-holds b world brush e f g = refl
take-holds b layer group e f g = refl
take-holds b layer entity e f g = refl
take-holds b layer brush e f g = refl
take-holds b group group e f g = refl
take-holds b group entity e f g = refl
take-holds b group brush e f g = refl
take-holds b entity group e f g = absurd (no_brush_test b e (g e))
take-holds b entity entity e f g = absurd (no_brush_test b e (g e))
take-holds b entity brush e f g = refl
take-holds b brush world e f g = absurd (cc)
take-holds b j k e f g = absurd (cc)

all_pass : (p : ℕ → Bool) (xs : List ℕ) → list_all p xs ≡ true → (x : ℕ) → x ∈ xs → p x ≡ true
all_pass p [] e x i = elim i [ ]
all_pass p (y ∷ ys) e x here = (and_parts (p y) (list_all p ys) e).0
all_pass p (y ∷ ys) e x (there i) = all_pass p ys (and_parts (p y) (list_all p ys) e).1 x i

-- into.
module _ (f : Format) (m : Whole) (place : ℕ) (ns : List ℕ) (standing : Standing m) (bound : Bounded m) (fit : NodesFit m (Into place ns)) where
  into_placed : Placed m
  into_placed = placed_of standing

  target : (j : Kind) × (kind_at m place ≡ Some j) × (may_take (list_all (is_brush m) ns) j ≡ true)
  target = test_kind (may_take (list_all (is_brush m) ns)) m place
      (sym (ap (λ b. cond b (kind_passes m (may_take (list_all (is_brush m) ns)) place) (kind_passes m is_movable place)) (eq-eqb place place refl)) ∙ fit.fit place here)

  apart_place : (n : ℕ) → n ∈ ns → n ≢ place
  apart_place n i s = omega (arith, fit.once place here, tally-head place ns, member-tally n ns i, ap (λ z. tally z ns) s)

  movable : (n : ℕ) → n ∈ ns → (k : Kind) × (kind_at m n ≡ Some k) × (is_movable k ≡ true)
  movable n i = test_kind is_movable m n
      (sym (ap (λ b. cond b (kind_passes m (may_take (list_all (is_brush m) ns)) n) (kind_passes m is_movable n)) (ne_eqb n place (apart_place n i))) ∙ fit.fit n (there i))

  pub not_above_place : (n : ℕ) → n ∈ ns → Beneath (up m) n place → ⊥
  not_above_place n i b = by b refl
    where
      by : {x : ℕ} → Beneath (up m) n x → x ≡ place → ⊥
      by itself e = apart_place n i e
      by (under t p u b) e = not_both (lies_beneath m place n) (member_among n (above m place) (is_above m into_placed bound place p n (ap (up m) (sym e) ∙ u) b)) (fit.place n i)

  may : MayGo m place target.0 ns
  may n i =
      let k = movable n i in (
        k.0,
        k.1,
        take-holds (list_all (is_brush m) ns) target.0 k.0 target.2 k.2
            (λ e. sym (is_brush_is m n ∙ ap is_brush_kind k.1) ∙ all_pass (is_brush m) ns e n i),
        movable_says k.0 k.2,
        not_above_place n i,
      )

  pub into_gone : Gone f place ns m (move_all place ns m)
  into_gone = move_all_gone f place target.0 ns m into_placed bound target.1 may

  pub into_rooted : (n : ℕ) → n ∈ (place ∷ ns) → Beneath (up m) 0 n
  into_rooted n here = rooted_at m into_placed bound n target.0 target.1
  into_rooted n (there i) = let k = movable n i in rooted_at m into_placed bound n k.0 k.1

  not_moved : (n q p : ℕ) → n ∈ (place ∷ ns) → up m n ≡ Some p → Beneath (up m) q p → q ∈ ns → ⊥
  not_moved n q p here e b j = not_above_place q j (under n p e b)
  not_moved n q p (there i) e b j = not_both (lies_beneath m n q) (member_among q (above m n) (is_above m into_placed bound n p q e b)) (fit.apart n q i j)

  into_upwards : Upwards (move_all place ns m) (chain_list m (Into place ns))
  into_upwards = chains_up (move_all place ns m) (chains m (planted into_placed) bound) (place ∷ ns) into_rooted
      (λ n q p t i e b u. sym (into_gone.moved.ups_out q (not_moved n q p i e b)) ∙ u)

  into_had : HadChildren m (move_all place ns m) (chain_list m (Into place ns))
  into_had a i is = standing.no_empty_group a (is_kind_by m group a (sym (into_gone.moved.kinds a) ∙ kind_is (move_all place ns m) group a is))

  into_todo : ToDo (chain_list m (Into place ns)) (move_all place ns m) (chain_list m (Into place ns))
  into_todo a is none =
      let q = child_of m into_placed a (standing.no_empty_group a (is_kind_by m group a (sym (into_gone.moved.kinds a) ∙ kind_is (move_all place ns m) group a is))) in
      by_member q.0 ns
      (λ i. inr (member-flat (above m) a q.0 (place ∷ ns) (there i) (parent_above m into_placed bound q.0 a q.1)))
      (λ out. absurd (no_child (move_all place ns m) into_gone.placed a q.0 none (into_gone.moved.ups_out q.0 out ∙ q.1)))

  pub into_pruned : Pruned f m (Into place ns) (move_all place ns m)
  into_pruned = pruned_by f m (move_all place ns m) (Into place ns) into_gone.placed into_gone.comes into_upwards into_had into_todo
