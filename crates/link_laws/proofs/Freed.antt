-- ungroup and untie: which contents change where nodes give up their children, and what stands above them.
use Rattle.algebra.specs.Members.{◌∈◌, here, there}
use Rattle.map_laws.proofs.Beneath.{Beneath, itself, under, some_one, no_circle}
use Rattle.map_laws.proofs.Pruned.{some_child, child_of}
use Rattle.map_laws.proofs.Holding.{group_parent, child_of_group, kind_q, container-holds, parent_said, entity_parent, parent_holds, child_of_entity}
use Rattle.map_laws.proofs.Dissolving.{dissolve, Dissolved, AllDissolved, dissolve_one}
use Rattle.link_laws.proofs.Contents.{SameContent, same_itself, same_then, below_back, dissolve_same}
use Rattle.map_laws.proofs.Forest.{bit, brush_kind, is_brush_kind, own_place, not_none, live_or_not, with_parent_live}
use Rattle.map_laws.proofs.Kept.{comes_then, comes_itself, bounded_by}
use Rattle.map_laws.proofs.Lists.{by_eq, tally, tally-head, tally-member, member-tally, tally-no_member, member-left}
use Rattle.map_laws.proofs.Nodes.{says_parent}
use Rattle.map_laws.proofs.Refused.{NodesFit}
use Rattle.map_laws.proofs.Skeleton.{kind_at, planted, placed_of, up_child, kind_is, is_kind_by, list_at, children_are}
use Rattle.map_laws.proofs.InTurn.{Gone, move_all_gone, by_member, beneath_sub, up_before, MovedAll}
use Rattle.map_laws.specs.Placed.{Placed, Bounded, can_hold, NoEmptyGroup}
use Rattle.map_model.specs.Commands.{Ungroup, Untie}
use Rattle.map_model.specs.Edits.{each_in_turn, delete, move_all}
use Rattle.map_model.specs.Own.{untie, ungroup}
use Rattle.map_model.specs.Shape.{Standing}
use Rattle.map_model.specs.Tree.{Whole, Kind, world, layer, group, entity, brush, up, children, brushes_at, is_kind}
use Rattle.std.proofs.Common.{◌≡◌, ℕ, suc, ◌≤◌, List, [], ◌∷◌, length, true, false, cond, ◌==◌, refl, ap, sym, ◌∙◌, subst, arith, Option, Some, None, ◌<◌}
use Rattle.std.proofs.lemmas.Bool.{and_parts, ltb-true}
use Rattle.std.specs.Prelude.{unwrap_or, nat_lt}
use Rattle.uv_lock.specs.declared.texture.Format.{Format}

-- A node whose children went to its parent, and which is gone: no content changes but those above it.
pub record Freed (f : Format) (n : ℕ) (m k : Whole) : Type 0 where
  pub base : Dissolved f n m k
  pub same : (h : ℕ) → (Beneath (up m) h n → ⊥) → SameContent h m k
  pub ancestors : (h q : ℕ) → Beneath (up k) h q → Beneath (up m) h q

free_one : (f : Format) (m : Whole) (n p : ℕ) (j : Kind) (cs : List ℕ) → Placed m → Bounded m → up m n ≡ Some p → kind_at m p ≡ Some j →
    ((c : ℕ) → c ∈ cs → up m c ≡ Some n) → ((c : ℕ) → up m c ≡ Some n → c ∈ cs) → ((c : ℕ) → c ∈ cs → (k : Kind) × (kind_at m c ≡ Some k) × (can_hold j k ≡ true) × (says_parent k ≡ true)) →
    (q : ℕ) × (up m q ≡ Some n) → Freed f n m (dissolve p cs n m)
free_one f m n p j cs placed bound u is_j inside all may child =
    record {
      base = dissolve_one f m n p j cs placed bound u is_j inside all may child;
      same = λ h far. dissolve_same f m n p j kind_n.0 cs h placed bound u is_j kind_n.1 inside all may far;
      ancestors = λ h q b. above_before g.moved (beneath_sub (up_before (move_all p cs m) n kind_n.0 g.placed (bounded_by g.comes) (g.moved.kinds n ∙ kind_n.1)) b);
    }
  where
    r : Beneath (up m) 0 n
    r = with_parent_live (planted placed) n p u

    g : Gone f p cs m (move_all p cs m)
    g = move_all_gone f p j cs m placed bound is_j (λ a i. let w = may a i in (w.0, w.1, w.2, w.3, (λ b. no_circle (planted placed).top r (inside a i) (under n p u b))))

    kind_n : (k : Kind) × (kind_at m n ≡ Some k)
    kind_n = live_or_not (kind_at m n) (λ none. absurd (not_none u ((planted placed).absent n none))) (λ k e. (k, e))

    above_before : MovedAll p cs m (move_all p cs m) → {h q : ℕ} → Beneath (up (move_all p cs m)) h q → Beneath (up m) h q
    above_before moved itself = itself
    above_before moved {h} (under q s e b) = by_member q cs
        (λ i. under q n (inside q i) (under n p u (subst (λ x. Beneath (up m) h x) (some_one e (moved.ups_in q i)) (above_before moved b))))
        (λ out. under q s (sym (moved.ups_out q out) ∙ e) (above_before moved b))

-- Several do so.
pub record AllFreed (f : Format) (ns : List ℕ) (m k : Whole) : Type 0 where
  pub base : AllDissolved f m k
  pub gone : (n : ℕ) → n ∈ ns → kind_at k n ≡ None
  pub same : (h : ℕ) → ((n : ℕ) → n ∈ ns → Beneath (up m) h n → ⊥) → SameContent h m k
  pub ancestors : (h q : ℕ) → Beneath (up k) h q → Beneath (up m) h q

none_yet : (f : Format) (m : Whole) → Placed m → Bounded m → AllFreed f [] m m
none_yet f m placed bound = record {
  base = record { placed = placed; comes = comes_itself f m bound; kinds = λ q j e. e; children = λ a q j e live. (q, e) };
  gone = λ n i. elim i [ ];
  same = λ h far. same_itself h m;
  ancestors = λ h q b. b;
}

kind_back : (f : Format) (n : ℕ) (m k : Whole) → Dissolved f n m k → (q : ℕ) (j : Kind) → kind_at k q ≡ Some j → kind_at m q ≡ Some j
kind_back f n m k d q j e = by_eq q n (λ s. absurd (not_none e (ap (kind_at k) s ∙ d.gone))) (λ ne. sym (d.kinds q ne) ∙ e)

pub less : (a x : ℕ) (xs : List ℕ) → tally a xs ≤ tally a (x ∷ xs)
less a x xs = elim (x == a) as (λ b. tally a xs ≤ cond b (suc (tally a xs)) (tally a xs)) [ true ↦ omega arith | false ↦ omega arith ]

-- One more, before the others.
one_more : (f : Format) (n : ℕ) (ns : List ℕ) (m k l : Whole) → Placed m → Freed f n m k → AllFreed f ns k l → AllFreed f (n ∷ ns) m l
one_more f n ns m k l placed d rest = record {
  base = record {
    placed = rest.base.placed;
    comes = comes_then d.base.comes rest.base.comes;
    kinds = λ q j e. kind_back f n m k d.base q j (rest.base.kinds q j e);
    children = λ a q j e live.
        let r = d.base.children a q j e (rest.base.kinds a j live) in
        rest.base.children a r.0 j r.1 live;
  };
  gone = gone_by;
  same = λ h far. same_then (d.same h (far n here)) (rest.same h (λ a i b. far a (there i) (below_back (d.same h (far n here)) (planted placed) (planted d.base.placed) b)));
  ancestors = λ h q b. d.ancestors h q (rest.ancestors h q b);
}
  where
    none_of : (o p : Option Kind) → ((j : Kind) → o ≡ Some j → p ≡ Some j) → p ≡ None → o ≡ None
    none_of None p h e = refl
    none_of (Some j) p h e = absurd (not_none (h j refl) e)

    gone_by : (a : ℕ) → a ∈ (n ∷ ns) → kind_at l a ≡ None
    gone_by a here = none_of (kind_at l a) (kind_at k a) (rest.base.kinds a) d.base.gone
    gone_by a (there i) = rest.gone a i

-- ungroup.
ungroup_one : (f : Format) (m : Whole) (n : ℕ) → Placed m → Bounded m → kind_at m n ≡ Some group → (q : ℕ) × (up m q ≡ Some n) → Freed f n m (ungroup n m)
ungroup_one f m n placed bound is child =
    let p = parent_said m n group is refl in
    let j = group_parent m placed n p.0 p.1 is in
    subst (λ x. Freed f n m (delete n (move_all x (children m n) m))) (sym (ap (λ o. unwrap_or o 0) p.1))
    (free_one f m n p.0 j.0 (children m n) placed bound p.1 j.1
    (λ c i. placed.children_stand n c i)
    (λ c e. tally-member c (children m n) (omega (arith, up_child m (planted placed) n c e)))
    (λ c i. let k = child_of_group m placed c n (placed.children_stand n c i) is in (k.0, k.1, container-holds j.0 k.0 j.2 k.2, k.2))
    child)

pub ungroup_all : (f : Format) (ns : List ℕ) (m : Whole) → Placed m → Bounded m → NoEmptyGroup m → ((n : ℕ) → n ∈ ns → kind_at m n ≡ Some group) → ((n : ℕ) → tally n ns ≤ 1) → AllFreed f ns m (each_in_turn ungroup ns m)
ungroup_all f [] m placed bound full groups once = none_yet f m placed bound
ungroup_all f (n ∷ ns) m placed bound full groups once =
    let d = ungroup_one f m n placed bound (groups n here) (child_of m placed n (full n (is_kind_by m group n (groups n here)))) in
    one_more f n ns m (ungroup n m) (each_in_turn ungroup ns (ungroup n m)) placed d
    (ungroup_all f ns (ungroup n m) d.base.placed (bounded_by d.base.comes)
    (λ a is. let q = child_of m placed a (full a (is_kind_by m group a (kind_back f n m (ungroup n m) d.base a group (kind_is (ungroup n m) group a is)))) in
    let r = d.base.children a q.0 group q.1 (kind_is (ungroup n m) group a is) in
    some_child (ungroup n m) d.base.placed a r.0 r.1)
    (λ a i. d.base.kinds a (λ s. omega (arith, once n, tally-head n ns, member-tally a ns i, ap (λ z. tally z ns) s)) ∙ groups a (there i))
    (λ a. omega (arith, once a, less a n ns)))

pub ungrouped : (f : Format) (m : Whole) (ns : List ℕ) → Standing m → Bounded m → NodesFit m (Ungroup ns) → AllFreed f ns m (each_in_turn ungroup ns m)
ungrouped f m ns standing bound fit = ungroup_all f ns m (placed_of standing) bound standing.no_empty_group (λ n i. kind_is m group n (fit.fit n i))
    (λ x. by_member x ns (λ i. fit.once x i) (λ none. omega (arith, tally-no_member x ns none)))

-- untie.
untie_one : (f : Format) (m : Whole) (n : ℕ) → Placed m → Bounded m → kind_at m n ≡ Some entity → (q : ℕ) × (up m q ≡ Some n) → Freed f n m (untie n m)
untie_one f m n placed bound is child =
    let p = parent_said m n entity is refl in
    let j = entity_parent m placed n p.0 p.1 is in
    subst (λ x. Freed f n m (delete n (move_all x (brushes_at m n) m))) (sym (ap (λ o. unwrap_or o 0) p.1))
    (free_one f m n p.0 j.0 (brushes_at m n) placed bound p.1 j.1
    (λ c i. inside c i)
    (λ c e. all c e)
    (λ c i. let k = child_of_entity m placed c n (inside c i) is in (k.0, k.1, container-holds j.0 k.0 j.2 k.2, k.2))
    child)
  where
    inside : (c : ℕ) → c ∈ brushes_at m n → up m c ≡ Some n
    inside c i = placed.children_stand n c (subst (λ l. c ∈ l) (sym (children_are m n)) (member-left c (list_at true m n) (list_at false m n) i))

    only_brush : (k : Kind) → can_hold entity k ≡ true → brush_kind k ≡ true
    only_brush world e = absurd (cc)
    only_brush layer e = absurd (cc)
    only_brush group e = absurd (cc)
    only_brush entity e = absurd (cc)
    only_brush brush e = refl

    all : (c : ℕ) → up m c ≡ Some n → c ∈ brushes_at m n
    all c e =
        let k = kind_q m placed c n e in
        tally-member c (brushes_at m n) (omega (
          arith,
          (planted placed).places true n c,
          own_place n true (kind_at m c) e,
          ap bit (ap is_brush_kind k.1 ∙ only_brush k.0 (parent_holds m placed c n e entity k.0 is k.1)),
        ))

pub untie_all : (f : Format) (ns : List ℕ) (m : Whole) → Placed m → Bounded m → ((n : ℕ) → n ∈ ns → kind_at m n ≡ Some entity) → ((n : ℕ) → n ∈ ns → (q : ℕ) × (up m q ≡ Some n)) → ((n : ℕ) → tally n ns ≤ 1) →
    AllFreed f ns m (each_in_turn untie ns m)
untie_all f [] m placed bound kinds children once = none_yet f m placed bound
untie_all f (n ∷ ns) m placed bound kinds children once =
    let d = untie_one f m n placed bound (kinds n here) (children n here) in
    let after : (a : ℕ) → a ∈ ns → kind_at (untie n m) a ≡ Some entity = λ a i. d.base.kinds a (λ s. omega (arith, once n, tally-head n ns, member-tally a ns i, ap (λ z. tally z ns) s)) ∙ kinds a (there i) in
    one_more f n ns m (untie n m) (each_in_turn untie ns (untie n m)) placed d
    (untie_all f ns (untie n m) d.base.placed (bounded_by d.base.comes) after
    (λ a i. let q = children a (there i) in d.base.children a q.0 entity q.1 (after a i))
    (λ a. omega (arith, once a, less a n ns)))

pub untied : (f : Format) (m : Whole) (ns : List ℕ) → Standing m → Bounded m → NodesFit m (Untie ns) → AllFreed f ns m (each_in_turn untie ns m)
untied f m ns standing bound fit = untie_all f ns m (placed_of standing) bound
    (λ n i. kind_is m entity n (and_parts (is_kind m entity n) (nat_lt 0 (length (brushes_at m n))) (fit.fit n i)).0)
    (λ n i. has_brush n (and_parts (is_kind m entity n) (nat_lt 0 (length (brushes_at m n))) (fit.fit n i)).1)
    (λ x. by_member x ns (λ i. fit.once x i) (λ none. omega (arith, tally-no_member x ns none)))
  where
    has_brush : (n : ℕ) → nat_lt 0 (length (brushes_at m n)) ≡ true → (q : ℕ) × (up m q ≡ Some n)
    has_brush n e = by (brushes_at m n) (ltb-true 0 (length (brushes_at m n)) e) (λ q i. (placed_of standing).children_stand n q (subst (λ l. q ∈ l) (sym (children_are m n)) (member-left q (list_at true m n) (list_at false m n) i)))
      where
        by : (l : List ℕ) → 0 < length l → ((q : ℕ) → q ∈ l → up m q ≡ Some n) → (q : ℕ) × (up m q ≡ Some n)
        by [] lt h = absurd (omega arith)
        by (x ∷ xs) lt h = (x, h x here)
