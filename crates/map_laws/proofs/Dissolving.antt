-- Nodes whose children go to their parents: ungroup.
use Rattle.std.proofs.Common.{◌≡◌, ◌≢◌, ℕ, suc, ◌≤◌, List, [], ◌∷◌, true, false, cond, ◌==◌, refl, ap, sym, ◌∙◌, subst, arith, Some, None}
use Rattle.std.specs.Prelude.{unwrap_or}
use Rattle.uv_lock.specs.declared.texture.Format.{Format}
use Rattle.algebra.specs.Members.{◌∈◌, here, there}
use Rattle.map_model.specs.Tree.{Whole, Kind, group, up, children}
use Rattle.map_model.specs.Edits.{each_in_turn, delete, move_all}
use Rattle.map_model.specs.Commands.{Ungroup}
use Rattle.map_model.specs.Own.{ungroup}
use Rattle.map_model.specs.Shape.{Standing}
use Rattle.map_laws.specs.Placed.{Placed, Bounded, can_hold, NoEmptyGroup}
use Rattle.map_laws.proofs.Lists.{by_eq, tally, tally-head, tally-member, member-tally, tally-no_member}
use Rattle.map_laws.proofs.Beneath.{Beneath, some_one, no_circle, itself, under}
use Rattle.map_laws.proofs.Fuel.{Chains, parent_rooted}
use Rattle.map_laws.proofs.Forest.{Grown, not_none, live_or_not, with_parent_live}
use Rattle.map_laws.proofs.Nodes.{says_parent}
use Rattle.map_laws.proofs.Skeleton.{kind_at, forest, planted, placed_of, up_child, kind_is, is_kind_by}
use Rattle.map_laws.proofs.Placing.{chains, delete_placed}
use Rattle.map_laws.proofs.Kept.{Comes, comes_then, comes_itself, bounded_by, delete_comes}
use Rattle.map_laws.proofs.InTurn.{Gone, move_all_gone, by_member, kind-deleted, up-deleted, kind-gone}
use Rattle.map_laws.proofs.Refused.{NodesFit}
use Rattle.map_laws.proofs.Holding.{child_of_group, container-holds, group_parent, parent_said}
use Rattle.map_laws.proofs.Pruned.{KeepsChildren, NoneEmptied, Pruned, child_of, kept_pruned, some_child}

-- A node whose children go to its parent, and which then goes.
abbrev pub dissolve : ℕ → List ℕ → ℕ → Whole → Whole
dissolve p cs n m = delete n (move_all p cs m)

pub record Dissolved (f : Format) (n : ℕ) (m k : Whole) : Type 0 where
  pub placed : Placed k
  pub comes : Comes f m k
  pub gone : kind_at k n ≡ None
  pub kinds : (q : ℕ) → q ≢ n → kind_at k q ≡ kind_at m q
  pub children : KeepsChildren m k

pub dissolve_one : (f : Format) (m : Whole) (n p : ℕ) (j : Kind) (cs : List ℕ) → Placed m → Bounded m → up m n ≡ Some p → kind_at m p ≡ Some j →
    ((c : ℕ) → c ∈ cs → up m c ≡ Some n) → ((c : ℕ) → up m c ≡ Some n → c ∈ cs) → ((c : ℕ) → c ∈ cs → (k : Kind) × (kind_at m c ≡ Some k) × (can_hold j k ≡ true) × (says_parent k ≡ true)) →
    (q : ℕ) × (up m q ≡ Some n) → Dissolved f n m (dissolve p cs n m)
dissolve_one f m n p j cs placed bound u is_j inside all may child =
    record {
      placed = delete_placed k n kind_n.0 g.placed bound_k low is_n;
      comes = comes_then g.comes (delete_comes f k n bound_k);
      gone = kind-gone k n kind_n.0 g.placed bound_k is_n n itself;
      kinds = λ q ne. kind-deleted k n kind_n.0 g.placed bound_k is_n q (λ b. ne (alone_n b)) ∙ g.moved.kinds q;
      children = kept;
    }
  where
    k : Whole
    k = move_all p cs m

    h : Grown (forest m)
    h = planted placed

    r : Beneath (up m) 0 n
    r = with_parent_live h n p u

    c : Chains m
    c = chains m h bound

    not_above : (a : ℕ) → a ∈ cs → Beneath (up m) a p → ⊥
    not_above a i b = no_circle h.top r (inside a i) (under n p u b)

    g : Gone f p cs m (move_all p cs m)
    g = move_all_gone f p j cs m placed bound is_j (λ a i. let w = may a i in (w.0, w.1, w.2, w.3, not_above a i))

    bound_k : Bounded (move_all p cs m)
    bound_k = bounded_by g.comes

    kind_n : (k : Kind) × (kind_at m n ≡ Some k)
    kind_n = live_or_not (kind_at m n) (λ none. absurd (not_none u (h.absent n none))) (λ k e. (k, e))

    is_n : kind_at (move_all p cs m) n ≡ Some kind_n.0
    is_n = g.moved.kinds n ∙ kind_n.1

    low : n ≢ 0
    low s = not_none u (ap (up m) s ∙ h.top)

    own_apart : p ≢ n
    own_apart s = no_circle h.top (parent_rooted c p r u) u (subst (λ x. Beneath (up m) n x) (sym s) itself)

    n_stays : n ∈ cs → ⊥
    n_stays i = no_circle h.top r (inside n i) itself

    no_child_n : (q : ℕ) → up (move_all p cs m) q ≡ Some n → ⊥
    no_child_n q e = by_member q cs
        (λ i. own_apart (some_one (g.moved.ups_in q i) e))
        (λ out. out (all q (sym (g.moved.ups_out q out) ∙ e)))

    alone_n : {q : ℕ} → Beneath (up (move_all p cs m)) n q → q ≡ n
    alone_n itself = refl
    alone_n (under q s e b) = absurd (no_child_n q (e ∙ ap Some (alone_n b)))

    up_k : (q : ℕ) → q ≢ n → up (delete n (move_all p cs m)) q ≡ up (move_all p cs m) q
    up_k q ne = up-deleted (move_all p cs m) n kind_n.0 g.placed bound_k is_n q (λ b. ne (alone_n b))

    kept : KeepsChildren m (delete n (move_all p cs m))
    kept a q j e live = by_eq a n
        (λ s. absurd (not_none live (ap (kind_at (delete n (move_all p cs m))) s ∙ kind-gone (move_all p cs m) n kind_n.0 g.placed bound_k is_n n itself)))
        (λ ne. by_eq q n
        (λ s. let x = child in
        (x.0, up_k x.0 (λ t. n_stays (subst (λ z. z ∈ cs) t (all x.0 x.1))) ∙ g.moved.ups_in x.0 (all x.0 x.1) ∙ ap Some (some_one u (ap (up m) (sym s) ∙ e))))
        (λ other. (q, up_k q other ∙ g.moved.ups_out q (λ i. ne (some_one e (inside q i))) ∙ e)))

-- Several dissolve: each is of the kind, and has a child and a parent that may hold its children.
pub record AllDissolved (f : Format) (m k : Whole) : Type 0 where
  pub placed : Placed k
  pub comes : Comes f m k
  pub kinds : (q : ℕ) (j : Kind) → kind_at k q ≡ Some j → kind_at m q ≡ Some j
  pub children : KeepsChildren m k

pub none_emptied : {f : Format} {m k : Whole} → AllDissolved f m k → NoneEmptied f m k
none_emptied d = record { placed = d.placed; comes = d.comes; groups = λ q e. d.kinds q group e; children = d.children }

-- ungroup.
ungroup_one : (f : Format) (m : Whole) (n : ℕ) → Placed m → Bounded m → kind_at m n ≡ Some group → (q : ℕ) × (up m q ≡ Some n) → Dissolved f n m (ungroup n m)
ungroup_one f m n placed bound is child =
    let p = parent_said m n group is refl in
    let j = group_parent m placed n p.0 p.1 is in
    subst (λ x. Dissolved f n m (delete n (move_all x (children m n) m))) (sym (ap (λ o. unwrap_or o 0) p.1))
    (dissolve_one f m n p.0 j.0 (children m n) placed bound p.1 j.1
    (λ c i. placed.children_stand n c i)
    (λ c e. tally-member c (children m n) (omega (arith, up_child m (planted placed) n c e)))
    (λ c i. let k = child_of_group m placed c n (placed.children_stand n c i) is in (k.0, k.1, container-holds j.0 k.0 j.2 k.2, k.2))
    child)

pub ungroup_all : (f : Format) (ns : List ℕ) (m : Whole) → Placed m → Bounded m → NoEmptyGroup m → ((n : ℕ) → n ∈ ns → kind_at m n ≡ Some group) → ((n : ℕ) → tally n ns ≤ 1) → AllDissolved f m (each_in_turn ungroup ns m)
ungroup_all f [] m placed bound full groups once = record { placed = placed; comes = comes_itself f m bound; kinds = λ q j e. e; children = λ a q j e live. (q, e) }
ungroup_all f (n ∷ ns) m placed bound full groups once =
    let d = ungroup_one f m n placed bound (groups n here) (child_of m placed n (full n (is_kind_by m group n (groups n here)))) in
    let rest = ungroup_all f ns (ungroup n m) d.placed (bounded_by d.comes)
    (λ a is. let q = child_of m placed a (full a (is_kind_by m group a (kind_back d a group (kind_is (ungroup n m) group a is)))) in
    let r = d.children a q.0 group q.1 (kind_is (ungroup n m) group a is) in
    some_child (ungroup n m) d.placed a r.0 r.1)
    (λ a i. d.kinds a (λ s. omega (arith, once n, tally-head n ns, member-tally a ns i, ap (λ z. tally z ns) s)) ∙ groups a (there i))
    (λ a. omega (arith, once a, less a n ns)) in
    record {
      placed = rest.placed;
      comes = comes_then d.comes rest.comes;
      kinds = λ q j e. kind_back d q j (rest.kinds q j e);
      children = λ a q j e live.
          let r = d.children a q j e (rest.kinds a j live) in
          rest.children a r.0 j r.1 live;
    }
  where
    kind_back : Dissolved f n m (ungroup n m) → (q : ℕ) (j : Kind) → kind_at (ungroup n m) q ≡ Some j → kind_at m q ≡ Some j
    kind_back d q j e = by_eq q n (λ s. absurd (not_none e (ap (kind_at (ungroup n m)) s ∙ d.gone))) (λ ne. sym (d.kinds q ne) ∙ e)

    less : (a x : ℕ) (xs : List ℕ) → tally a xs ≤ tally a (x ∷ xs)
    less a x xs = elim (x == a) as (λ b. tally a xs ≤ cond b (suc (tally a xs)) (tally a xs)) [ true ↦ omega arith | false ↦ omega arith ]

pub ungrouped : (f : Format) (m : Whole) (ns : List ℕ) → Standing m → Bounded m → NodesFit m (Ungroup ns) → AllDissolved f m (each_in_turn ungroup ns m)
ungrouped f m ns standing bound fit = ungroup_all f ns m (placed_of standing) bound standing.no_empty_group (λ n i. kind_is m group n (fit.fit n i))
    (λ x. by_member x ns (λ i. fit.once x i) (λ none. omega (arith, tally-no_member x ns none)))

pub ungroup_pruned : (f : Format) (m : Whole) (ns : List ℕ) → Standing m → Bounded m → NodesFit m (Ungroup ns) → Pruned f m (Ungroup ns) (each_in_turn ungroup ns m)
ungroup_pruned f m ns standing bound fit = kept_pruned f m (each_in_turn ungroup ns m) (Ungroup ns) standing (none_emptied (ungrouped f m ns standing bound fit))
