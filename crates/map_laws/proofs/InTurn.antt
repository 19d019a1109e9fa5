-- Edits in turn: several nodes deleted, several moved; and the chains along which a map is pruned.
use Rattle.std.proofs.Common.{◌≡◌, ◌≢◌, ℕ, List, [], ◌∷◌, ◌++◌, flat_map, Bool, true, false, ◌⊎◌, inl, inr, refl, ap, sym, ◌∙◌, subst, arith, Option, Some, None}
use Rattle.uv_lock.specs.declared.texture.Format.{Format}
use Rattle.algebra.specs.Members.{◌∈◌, here, there}
use Rattle.map_model.specs.Tree.{Whole, Kind, at, up, above, among, preorder, is_brush}
use Rattle.map_model.specs.Edits.{each_in_turn, take_out, put_in, delete, move_all}
use Rattle.map_laws.specs.Placed.{Placed, Bounded, can_hold}
use Rattle.map_laws.proofs.Lists.{by_eq, tally, tally-member, member-tally, member-left}
use Rattle.map_laws.proofs.Beneath.{Beneath, some_one, itself, under}
use Rattle.map_laws.proofs.Fuel.{Chains, in_preorder, from_preorder, above-step, above-top, parent_rooted}
use Rattle.map_laws.proofs.Forest.{TakenOut, PutIn, Forgotten, brush_kind, is_brush_kind, not_none, up_or_not}
use Rattle.map_laws.proofs.Nodes.{says_parent}
use Rattle.map_laws.proofs.Skeleton.{kind_at, forest, is_brush_is, planted, not_both}
use Rattle.map_laws.proofs.Slots.{takes_kind, taken_out, put_in_gives, parent_up, forgotten, among_member, member_among, by_bool}
use Rattle.map_laws.proofs.Placing.{chains, held-takes, move_placed, delete_placed}
use Rattle.map_laws.proofs.Pruning.{Upwards}
use Rattle.map_laws.proofs.Kept.{Comes, comes_then, comes_itself, bounded_by, move_comes, delete_comes}

-- Parents that are left are as before.
pub beneath_sub : {up vp : ℕ → Option ℕ} → ((q p : ℕ) → vp q ≡ Some p → up q ≡ Some p) → {a q : ℕ} → Beneath vp a q → Beneath up a q
beneath_sub h itself = itself
beneath_sub h (under q p e b) = under q p (h q p e) (beneath_sub h b)

pub by_member : {P : Type 0} (q : ℕ) (ns : List ℕ) → (q ∈ ns → P) → ((q ∈ ns → ⊥) → P) → P
by_member {P} q ns f g = by_eq (tally q ns) 0 (λ e. g (λ i. omega (arith, member-tally q ns i))) (λ ne. f (tally-member q ns (omega arith)))

-- delete: what is left.
module _ (m : Whole) (n : ℕ) (k : Kind) (placed : Placed m) (bound : Bounded m) (is : kind_at m n ≡ Some k) where
  gone : (q : ℕ) → Beneath (up m) n q → among q (preorder m n) ≡ true
  gone q b = member_among q (preorder m n) (in_preorder (chains m (planted placed) bound) n ((planted placed).rooted n k is) b)

  pub beneath_gone : (q : ℕ) → among q (preorder m n) ≡ true → Beneath (up m) n q
  beneath_gone q e = from_preorder (chains m (planted placed) bound) m.next n q (among_member q (preorder m n) e)

  left : (q : ℕ) → (Beneath (up m) n q → ⊥) → among q (preorder m n) ≡ false
  left q out = by_bool (among q (preorder m n)) (λ e. absurd (out (beneath_gone q e))) (λ e. e)

  o : Forgotten (λ q. among q (preorder m n)) (forest (take_out n m)) (forest (delete n m))
  o = forgotten (preorder m n) (take_out n m)

  t : TakenOut n (forest m) (forest (take_out n m))
  t = taken_out m (planted placed) n

  pub kind-deleted : (q : ℕ) → (Beneath (up m) n q → ⊥) → kind_at (delete n m) q ≡ kind_at m q
  kind-deleted q out = o.kinds q (left q out) ∙ t.kinds q

  pub up-deleted : (q : ℕ) → (Beneath (up m) n q → ⊥) → up (delete n m) q ≡ up m q
  up-deleted q out = o.ups q (left q out) ∙ t.ups q

  pub kind-gone : (q : ℕ) → Beneath (up m) n q → kind_at (delete n m) q ≡ None
  kind-gone q b = o.gone_kinds q (gone q b)

  pub by_gone : {P : Type 0} (q : ℕ) → (Beneath (up m) n q → P) → ((Beneath (up m) n q → ⊥) → P) → P
  by_gone {P} q f g = by_bool (among q (preorder m n)) (λ e. f (beneath_gone q e)) (λ e. g (λ b. not_both (among q (preorder m n)) (gone q b) e))

  pub up_before : (q p : ℕ) → up (delete n m) q ≡ Some p → up m q ≡ Some p
  up_before q p e = by_gone q (λ b. absurd (not_none e (o.gone_ups q (gone q b)))) (λ out. sym (up-deleted q out) ∙ e)

-- No later number stands beneath an earlier one.
abbrev pub Apart : Whole → List ℕ → Type 0
Apart m [] = Unit {0}
Apart m (n ∷ ns) = ((q : ℕ) → q ∈ ns → Beneath (up m) n q → ⊥) × Apart m ns

-- The numbers are nodes, and none is the world.
abbrev pub AreNodes : Whole → List ℕ → Type 0
AreNodes m ns = (n : ℕ) → n ∈ ns → (k : Kind) × (kind_at m n ≡ Some k) × (n ≢ 0)

pub apart_sub : (m k : Whole) → ((q p : ℕ) → up k q ≡ Some p → up m q ≡ Some p) → (ns : List ℕ) → Apart m ns → Apart k ns
apart_sub m k h [] a = tt
apart_sub m k h (n ∷ ns) a = ((λ q i b. a.0 q i (beneath_sub h b)), apart_sub m k h ns a.1)

-- q is gone in k: it is one of the numbers, or its parent is gone too.
abbrev pub Lost : List ℕ → Whole → Whole → ℕ → Type 0
Lost ns m k q = (n : ℕ) × (n ∈ ns) × ((q ≡ n) ⊎ ((p : ℕ) × (up m q ≡ Some p) × (kind_at k p ≡ None)))

-- Of the nodes of m those beneath the numbers ns are gone.
pub record Without (ns : List ℕ) (m k : Whole) : Type 0 where
  pub kinds : (q : ℕ) (j : Kind) → kind_at k q ≡ Some j → kind_at m q ≡ Some j
  pub ups : (q p : ℕ) → up k q ≡ Some p → up m q ≡ Some p
  pub left : (q : ℕ) → ((up k q ≡ up m q) × (kind_at k q ≡ kind_at m q)) ⊎ Lost ns m k q

pub record Deleted (f : Format) (ns : List ℕ) (m k : Whole) : Type 0 where
  pub placed : Placed k
  pub comes : Comes f m k
  pub without : Without ns m k

pub delete_all : (f : Format) (ns : List ℕ) (m : Whole) → Placed m → Bounded m → AreNodes m ns → Apart m ns → Deleted f ns m (each_in_turn delete ns m)
delete_all f [] m placed bound nodes apart = record {
  placed = placed;
  comes = comes_itself f m bound;
  without = record { kinds = λ q j e. e; ups = λ q p e. e; left = λ q. inl (refl, refl) };
}
delete_all f (n ∷ ns) m placed bound nodes apart =
    let w = nodes n here in
    let c = delete_comes f m n bound in
    let rest = delete_all f ns (delete n m) (delete_placed m n w.0 placed bound w.2 w.1) (bounded_by c)
    (λ q i. let x = nodes q (there i) in (x.0, kind-deleted m n w.0 placed bound w.1 q (apart.0 q i) ∙ x.1, x.2))
    (apart_sub m (delete n m) (up_before m n w.0 placed bound w.1) ns apart.1) in
    record {
      placed = rest.placed;
      comes = comes_then c rest.comes;
      without = record {
        kinds = λ q j e. kinds_before w.0 w.1 q j (rest.without.kinds q j e);
        ups = λ q p e. up_before m n w.0 placed bound w.1 q p (rest.without.ups q p e);
        left = λ q. by_gone m n w.0 placed bound w.1 q
            (λ b. inr (n, here, lost_at w.0 w.1 (each_in_turn delete ns (delete n m)) rest.without.kinds b))
            (λ out. elim (rest.without.left q) [
              | inl s ↦ inl ((s.0 ∙ up-deleted m n w.0 placed bound w.1 q out), (s.1 ∙ kind-deleted m n w.0 placed bound w.1 q out))
              | inr r ↦ inr (r.0, there r.1, lost_before w.0 w.1 (each_in_turn delete ns (delete n m)) q r.0 r.2)
            ]);
      };
    }
  where
    none_of : (o p : Option Kind) → ((j : Kind) → o ≡ Some j → p ≡ Some j) → p ≡ None → o ≡ None
    none_of None p h e = refl
    none_of (Some j) p h e = absurd (not_none (h j refl) e)

    lost_at : (k : Kind) → kind_at m n ≡ Some k → (l : Whole) → ((q : ℕ) (j : Kind) → kind_at l q ≡ Some j → kind_at (delete n m) q ≡ Some j) →
        {q : ℕ} → Beneath (up m) n q → (q ≡ n) ⊎ ((p : ℕ) × (up m q ≡ Some p) × (kind_at l p ≡ None))
    lost_at k is l kinds itself = inl refl
    lost_at k is l kinds (under q p e b) = inr (p, e, none_of (kind_at l p) (kind_at (delete n m) p) (kinds p) (kind-gone m n k placed bound is p b))

    lost_before : (k : Kind) → kind_at m n ≡ Some k → (l : Whole) (q a : ℕ) → (q ≡ a) ⊎ ((p : ℕ) × (up (delete n m) q ≡ Some p) × (kind_at l p ≡ None)) →
        (q ≡ a) ⊎ ((p : ℕ) × (up m q ≡ Some p) × (kind_at l p ≡ None))
    lost_before k is l q a (inl e) = inl e
    lost_before k is l q a (inr r) = inr (r.0, up_before m n k placed bound is q r.0 r.1, r.2)

    kinds_before : (k : Kind) → kind_at m n ≡ Some k → (q : ℕ) (j : Kind) → kind_at (delete n m) q ≡ Some j → kind_at m q ≡ Some j
    kinds_before k is q j e = by_gone m n k placed bound is q
        (λ b. absurd (not_none e (kind-gone m n k placed bound is q b)))
        (λ out. sym (kind-deleted m n k placed bound is q out) ∙ e)

-- move_all: who stands where after it.
pub record MovedAll (p : ℕ) (ns : List ℕ) (m k : Whole) : Type 0 where
  pub kinds : (q : ℕ) → kind_at k q ≡ kind_at m q
  pub ups_in : (q : ℕ) → q ∈ ns → up k q ≡ Some p
  pub ups_out : (q : ℕ) → (q ∈ ns → ⊥) → up k q ≡ up m q

-- Each of the numbers may go into p.
abbrev pub MayGo : Whole → ℕ → Kind → List ℕ → Type 0
MayGo m p j ns = (n : ℕ) → n ∈ ns → (k : Kind) × (kind_at m n ≡ Some k) × (can_hold j k ≡ true) × (says_parent k ≡ true) × (Beneath (up m) n p → ⊥)

pub record Gone (f : Format) (p : ℕ) (ns : List ℕ) (m k : Whole) : Type 0 where
  pub placed : Placed k
  pub comes : Comes f m k
  pub moved : MovedAll p ns m k

module _ (m : Whole) (p n : ℕ) (j k : Kind) (placed : Placed m) (is_j : kind_at m p ≡ Some j) (is_k : kind_at m n ≡ Some k) (held : can_hold j k ≡ true) (says : says_parent k ≡ true)
    (apart : Beneath (up m) n p → ⊥) where
  abbrev out : Whole
  out = take_out n m

  out_of : TakenOut n (forest m) (forest out)
  out_of = taken_out m (planted placed) n

  into : PutIn p n (forest out) (forest (put_in p n out))
  into =
      let kind_p : kind_at out p ≡ Some j = out_of.kinds p ∙ is_j in
      let kind_n : kind_at out n ≡ Some k = out_of.kinds n ∙ is_k in
      put_in_gives out p n (λ s. apart (subst (λ x. Beneath (up m) n x) s itself))
      ((λ i. takes_kind (brush_n kind_n i) (kind_p i)) ∙ held-takes j k held) (parent_up p (at out n) (ap says_at kind_n ∙ says))
    where
      brush_n : kind_at out n ≡ Some k → is_brush out n ≡ brush_kind k
      brush_n e = is_brush_is out n ∙ ap is_brush_kind e

      says_at : Option Kind → Bool
      says_at None = false
      says_at (Some k) = says_parent k

  pub one_kind : (q : ℕ) → kind_at (put_in p n out) q ≡ kind_at m q
  one_kind q = into.kinds q ∙ out_of.kinds q

  pub one_up : up (put_in p n out) n ≡ Some p
  one_up = into.own_up

  pub one_other : (q : ℕ) → q ≢ n → up (put_in p n out) q ≡ up m q
  one_other q ne = into.ups q ne ∙ out_of.ups q

  -- What wasn't above p isn't above it now.
  pub still_apart : (a q : ℕ) → (Beneath (up m) n q → ⊥) → Beneath (up (put_in p n out)) a q → Beneath (up m) a q
  still_apart a q low itself = itself
  still_apart a q low (under t r e b) =
      let up_q : up m q ≡ Some r = sym (one_other q (λ s. low (subst (λ x. Beneath (up m) n x) (sym s) itself))) ∙ e in
      under q r up_q (still_apart a r (λ c. low (under q r up_q c)) b)

pub move_all_gone : (f : Format) (p : ℕ) (j : Kind) (ns : List ℕ) (m : Whole) → Placed m → Bounded m → kind_at m p ≡ Some j → MayGo m p j ns → Gone f p ns m (move_all p ns m)
move_all_gone f p j [] m placed bound is_j may = record {
  placed = placed;
  comes = comes_itself f m bound;
  moved = record { kinds = λ q. refl; ups_in = λ q i. elim i [ ]; ups_out = λ q none. refl };
}
move_all_gone f p j (n ∷ ns) m placed bound is_j may =
    let w = may n here in
    let c = move_comes f m p n bound in
    let k = put_in p n (take_out n m) in
    let kinds : (q : ℕ) → kind_at k q ≡ kind_at m q = one_kind m p n j w.0 placed is_j w.1 w.2 w.3 w.4 in
    let rest = move_all_gone f p j ns k (move_placed m p n j w.0 placed is_j w.1 w.2 w.3 w.4) (bounded_by c) (kinds p ∙ is_j)
    (λ a i. let x = may a (there i) in (x.0, kinds a ∙ x.1, x.2, x.3, (λ b. x.4 (still_apart m p n j w.0 placed is_j w.1 w.2 w.3 w.4 a p w.4 b)))) in
    record {
      placed = rest.placed;
      comes = comes_then c rest.comes;
      moved = record {
        kinds = λ q. rest.moved.kinds q ∙ kinds q;
        ups_in = λ q i. by_member q ns (λ l. rest.moved.ups_in q l) (λ none. rest.moved.ups_out q none
            ∙ ap (up k) (only q none i) ∙ one_up m p n j w.0 placed is_j w.1 w.2 w.3 w.4);
        ups_out = λ q none. rest.moved.ups_out q (λ l. none (there l)) ∙ one_other m p n j w.0 placed is_j w.1 w.2 w.3 w.4 q (λ s. none (first_is q s));
      };
    }
  where
    only : (q : ℕ) → (q ∈ ns → ⊥) → q ∈ (n ∷ ns) → q ≡ n
    only q none here = refl
    only q none (there i) = absurd (none i)

    first_is : (q : ℕ) → q ≡ n → q ∈ (n ∷ ns)
    first_is q e = rw e here

-- Chains along which a map is pruned.
pub upwards_append : (k : Whole) (xs ys : List ℕ) → Upwards k xs → Upwards k ys → Upwards k (xs ++ ys)
upwards_append k [] ys a b = b
upwards_append k (x ∷ xs) ys a b = ((λ p e g. member-left p xs ys (a.0 p e g)), upwards_append k xs ys a.1 b)

chain_up : {m : Whole} (k : Whole) (c : Chains m) {p : ℕ} (r : Beneath (up m) 0 p) → ((q t : ℕ) → Beneath (up m) q p → up k q ≡ Some t → up m q ≡ Some t) → Upwards k (p ∷ above m p)
chain_up {m} k c itself h = subst (λ l. Upwards k (0 ∷ l)) (sym (above-top c)) ((λ t e g. absurd (not_none (h 0 t itself e) c.top)), tt)
chain_up {m} k c (under p t e r) h = subst (λ l. Upwards k (p ∷ l)) (sym (above-step c p t e r))
    ((λ s f g. first_is s (some_one (h p s itself f) e)), chain_up k c r (λ q s b. h q s (under p t e b)))
  where
    first_is : (s : ℕ) → s ≡ t → s ∈ (t ∷ above m t)
    first_is s e = rw e here

-- Chains above the nodes ns of m, in a map k in which none that stands above them has moved.
pub chains_up : {m : Whole} (k : Whole) (c : Chains m) (ns : List ℕ) → ((n : ℕ) → n ∈ ns → Beneath (up m) 0 n) →
    ((n q p t : ℕ) → n ∈ ns → up m n ≡ Some p → Beneath (up m) q p → up k q ≡ Some t → up m q ≡ Some t) → Upwards k (flat_map (above m) ns)
chains_up k c [] rooted h = tt
chains_up {m} k c (n ∷ ns) rooted h =
    upwards_append k (above m n) (flat_map (above m) ns) (own (rooted n here)) (chains_up k c ns (λ q i. rooted q (there i)) (λ q r p t i. h q r p t (there i)))
  where
    own : Beneath (up m) 0 n → Upwards k (above m n)
    own r = up_or_not (up m n)
        (λ e. root_alone r e)
        (λ p e. subst (λ l. Upwards k l) (sym (above-step c n p e (parent_rooted c p r e))) (chain_up k c (parent_rooted c p r e) (λ q t b. h n q p t here e b)))
      where
        root_alone : {q : ℕ} → Beneath (up m) 0 q → up m q ≡ None → Upwards k (above m q)
        root_alone itself e = subst (λ l. Upwards k l) (sym (above-top c)) tt
        root_alone (under a p f b) e = absurd (not_none f e)
