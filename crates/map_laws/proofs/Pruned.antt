-- What is known of a map once a command is pruned, and how it is shown: what stands above the named nodes, and what isn't emptied.
use Rattle.std.proofs.Common.{◌≡◌, ◌≢◌, ℕ, List, [], ◌∷◌, length, flat_map, Bool, true, false, cond, not, ◌==◌, ◌&&◌, ◌||◌, ◌⊎◌, inl, inr, refl, ap, sym, ◌∙◌, subst, arith, Option, Some, None, option_map}
use Rattle.std.specs.Prelude.{unwrap_or}
use Rattle.uv_lock.specs.declared.texture.Format.{Format}
use Rattle.algebra.specs.Members.{◌∈◌, here}
use Rattle.map_model.specs.Tree.{Whole, Node, Kind, group, entity, at, up, above, children, kind_of, is_kind, is_linked}
use Rattle.map_model.specs.Edits.{each_in_turn, take_out, forget}
use Rattle.map_model.specs.Commands.{Command}
use Rattle.map_model.specs.Rows.{named, kind_passes}
use Rattle.map_model.specs.Shape.{Standing}
use Rattle.std.proofs.lemmas.Bool.{and_parts, or_cases}
use Rattle.map_model.specs.Apply.{is_emptied, drop_emptied, prune}
use Rattle.map_laws.specs.Placed.{Placed, Bounded}
use Rattle.map_laws.proofs.Lists.{tally, member-from_flat}
use Rattle.map_laws.proofs.Beneath.{Beneath, itself, under}
use Rattle.map_laws.proofs.Fuel.{Chains, in_above, from_above, parent_rooted}
use Rattle.map_laws.proofs.Forest.{not_none, live_or_not, with_parent_live}
use Rattle.map_laws.proofs.Skeleton.{kind_at, planted, placed_of, up_child, kind_is, is_kind_by}
use Rattle.map_laws.proofs.Slots.{by_bool}
use Rattle.map_laws.proofs.Placing.{chains}
use Rattle.map_laws.proofs.Pruning.{Upwards, ToDo, HadChildren, prunes, prune-walk, prune_placed, emptied_children}
use Rattle.map_laws.proofs.Kept.{Comes, comes_then, comes_itself, bounded_by, take_out_comes, forget_comes}

-- Each drop of pruning keeps what nodes are.
pub drop_comes : (f : Format) (before : Whole) (n : ℕ) (m : Whole) → Bounded m → Comes f m (drop_emptied before n m)
drop_comes f before n m bound = by (is_emptied before m n && not (is_linked m n))
  where
    by : (b : Bool) → Comes f m (cond b (forget (n ∷ []) (take_out n m)) m)
    by true = let t = take_out_comes f m n bound in comes_then t (forget_comes f (take_out n m) (n ∷ []) (bounded_by t))
    by false = comes_itself f m bound

pub drops_come : (f : Format) (before : Whole) (ns : List ℕ) (m : Whole) → Bounded m → Comes f m (each_in_turn (drop_emptied before) ns m)
drops_come f before [] m bound = comes_itself f m bound
drops_come f before (n ∷ ns) m bound = let d = drop_comes f before n m bound in comes_then d (drops_come f before ns (drop_emptied before n m) (bounded_by d))

abbrev pub chain_list : Whole → Command → List ℕ
chain_list m c = flat_map (above m) (named c)

-- What is known of the map k, which came from m by the own changes of c, once it is pruned.
pub record Pruned (f : Format) (m : Whole) (c : Command) (k : Whole) : Type 0 where
  pub placed : Placed (prune m c k)
  pub comes : Comes f m (prune m c k)
  pub empties : (g : ℕ) → is_kind (prune m c k) group g ≡ true → children (prune m c k) g ≡ [] → (is_linked (prune m c k) g ≡ true) × (g ∈ chain_list m c)

pub pruned_by : (f : Format) (m k : Whole) (c : Command) → Placed k → Comes f m k → Upwards k (chain_list m c) → HadChildren m k (chain_list m c) → ToDo (chain_list m c) k (chain_list m c) → Pruned f m c k
pruned_by f m k c placed comes upwards had todo = record {
  placed = prune_placed m c k placed;
  comes = subst (Comes f m) (sym (prune-walk m c k)) (comes_then comes (drops_come f m (chain_list m c) k (bounded_by comes)));
  empties = λ g is none.
      let e = prune-walk m c k in
      let r = done (prunes m (chain_list m c) (chain_list m c) k (λ g i. i) placed upwards had todo g (ap (λ x. is_kind x group g) (sym e) ∙ is) (ap (λ x. children x g) (sym e) ∙ none)) in
      (ap (λ x. is_linked x g) e ∙ r.0, r.1);
}
  where
    done : {g : ℕ} {l : Bool} → ((l ≡ true) × (g ∈ chain_list m c)) ⊎ (g ∈ []) → (l ≡ true) × (g ∈ chain_list m c)
    done (inl e) = e
    done (inr i) = elim i [ ]

-- A group that has a child, by its child.
pub child_of : (m : Whole) → Placed m → (g : ℕ) → children m g ≢ [] → (q : ℕ) × (up m q ≡ Some g)
child_of m placed g ne = by (children m g) ne (λ q i. placed.children_stand g q i)
  where
    by : (l : List ℕ) → l ≢ [] → ((q : ℕ) → q ∈ l → up m q ≡ Some g) → (q : ℕ) × (up m q ≡ Some g)
    by [] ne h = absurd (ne refl)
    by (x ∷ xs) ne h = (x, h x here)

pub no_child : (m : Whole) → Placed m → (g q : ℕ) → children m g ≡ [] → up m q ≡ Some g → ⊥
no_child m placed g q none e = omega (arith, up_child m (planted placed) g q e, ap (tally q) none)

pub test_kind : (test : Kind → Bool) (m : Whole) (n : ℕ) → kind_passes m test n ≡ true → (k : Kind) × (kind_at m n ≡ Some k) × (test k ≡ true)
test_kind test m n e = by (at m n) e
  where
    by : (o : Option Node) → unwrap_or (option_map (λ x. test (kind_of x)) o) false ≡ true → (k : Kind) × (option_map kind_of o ≡ Some k) × (test k ≡ true)
    by None e = absurd (cc)
    by (Some x) e = (kind_of x, refl, e)

-- What stands above a named node, and that chains hold only such.
module _ (m : Whole) (placed : Placed m) (bound : Bounded m) where
  c : Chains m
  c = chains m (planted placed) bound

  pub rooted_at : (n : ℕ) (k : Kind) → kind_at m n ≡ Some k → Beneath (up m) 0 n
  rooted_at n k e = (planted placed).rooted n k e

  pub rooted_child : (q g : ℕ) → up m q ≡ Some g → Beneath (up m) 0 q
  rooted_child q g e = with_parent_live (planted placed) q g e

  pub parent_above : (n g : ℕ) → up m n ≡ Some g → g ∈ above m n
  parent_above n g e = in_above c g n g (parent_rooted c g (rooted_child n g e) e) e itself

  pub is_above : (n g q : ℕ) → up m n ≡ Some g → Beneath (up m) q g → q ∈ above m n
  is_above n g q e b = in_above c q n g (parent_rooted c g (rooted_child n g e) e) e b

  pub above_is : (n q : ℕ) → Beneath (up m) 0 n → q ∈ above m n → (p : ℕ) × (up m n ≡ Some p) × Beneath (up m) q p
  above_is n q r i = from_above c q n r i

  pub above_live : (q p : ℕ) → Beneath (up m) 0 p → Beneath (up m) q p → (k : Kind) × (kind_at m q ≡ Some k)
  above_live q p r itself = live_or_not (kind_at m q) (λ none. absurd (dead r none)) (λ k e. (k, e))
    where
      dead : {x : ℕ} → Beneath (up m) 0 x → kind_at m x ≡ None → ⊥
      dead itself e = not_none ((planted placed).world_stands) e
      dead (under x p f b) e = not_none f ((planted placed).absent x e)
  above_live q p r (under t s e b) = above_live q s (parent_rooted c s r e) b

  pub in_chain : (ns : List ℕ) → ((n : ℕ) → n ∈ ns → Beneath (up m) 0 n) → (q : ℕ) → q ∈ flat_map (above m) ns → (n : ℕ) × (p : ℕ) × (n ∈ ns) × (up m n ≡ Some p) × Beneath (up m) q p
  in_chain ns rooted q i =
      let r = member-from_flat (above m) q ns i in
      let a = above_is r.0 q (rooted r.0 r.1) r.2 in
      (r.0, a.0, r.1, a.1, a.2)

-- Nothing is emptied, so nothing is dropped.
pub not_emptied : (before k : Whole) (n : ℕ) → (children before n ≢ [] → (j : Kind) → kind_at k n ≡ Some j → children k n ≢ []) → is_emptied before k n ≡ false
not_emptied before k n h = by_bool (is_emptied before k n) (λ e. absurd (h (had e) (live e).0 (live e).1 (emptied_children before k n e))) (λ e. e)
  where
    had : is_emptied before k n ≡ true → children before n ≢ []
    had e s = no_length (ap (λ l. not (length l == 0)) (sym s) ∙ (and_parts (not (length (children before n) == 0)) (length (children k n) == 0) (and_parts (is_kind k entity n || is_kind k group n) (not (length (children before n) == 0) && (length (children k n) == 0)) e).1).0)
      where
        no_length : (not (0 == 0)) ≡ true → ⊥
        no_length e = cc

    live : is_emptied before k n ≡ true → (j : Kind) × (kind_at k n ≡ Some j)
    live e = elim (or_cases (is_kind k entity n) (is_kind k group n) (and_parts (is_kind k entity n || is_kind k group n) (not (length (children before n) == 0) && (length (children k n) == 0)) e).0) [
      | inl f ↦ (entity, kind_is k entity n f)
      | inr f ↦ (group, kind_is k group n f)
    ]

drops_none : (before : Whole) (ns : List ℕ) (k : Whole) → ((n : ℕ) → is_emptied before k n ≡ false) → each_in_turn (drop_emptied before) ns k ≡ k
drops_none before [] k h = refl
drops_none before (n ∷ ns) k h = ap (λ b. each_in_turn (drop_emptied before) ns (cond (b && not (is_linked k n)) (forget (n ∷ []) (take_out n k)) k)) (h n) ∙ drops_none before ns k h

pub prune_none : (before : Whole) (c : Command) (k : Whole) → ((n : ℕ) → is_emptied before k n ≡ false) → prune before c k ≡ k
prune_none before c k h = prune-walk before c k ∙ drops_none before (chain_list before c) k h

pub some_child : (m : Whole) (placed : Placed m) (g q : ℕ) → up m q ≡ Some g → children m g ≢ []
some_child m placed g q e none = no_child m placed g q none e

-- Who has a child and stays has one.
abbrev pub KeepsChildren : Whole → Whole → Type 0
KeepsChildren m k = (a q : ℕ) (j : Kind) → up m q ≡ Some a → kind_at k a ≡ Some j → (r : ℕ) × (up k r ≡ Some a)

-- Nothing is emptied: who had a child and stays has one, and no group is new.
pub record NoneEmptied (f : Format) (m k : Whole) : Type 0 where
  pub placed : Placed k
  pub comes : Comes f m k
  pub groups : (q : ℕ) → kind_at k q ≡ Some group → kind_at m q ≡ Some group
  pub children : KeepsChildren m k

pub kept_pruned : (f : Format) (m k : Whole) (c : Command) → Standing m → NoneEmptied f m k → Pruned f m c k
kept_pruned f m k c standing d =
    let e : prune m c k ≡ k = prune_none m c k (λ n. not_emptied m k n (λ had j e.
    let q = child_of m (placed_of standing) n had in
    let r = d.children n q.0 j q.1 e in
    some_child k d.placed n r.0 r.1)) in
    record {
      placed = subst Placed (sym e) d.placed;
      comes = subst (Comes f m) (sym e) d.comes;
      empties = λ g is none.
          let is_k : is_kind k group g ≡ true = sym (ap (λ x. is_kind x group g) e) ∙ is in
          let q = child_of m (placed_of standing) g (standing.no_empty_group g (is_kind_by m group g (d.groups g (kind_is k group g is_k)))) in
          let r = d.children g q.0 group q.1 (kind_is k group g is_k) in
          absurd (no_child k d.placed g r.0 (sym (ap (λ x. children x g) e) ∙ none) r.1);
    }
