-- group and tie: which contents change where nodes go into a new node, and what stands above them.
use Rattle.std.proofs.Common.{◌⊎◌, inl, inr, ◌≡◌, ◌≢◌, ℕ, List, [], ◌∷◌, true, false, ◌==◌, inr, refl, ap, sym, ◌∙◌, subst, arith, Some, None}
use Rattle.std.proofs.lemmas.Bool.{eq-eqb, ne_eqb}
use Rattle.uv_lock.specs.declared.texture.Format.{Format}
use Rattle.algebra.specs.Members.{◌∈◌, here}
use Rattle.map_model.specs.Tree.{Whole, Node, Kind, world, layer, group, entity, brush, Group, Entity, at, up, above, kind_of, parent_of, is_linked, container, lies_beneath, with_parent}
use Rattle.map_model.specs.Edits.{move_all, put_last}
use Rattle.map_model.specs.Commands.{Command, Group as MakeGroup, Tie}
use Rattle.map_model.specs.Own.{gather}
use Rattle.map_model.specs.Props.{classname}
use Rattle.map_model.specs.Rows.{named, is_movable, first_of}
use Rattle.map_model.specs.Shape.{Standing, Marks}
use Rattle.map_model.specs.Apply.{prune}
use Rattle.map_laws.specs.Placed.{Placed, Bounded, can_hold, NewOk}
use Rattle.map_laws.proofs.Beneath.{Beneath, itself, under, beneath_both, some_one, no_circle}
use Rattle.map_laws.proofs.Fuel.{parent_rooted}
use Rattle.map_laws.proofs.Forest.{PutNew, brush_kind, not_none}
use Rattle.map_laws.proofs.Nodes.{says_parent, list_in}
use Rattle.map_laws.proofs.Skeleton.{kind_at, forest, planted, placed_of, not_both, kind_is}
use Rattle.map_laws.proofs.Slots.{member_among, takes_kind}
use Rattle.map_laws.proofs.Placing.{chains, put_last_placed, put_new_last, held-takes, no_slot}
use Rattle.map_laws.proofs.Kept.{Comes, bounded_by, put_last_comes}
use Rattle.map_laws.proofs.InTurn.{MayGo, Gone, move_all_gone}
use Rattle.link_laws.proofs.Moves.{moved_beneath}
use Rattle.map_laws.proofs.Refused.{NodesFit}
use Rattle.link_laws.proofs.Contents.{SameContent, same_then, below_back, put_last_same, moved_same}
use Rattle.link_laws.proofs.Untouched.{Unedited, not_beneath, not_parent, pruned_same}
use Rattle.map_laws.proofs.Pruned.{Pruned, test_kind, rooted_at, rooted_child, is_above}
use Rattle.map_laws.proofs.Holding.{kind_q, movable_says, container-holds, parent_holds}
use Rattle.map_laws.proofs.Gathering.{Inside, container_inside, gather_pruned}

-- What is known of a new node x, into which the nodes ns went.
pub record Gathers (f : Format) (m : Whole) (c : Command) (x : Node) (ns : List ℕ) : Type 0 where
  pub pruned : Pruned f m c (gather x ns m)
  pub content : Marks m → (h : ℕ) → Beneath (up m) 0 h → Unedited m h ns → SameContent h m (prune m c (gather x ns m))
  pub placed : Placed (gather x ns m)
  pub before : ((a h q : ℕ) → a ∈ ns → Beneath (up m) h (container m (first_of ns)) → is_linked m h ≡ true → Beneath (up m) a q → is_linked m q ≡ true → ⊥) →
      (h q : ℕ) → Beneath (up m) 0 h → Beneath (up m) 0 q → is_linked m h ≡ true → is_linked m q ≡ true → Beneath (up (gather x ns m)) h q → Beneath (up m) h q

-- New node x, into which the nodes ns go.
module _ (f : Format) (m : Whole) (standing : Standing m) (bound : Bounded m) (c : Command) (x : Node) (n : ℕ) (ns : List ℕ) (name : named c ≡ n ∷ ns)
    (kinds : (a : ℕ) → a ∈ (n ∷ ns) → (k : Kind) × (kind_at m a ≡ Some k) × (says_parent k ≡ true) × (can_hold (kind_of x) k ≡ true))
    (apart : (a b : ℕ) → a ∈ (n ∷ ns) → b ∈ (n ∷ ns) → Beneath (up m) a b → a ≡ b)
    (new : NewOk f x) (gets : (p : ℕ) → parent_of (with_parent p x) ≡ Some p) (movable : says_parent (kind_of x) ≡ true) (no_brushes : list_in true x ≡ []) (no_others : list_in false x ≡ []) where
  placed : Placed m
  placed = placed_of standing

  first_kind : (k : Kind) × (kind_at m n ≡ Some k) × (says_parent k ≡ true) × (can_hold (kind_of x) k ≡ true)
  first_kind = kinds n here

  place : Inside m n (container m n)
  place = container_inside m placed n first_kind.0 first_kind.1 first_kind.2

  abbrev m1 : Whole
  m1 = put_last (container m n) x m

  holds_x : can_hold place.kind.0 (kind_of x) ≡ true
  holds_x = container-holds place.kind.0 (kind_of x) place.kind.2 movable

  free : at m m.next ≡ None
  free = bound m.next (omega arith)

  not_next : (q : ℕ) (k : Kind) → kind_at m q ≡ Some k → q ≢ m.next
  not_next q k e s = not_none e (ap (kind_at m) s ∙ no_slot (at m m.next) free)

  i : PutNew (container m n) (λ q. q == m.next) (kind_of x) (forest m) (forest m1)
  i = put_new_last m (planted placed) (container m n) x free (not_next (container m n) place.kind.0 place.kind.1)
      (ap (takes_kind (brush_kind (kind_of x))) place.kind.1 ∙ held-takes place.kind.0 (kind_of x) holds_x) (gets (container m n)) no_brushes no_others

  placed1 : Placed m1
  placed1 = put_last_placed m (container m n) x place.kind.0 placed bound place.kind.1 holds_x (gets (container m n)) no_brushes no_others

  comes1 : Comes f m m1
  comes1 = put_last_comes f m (container m n) x bound new

  is_new : (m.next == m.next) ≡ true
  is_new = eq-eqb m.next m.next refl

  kind1 : (q : ℕ) → q ≢ m.next → kind_at m1 q ≡ kind_at m q
  kind1 q ne = i.kinds q (ne_eqb q m.next ne)

  up1 : (q : ℕ) → q ≢ m.next → up m1 q ≡ up m q
  up1 q ne = i.ups q (ne_eqb q m.next ne)

  chain_old : {q : ℕ} → Beneath (up m) 0 q → q ≢ m.next
  chain_old itself = not_next 0 world (planted placed).world_stands
  chain_old (under q t e b) = λ s. not_none e ((planted placed).absent q (ap (kind_at m) s ∙ no_slot (at m m.next) free))

  old_chain : (a q : ℕ) → Beneath (up m) 0 q → Beneath (up m1) a q → Beneath (up m) a q
  old_chain a q r itself = itself
  old_chain a q r (under t s e b) =
      let u : up m q ≡ Some s = sym (up1 q (chain_old r)) ∙ e in
      under q s u (old_chain a s (parent_rooted (chains m (planted placed) bound) s r u) b)

  -- none of the nodes stands above the new one
  low : (a : ℕ) → a ∈ (n ∷ ns) → Beneath (up m1) a m.next → ⊥
  low a j b = by b refl
    where
      rooted_place : Beneath (up m) 0 (container m n)
      rooted_place = rooted_at m placed bound (container m n) place.kind.0 place.kind.1

      above_first : Beneath (up m) a (container m n) → ⊥
      above_first b =
          let w : Beneath (up m) a place.parent = both b place.over in
          no_circle (planted placed).top (parent_rooted (chains m (planted placed) bound) place.parent (rooted_child m placed bound n place.parent place.is_parent) place.is_parent) (subst (λ z. up m z ≡ Some place.parent) (sym (apart a n j here (under n place.parent place.is_parent w))) place.is_parent) w
        where
          both : {a b c : ℕ} → Beneath (up m) a b → Beneath (up m) b c → Beneath (up m) a c
          both v itself = v
          both v (under q p e w) = under q p e (both v w)

      by : {q : ℕ} → Beneath (up m1) a q → q ≡ m.next → ⊥
      by itself s = not_next a (kinds a j).0 (kinds a j).1 s
      by (under q p e b) s = above_first (old_chain a (container m n) rooted_place (subst (λ z. Beneath (up m1) a z) (some_one e (ap (up m1) s ∙ i.new_ups m.next is_new)) b))

  may : MayGo m1 m.next (kind_of x) (n ∷ ns)
  may a j = let k = kinds a j in (k.0, kind1 a (not_next a k.0 k.1) ∙ k.1, k.3, k.2, low a j)

  abbrev k : Whole
  k = move_all m.next (n ∷ ns) m1

  gathered : Gone f m.next (n ∷ ns) m1 k
  gathered = move_all_gone f m.next (kind_of x) (n ∷ ns) m1 placed1 (bounded_by comes1) (i.new_kinds m.next is_new) may

  rooted : (a : ℕ) → a ∈ (n ∷ ns) → Beneath (up m) 0 a
  rooted a j = let w = kinds a j in rooted_at m placed bound a w.0 w.1

  -- No content is changed but those of groups over the named nodes.
  gather_content : (marks : Marks m) (h : ℕ) → Beneath (up m) 0 h → Unedited m h (n ∷ ns) → SameContent h m (prune m c (gather x (n ∷ ns) m))
  gather_content marks h r u =
      let place_out : Beneath (up m) h (container m n) → ⊥ = λ w. not_parent m placed bound marks h (n ∷ ns) u rooted n place.parent here place.is_parent (beneath_both w place.over) in
      let s1 : SameContent h m m1 = put_last_same m (container m n) h x (λ q w. chain_old (beneath_both r w)) place_out in
      pruned_same m placed bound marks h (n ∷ ns) u rooted k c name gathered.placed (same_then s1 (moved_same m1 m.next (n ∷ ns) h placed1
      (λ a j w ne. not_beneath m placed bound marks h (n ∷ ns) u rooted a j (below_back s1 (planted placed) (planted placed1) w) ne)
      (λ w. new_out s1 place_out m.next w refl)))
    where
      new_out : SameContent h m m1 → (Beneath (up m) h (container m n) → ⊥) → (q : ℕ) → Beneath (up m1) h q → q ≡ m.next → ⊥
      new_out s1 out q itself s = chain_old r s
      new_out s1 out q (under t p e w) s =
          out (subst (λ z. Beneath (up m) h z) (some_one e (ap (up m1) s ∙ i.new_ups m.next is_new)) (below_back s1 (planted placed) (planted placed1) w))

  -- What stands above a node did so before, unless a node goes into what stands above the container.
  gather_before : ((a h q : ℕ) → a ∈ (n ∷ ns) → Beneath (up m) h (container m n) → is_linked m h ≡ true → Beneath (up m) a q → is_linked m q ≡ true → ⊥) →
      (h q : ℕ) → Beneath (up m) 0 h → Beneath (up m) 0 q → is_linked m h ≡ true → is_linked m q ≡ true → Beneath (up k) h q → Beneath (up m) h q
  gather_before refused h q rh rq lh lq b = elim (moved_beneath m1 m.next (n ∷ ns) k gathered.moved b) [
    | inl w ↦ old_chain h q rq w
    | inr r ↦ absurd (refused r.0 h q r.1 (above_place (moved_beneath m1 m.next (n ∷ ns) k gathered.moved r.3)) lh (old_chain r.0 q rq r.2) lq)
  ]
    where
      rooted_place : Beneath (up m) 0 (container m n)
      rooted_place = rooted_at m placed bound (container m n) place.kind.0 place.kind.1

      up_new : (z : ℕ) → Beneath (up m1) h z → z ≡ m.next → Beneath (up m) h (container m n)
      up_new z itself s = absurd (chain_old rh s)
      up_new z (under t p e w) s = old_chain h (container m n) rooted_place (subst (λ y. Beneath (up m1) h y) (some_one e (ap (up m1) s ∙ i.new_ups m.next is_new)) w)

      above_place : Beneath (up m1) h m.next ⊎ ((a : ℕ) × (a ∈ (n ∷ ns)) × Beneath (up m1) a m.next × Beneath (up k) h m.next) → Beneath (up m) h (container m n)
      above_place (inl w) = up_new m.next w refl
      above_place (inr r) = absurd (low r.0 r.1 r.2)

  pub gathers : Gathers f m c x (n ∷ ns)
  gathers = record { pruned = gather_pruned f m standing bound c x n ns name kinds apart new gets movable no_brushes no_others; content = gather_content; placed = gathered.placed; before = gather_before }

-- The rows of `group` and `tie` give what is asked.
pub group_gathers : (f : Format) (m : Whole) (name : List ℕ) (n : ℕ) (ns : List ℕ) → Standing m → Bounded m → NodesFit m (MakeGroup name (n ∷ ns)) → NewOk f (Group 0 None name None [] [] []) →
    Gathers f m (MakeGroup name (n ∷ ns)) (Group 0 None name None [] [] []) (n ∷ ns)
group_gathers f m name n ns standing bound fit new =
    gathers f m standing bound (MakeGroup name (n ∷ ns)) (Group 0 None name None [] [] []) n ns refl
    (λ a i. let k = test_kind is_movable m a (fit.fit a i) in (k.0, k.1, movable_says k.0 k.2, container-holds group k.0 refl (movable_says k.0 k.2)))
    apart new (λ p. refl) refl refl refl
  where
    apart : (a b : ℕ) → a ∈ (n ∷ ns) → b ∈ (n ∷ ns) → Beneath (up m) a b → a ≡ b
    apart a b i j itself = refl
    apart a b i j (under t p e w) = absurd (not_both (lies_beneath m b a) (member_among a (above m b) (is_above m (placed_of standing) bound b p a e w)) (fit.apart b a j i))

pub tie_gathers : (f : Format) (m : Whole) (class : List ℕ) (n : ℕ) (ns : List ℕ) → Standing m → Bounded m → NodesFit m (Tie class (n ∷ ns)) → NewOk f (Entity 0 None ((classname, class) ∷ []) [] []) →
    Gathers f m (Tie class (n ∷ ns)) (Entity 0 None ((classname, class) ∷ []) [] []) (n ∷ ns)
tie_gathers f m class n ns standing bound fit new =
    gathers f m standing bound (Tie class (n ∷ ns)) (Entity 0 None ((classname, class) ∷ []) [] []) n ns refl
    (λ a i. (brush, kind_is m brush a (fit.fit a i), refl, refl)) apart new (λ p. refl) refl refl refl
  where
    -- no node stands beneath a brush
    apart : (a b : ℕ) → a ∈ (n ∷ ns) → b ∈ (n ∷ ns) → Beneath (up m) a b → a ≡ b
    apart a b i j itself = refl
    apart a b i j (under t p e w) = absurd (bare a b (kind_is m brush a (fit.fit a i)) w e)
      where
        no_child_of : (a q : ℕ) → kind_at m a ≡ Some brush → up m q ≡ Some a → ⊥
        no_child_of a q k e =
            let r = parent_holds m (placed_of standing) q a e brush (kind_q m (placed_of standing) q a e).0 k (kind_q m (placed_of standing) q a e).1 in
            none (kind_q m (placed_of standing) q a e).0 r
          where
            none : (k : Kind) → can_hold brush k ≡ true → ⊥
            none world e = cc
            none layer e = cc
            none group e = cc
            none entity e = cc
            none brush e = cc

        bare : (a : ℕ) {q : ℕ} (r : ℕ) → kind_at m a ≡ Some brush → Beneath (up m) a q → up m r ≡ Some q → ⊥
        bare a r k itself e = no_child_of a r k e
        bare a r k (under s p f v) e = bare a s k v f
