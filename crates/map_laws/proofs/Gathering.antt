-- group and tie: nodes that go into a new node, pruned.
use Rattle.std.proofs.Common.{inr, ◌≡◌, ◌≢◌, ℕ, List, [], ◌∷◌, flat_map, true, false, cond, ◌==◌, ◌&&◌, inr, refl, ap, sym, ◌∙◌, subst, arith, Some, None}
use Rattle.std.specs.Prelude.{unwrap_or}
use Rattle.std.proofs.lemmas.Bool.{and_parts, eq-eqb, ne_eqb}
use Rattle.uv_lock.specs.declared.texture.Format.{Format}
use Rattle.algebra.specs.Members.{◌∈◌, here}
use Rattle.map_model.specs.Tree.{Whole, Node, Kind, world, layer, group, entity, brush, Group, Entity, at, up, above, kind_of, parent_of, is_kind, is_brush, container, lies_beneath, with_parent}
use Rattle.map_model.specs.Edits.{move_all, put_last}
use Rattle.map_model.specs.Commands.{Command, Group as MakeGroup, Tie}
use Rattle.map_model.specs.Own.{gather}
use Rattle.map_model.specs.Props.{classname}
use Rattle.map_model.specs.Rows.{named, is_movable}
use Rattle.map_model.specs.Shape.{Standing}
use Rattle.map_laws.specs.Placed.{Placed, Bounded, can_hold, NewOk}
use Rattle.map_laws.proofs.Lists.{by_eq, member-flat}
use Rattle.map_laws.proofs.Beneath.{Beneath, some_one, no_circle, itself, under}
use Rattle.map_laws.proofs.Fuel.{parent_rooted}
use Rattle.map_laws.proofs.Forest.{PutNew, brush_kind, is_brush_kind, not_none}
use Rattle.map_laws.proofs.Nodes.{says_parent, list_in}
use Rattle.map_laws.proofs.Skeleton.{kind_at, forest, is_brush_is, planted, placed_of, not_both, kind_is, is_kind_by}
use Rattle.map_laws.proofs.Slots.{member_among, by_bool, takes_kind}
use Rattle.map_laws.proofs.Placing.{chains, put_last_placed, put_new_last, held-takes, no_slot}
use Rattle.map_laws.proofs.Pruning.{Upwards, ToDo, HadChildren}
use Rattle.map_laws.proofs.Kept.{Comes, comes_then, bounded_by, put_last_comes}
use Rattle.map_laws.proofs.InTurn.{MayGo, Gone, move_all_gone, chains_up, by_member}
use Rattle.map_laws.proofs.Refused.{NodesFit}
use Rattle.map_laws.proofs.Holding.{container-holds, entity_parent, is_container, kind_p, kind_q, movable_says, parent_holds, parent_said}
use Rattle.map_laws.proofs.Pruned.{Pruned, above_live, child_of, in_chain, is_above, no_child, parent_above, pruned_by, rooted_at, rooted_child, test_kind}

-- Where a new node stands that takes others in: at the end of a container, which stands above the first of them.
pub record Inside (m : Whole) (n p : ℕ) : Type 0 where
  pub kind : (j : Kind) × (kind_at m p ≡ Some j) × (is_container j ≡ true)
  pub parent : ℕ
  pub is_parent : up m n ≡ Some parent
  pub over : Beneath (up m) p parent

container_by : (m : Whole) (n p : ℕ) → up m n ≡ Some p → container m n ≡ cond (is_brush m n && is_kind m entity p) (unwrap_or (up m p) 0) p
container_by m n p e = ap (λ o. cond (is_brush m n && is_kind m entity (unwrap_or o 0)) (unwrap_or (up m (unwrap_or o 0)) 0) (unwrap_or o 0)) e

pub container_inside : (m : Whole) → Placed m → (n : ℕ) (k : Kind) → kind_at m n ≡ Some k → says_parent k ≡ true → Inside m n (container m n)
container_inside m placed n k is says =
    let p = parent_said m n k is says in
    subst (Inside m n) (sym (container_by m n p.0 p.1)) (by_bool (is_brush m n && is_kind m entity p.0)
    (λ t.
    let e : kind_at m p.0 ≡ Some entity = kind_is m entity p.0 (and_parts (is_brush m n) (is_kind m entity p.0) t).1 in
    let q = parent_said m p.0 entity e refl in
    subst (Inside m n) (sym (ap (λ b. cond b (unwrap_or (up m p.0) 0) p.0) t ∙ ap (λ o. unwrap_or o 0) q.1)) (record {
      kind = entity_parent m placed p.0 q.0 q.1 e;
      parent = p.0;
      is_parent = p.1;
      over = under p.0 q.0 q.1 itself;
    }))
    (λ t. subst (Inside m n) (sym (ap (λ b. cond b (unwrap_or (up m p.0) 0) p.0) t)) (record {
      kind = (let j = kind_p m placed n p.0 p.1 in (j.0, j.1, holder j.0 p.0 j.1 (parent_holds m placed n p.0 p.1 j.0 k j.1 is) t));
      parent = p.0;
      is_parent = p.1;
      over = itself;
    })))
  where
    not_entity : (j k : Kind) → can_hold j k ≡ true → says_parent k ≡ true → (brush_kind k ≡ true → j ≡ entity → ⊥) → is_container j ≡ true
    not_entity world group e f g = refl
    not_entity world entity e f g = refl
    not_entity world brush e f g = refl
    not_entity layer group e f g = refl
    not_entity layer entity e f g = refl
    not_entity layer brush e f g = refl
    not_entity group group e f g = refl
    not_entity group entity e f g = refl
    not_entity group brush e f g = refl
    not_entity entity brush e f g = absurd (g refl refl)
    not_entity brush world e f g = absurd (cc)
    not_entity j k e f g = absurd (cc)

    holder : (j : Kind) (p : ℕ) → kind_at m p ≡ Some j → can_hold j k ≡ true → (is_brush m n && is_kind m entity p) ≡ false → is_container j ≡ true
    holder j p is_j held t = not_entity j k held says (λ b s. not_both (is_brush m n && is_kind m entity p)
        (λ i. (is_brush_is m n ∙ ap is_brush_kind is ∙ b) i && is_kind_by m entity p (is_j ∙ ap Some s) i) t)

-- New node x, into which the nodes ns go.
module _ (f : Format) (m : Whole) (standing : Standing m) (bound : Bounded m) (c : Command) (x : Node) (n : ℕ) (ns : List ℕ) (name : named c ≡ n ∷ ns)
    (kinds : (a : ℕ) → a ∈ (n ∷ ns) → (k : Kind) × (kind_at m a ≡ Some k) × (says_parent k ≡ true) × (can_hold (kind_of x) k ≡ true))
    (apart : (a b : ℕ) → a ∈ (n ∷ ns) → b ∈ (n ∷ ns) → Beneath (up m) a b → a ≡ b)
    (new : NewOk f x) (gets : (p : ℕ) → parent_of (with_parent p x) ≡ Some p) (movable : says_parent (kind_of x) ≡ true) (no_brushes : list_in true x ≡ []) (no_others : list_in false x ≡ []) where
  placed : Placed m
  placed = placed_of standing

  first_kind : (k : Kind) × (kind_at m n ≡ Some k) × (says_parent k ≡ true) × (can_hold (kind_of x) k ≡ true)
  first_kind = kinds n here

  place : Inside m n (container m n)
  place = container_inside m placed n first_kind.0 first_kind.1 first_kind.2

  abbrev m1 : Whole
  m1 = put_last (container m n) x m

  holds_x : can_hold place.kind.0 (kind_of x) ≡ true
  holds_x = container-holds place.kind.0 (kind_of x) place.kind.2 movable

  free : at m m.next ≡ None
  free = bound m.next (omega arith)

  not_next : (q : ℕ) (k : Kind) → kind_at m q ≡ Some k → q ≢ m.next
  not_next q k e s = not_none e (ap (kind_at m) s ∙ no_slot (at m m.next) free)

  i : PutNew (container m n) (λ q. q == m.next) (kind_of x) (forest m) (forest m1)
  i = put_new_last m (planted placed) (container m n) x free (not_next (container m n) place.kind.0 place.kind.1)
      (ap (takes_kind (brush_kind (kind_of x))) place.kind.1 ∙ held-takes place.kind.0 (kind_of x) holds_x) (gets (container m n)) no_brushes no_others

  placed1 : Placed m1
  placed1 = put_last_placed m (container m n) x place.kind.0 placed bound place.kind.1 holds_x (gets (container m n)) no_brushes no_others

  comes1 : Comes f m m1
  comes1 = put_last_comes f m (container m n) x bound new

  is_new : (m.next == m.next) ≡ true
  is_new = eq-eqb m.next m.next refl

  kind1 : (q : ℕ) → q ≢ m.next → kind_at m1 q ≡ kind_at m q
  kind1 q ne = i.kinds q (ne_eqb q m.next ne)

  up1 : (q : ℕ) → q ≢ m.next → up m1 q ≡ up m q
  up1 q ne = i.ups q (ne_eqb q m.next ne)

  chain_old : {q : ℕ} → Beneath (up m) 0 q → q ≢ m.next
  chain_old itself = not_next 0 world (planted placed).world_stands
  chain_old (under q t e b) = λ s. not_none e ((planted placed).absent q (ap (kind_at m) s ∙ no_slot (at m m.next) free))

  old_chain : (a q : ℕ) → Beneath (up m) 0 q → Beneath (up m1) a q → Beneath (up m) a q
  old_chain a q r itself = itself
  old_chain a q r (under t s e b) =
      let u : up m q ≡ Some s = sym (up1 q (chain_old r)) ∙ e in
      under q s u (old_chain a s (parent_rooted (chains m (planted placed) bound) s r u) b)

  -- none of the nodes stands above the new one
  low : (a : ℕ) → a ∈ (n ∷ ns) → Beneath (up m1) a m.next → ⊥
  low a j b = by b refl
    where
      rooted_place : Beneath (up m) 0 (container m n)
      rooted_place = rooted_at m placed bound (container m n) place.kind.0 place.kind.1

      above_first : Beneath (up m) a (container m n) → ⊥
      above_first b =
          let w : Beneath (up m) a place.parent = both b place.over in
          no_circle (planted placed).top (parent_rooted (chains m (planted placed) bound) place.parent (rooted_child m placed bound n place.parent place.is_parent) place.is_parent) (subst (λ z. up m z ≡ Some place.parent) (sym (apart a n j here (under n place.parent place.is_parent w))) place.is_parent) w
        where
          both : {a b c : ℕ} → Beneath (up m) a b → Beneath (up m) b c → Beneath (up m) a c
          both v itself = v
          both v (under q p e w) = under q p e (both v w)

      by : {q : ℕ} → Beneath (up m1) a q → q ≡ m.next → ⊥
      by itself s = not_next a (kinds a j).0 (kinds a j).1 s
      by (under q p e b) s = above_first (old_chain a (container m n) rooted_place (subst (λ z. Beneath (up m1) a z) (some_one e (ap (up m1) s ∙ i.new_ups m.next is_new)) b))

  may : MayGo m1 m.next (kind_of x) (n ∷ ns)
  may a j = let k = kinds a j in (k.0, kind1 a (not_next a k.0 k.1) ∙ k.1, k.3, k.2, low a j)

  abbrev k : Whole
  k = move_all m.next (n ∷ ns) m1

  gathered : Gone f m.next (n ∷ ns) m1 k
  gathered = move_all_gone f m.next (kind_of x) (n ∷ ns) m1 placed1 (bounded_by comes1) (i.new_kinds m.next is_new) may

  rooted : (a : ℕ) → a ∈ (n ∷ ns) → Beneath (up m) 0 a
  rooted a j = let w = kinds a j in rooted_at m placed bound a w.0 w.1

  ups_old : (q : ℕ) → q ≢ m.next → (q ∈ (n ∷ ns) → ⊥) → up k q ≡ up m q
  ups_old q ne out = gathered.moved.ups_out q out ∙ up1 q ne

  not_moved : (a q p : ℕ) → a ∈ (n ∷ ns) → up m a ≡ Some p → Beneath (up m) q p → q ∈ (n ∷ ns) → ⊥
  not_moved a q p j e b l = no_circle (planted placed).top (parent_rooted (chains m (planted placed) bound) p (rooted a j) e) e (subst (λ z. Beneath (up m) z p) (apart q a l j (under a p e b)) b)

  kind_old : (q : ℕ) (j : Kind) → q ≢ m.next → kind_at k q ≡ Some j → kind_at m q ≡ Some j
  kind_old q j ne e = sym (gathered.moved.kinds q ∙ kind1 q ne) ∙ e

  chain_live : (q : ℕ) → q ∈ flat_map (above m) (n ∷ ns) → q ≢ m.next
  chain_live q j =
      let r = in_chain m placed bound (n ∷ ns) rooted q j in
      let l = above_live m placed bound q r.1 (parent_rooted (chains m (planted placed) bound) r.1 (rooted r.0 r.2) r.3) r.4 in
      not_next q l.0 l.1

  upwards : Upwards k (flat_map (above m) (n ∷ ns))
  upwards = chains_up k (chains m (planted placed) bound) (n ∷ ns) rooted (λ a q p t j e b u. sym (ups_old q (live q p (parent_rooted (chains m (planted placed) bound) p (rooted a j) e) b) (not_moved a q p j e b)) ∙ u)
    where
      live : (q p : ℕ) → Beneath (up m) 0 p → Beneath (up m) q p → q ≢ m.next
      live q p r b = let l = above_live m placed bound q p r b in not_next q l.0 l.1

  had : HadChildren m k (flat_map (above m) (n ∷ ns))
  had a j is = standing.no_empty_group a (is_kind_by m group a (kind_old a group (chain_live a j) (kind_is k group a is)))

  todo : ToDo (flat_map (above m) (n ∷ ns)) k (flat_map (above m) (n ∷ ns))
  todo a is none = by_eq a m.next
      (λ s. absurd (no_child k gathered.placed a n none (gathered.moved.ups_in n here ∙ ap Some (sym s))))
      (λ ne.
      let q = child_of m placed a (standing.no_empty_group a (is_kind_by m group a (kind_old a group ne (kind_is k group a is)))) in
      by_member q.0 (n ∷ ns)
      (λ j. inr (member-flat (above m) a q.0 (n ∷ ns) j (parent_above m placed bound q.0 a q.1)))
      (λ out. absurd (no_child k gathered.placed a q.0 none (ups_old q.0 (λ s. not_none q.1 ((planted placed).absent q.0 (ap (kind_at m) s ∙ no_slot (at m m.next) free))) out ∙ q.1))))

  pub gather_pruned : Pruned f m c (gather x (n ∷ ns) m)
  gather_pruned = pruned_by f m k c gathered.placed (comes_then comes1 gathered.comes) (subst (λ l. Upwards k (flat_map (above m) l)) (sym name) upwards)
      (subst (λ l. HadChildren m k (flat_map (above m) l)) (sym name) had) (subst (λ l. ToDo (flat_map (above m) l) k (flat_map (above m) l)) (sym name) todo)

-- The rows of `group` and `tie` give what is asked.
pub group_pruned : (f : Format) (m : Whole) (name : List ℕ) (n : ℕ) (ns : List ℕ) → Standing m → Bounded m → NodesFit m (MakeGroup name (n ∷ ns)) → NewOk f (Group 0 None name None [] [] []) →
    Pruned f m (MakeGroup name (n ∷ ns)) (gather (Group 0 None name None [] [] []) (n ∷ ns) m)
group_pruned f m name n ns standing bound fit new =
    gather_pruned f m standing bound (MakeGroup name (n ∷ ns)) (Group 0 None name None [] [] []) n ns refl
    (λ a i. let k = test_kind is_movable m a (fit.fit a i) in (k.0, k.1, movable_says k.0 k.2, container-holds group k.0 refl (movable_says k.0 k.2)))
    apart new (λ p. refl) refl refl refl
  where
    apart : (a b : ℕ) → a ∈ (n ∷ ns) → b ∈ (n ∷ ns) → Beneath (up m) a b → a ≡ b
    apart a b i j itself = refl
    apart a b i j (under t p e w) = absurd (not_both (lies_beneath m b a) (member_among a (above m b) (is_above m (placed_of standing) bound b p a e w)) (fit.apart b a j i))

pub tie_pruned : (f : Format) (m : Whole) (class : List ℕ) (n : ℕ) (ns : List ℕ) → Standing m → Bounded m → NodesFit m (Tie class (n ∷ ns)) → NewOk f (Entity 0 None ((classname, class) ∷ []) [] []) →
    Pruned f m (Tie class (n ∷ ns)) (gather (Entity 0 None ((classname, class) ∷ []) [] []) (n ∷ ns) m)
tie_pruned f m class n ns standing bound fit new =
    gather_pruned f m standing bound (Tie class (n ∷ ns)) (Entity 0 None ((classname, class) ∷ []) [] []) n ns refl
    (λ a i. (brush, kind_is m brush a (fit.fit a i), refl, refl)) apart new (λ p. refl) refl refl refl
  where
    -- no node stands beneath a brush
    apart : (a b : ℕ) → a ∈ (n ∷ ns) → b ∈ (n ∷ ns) → Beneath (up m) a b → a ≡ b
    apart a b i j itself = refl
    apart a b i j (under t p e w) = absurd (bare a b (kind_is m brush a (fit.fit a i)) w e)
      where
        no_child_of : (a q : ℕ) → kind_at m a ≡ Some brush → up m q ≡ Some a → ⊥
        no_child_of a q k e =
            let r = parent_holds m (placed_of standing) q a e brush (kind_q m (placed_of standing) q a e).0 k (kind_q m (placed_of standing) q a e).1 in
            none (kind_q m (placed_of standing) q a e).0 r
          where
            none : (k : Kind) → can_hold brush k ≡ true → ⊥
            none world e = cc
            none layer e = cc
            none group e = cc
            none entity e = cc
            none brush e = cc

        bare : (a : ℕ) {q : ℕ} (r : ℕ) → kind_at m a ≡ Some brush → Beneath (up m) a q → up m r ≡ Some q → ⊥
        bare a r k itself e = no_child_of a r k e
        bare a r k (under s p f v) e = bare a s k v f
