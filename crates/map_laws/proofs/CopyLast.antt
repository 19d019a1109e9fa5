-- copy_last keeps maps placed: the new nodes are the old ones under other numbers.
use Rattle.std.proofs.Common.{◌≡◌, ◌≢◌, ℕ, ◌<◌, List, [], ◌∷◌, ◌++◌, length, map, flat_map, Bool, true, false, inl, inr, refl, ap, sym, ◌∙◌, subst, arith, Option, Some, None, option_map}
use Rattle.std.specs.Prelude.{option_and_then}
use Rattle.std.specs.List.{filter_map}
use Rattle.std.proofs.lemmas.Bool.{cases_lt}
use Rattle.algebra.specs.Members.{◌∈◌}
use Rattle.map_model.specs.Tree.{Whole, Node, Kind, world, group, at, up, is_brush, kind_of, parent_of, with_parent, children, preorder}
use Rattle.map_model.specs.Edits.{draw, each_in_turn, put_in, copy_last, relist, renew, renumber}
use Rattle.map_laws.specs.Placed.{Placed, Bounded, NoEmptyGroup, can_hold, KeepsPlace}
use Rattle.map_laws.proofs.Lists.{tally}
use Rattle.map_laws.proofs.Beneath.{Beneath, some_one, no_circle, itself, under}
use Rattle.map_laws.proofs.Fuel.{Chains, in_preorder, from_preorder, preorder-step, preorder_once, parent_rooted}
use Rattle.map_laws.proofs.Forest.{Grown, PutIn, brush_kind, is_brush_kind, holds, not_none}
use Rattle.map_laws.proofs.Nodes.{says_parent, list_in}
use Rattle.map_laws.proofs.Skeleton.{kind_at, list_at, forest, is_brush_is, planted, unplanted, member_is, not_both, kind_is, is_kind_by}
use Rattle.map_laws.proofs.Slots.{at-renew_other, slot_list, takes_kind, says_kind, put_in_gives, parent_up, by_bool}
use Rattle.map_laws.proofs.Placing.{chains, held-takes, held-holds, no_slot}
use Rattle.map_laws.proofs.Replacing.{or_else, at-drawn, found_below, found_past, in_range, range_in, range_is, range_out}
use Rattle.map_laws.proofs.Renumbering.{row, row_same, row_from, row_to, row_out, row_back, row_one, found_row, length-row, tally-map_one, tally-map_none, kind-renumber, list-renumber, parent-renumber}
use Rattle.map_laws.proofs.Pruned.{child_of, some_child, rooted_child}
use Rattle.map_laws.proofs.Copies.{Copied, copied_grown}

slot_of : (o : Option Node) (k : Kind) → option_map kind_of o ≡ Some k → (x : Node) × (o ≡ Some x)
slot_of None k e = absurd (cc)
slot_of (Some x) k e = (x, refl)

slot_up : (o : Option Node) (p : ℕ) → option_and_then parent_of o ≡ Some p → (x : Node) × (o ≡ Some x)
slot_up None p e = absurd (cc)
slot_up (Some x) p e = (x, refl)

pub slot_live : (m : Whole) (q g : ℕ) → up m q ≡ Some g → (k : Kind) × (kind_at m q ≡ Some k)
slot_live m q g e = by (at m q) e
  where
    by : (o : Option Node) → option_and_then parent_of o ≡ Some g → (k : Kind) × (option_map kind_of o ≡ Some k)
    by None e = absurd (cc)
    by (Some x) e = (kind_of x, refl)

in_list : (b : Bool) (f : Node → Node) → KeepsPlace f → (x : Node) → list_in b (f x) ≡ list_in b x
in_list true f k x = k.brushes x
in_list false f k x = k.others x

module _ (m : Whole) (p n : ℕ) (f : Node → Node) (j k : Kind) (placed : Placed m) (bound : Bounded m) (is_j : kind_at m p ≡ Some j) (is_k : kind_at m n ≡ Some k)
    (held : can_hold j k ≡ true) (says : says_parent k ≡ true) (keeps : KeepsPlace f) where
  h : Grown (forest m)
  h = planted placed

  c : Chains m
  c = chains m h bound

  abbrev ns : List ℕ
  ns = preorder m n

  abbrev s : ℕ → ℕ
  s a = row m.next ns a

  abbrev g : Node → Node
  g x = renumber s (f x)

  abbrev d : Whole
  d = each_in_turn draw (map g (filter_map (at m) ns)) m

  abbrev D : ℕ → Bool
  D q = in_range m.next (length ns) q

  rooted : Beneath (up m) 0 n
  rooted = h.rooted n k is_k

  pub inside : (a : ℕ) → Beneath (up m) n a → a ∈ ns
  inside a b = in_preorder c n rooted b

  pub beneath_n : (a : ℕ) → a ∈ ns → Beneath (up m) n a
  beneath_n a i = from_preorder c m.next n a i

  live : (a : ℕ) → a ∈ ns → (x : Node) × (at m a ≡ Some x)
  live a i = live_by a (beneath_n a i)
    where
      live_by : (a : ℕ) → Beneath (up m) n a → (x : Node) × (at m a ≡ Some x)
      live_by a itself = slot_of (at m a) k is_k
      live_by a (under t q e b) = slot_up (at m a) q e

  low : n ≢ 0
  low t = not_world k says (some_one (sym (ap (kind_at m) t) ∙ is_k) h.world_stands)
    where
      not_world : (k : Kind) → says_parent k ≡ true → k ≡ world → ⊥
      not_world k e f = cc (sym e ∙ ap says_parent f)

  top_name : s n ≡ m.next
  top_name = ap (λ l. row m.next l n) (preorder-step c n rooted) ∙ row_same m.next n n (flat_map (preorder m) (children m n)) refl

  zero_stays : s 0 ≡ 0
  zero_stays = row_out m.next ns 0 (λ i. zero_above 0 (beneath_n 0 i) refl)
    where
      zero_above : (a : ℕ) → Beneath (up m) n a → a ≡ 0 → ⊥
      zero_above a itself e = low e
      zero_above a (under t q u b) e = not_none u (ap (up m) e ∙ h.top)

  in_row : (a : ℕ) → a ∈ ns → D (s a) ≡ true
  in_row a i = range_is m.next (length ns) (s a) (row_from m.next ns a i) (row_to m.next ns a i)

  -- What is drawn for a node, and what stays.
  pub drawn_new : (a : ℕ) → a ∈ ns → at d (s a) ≡ option_map g (at m a)
  drawn_new a i =
      let x = live a i in
      at-drawn (map g (filter_map (at m) ns)) m (s a) ∙ ap (λ o. or_else o (at m (s a))) (found_row g (at m) m.next ns live a i ∙ ap (option_map g) x.1) ∙ sym (ap (option_map g) x.1)

  pub drawn_old : (q : ℕ) → D q ≡ false → at d q ≡ at m q
  drawn_old q e = at-drawn (map g (filter_map (at m) ns)) m q ∙ ap (λ o. or_else o (at m q))
      (elim (range_out m.next (length ns) q e) [
        | inl lt ↦ found_below (map g (filter_map (at m) ns)) m.next q lt
        | inr far ↦ found_past (map g (filter_map (at m) ns)) m.next q (omega (arith, length-row g (at m) ns live))
      ])

  new_kind : (o : Option Node) → option_map kind_of (option_map g o) ≡ option_map kind_of o
  new_kind None = refl
  new_kind (Some x) = ap Some (kind-renumber s (f x) ∙ keeps.kind x)

  new_up : (o : Option Node) → option_and_then parent_of (option_map g o) ≡ option_map s (option_and_then parent_of o)
  new_up None = refl
  new_up (Some x) = parent-renumber s (f x) zero_stays ∙ ap (option_map s) (keeps.parent x)

  new_list : (b : Bool) (o : Option Node) → slot_list b (option_map g o) ≡ map s (slot_list b o)
  new_list b None = refl
  new_list b (Some x) = list-renumber s b (f x) ∙ ap (map s) (in_list b f keeps x)

  child_in : (b : Bool) (a x : ℕ) → Beneath (up m) n a → x ∈ list_at b m a → Beneath (up m) n x
  child_in b a x w i = under x a (member_is m h b a x i).0 w

  list_new : (b : Bool) (a : ℕ) → Beneath (up m) n a → list_at b d (s a) ≡ map s (list_at b m a)
  list_new b a w = ap (slot_list b) (drawn_new a (inside a w)) ∙ new_list b (at m a)

  copied : Copied n s D (forest m) (forest d)
  copied = record {
    new = λ a w. in_row a (inside a w);
    back = λ q e.
        let r = range_in m.next (length ns) q e in
        let b = row_back m.next ns q (λ a. preorder_once c n a rooted) r.0 r.1 in
        (b.0, beneath_n b.0 b.1, b.2);
    one = λ a b v w e. row_one m.next ns a b (inside a v) (inside b w) e;
    fresh = λ q e. no_slot (at m q) (bound q (range_in m.next (length ns) q e).0);
    new_kinds = λ a w. ap (option_map kind_of) (drawn_new a (inside a w)) ∙ new_kind (at m a);
    new_ups = λ a w. ap (λ o. option_and_then parent_of o) (drawn_new a (inside a w)) ∙ new_up (at m a);
    new_lists = λ b a x v w. ap (tally (s x)) (list_new b a v) ∙ tally-map_one s x (list_at b m a) (λ y i e. row_one m.next ns y x (inside y (child_in b a y v i)) (inside x w) e);
    no_others = λ b a q w e. ap (tally q) (list_new b a w) ∙ tally-map_none s q (list_at b m a) (λ y i t.
        not_both (D q) (subst (λ z. D z ≡ true) t (in_row y (inside y (child_in b a y w i)))) e);
    kinds = λ q e. ap (option_map kind_of) (drawn_old q e);
    ups = λ q e. ap (λ o. option_and_then parent_of o) (drawn_old q e);
    lists = λ b r q e. ap (λ o. tally q (slot_list b o)) (drawn_old r e);
  }

  live_below : (q : ℕ) (i : Kind) → kind_at m q ≡ Some i → q < m.next
  live_below q i e = elim (cases_lt q m.next) [ inl lt ↦ lt | inr far ↦ absurd (not_none e (no_slot (at m q) (bound q far))) ]

  old_p : D p ≡ false
  old_p = by_bool (D p) (λ e. absurd (omega (arith, (range_in m.next (length ns) p e).0, live_below p j is_j))) (λ e. e)

  kind_top : kind_at d (s n) ≡ Some k
  kind_top = ap (option_map kind_of) (drawn_new n (inside n itself)) ∙ new_kind (at m n) ∙ is_k

  brush_top : is_brush d (s n) ≡ brush_kind k
  brush_top = is_brush_is d (s n) ∙ ap is_brush_kind kind_top

  pub put : PutIn p (s n) (forest d) (forest (put_in p (s n) d))
  put = put_in_gives d p (s n) (λ t. omega (arith, row_from m.next ns n (inside n itself), live_below p j is_j, t))
      ((λ i. takes_kind (brush_top i) (option_map kind_of (drawn_old p old_p i))) ∙ ap (takes_kind (brush_kind k)) is_j ∙ held-takes j k held)
      (parent_up p (at d (s n)) (ap says_kind kind_top ∙ says))

  copy_grown : Grown (forest (put_in p (s n) d))
  copy_grown = copied_grown h p n s D copied put low (k, is_k) (j, is_j) (λ e. (λ i. holds (is_j i) (is_k i)) ∙ held-holds j k held (sym (ap is_brush_kind is_k) ∙ e))

  -- A copy of n with all beneath stands at the end of p.
  pub copy_placed : Placed (copy_last p f n m)
  copy_placed = subst (λ q. Placed (put_in p q d)) top_name (unplanted (put_in p (s n) d) copy_grown)

  -- What the copy leaves: old numbers have their kinds and parents, and all but p their nodes.
  is_put : copy_last p f n m ≡ put_in p (s n) d
  is_put = ap (λ q. put_in p q d) (sym top_name)

  not_drawn : (q : ℕ) → q < m.next → D q ≡ false
  not_drawn q lt = by_bool (D q) (λ e. absurd (omega (arith, (range_in m.next (length ns) q e).0, lt))) (λ e. e)

  not_top : (q : ℕ) → q < m.next → q ≢ s n
  not_top q lt t = omega (arith, row_from m.next ns n (inside n itself), lt, t)

  pub copy_kinds : (q : ℕ) → q < m.next → kind_at (copy_last p f n m) q ≡ kind_at m q
  copy_kinds q lt = ap (λ k. kind_at k q) is_put ∙ put.kinds q ∙ copied.kinds q (not_drawn q lt)

  pub copy_ups : (q : ℕ) → q < m.next → up (copy_last p f n m) q ≡ up m q
  copy_ups q lt = ap (λ k. up k q) is_put ∙ put.ups q (not_top q lt) ∙ copied.ups q (not_drawn q lt)

  pub copy_nodes : (q : ℕ) → q < m.next → q ≢ p → at (copy_last p f n m) q ≡ at m q
  copy_nodes q lt ne =
      ap (λ k. at k q) is_put
      ∙ at-renew_other (renew p (relist (is_brush d (s n)) (λ l. l ++ s n ∷ [])) d) (s n) q (with_parent p) (not_top q lt)
      ∙ at-renew_other d p q (relist (is_brush d (s n)) (λ l. l ++ s n ∷ [])) ne
      ∙ drawn_old q (not_drawn q lt)

  -- A group of the copy has a child, as it had.
  pub copy_full : NoEmptyGroup m → NoEmptyGroup (copy_last p f n m)
  copy_full full = subst NoEmptyGroup (sym is_put) (λ g is. by_bool (D g) (new_group g (kind_is (put_in p (s n) d) group g is)) (old_group g (kind_is (put_in p (s n) d) group g is)))
    where
      placed_put : Placed (put_in p (s n) d)
      placed_put = subst Placed is_put copy_placed

      old_group : (g : ℕ) → kind_at (put_in p (s n) d) g ≡ Some group → D g ≡ false → children (put_in p (s n) d) g ≢ []
      old_group g is e =
          let x = child_of m placed g (full g (is_kind_by m group g (sym (put.kinds g ∙ copied.kinds g e) ∙ is))) in
          let lt : x.0 < m.next = live_below x.0 (slot_live m x.0 g x.1).0 (slot_live m x.0 g x.1).1 in
          some_child (put_in p (s n) d) placed_put g x.0 (put.ups x.0 (not_top x.0 lt) ∙ copied.ups x.0 (not_drawn x.0 lt) ∙ x.1)

      new_group : (g : ℕ) → kind_at (put_in p (s n) d) g ≡ Some group → D g ≡ true → children (put_in p (s n) d) g ≢ []
      new_group g is e =
          let a = copied.back g e in
          let x = child_of m placed a.0 (full a.0 (is_kind_by m group a.0 (sym (put.kinds (s a.0) ∙ copied.new_kinds a.0 a.1) ∙ ap (kind_at (put_in p (s n) d)) a.2 ∙ is))) in
          let w : Beneath (up m) n x.0 = under x.0 a.0 x.1 a.1 in
          let apart : s x.0 ≢ s n = λ t. no_circle h.top (parent_rooted c a.0 (rooted_child m placed bound x.0 a.0 x.1) x.1) x.1 (subst (λ z. Beneath (up m) z a.0) (sym (copied.one x.0 n w itself t)) a.1) in
          subst (λ z. children (put_in p (s n) d) z ≢ []) a.2
          (some_child (put_in p (s n) d) placed_put (s a.0) (s x.0) (put.ups (s x.0) apart ∙ copied.new_ups x.0 w ∙ ap (option_map s) x.1))
