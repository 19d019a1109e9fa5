-- Which contents an edit leaves: what stands beneath a group is the same after edits elsewhere.
use Rattle.std.proofs.Common.{◌≡◌, ◌≢◌, ℕ, zero, suc, ◌+◌, ◌-◌, ◌≤◌, List, [], ◌∷◌, ◌++◌, flat_map, Bool, true, false, cond, not, ◌&&◌, ◌||◌, ◌⊎◌, inl, inr, refl, ap, sym, ◌∙◌, subst, arith, Option, Some, None, option_map}
use Rattle.std.specs.Prelude.{unwrap_or, option_and_then}
use Rattle.std.proofs.lemmas.Bool.{ne_eqb}
use Rattle.algebra.specs.Members.{◌∈◌, here, there}
use Rattle.map_model.specs.Tree.{Whole, Node, Kind, at, up, children, content, preorder, preorder_by, among, is_linked, is_brush, parent_of, with_parent, brushes_of, others_of}
use Rattle.map_model.specs.Edits.{renew, relist, draw, each_in_turn, take_out, put_in, put_last, forget, delete, move_all}
use Rattle.map_model.specs.Apply.{is_emptied, drop_emptied}
use Rattle.map_laws.specs.Placed.{Placed, Bounded, can_hold}
use Rattle.map_laws.proofs.Lists.{by_eq, tally, tally-member, flat-agree}
use Rattle.map_laws.proofs.Beneath.{Beneath, itself, under, some_one, no_circle}
use Rattle.map_laws.proofs.Fuel.{Chains, preorder_enough, parent_rooted}
use Rattle.map_laws.proofs.Forest.{Grown, not_none, with_parent_live}
use Rattle.map_laws.proofs.Nodes.{list-with_parent, says_parent}
use Rattle.map_laws.proofs.Skeleton.{kind_at, list_at, forest, planted, children_are, child_up, up_child}
use Rattle.map_laws.proofs.Slots.{slot_list, at-set_other, at-renew_other, renew-keeps, relisted, list-relisted_elsewhere, at-forget, by_bool}
use Rattle.link_laws.proofs.Moves.{taken_at, move_all_at, move_all_lists}
use Rattle.map_laws.proofs.Placing.{chains}
use Rattle.map_laws.proofs.Pruning.{dropped, drop_emptied_placed}
use Rattle.map_laws.proofs.InTurn.{beneath_gone, beneath_sub, MovedAll, move_all_gone, by_member}
use Rattle.map_laws.proofs.Kept.{bounded_by}
use Rattle.uv_lock.specs.declared.texture.Format.{Format}

-- What stands beneath h is the same, and so are its lists.
pub record SameContent (h : ℕ) (m k : Whole) : Type 0 where
  pub lists : (b : Bool) → list_at b k h ≡ list_at b m h
  pub nodes : (q : ℕ) → Beneath (up m) h q → q ≢ h → at k q ≡ at m q

children_by : {h : ℕ} {m k : Whole} → SameContent h m k → (q : ℕ) → Beneath (up m) h q → children k q ≡ children m q
children_by {h} {m} {k} s q b = by_eq q h
    (λ e. ap (children k) e ∙ children_are k h ∙ (λ i. s.lists true i ++ s.lists false i) ∙ sym (children_are m h) ∙ ap (children m) (sym e))
    (λ ne. ap (λ o. unwrap_or (option_map (λ x. brushes_of x ++ others_of x) o) []) (s.nodes q b ne))

pub below_same : {h : ℕ} {m k : Whole} → SameContent h m k → {q : ℕ} → Beneath (up m) h q → Beneath (up k) h q
below_same s itself = itself
below_same {h} {m} {k} s (under q p e b) = by_eq q h
    (λ t. subst (λ x. Beneath (up k) h x) (sym t) itself)
    (λ ne. under q p (ap (λ o. option_and_then parent_of o) (s.nodes q (under q p e b) ne) ∙ e) (below_same s b))

pub below_back : {h : ℕ} {m k : Whole} → SameContent h m k → Grown (forest m) → Grown (forest k) → {q : ℕ} → Beneath (up k) h q → Beneath (up m) h q
below_back s g l itself = itself
below_back {h} {m} {k} s g l (under q p e b) =
    let w = below_back s g l b in
    under q p (child_up m g p q (tally-member q (children m p) (omega (arith, up_child k l p q e, ap (tally q) (children_by s p w))))) w

pub same_itself : (h : ℕ) (m : Whole) → SameContent h m m
same_itself h m = record { lists = λ b. refl; nodes = λ q b ne. refl }

pub same_then : {h : ℕ} {m k l : Whole} → SameContent h m k → SameContent h k l → SameContent h m l
same_then s t = record { lists = λ b. t.lists b ∙ s.lists b; nodes = λ q b ne. t.nodes q (below_same s b) ne ∙ s.nodes q b ne }

-- The lists of what stands beneath are equal.
preorder_by_same : {h : ℕ} {m k : Whole} → SameContent h m k → Grown (forest m) → (f q : ℕ) → Beneath (up m) h q → preorder_by f k q ≡ preorder_by f m q
preorder_by_same s g zero q b = refl
preorder_by_same {h} {m} {k} s g (suc f) q b = ap (λ l. q ∷ l) (ap (flat_map (preorder_by f k)) (children_by s q b)
    ∙ flat-agree (preorder_by f k) (preorder_by f m) (children m q) (λ c i. preorder_by_same s g f c (under c q (child_up m g q c i) b)))

pub same_content : {h : ℕ} {m k : Whole} → SameContent h m k → Grown (forest m) → Chains m → Beneath (up m) 0 h → m.next ≤ k.next → content k h ≡ content m h
same_content {h} {m} {k} s g c r more = ap (flat_map (preorder k)) (children_by s h itself)
    ∙ flat-agree (preorder k) (preorder m) (children m h) (λ q i.
    let e : up m q ≡ Some h = child_up m g h q i in
    preorder_by_same s g k.next q (under q h e itself) ∙ ap (λ f. preorder_by f m q) (omega arith) ∙ preorder_enough c (k.next - m.next) ((k.next - m.next) + m.next) q (under q h e r) refl)

-- Of two that stand above one node, one stands above the other.
pub linear : {up : ℕ → Option ℕ} {a b q r : ℕ} → Beneath up a q → Beneath up b r → q ≡ r → Beneath up a b ⊎ Beneath up b a
linear {up} {a} {b} itself d e = inr (subst (λ x. Beneath up b x) (sym e) d)
linear {up} {a} {b} (under q p f c) itself e = inl (subst (λ x. Beneath up a x) e (under q p f c))
linear {up} (under q p f c) (under r s g d) e = linear c d (one_parent up q r p s f g e)
  where
    one_parent : (up : ℕ → Option ℕ) (q r p s : ℕ) → up q ≡ Some p → up r ≡ Some s → q ≡ r → p ≡ s
    one_parent up q r p s f g e = cc

-- What changes no node beneath h, nor h.
pub same_by : (h : ℕ) (m k : Whole) → ((q : ℕ) → Beneath (up m) h q → at k q ≡ at m q) → SameContent h m k
same_by h m k e = record { lists = λ b. ap (slot_list b) (e h itself); nodes = λ q b ne. e q b }

-- The edits.
pub delete_same : (m : Whole) (n h : ℕ) (j : Kind) → Placed m → Bounded m → kind_at m n ≡ Some j → (Beneath (up m) n h → ⊥) → (Beneath (up m) h n → ⊥) → SameContent h m (delete n m)
delete_same m n h j placed bound is low high = same_by h m (delete n m) (λ q b.
    at-forget (preorder m n) (take_out n m) q
    ∙ ap (λ t. cond t None (at (take_out n m) q)) (by_bool (among q (preorder m n))
    (λ e. absurd (elim (linear (beneath_gone m n j placed bound is q e) b refl) [ inl c ↦ low c | inr c ↦ high c ]))
    (λ e. e))
    ∙ taken_at m n q (λ e. high (under n q e b)))

pub renew_same : (m : Whole) (n h : ℕ) (g : Node → Node) → (Beneath (up m) h n → ⊥) → SameContent h m (renew n g m)
renew_same m n h g high = same_by h m (renew n g m) (λ q b. at-renew_other m n q g (λ s. high (subst (λ x. Beneath (up m) h x) s b)))

pub drop_same : (m : Whole) (n h : ℕ) → (Beneath (up m) h n → ⊥) → SameContent h m (forget (n ∷ []) (take_out n m))
drop_same m n h high = same_by h m (forget (n ∷ []) (take_out n m)) (λ q b.
    at-forget (n ∷ []) (take_out n m) q
    ∙ ap (λ t. cond (t || false) None (at (take_out n m) q)) (ne_eqb n q (λ s. high (subst (λ x. Beneath (up m) h x) (sym s) b)))
    ∙ taken_at m n q (λ e. high (under n q e b)))

parent_list : (c : Bool) (p : ℕ) (o : Option Node) → slot_list c (option_map (with_parent p) o) ≡ slot_list c o
parent_list c p None = refl
parent_list c p (Some x) = list-with_parent c p x

-- A node that isn't beneath h goes where isn't beneath h. It may be h itself.
pub move_same : (m : Whole) (p n h : ℕ) → Placed m → (Beneath (up m) h n → n ≢ h → ⊥) → (Beneath (up m) h p → ⊥) → SameContent h m (put_in p n (take_out n m))
move_same m p n h placed inside high = record {
  lists = λ b. renew-keeps (slot_list b) (with_parent p) (parent_list b p) (relisted p (is_brush k n) (λ l. l ++ n ∷ []) k) n h
      ∙ list-relisted_elsewhere k p (is_brush k n) (λ l. l ++ n ∷ []) b h (λ s. high (subst (λ x. Beneath (up m) h x) s itself))
      ∙ ap (slot_list b) (taken_at m n h (λ e. inside (under n h e itself) (λ s. circle e (sym s))));
  nodes = λ q b ne.
      at-renew_other (relisted p (is_brush k n) (λ l. l ++ n ∷ []) k) n q (with_parent p) (λ s. inside (subst (λ x. Beneath (up m) h x) s b) (λ t. ne (s ∙ t)))
      ∙ at-renew_other k p q (relist (is_brush k n) (λ l. l ++ n ∷ [])) (λ s. high (subst (λ x. Beneath (up m) h x) s b))
      ∙ taken_at m n q (λ e. inside (under n q e b) (λ t. deep q b e t));
}
  where
    k : Whole
    k = take_out n m

    circle : up m n ≡ Some h → h ≡ n → ⊥
    circle e s = no_circle (planted placed).top (with_parent_live (planted placed) h h (ap (up m) s ∙ e)) (ap (up m) s ∙ e) itself

    deep : (q : ℕ) → Beneath (up m) h q → up m n ≡ Some q → n ≡ h → ⊥
    deep q b e t =
        let u : up m h ≡ Some q = ap (up m) (sym t) ∙ e in
        no_circle (planted placed).top (parent_up q u) u b
      where
        parent_up : (q : ℕ) → up m h ≡ Some q → Beneath (up m) 0 q
        parent_up q u = up_of (with_parent_live (planted placed) h q u) u
          where
            up_of : {x : ℕ} → Beneath (up m) 0 x → up m x ≡ Some q → Beneath (up m) 0 q
            up_of itself e = absurd (not_none e (planted placed).top)
            up_of (under x t f c) e = subst (λ z. Beneath (up m) 0 z) (some_one f e) c

pub put_last_same : (m : Whole) (p h : ℕ) (x : Node) → ((q : ℕ) → Beneath (up m) h q → q ≢ m.next) → (Beneath (up m) h p → ⊥) → SameContent h m (put_last p x m)
put_last_same m p h x old high = same_by h m (put_last p x m) (λ q b.
    at-renew_other (relisted p (is_brush d m.next) (λ l. l ++ m.next ∷ []) d) m.next q (with_parent p) (old q b)
    ∙ at-renew_other d p q (relist (is_brush d m.next) (λ l. l ++ m.next ∷ [])) (λ s. high (subst (λ x. Beneath (up m) h x) s b))
    ∙ at-set_other m m.next q (Some (with_parent p x)) (old q b))
  where
    d : Whole
    d = draw (with_parent p x) m

-- Pruning along numbers that don't stand beneath h.
pub drops_same : (before : Whole) (h : ℕ) (ns : List ℕ) (m : Whole) → Placed m → ((q : ℕ) → q ∈ ns → Beneath (up m) h q → ⊥) → SameContent h m (each_in_turn (drop_emptied before) ns m)
drops_same before h [] m placed far = same_itself h m
drops_same before h (n ∷ ns) m placed far =
    same_then (one (is_emptied before m n && not (is_linked m n)))
    (drops_same before h ns (drop_emptied before n m) (drop_emptied_placed before n m placed) (λ q i b. far q (there i) (beneath_sub (ups (is_emptied before m n && not (is_linked m n))) b)))
  where
    one : (b : Bool) → SameContent h m (cond b (forget (n ∷ []) (take_out n m)) m)
    one true = drop_same m n h (far n here)
    one false = same_itself h m

    ups : (b : Bool) (q p : ℕ) → up (cond b (forget (n ∷ []) (take_out n m)) m) q ≡ Some p → up m q ≡ Some p
    ups true q p e =
        let d = dropped m n (planted placed) in
        by_eq q n (λ s. absurd (not_none e (ap (up (forget (n ∷ []) (take_out n m))) s ∙ ap (λ o. option_and_then parent_of o) d.gone))) (λ ne. sym (d.ups q ne) ∙ e)
    ups false q p e = e

-- Nodes move.
pub moved_same : (m : Whole) (p : ℕ) (ns : List ℕ) (h : ℕ) → Placed m → ((n : ℕ) → n ∈ ns → Beneath (up m) h n → n ≢ h → ⊥) → (Beneath (up m) h p → ⊥) → SameContent h m (move_all p ns m)
moved_same m p ns h placed inside high = record {
  lists = λ b. move_all_lists p ns m b h (λ s. high (subst (λ x. Beneath (up m) h x) s itself)) (λ n i e. inside n i (under n h e itself) (λ s. circle n h e itself s));
  nodes = λ q b ne. move_all_at p ns m q (λ i. inside q i b ne) (λ s. high (subst (λ x. Beneath (up m) h x) s b)) (λ n i e. inside n i (under n q e b) (λ s. circle n q e b s));
}
  where
    -- h doesn't stand beneath itself
    circle : (n q : ℕ) → up m n ≡ Some q → Beneath (up m) h q → n ≡ h → ⊥
    circle n q e b s =
        let r = with_parent_live (planted placed) n q e in
        no_circle (planted placed).top (parent_of_rooted r) e (subst (λ x. Beneath (up m) x q) (sym s) b)
      where
        parent_of_rooted : Beneath (up m) 0 n → Beneath (up m) 0 q
        parent_of_rooted r = by r e
          where
            by : {x : ℕ} → Beneath (up m) 0 x → up m x ≡ Some q → Beneath (up m) 0 q
            by itself e = absurd (not_none e (planted placed).top)
            by (under x t f c) e = subst (λ z. Beneath (up m) 0 z) (some_one f e) c

-- A node dissolves that isn't h and doesn't stand beneath it.
pub dissolve_same : (f : Format) (m : Whole) (n p : ℕ) (j k : Kind) (cs : List ℕ) (h : ℕ) → Placed m → Bounded m → up m n ≡ Some p → kind_at m p ≡ Some j → kind_at m n ≡ Some k →
    ((c : ℕ) → c ∈ cs → up m c ≡ Some n) → ((c : ℕ) → up m c ≡ Some n → c ∈ cs) →
    ((c : ℕ) → c ∈ cs → (k : Kind) × (kind_at m c ≡ Some k) × (can_hold j k ≡ true) × (says_parent k ≡ true)) → (Beneath (up m) h n → ⊥) → SameContent h m (delete n (move_all p cs m))
dissolve_same f m n p j k cs h placed bound u is_j is_k inside all may high =
    let g = move_all_gone f p j cs m placed bound is_j (λ a i. let w = may a i in (w.0, w.1, w.2, w.3, (λ b. no_circle (planted placed).top (with_parent_live (planted placed) n p u) (inside a i) (under n p u b)))) in
    let s = moved_same m p cs h placed (λ c i b ne. strictly c (inside c i) b ne) (λ b. high (under n p u b)) in
    same_then s (delete_same (move_all p cs m) n h k g.placed (bounded_by g.comes) (g.moved.kinds n ∙ is_k) (λ b. high (low g.moved b)) (λ b. high (below_back s (planted placed) (planted g.placed) b)))
  where
    strictly : (c : ℕ) → up m c ≡ Some n → Beneath (up m) h c → c ≢ h → ⊥
    strictly c e b ne = by b refl
      where
        by : {q : ℕ} → Beneath (up m) h q → q ≡ c → ⊥
        by itself s = ne (sym s)
        by (under q t f w) s = high (subst (λ x. Beneath (up m) h x) (some_one f (ap (up m) s ∙ e)) w)

    own_apart : p ≢ n
    own_apart s = no_circle (planted placed).top (parent_rooted (chains m (planted placed) bound) p (with_parent_live (planted placed) n p u) u) u (subst (λ x. Beneath (up m) n x) (sym s) itself)

    -- nothing stands beneath n any more
    low : MovedAll p cs m (move_all p cs m) → Beneath (up (move_all p cs m)) n h → Beneath (up m) h n
    low moved b = subst (λ x. Beneath (up m) x n) (sym (alone b)) itself
      where
        no_child_n : (q : ℕ) → up (move_all p cs m) q ≡ Some n → ⊥
        no_child_n q e = by_member q cs
            (λ i. own_apart (some_one (moved.ups_in q i) e))
            (λ out. out (all q (sym (moved.ups_out q out) ∙ e)))

        alone : {q : ℕ} → Beneath (up (move_all p cs m)) n q → q ≡ n
        alone itself = refl
        alone (under q s e b) = absurd (no_child_n q (e ∙ ap Some (alone b)))
