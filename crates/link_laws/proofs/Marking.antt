-- Each step of a spread keeps marks as they should be.
use Rattle.std.proofs.Common.{◌≡◌, ◌≢◌, ℕ, zero, suc, List, [], ◌∷◌, map, Bool, true, false, cond, refl, ap, sym, ◌∙◌, subst, Option, Some, None, option_map}
use Rattle.std.specs.Prelude.{unwrap_or, is_some}
use Rattle.std.specs.List.{find}
use Rattle.std.proofs.lemmas.Bool.{true≢false}
use Rattle.algebra.specs.Members.{◌∈◌}
use Rattle.map_model.specs.Tree.{Whole, Node, group, up, above, above_by, over, content, mark_at, mark_of, set_at, is_linked}
use Rattle.map_model.specs.Links.{put_content}
use Rattle.map_model.specs.Shape.{Shape, Marks}
use Rattle.map_laws.specs.Placed.{Placed, Bounded}
use Rattle.map_laws.proofs.Lists.{by_eq}
use Rattle.map_laws.proofs.Beneath.{Beneath, itself, under, beneath_both, no_circle}
use Rattle.map_laws.proofs.Fuel.{Chains, above-step, from_above, parent_rooted}
use Rattle.map_laws.proofs.Forest.{Grown, not_none, with_parent_live}
use Rattle.map_laws.proofs.Skeleton.{forest, planted, not_both}
use Rattle.map_laws.proofs.Slots.{by_bool, member_among}
use Rattle.map_laws.proofs.Placing.{chains}
use Rattle.link_laws.proofs.Edited.{group_linked}
use Rattle.link_laws.proofs.Grafts.{parent_within}
use Rattle.link_laws.proofs.Pairs.{none_or_some}
use Rattle.link_laws.proofs.Putting.{Pair, found, from_content, in_content, in_map, to_map, D, O, D_out, s, s_in, at_gone}
use Rattle.link_laws.proofs.Members.{content_new}
use Rattle.link_laws.proofs.Spreading.{Field, Source, pair_of, content_p, node_p}
use Rattle.link_laws.proofs.Keeping.{mark_new, mark_plain}
use Rattle.link_laws.proofs.Ones.{Linked, over_content, placed, apart}

-- ---- what stands over a node, where no linked group stands beneath another
no_above : (m : Whole) (k : ℕ) → above_by k m None ≡ []
no_above m zero = refl
no_above m (suc k) = refl

find_first : (test : ℕ → Bool) (x : ℕ) (l : List ℕ) → test x ≡ true → find test (x ∷ l) ≡ Some x
find_first test x l e = ap (λ b. cond b (Some x) (find test l)) e

find_later : (test : ℕ → Bool) (x : ℕ) (l : List ℕ) → test x ≡ false → find test (x ∷ l) ≡ find test l
find_later test x l e = ap (λ b. cond b (Some x) (find test l)) e

module _ (m : Whole) (placed : Placed m) (bound : Bounded m) (apart : (p q : ℕ) → Linked m p → Linked m q → p ≢ q → Beneath (up m) p q → ⊥) where
  f : Grown (forest m)
  f = planted placed

  c : Chains m
  c = chains m f bound

  -- the group over a node is linked, and the node is of its content
  pub over_to : (q p : ℕ) → over m q ≡ Some p → Linked m p × (q ∈ content m p)
  over_to q p e = none_or_some (up m q)
      (λ n. absurd (no_find (sym (ap (λ o. find (is_linked m) (above_by m.next m o)) n ∙ ap (find (is_linked m)) (no_above m m.next)) ∙ e)))
      (λ r u.
      let w = found (is_linked m) (above m q) p e in
      let live = with_parent_live f q r u in
      let v = from_above c p q live w.0 in
      let b : Beneath (up m) p q = under q v.0 v.1 v.2 in
      (w.1, in_content m placed bound p (f.rooted p group (group_linked m p w.1)) q b (λ t. no_circle c.top (parent_rooted c v.0 live v.1) v.1 (subst (λ z. Beneath (up m) z v.0) (sym t) v.2))))
    where
      no_find : ◌≡◌ {A = Option ℕ} None (Some p) → ⊥
      no_find e = cc

  pub not_nested : (p : ℕ) → Linked m p → over m p ≡ None
  not_nested p l = none_or_some (over m p) (λ e. e) (λ q e.
      let w = over_to p q e in
      let v = from_content m placed bound q (f.rooted q group (group_linked m q w.0)) p w.1 in
      absurd (apart q p w.0 l (λ t. v.1 (sym t)) v.0))

  over_from : (p q r : ℕ) → Linked m p → Beneath (up m) 0 q → up m q ≡ Some r → Beneath (up m) p r → over m q ≡ Some p
  over_from p q r l live u itself = ap (find (is_linked m)) (above-step c q r u (parent_rooted c r live u)) ∙ find_first (is_linked m) r (above m r) l
  over_from p q r l live u (under t z k b) =
      let rest = over_from p r z l (parent_rooted c r live u) k b in
      ap (find (is_linked m)) (above-step c q r u (parent_rooted c r live u)) ∙ by_bool (is_linked m r)
      (λ y. absurd (not_none rest (not_nested r y)))
      (λ n. find_later (is_linked m) r (above m r) n ∙ rest)

  pub over_in : (p q : ℕ) → Linked m p → q ∈ content m p → over m q ≡ Some p
  over_in p q l i =
      let rp = f.rooted p group (group_linked m p l) in
      let w = from_content m placed bound p rp q i in let v = parent_within w.0 w.1 in
      over_from p q v.0 l (beneath_both rp w.0) v.1 v.2

-- ---- marks by contents
pub record Marked (G : ℕ → Type 0) (S : ℕ → Option ℕ) (m : Whole) : Type 0 where
  pub has : (p q : ℕ) → G p → q ∈ content m p → (x : ℕ) × (mark_at m q ≡ Some x)
  pub within : (q x : ℕ) → mark_at m q ≡ Some x → (p : ℕ) × G p × (q ∈ content m p)
  pub distinct : (p a d x : ℕ) → G p → a ∈ content m p → d ∈ content m p → mark_at m a ≡ Some x → mark_at m d ≡ Some x → a ≡ d
  pub of_one_set : (p r a d x : ℕ) → G p → G r → a ∈ content m p → d ∈ content m r → mark_at m a ≡ Some x → mark_at m d ≡ Some x → S p ≡ S r

module _ (G : ℕ → Type 0) (S : ℕ → Option ℕ) (m : Whole) (F : Field G m) (g h : ℕ) (i : G g) (j : G h) (ne : g ≢ h) (R : Source m g) (same : S g ≡ S h) (M : Marked G S m) where
  P : Pair m g h
  P = pair_of G m F g h i j ne R

  abbrev k : Whole
  k = put_content g h m

  old : (p q : ℕ) → q ∈ content k h → (a : ℕ) × (a ∈ content m g) × (s m g h P a ≡ q) × (mark_at k q ≡ mark_at m a)
  old p q x = let w = in_map (s m g h P) q (content m g) (subst (λ l. q ∈ l) (content_new m g h P) x) in
      (w.0, w.1, w.2, ap (mark_at k) (sym w.2) ∙ mark_new m g h P w.0 w.1)

  stays : (p q : ℕ) → G p → p ≢ h → q ∈ content k p → (q ∈ content m p) × (mark_at k q ≡ mark_at m q)
  stays p q x far y = let z = subst (λ l. q ∈ l) (content_p G m F g h i j ne R p x far) y in (z, ap slot_mark (node_p G m F g h i j ne R p q x far z))
    where
      slot_mark : Option Node → Option ℕ
      slot_mark o = unwrap_or (option_map mark_of o) None

  has_next : (p q : ℕ) → G p → q ∈ content k p → (x : ℕ) × (mark_at k q ≡ Some x)
  has_next p q x y = by_eq p h
      (λ e. let w = old p q (subst (λ z. q ∈ content k z) e y) in let v = M.has g w.0 i w.1 in (v.0, w.3 ∙ v.1))
      (λ far. let w = stays p q x far y in let v = M.has p q x w.0 in (v.0, w.1 ∙ v.1))

  within_next : (q x : ℕ) → mark_at k q ≡ Some x → (p : ℕ) × G p × (q ∈ content k p)
  within_next q x e = by_bool (D m g h P q)
      (λ d. let w = D_out m g h P q d in
      (h, j, subst (λ l. q ∈ l) (sym (content_new m g h P)) (subst (λ z. z ∈ map (s m g h P) (content m g)) (s_in m g h P w.0 w.1 ∙ w.2) (to_map (s m g h P) w.0 (content m g) w.1))))
      (λ d. by_bool (O m g h P q)
      (λ o. absurd (not_none e (ap (λ o. unwrap_or (option_map mark_of o) None) (at_gone m g h P q d o))))
      (λ o. let w = M.within q x (sym (mark_plain m g h P q d o) ∙ e) in by_eq w.0 h
      (λ t. absurd (not_both (O m g h P q) (member_among q (content m h) (subst (λ z. q ∈ content m z) t w.2)) o))
      (λ far. (w.0, w.1, subst (λ l. q ∈ l) (sym (content_p G m F g h i j ne R w.0 w.1 far)) w.2))))

  distinct_next : (p a d x : ℕ) → G p → a ∈ content k p → d ∈ content k p → mark_at k a ≡ Some x → mark_at k d ≡ Some x → a ≡ d
  distinct_next p a d x y b c e f = by_eq p h
      (λ t. let u = old p a (subst (λ z. a ∈ content k z) t b) in let v = old p d (subst (λ z. d ∈ content k z) t c) in
      sym u.2 ∙ ap (s m g h P) (M.distinct g u.0 v.0 x i u.1 v.1 (sym u.3 ∙ e) (sym v.3 ∙ f)) ∙ v.2)
      (λ far. let u = stays p a y far b in let v = stays p d y far c in
      M.distinct p a d x y u.0 v.0 (sym u.1 ∙ e) (sym v.1 ∙ f))

  from : (p q : ℕ) → G p → q ∈ content k p → (r : ℕ) × (a : ℕ) × G r × (a ∈ content m r) × (mark_at k q ≡ mark_at m a) × (S r ≡ S p)
  from p q x y = by_eq p h
      (λ t. let u = old p q (subst (λ z. q ∈ content k z) t y) in (g, u.0, i, u.1, u.3, same ∙ ap S (sym t)))
      (λ far. let u = stays p q x far y in (p, q, x, u.0, u.1, refl))

  set_next : (p r a d x : ℕ) → G p → G r → a ∈ content k p → d ∈ content k r → mark_at k a ≡ Some x → mark_at k d ≡ Some x → S p ≡ S r
  set_next p r a d x y z b c e f =
      let u = from p a y b in let v = from r d z c in
      sym u.5 ∙ M.of_one_set u.0 v.0 u.1 v.1 x u.2 v.2 u.3 v.3 (sym u.4 ∙ e) (sym v.4 ∙ f) ∙ v.5

  pub marked_next : Marked G S k
  marked_next = record { has = has_next; within = within_next; distinct = distinct_next; of_one_set = set_next }

-- ---- to and from marks as they are stated
pub marked_of : (m : Whole) (shape : Shape m) → Marked (Linked m) (set_at m) m
marked_of m shape = record {
  has = λ p q l i. some_mark (mark_at m q) (shape.marks.marked q ∙ ap is_some (over_content m shape p q l i));
  within = λ q x e. let w = some_mark (over m q) (sym (shape.marks.marked q) ∙ ap is_some e) in
      let v = over_to m (placed m shape) shape.numbers.nodes (apart m shape) q w.0 w.1 in (w.0, v.0, v.1);
  distinct = λ p a d x l i j e f. shape.marks.distinct p a d (over_content m shape p a l i) (over_content m shape p d l j) (e ∙ sym f);
  of_one_set = λ p r a d x l k i j e f. shape.marks.of_one_set p r a d (over_content m shape p a l i) (over_content m shape r d k j) (e ∙ sym f);
}
  where
    some_mark : (o : Option ℕ) → is_some o ≡ true → (x : ℕ) × (o ≡ Some x)
    some_mark None e = absurd (true≢false (sym e))
    some_mark (Some x) e = (x, refl)

-- From groups that are linked now exactly where they were.
pub marks_of : (m n : Whole) → Field (Linked m) n → ((p : ℕ) → Linked n p → Linked m p) → ((p : ℕ) → Linked m p → Linked n p) → ((p : ℕ) → Linked m p → set_at n p ≡ set_at m p) →
    Marked (Linked m) (set_at m) n → Marks n
marks_of m n F onto back sets M = record {
  not_nested = λ p l. not_nested n F.placed F.bound apart_n p l;
  marked = λ q. none_or_some (over n q)
      (λ e. none_or_some (mark_at n q)
      (λ f. ap is_some f ∙ sym (ap is_some e))
      (λ x f. let w = M.within q x f in absurd (not_none (over_in n F.placed F.bound apart_n w.0 q (back w.0 w.1) w.2) e)))
      (λ p e. let w = over_to n F.placed F.bound apart_n q p e in let v = M.has p q (onto p w.0) w.1 in ap is_some v.1 ∙ sym (ap is_some e));
  distinct = λ p a d e f s.
      let u = over_to n F.placed F.bound apart_n a p e in let v = over_to n F.placed F.bound apart_n d p f in let w = M.has p a (onto p u.0) u.1 in
      M.distinct p a d w.0 (onto p u.0) u.1 v.1 w.1 (sym s ∙ w.1);
  of_one_set = λ p r a d e f s.
      let u = over_to n F.placed F.bound apart_n a p e in let v = over_to n F.placed F.bound apart_n d r f in let w = M.has p a (onto p u.0) u.1 in
      sets p (onto p u.0) ∙ M.of_one_set p r a d w.0 (onto p u.0) (onto r v.0) u.1 v.1 w.1 (sym s ∙ w.1) ∙ sym (sets r (onto r v.0));
}
  where
    apart_n : (p q : ℕ) → Linked n p → Linked n q → p ≢ q → Beneath (up n) p q → ⊥
    apart_n p q x y ne b = F.apart p q (onto p x) (onto q y) ne b
