-- The edits in the pairs that occur keep maps placed.
use Rattle.std.proofs.Common.{◌≡◌, ◌≢◌, ℕ, [], Bool, true, false, cond, ◌==◌, inl, inr, refl, ap, sym, ◌∙◌, subst, arith, Option, Some, None, option_map, eqb-true}
use Rattle.std.specs.Prelude.{option_and_then}
use Rattle.std.proofs.lemmas.Bool.{cases_lt, ne_eqb, eq-eqb, eqb-false}
use Rattle.map_model.specs.Tree.{Whole, Node, Kind, world, layer, group, entity, brush, at, up, is_brush, kind_of, parent_of, with_parent, among, preorder, World}
use Rattle.map_model.specs.Edits.{draw, take_out, put_in, put_last, delete}
use Rattle.map_laws.specs.Placed.{Placed, Bounded, can_hold}
use Rattle.map_laws.proofs.Lists.{by_eq, tally}
use Rattle.map_laws.proofs.Beneath.{Beneath, some_one, itself, under}
use Rattle.map_laws.proofs.Fuel.{Chains, in_preorder, from_preorder}
use Rattle.map_laws.proofs.Forest.{Grown, PutIn, PutNew, bit, brush_kind, is_brush_kind, holds, fits_list, no_place, not_none, moved, removed, put_new}
use Rattle.map_laws.proofs.Nodes.{takes, says_parent, list_in, kind-with_parent, list-with_parent}
use Rattle.map_laws.proofs.Skeleton.{kind_at, list_at, forest, is_brush_is, planted, unplanted, child_up, up_child}
use Rattle.map_laws.proofs.Slots.{slot_list, takes_kind, taken_out, put_in_gives, parent_up, among_member, member_among, forgotten}

pub held-takes : (j k : Kind) → can_hold j k ≡ true → takes (brush_kind k) j ≡ true
held-takes world layer e = refl
held-takes world group e = refl
held-takes world entity e = refl
held-takes world brush e = refl
held-takes layer group e = refl
held-takes layer entity e = refl
held-takes layer brush e = refl
held-takes group group e = refl
held-takes group entity e = refl
held-takes group brush e = refl
held-takes entity brush e = refl
held-takes brush world e = absurd (cc)
held-takes j k e = absurd (cc)

pub held-holds : (j k : Kind) → can_hold j k ≡ true → brush_kind k ≡ false → holds (Some j) (Some k) ≡ true
held-holds world brush e f = absurd (cc)
held-holds layer brush e f = absurd (cc)
held-holds group brush e f = absurd (cc)
held-holds entity brush e f = absurd (cc)
held-holds brush brush e f = absurd (cc)
held-holds j k e f = e

pub no_slot : (o : Option Node) → o ≡ None → option_map kind_of o ≡ None
no_slot o e = ap (option_map kind_of) e

pub chains : (m : Whole) → Grown (forest m) → Bounded m → Chains m
chains m h bound = record {
  top = h.top;
  below = λ a b. elim (cases_lt a m.next) [ inl lt ↦ lt | inr far ↦ absurd (there a b (no_slot (at m a) (bound a far))) ];
  child_up = child_up m h;
  up_child = up_child m h;
}
  where
    there : (a : ℕ) → Beneath (up m) 0 a → kind_at m a ≡ None → ⊥
    there a itself e = not_none h.world_stands e
    there a (under b p f c) e = not_none f (h.absent a e)

-- A node goes to the end of another.
pub move_placed : (m : Whole) (p n : ℕ) (j k : Kind) → Placed m → kind_at m p ≡ Some j → kind_at m n ≡ Some k → can_hold j k ≡ true → says_parent k ≡ true →
    (Beneath (up m) n p → ⊥) → Placed (put_in p n (take_out n m))
move_placed m p n j k placed is_j is_k held says apart =
    let h = planted placed in
    let t = taken_out m h n in
    let out = take_out n m in
    let kind_p : kind_at out p ≡ Some j = t.kinds p ∙ is_j in
    let kind_n : kind_at out n ≡ Some k = t.kinds n ∙ is_k in
    let brush_n : is_brush out n ≡ brush_kind k = is_brush_is out n ∙ ap is_brush_kind kind_n in
    let ne : n ≢ p = λ s. apart (subst (λ x. Beneath (up m) n x) s itself) in
    let low : n ≢ 0 = λ s. not_world k says (some_one (sym (ap (kind_at m) s) ∙ is_k) h.world_stands) in
    unplanted (put_in p n out) (moved h p n t
    (put_in_gives out p n ne ((λ i. takes_kind (brush_n i) (kind_p i)) ∙ held-takes j k held) (parent_up p (at out n) (ap says_at kind_n ∙ says)))
    low (k, is_k) (h.rooted p j is_j) apart
    (λ e. (λ i. holds (is_j i) (is_k i)) ∙ held-holds j k held (sym (ap is_brush_kind is_k) ∙ e)))
  where
    not_world : (k : Kind) → says_parent k ≡ true → k ≡ world → ⊥
    not_world k e f = cc (sym e ∙ ap says_parent f)

    says_at : Option Kind → Bool
    says_at None = false
    says_at (Some k) = says_parent k

-- A node is deleted with all beneath it.
pub delete_placed : (m : Whole) (n : ℕ) (k : Kind) → Placed m → Bounded m → n ≢ 0 → kind_at m n ≡ Some k → Placed (delete n m)
delete_placed m n k placed bound low is =
    let h = planted placed in
    let c = chains m h bound in
    unplanted (delete n m) (removed h n (λ q. among q (preorder m n)) (taken_out m h n) (forgotten (preorder m n) (take_out n m)) low
    (λ q b. member_among q (preorder m n) (in_preorder c n (h.rooted n k is) b))
    (λ q e. from_preorder c m.next n q (among_member q (preorder m n) e)))

-- A new leaf, which is drawn, stands at the end of p.
draw_same : (m : Whole) (x : Node) (q : ℕ) → q ≡ m.next → at (draw x m) q ≡ Some x
draw_same m x q e = ap (λ b. cond b (Some x) (at m q)) (eq-eqb q m.next e)

draw_other : (m : Whole) (x : Node) (q : ℕ) → q ≢ m.next → at (draw x m) q ≡ at m q
draw_other m x q ne = ap (λ b. cond b (Some x) (at m q)) (ne_eqb q m.next ne)

pub put_new_last : (m : Whole) (h : Grown (forest m)) (p : ℕ) (x : Node) → at m m.next ≡ None → p ≢ m.next →
    takes_kind (brush_kind (kind_of x)) (kind_at m p) ≡ true → parent_of (with_parent p x) ≡ Some p → list_in true x ≡ [] → list_in false x ≡ [] →
    PutNew p (λ q. q == m.next) (kind_of x) (forest m) (forest (put_last p x m))
put_new_last m h p x free apart held gets no_brushes no_others = record {
  new_kinds = λ q g. ap (kind_at l) (is_next q g) ∙ i.kinds m.next ∙ kind_new;
  new_ups = λ q g. ap (up l) (is_next q g) ∙ i.own_up;
  empty = λ b r q g. (λ j. tally q (list_at b l (is_next r g j))) ∙ by_eq q m.next
      (λ s. (λ j. tally (s j) (list_at b l m.next)) ∙ i.elsewhere b m.next (λ s. apart (sym s)) ∙ ap (tally m.next) (list_new b))
      (λ ne. i.others b m.next q ne ∙ ap (tally q) (list_new b));
  own = λ b q g. (λ j. tally (is_next q g j) (list_at b l p)) ∙ i.own b ∙ omega (arith, ap (tally m.next) (list_old b p apart), nowhere b p, ap (λ k. bit (fits_list b k)) kind_new);
  elsewhere = λ b r q g f ne. (λ j. tally (is_next q g j) (list_at b l r)) ∙ i.elsewhere b r ne ∙ ap (tally m.next) (list_old b r (not_next r f)) ∙ nowhere b r;
  kinds = λ q f. i.kinds q ∙ ap (option_map kind_of) (draw_other m y q (not_next q f));
  ups = λ q f. i.ups q (not_next q f) ∙ ap (λ o. option_and_then parent_of o) (draw_other m y q (not_next q f));
  lists = λ b r q e f. i.others b r q (not_next q f) ∙ ap (tally q) (list_old b r (not_next r e));
}
  where
    y : Node
    y = with_parent p x

    k : Whole
    k = draw y m

    l : Whole
    l = put_in p m.next k

    is_next : (q : ℕ) → (q == m.next) ≡ true → q ≡ m.next
    is_next q g = eqb-true q m.next g

    not_next : (q : ℕ) → (q == m.next) ≡ false → q ≢ m.next
    not_next q f = eqb-false q m.next f

    at_new : at k m.next ≡ Some y
    at_new = draw_same m y m.next refl

    kind_new : kind_at k m.next ≡ Some (kind_of x)
    kind_new = ap (option_map kind_of) at_new ∙ ap Some (kind-with_parent p x)

    list_of_x : (b : Bool) → list_in b x ≡ []
    list_of_x true = no_brushes
    list_of_x false = no_others

    list_new : (b : Bool) → list_at b k m.next ≡ []
    list_new b = ap (slot_list b) at_new ∙ list-with_parent b p x ∙ list_of_x b

    list_old : (b : Bool) (r : ℕ) → r ≢ m.next → list_at b k r ≡ list_at b m r
    list_old b r ne = ap (slot_list b) (draw_other m y r ne)

    nowhere : (b : Bool) (r : ℕ) → tally m.next (list_at b m r) ≡ 0
    nowhere b r = h.places b r m.next ∙ no_place r b (kind_at m m.next) (h.absent m.next (no_slot (at m m.next) free))

    brush_new : is_brush k m.next ≡ brush_kind (kind_of x)
    brush_new = is_brush_is k m.next ∙ ap is_brush_kind kind_new

    i : PutIn p m.next (forest k) (forest l)
    i = put_in_gives k p m.next (λ s. apart (sym s)) ((λ j. takes_kind (brush_new j) (option_map kind_of (draw_other m y p apart j))) ∙ held)
        (ap (λ o. option_and_then parent_of (option_map (with_parent p) o)) at_new ∙ again)
      where
        again : parent_of (with_parent p (with_parent p x)) ≡ Some p
        again = parent_twice p x ∙ gets
          where
            parent_twice : (p : ℕ) (x : Node) → parent_of (with_parent p (with_parent p x)) ≡ parent_of (with_parent p x)
            parent_twice p x = elim x as (λ x. parent_of (with_parent p (with_parent p x)) ≡ parent_of (with_parent p x)) [ World a b c d ↦ refl | _ ↦ refl ]

pub put_last_placed : (m : Whole) (p : ℕ) (x : Node) (j : Kind) → Placed m → Bounded m → kind_at m p ≡ Some j → can_hold j (kind_of x) ≡ true →
    parent_of (with_parent p x) ≡ Some p → list_in true x ≡ [] → list_in false x ≡ [] → Placed (put_last p x m)
put_last_placed m p x j placed bound is_j held gets no_brushes no_others =
    let h = planted placed in
    let free : at m m.next ≡ None = bound m.next (omega arith) in
    let apart : p ≢ m.next = λ s. not_none is_j (ap (kind_at m) s ∙ no_slot (at m m.next) free) in
    unplanted (put_last p x m) (put_new h p (λ q. q == m.next) (kind_of x)
    (put_new_last m h p x free apart (ap (takes_kind (brush_kind (kind_of x))) is_j ∙ held-takes j (kind_of x) held) gets no_brushes no_others)
    (λ q e. ap (kind_at m) (eqb-true q m.next e) ∙ no_slot (at m m.next) free)
    (λ s. no_world j (kind_of x) held s)
    (j, is_j)
    (λ e. ap (λ o. holds o (Some (kind_of x))) is_j ∙ held-holds j (kind_of x) held e))
  where
    no_world : (j k : Kind) → can_hold j k ≡ true → k ≡ world → ⊥
    no_world j k e f = no_world_in j (sym (ap (can_hold j) f) ∙ e)
      where
        no_world_in : (j : Kind) → can_hold j world ≡ true → ⊥
        no_world_in world e = cc
        no_world_in layer e = cc
        no_world_in group e = cc
        no_world_in entity e = cc
        no_world_in brush e = cc
