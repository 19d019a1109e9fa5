-- The map with its marks: where contents that aren't edited stay, and no linked group lies beneath another, it has its shape.
use Rattle.std.proofs.Common.{◌≡◌, ◌≢◌, ℕ, zero, suc, ◌+◌, ◌<◌, ◌≤◌, List, [], ◌∷◌, length, flat_map, Bool, true, false, cond, not, ◌==◌, ◌⊎◌, inl, inr, refl, ap, sym, ◌∙◌, subst, arith, Option, Some, None, option_map, filter, eqb-true}
use Rattle.std.specs.Prelude.{unwrap_or, option_and_then, is_some, is_none}
use Rattle.std.specs.List.{find}
use Rattle.std.proofs.lemmas.Bool.{cases_lt, eq-eqb}
use Rattle.algebra.specs.Members.{◌∈◌, here, there}
use Rattle.map_model.specs.Tree.{Whole, Node, Kind, world, layer, group, entity, brush, above_by, parent_of, link_of, at, up, above, over, content, children, preorder, is_linked, is_kind, kind_of, mark_of, mark_at, link_at, set_at, format_of, with_mark, is_one_number, all_numbers}
use Rattle.map_model.specs.Edits.{renew, each_in_turn, draw_number}
use Rattle.map_model.specs.Shape.{Shape, Numbers, Marks}
use Rattle.map_model.specs.Apply.{marked, mark_content, mark_new, unmark}
use Rattle.map_laws.specs.Placed.{Placed, Bounded, can_hold}
use Rattle.map_laws.proofs.Lists.{by_eq, tally, tally-flat, tally-member, member-flat, member-from_flat}
use Rattle.map_laws.proofs.Beneath.{Beneath, itself, under, beneath_both, some_one, no_circle}
use Rattle.map_laws.proofs.Copies.{parent_within}
use Rattle.map_laws.proofs.Fuel.{Chains, preorder-step, preorder_once, in_preorder, from_preorder, from_above, parent_rooted}
use Rattle.map_laws.proofs.Forest.{not_none, up_or_not, with_parent_live}
use Rattle.map_laws.proofs.Nodes.{says_parent}
use Rattle.map_laws.proofs.Skeleton.{kind_at, list_at, planted, placed_of, standing_of, child_up, up_child, not_both, kind_is, is_kind_by}
use Rattle.map_laws.proofs.Slots.{says_kind, by_bool, at-renew_other}
use Rattle.map_laws.proofs.Placing.{chains}
use Rattle.map_laws.proofs.Replacing.{tally-numbers_in}
use Rattle.map_laws.proofs.Pruning.{in_turn_append}
use Rattle.map_laws.proofs.Renumbering.{row, row_from, row_to, row_one}
use Rattle.map_laws.proofs.InTurn.{by_member}
use Rattle.map_laws.proofs.Kept.{Comes, Bare, bare_mark, bare_link, bare_slot, bounded_by, format_kept, each_node_kept, numbers_kept, part_alike}
use Rattle.map_laws.proofs.Pruned.{rooted_at}
use Rattle.map_laws.proofs.Holding.{kind_p, kind_q, parent_holds}
use Rattle.link_laws.proofs.Filtering.{tally-filter, filter_member, member_filter, find_is}
use Rattle.link_laws.proofs.Edited.{group_linked}
use Rattle.link_laws.proofs.Contents.{SameContent, below_back, same_content}
use Rattle.link_laws.proofs.Untouched.{over_is}
use Rattle.link_laws.proofs.MarkSteps.{Marked, marked_itself, marked_then, fresh, same_kinds, same_lists, same_links, same_linked, same_children, same_none, marked_bounded, marked_placed, content_same, over_same, each_same, mark-renew_other, fresh_next, fresh_all, fresh_out, fresh_in, renew_marked, mark_none}

one_number_is : (o : Option ℕ) (g : ℕ) → is_one_number o (Some g) ≡ true → o ≡ Some g
one_number_is None g e = absurd (cc)
one_number_is (Some a) g e = ap Some (eqb-true a g e)

is_one : (o : Option ℕ) (g : ℕ) → o ≡ Some g → is_one_number o (Some g) ≡ true
is_one o g e = ap (λ o. is_one_number o (Some g)) e ∙ eq-eqb g g refl

-- unmark: what it leaves.
unmark_marked : (m : Whole) (n : ℕ) → Marked m (unmark n m)
unmark_marked m n = by (is_none (over m n))
  where
    by : (b : Bool) → Marked m (cond b (renew n (with_mark None) m) m)
    by true = renew_marked m n None
    by false = marked_itself m

pub unmarks_marked : (ns : List ℕ) (m : Whole) → Marked m (each_in_turn unmark ns m)
unmarks_marked [] m = marked_itself m
unmarks_marked (n ∷ ns) m = marked_then (unmark_marked m n) (unmarks_marked ns (unmark n m))

unmark_next : (m : Whole) (n : ℕ) → (unmark n m).next ≡ m.next
unmark_next m n = by (is_none (over m n))
  where
    by : (b : Bool) → (cond b (renew n (with_mark None) m) m).next ≡ m.next
    by true = refl
    by false = refl

pub unmarks_next : (ns : List ℕ) (m : Whole) → (each_in_turn unmark ns m).next ≡ m.next
unmarks_next [] m = refl
unmarks_next (n ∷ ns) m = unmarks_next ns (unmark n m) ∙ unmark_next m n

-- a number over which a linked group stands keeps its mark
unmark_kept : (m : Whole) (n q g : ℕ) → over m q ≡ Some g → mark_at (unmark n m) q ≡ mark_at m q
unmark_kept m n q g e = by_eq q n
    (λ s. ap (λ b. mark_at (cond b (renew n (with_mark None) m) m) q) (ap is_none (ap (over m) (sym s) ∙ e)))
    (λ ne. by (is_none (over m n)) ne)
  where
    by : (b : Bool) → q ≢ n → mark_at (cond b (renew n (with_mark None) m) m) q ≡ mark_at m q
    by true ne = mark-renew_other m n q None ne
    by false ne = refl

pub unmarks_kept : (ns : List ℕ) (m : Whole) → Placed m → Bounded m → (q g : ℕ) → over m q ≡ Some g → mark_at (each_in_turn unmark ns m) q ≡ mark_at m q
unmarks_kept [] m placed bound q g e = refl
unmarks_kept (n ∷ ns) m placed bound q g e =
    let a = unmark_marked m n in
    unmarks_kept ns (unmark n m) (marked_placed a placed) (marked_bounded a bound) q g (over_same a placed bound q ∙ e) ∙ unmark_kept m n q g e

unmark_at : (m : Whole) (n q g : ℕ) → over m q ≡ Some g → at (unmark n m) q ≡ at m q
unmark_at m n q g e = by_eq q n
    (λ s. ap (λ b. at (cond b (renew n (with_mark None) m) m) q) (ap is_none (ap (over m) (sym s) ∙ e)))
    (λ ne. by (is_none (over m n)) ne)
  where
    by : (b : Bool) → q ≢ n → at (cond b (renew n (with_mark None) m) m) q ≡ at m q
    by true ne = at-renew_other m n q (with_mark None) ne
    by false ne = refl

pub unmarks_at : (ns : List ℕ) (m : Whole) → Placed m → Bounded m → (q g : ℕ) → over m q ≡ Some g → at (each_in_turn unmark ns m) q ≡ at m q
unmarks_at [] m placed bound q g e = refl
unmarks_at (n ∷ ns) m placed bound q g e =
    let a = unmark_marked m n in
    unmarks_at ns (unmark n m) (marked_placed a placed) (marked_bounded a bound) q g (over_same a placed bound q ∙ e) ∙ unmark_at m n q g e

fresh_at : (W : List ℕ) (k : Whole) (q : ℕ) → (q ∈ W → ⊥) → at (each_in_turn fresh W k) q ≡ at k q
fresh_at [] k q out = refl
fresh_at (n ∷ W) k q out = fresh_at W (fresh n k) q (λ i. out (there i)) ∙ at-renew_other (draw_number k) n q (with_mark (Some k.next)) (λ e. out (first_is q n W e))
  where
    first_is : (q n : ℕ) (W : List ℕ) → q ≡ n → q ∈ (n ∷ W)
    first_is q n W e = rw e here

-- any other has none
unmark_none : (m : Whole) (n q : ℕ) → mark_at m q ≡ None → mark_at (unmark n m) q ≡ None
unmark_none m n q e = by_eq q n
    (λ s. by (is_none (over m n)) s)
    (λ ne. by_other (is_none (over m n)) ne)
  where
    by : (b : Bool) → q ≡ n → mark_at (cond b (renew n (with_mark None) m) m) q ≡ None
    by true s = ap (mark_at (renew n (with_mark None) m)) s ∙ mark_none m n
    by false s = e

    by_other : (b : Bool) → q ≢ n → mark_at (cond b (renew n (with_mark None) m) m) q ≡ None
    by_other true ne = mark-renew_other m n q None ne ∙ e
    by_other false ne = e

pub unmarks_stay : (ns : List ℕ) (m : Whole) (q : ℕ) → mark_at m q ≡ None → mark_at (each_in_turn unmark ns m) q ≡ None
unmarks_stay [] m q e = e
unmarks_stay (n ∷ ns) m q e = unmarks_stay ns (unmark n m) q (unmark_none m n q e)

pub unmarks_none : (ns : List ℕ) (m : Whole) → Placed m → Bounded m → (q : ℕ) → over m q ≡ None → q ∈ ns → mark_at (each_in_turn unmark ns m) q ≡ None
unmarks_none [] m placed bound q e i = elim i [ ]
unmarks_none (n ∷ ns) m placed bound q e here = unmarks_stay ns (unmark q m) q (ap (λ b. mark_at (cond b (renew q (with_mark None) m) m) q) (ap is_none e) ∙ mark_none m q)
unmarks_none (n ∷ ns) m placed bound q e (there i) =
    let a = unmark_marked m n in
    unmarks_none ns (unmark n m) (marked_placed a placed) (marked_bounded a bound) q (over_same a placed bound q ∙ e) i

-- The walk over a content is that over its new nodes.
abbrev pub news : Whole → ℕ → List ℕ → List ℕ
news before g xs = filter (λ n. not (is_one_number (over before n) (Some g))) xs

walk : (before : Whole) (g : ℕ) (xs : List ℕ) (k : Whole) → each_in_turn (mark_new before g) xs k ≡ each_in_turn fresh (news before g xs) k
walk before g [] k = refl
walk before g (n ∷ xs) k = by (is_one_number (over before n) (Some g)) (walk before g xs k) (walk before g xs (fresh n k))
  where
    by : (b : Bool) → each_in_turn (mark_new before g) xs k ≡ each_in_turn fresh (news before g xs) k → each_in_turn (mark_new before g) xs (fresh n k) ≡ each_in_turn fresh (news before g xs) (fresh n k) →
        each_in_turn (mark_new before g) xs (cond b k (fresh n k)) ≡ each_in_turn fresh (cond (not b) (n ∷ news before g xs) (news before g xs)) k
    by true e f = e
    by false e f = f

walks : (before m : Whole) (gs : List ℕ) (k : Whole) → Placed m → Bounded m → Marked m k → ((g : ℕ) → g ∈ gs → Beneath (up m) 0 g) →
    each_in_turn (mark_content before) gs k ≡ each_in_turn fresh (flat_map (λ g. news before g (content m g)) gs) k
walks before m [] k placed bound a rooted = refl
walks before m (g ∷ gs) k placed bound a rooted =
    let e : mark_content before g k ≡ each_in_turn fresh (news before g (content m g)) k =
    walk before g (content k g) k ∙ ap (λ l. each_in_turn fresh (news before g l) k) (content_same a placed bound g (rooted g here)) in
    ap (each_in_turn (mark_content before) gs) e
    ∙ walks before m gs (each_in_turn fresh (news before g (content m g)) k) placed bound (marked_then a (fresh_all (news before g (content m g)) k)) (λ h i. rooted h (there i))
    ∙ sym (in_turn_append fresh (news before g (content m g)) (flat_map (λ g. news before g (content m g)) gs) k)

says_held : (j k : Kind) → says_parent j ≡ true → can_hold j k ≡ true → says_parent k ≡ true
says_held world world e f = absurd (cc)
says_held world layer e f = absurd (cc)
says_held world group e f = refl
says_held world entity e f = refl
says_held world brush e f = refl
says_held layer world e f = absurd (cc)
says_held layer layer e f = absurd (cc)
says_held layer group e f = refl
says_held layer entity e f = refl
says_held layer brush e f = refl
says_held group world e f = absurd (cc)
says_held group layer e f = absurd (cc)
says_held group group e f = refl
says_held group entity e f = refl
says_held group brush e f = refl
says_held entity world e f = absurd (cc)
says_held entity layer e f = absurd (cc)
says_held entity group e f = refl
says_held entity entity e f = refl
says_held entity brush e f = refl
says_held brush world e f = absurd (cc)
says_held brush layer e f = absurd (cc)
says_held brush group e f = refl
says_held brush entity e f = refl
says_held brush brush e f = refl

pub linked_word : Bare (λ x. is_some (link_of x))
linked_word = record { same = λ x. ap is_some (bare_link.same x) }

-- A node strictly beneath g, by its parent.
strict : {up : ℕ → Option ℕ} {w n : ℕ} (g : ℕ) → up w ≡ Some g → Beneath up w n → (p : ℕ) × (up n ≡ Some p) × Beneath up g p
strict g e itself = (g, e, itself)
strict {up} {w} g e (under n p f b) = (p, f, beneath_both (under w g e itself) b)

-- The child of g on the way down.
first_child : {up : ℕ → Option ℕ} {g p : ℕ} (n : ℕ) → up n ≡ Some p → Beneath up g p → (w : ℕ) × (up w ≡ Some g) × Beneath up w n
first_child n e itself = (n, e, itself)
first_child n e (under p s f b) = let r = first_child p f b in (r.0, r.1, under n p e r.2)

pub by_option : {P : Type 0} (o : Option ℕ) → (o ≡ None → P) → ((g : ℕ) → o ≡ Some g → P) → P
by_option None f g = f refl
by_option (Some x) f g = g x refl

-- The linked group h has in M the content that it has in B, with its marks.
pub record Unchanged (B M : Whole) (h : ℕ) : Type 0 where
  pub linked : is_linked B h ≡ true
  pub listed : content M h ≡ content B h
  pub nodes : (n : ℕ) → n ∈ content B h → at M n ≡ at B n
  pub lists : (b : Bool) → list_at b M h ≡ list_at b B h
  pub link : link_at M h ≡ link_at B h

module _ (B P : Whole) (gs : List ℕ) (shape : Shape B) (placed : Placed P) (comes : Comes (format_of B) B P) (apart : (g : ℕ) → is_linked P g ≡ true → over P g ≡ None)
    (linked_gs : (g : ℕ) → g ∈ gs → is_linked P g ≡ true) (once_gs : (g : ℕ) → tally g gs ≤ 1) (spared : (h : ℕ) → is_linked P h ≡ true → (h ∈ gs → ⊥) → SameContent h B P) where
  bound : Bounded P
  bound = bounded_by comes

  c : Chains P
  c = chains P (planted placed) bound

  placed_B : Placed B
  placed_B = placed_of shape.standing

  abbrev U : Whole
  U = each_in_turn unmark (all_numbers P) P

  abbrev W : List ℕ
  W = flat_map (λ g. news B g (content P g)) gs

  abbrev pub M : Whole
  M = each_in_turn fresh W U

  rooted_linked : (g : ℕ) → is_linked P g ≡ true → Beneath (up P) 0 g
  rooted_linked g l = rooted_at P placed bound g group (group_linked P g l)

  pub remarked : marked B gs P ≡ M
  remarked = walks B P gs U placed bound (unmarks_marked (all_numbers P) P) (λ g i. rooted_linked g (linked_gs g i))

  pub all_marked : Marked P M
  all_marked = marked_then (unmarks_marked (all_numbers P) P) (fresh_all W U)

  next_U : U.next ≡ P.next
  next_U = unmarks_next (all_numbers P) P

  next_M : M.next ≡ P.next + length W
  next_M = fresh_next W U ∙ ap (λ n. n + length W) next_U

  -- who stands in a content
  over_from : (n g : ℕ) → over P n ≡ Some g → (p : ℕ) × (up P n ≡ Some p) × Beneath (up P) g p × (is_linked P g ≡ true)
  over_from n g e =
      let r = find_is (is_linked P) g (above P n) e in
      up_or_not (up P n)
      (λ none. absurd (no_above (subst (λ l. g ∈ l) (ap (above_by P.next P) none ∙ nothing P.next) r.0)))
      (λ q u. let w = from_above c g n (with_parent_live (planted placed) n q u) r.0 in (w.0, w.1, w.2, r.1))
    where
      nothing : (f : ℕ) → above_by f P None ≡ []
      nothing zero = refl
      nothing (suc f) = refl

      no_above : g ∈ [] → ⊥
      no_above i = elim i [ ]

  in_content : (g n : ℕ) → is_linked P g ≡ true → n ∈ content P g → over P n ≡ Some g
  in_content g n l i =
      let r = member-from_flat (preorder P) n (children P g) i in
      let e : up P r.0 ≡ Some g = child_up P (planted placed) g r.0 r.1 in
      let b = from_preorder c P.next r.0 n r.2 in
      let p = strict g e b in
      over_is P c apart g n p.0 (beneath_both (under r.0 g e (rooted_linked g l)) b) p.1 p.2 l

  content_in : (g n : ℕ) → over P n ≡ Some g → n ∈ content P g
  content_in g n e =
      let r = over_from n g e in
      let w = first_child n r.1 r.2 in
      member-flat (preorder P) n w.0 (children P g) (tally-member w.0 (children P g) (omega (arith, up_child P (planted placed) g w.0 w.1)))
      (in_preorder c w.0 (under w.0 g w.1 (rooted_linked g r.3)) w.2)

  content_once : (g q : ℕ) → is_linked P g ≡ true → tally q (content P g) ≤ 1
  content_once g q l = omega (arith, preorder_once c g q (rooted_linked g l), ap (tally q) (preorder-step c g (rooted_linked g l)), less q g (content P g))
    where
      less : (a x : ℕ) (xs : List ℕ) → tally a xs ≤ tally a (x ∷ xs)
      less a x xs = elim (x == a) as (λ b. tally a xs ≤ cond b (suc (tally a xs)) (tally a xs)) [ true ↦ omega arith | false ↦ omega arith ]

  beneath_says : {g q : ℕ} → kind_at P g ≡ Some group → Beneath (up P) g q → says_kind (kind_at P q) ≡ true
  beneath_says e itself = ap says_kind e
  beneath_says e (under q p f b) =
      let j = kind_p P placed q p f in
      let k = kind_q P placed q p f in
      ap says_kind k.1 ∙ says_held j.0 k.0 (sym (ap says_kind j.1) ∙ beneath_says e b) (parent_holds P placed q p f j.0 k.0 j.1 k.1)

  -- the nodes with new marks
  W_in : (q : ℕ) → q ∈ W → (g : ℕ) × (g ∈ gs) × (over P q ≡ Some g) × (over B q ≡ Some g → ⊥)
  W_in q i =
      let r = member-from_flat (λ g. news B g (content P g)) q gs i in
      let m = filter_member (λ n. not (is_one_number (over B n) (Some r.0))) q (content P r.0) r.2 in
      (r.0, r.1, in_content r.0 q (linked_gs r.0 r.1) m.0, (λ e. not_both (is_one_number (over B q) (Some r.0)) (is_one (over B q) r.0 e) (not_is (is_one_number (over B q) (Some r.0)) m.1)))
    where
      not_is : (b : Bool) → not b ≡ true → b ≡ false
      not_is true e = absurd (cc)
      not_is false e = refl

  W_from : (q g : ℕ) → over P q ≡ Some g → g ∈ gs → (over B q ≡ Some g → ⊥) → q ∈ W
  W_from q g e i out = member-flat (λ g. news B g (content P g)) q g gs i (member_filter (λ n. not (is_one_number (over B n) (Some g))) q (content P g) (content_in g q e)
      (by_bool (is_one_number (over B q) (Some g)) (λ t. absurd (out (one_number_is (over B q) g t))) (λ t. ap not t)))

  W_once : (q : ℕ) → tally q W ≤ 1
  W_once q = tally-flat (λ g. news B g (content P g)) q gs
      (λ g i. le_then (tally-filter (λ n. not (is_one_number (over B n) (Some g))) q (content P g)) (content_once g q (linked_gs g i)))
      (λ g h i j a b. some_one (in_content g q (linked_gs g i) (filter_member (λ n. not (is_one_number (over B n) (Some g))) q (content P g) a).0)
      (in_content h q (linked_gs h j) (filter_member (λ n. not (is_one_number (over B n) (Some h))) q (content P h) b).0))
      once_gs
    where
      le_then : {a b : ℕ} → a ≤ b → b ≤ 1 → a ≤ 1
      le_then e f = omega arith

  W_says : (q : ℕ) → q ∈ W → says_kind (kind_at U q) ≡ true
  W_says q i =
      let r = W_in q i in
      let p = over_from q r.0 r.2 in
      ap says_kind (same_kinds (unmarks_marked (all_numbers P) P) q) ∙ beneath_says (group_linked P r.0 p.3) (under q p.0 p.1 p.2)

  mark_new_is : (q : ℕ) → q ∈ W → mark_at M q ≡ Some (row P.next W q)
  mark_new_is q i = fresh_in W U W_says W_once q i ∙ ap (λ n. Some (row n W q)) next_U

  mark_none_is : (q : ℕ) → over P q ≡ None → mark_at M q ≡ None
  mark_none_is q e = fresh_out W U q (λ i. not_none (W_in q i).2 e) ∙ elim (cases_lt q P.next) [
    | inl lt ↦ unmarks_none (all_numbers P) P placed bound q e (tally-member q (all_numbers P) (omega (arith, tally-numbers_in 0 P.next q (omega arith) (omega arith))))
    | inr far ↦ unmarks_stay (all_numbers P) P q (ap (λ o. unwrap_or (option_map mark_of o) None) (bound q far))
  ]

  -- what was there before
  kept : (q : ℕ) (k : Kind) → q < B.next → kind_at P q ≡ Some k → bare_slot (at P q) ≡ bare_slot (at B q)
  kept q k lt e = elim (comes.old q lt) [ inl gone ↦ absurd (not_none e (ap (option_map kind_of) gone)) | inr same ↦ same ]

  linked_old : (g : ℕ) → is_linked P g ≡ true → (g < B.next) × (is_linked B g ≡ true)
  linked_old g l = elim (cases_lt g B.next) [
    | inl lt ↦ (lt, sym (part_alike (λ x. is_some (link_of x)) false linked_word (at P g) (at B g) (kept g group lt (group_linked P g l))) ∙ l)
    | inr far ↦ absurd (by far (at P g) refl l)
  ]
    where
      by : B.next ≤ g → (o : Option Node) → at P g ≡ o → unwrap_or (option_map (λ x. is_some (link_of x)) o) false ≡ true → ⊥
      by far None e l = cc
      by far (Some x) e l = not_both (is_some (link_of x)) l (ap is_some (comes.new g x far e).no_link)

  over_live : (q g : ℕ) → over B q ≡ Some g → q < B.next
  over_live q g e = elim (cases_lt q B.next) [ inl lt ↦ lt | inr far ↦ absurd (no_over (shape.numbers.nodes q far)) ]
    where
      nothing : (f : ℕ) → above_by f B None ≡ []
      nothing zero = refl
      nothing (suc f) = refl

      no_over : at B q ≡ None → ⊥
      no_over none = not_none e (ap (find (is_linked B)) (ap (λ o. above_by B.next B (option_and_then parent_of o)) none ∙ nothing B.next))

  old_is : (q g : ℕ) → (q ∈ W → ⊥) → over P q ≡ Some g → (over B q ≡ Some g) × (mark_at M q ≡ mark_at B q)
  old_is q g out e =
      let r = over_from q g e in
      let o : over B q ≡ Some g = by_member g gs
      (λ i. by_bool (is_one_number (over B q) (Some g)) (λ t. one_number_is (over B q) g t)
      (λ t. absurd (out (W_from q g e i (λ f. not_both (is_one_number (over B q) (Some g)) (is_one (over B q) g f) t)))))
      (λ none. in_old r.0 r.1 r.2 r.3 none) in
      let k = kind_q P placed q r.0 r.1 in (
        o,
        fresh_out W U q out ∙ unmarks_kept (all_numbers P) P placed bound q g e
            ∙ part_alike mark_of None bare_mark (at P q) (at B q) (kept q k.0 (over_live q g o) k.1),
      )
    where
      in_old : (p : ℕ) → up P q ≡ Some p → Beneath (up P) g p → is_linked P g ≡ true → (g ∈ gs → ⊥) → over B q ≡ Some g
      in_old p u b l none =
          let s = spared g l none in
          let w = below_back s (planted placed_B) (planted placed) (under q p u b) in
          let n = parent_within w (λ t. no_circle (planted placed).top (parent_rooted c p (with_parent_live (planted placed) q p u) u) u (subst (λ x. Beneath (up P) x p) (sym t) b)) in
          let r = rooted_at B placed_B shape.numbers.nodes g group (group_linked B g (linked_old g l).1) in
          over_is B (chains B (planted placed_B) shape.numbers.nodes) shape.marks.not_nested g q n.0 (beneath_both r w) n.1 n.2 (linked_old g l).1

  -- a new mark is none of those before
  apart_marks : (q k : ℕ) → q ∈ W → mark_at B k ≡ Some (row P.next W q) → ⊥
  apart_marks q k i e = omega (arith, shape.numbers.marks k (row P.next W q) e, row_from P.next W q i, comes.next)

  over_M : (q : ℕ) → over M q ≡ over P q
  over_M q = over_same all_marked placed bound q

  set_B : (g : ℕ) → is_linked P g ≡ true → set_at M g ≡ set_at B g
  set_B g l = ap (option_map (λ l. l.set)) (same_links all_marked g ∙ part_alike link_of None bare_link (at P g) (at B g) (kept g group (linked_old g l).0 (group_linked P g l)))

  pub marks_after : Marks M
  marks_after = record {
    not_nested = λ g l. over_M g ∙ apart g (sym (same_linked all_marked g) ∙ l);
    marked = λ n. by_option (over P n)
        (λ e. ap is_some (mark_none_is n e) ∙ sym (ap is_some (over_M n ∙ e)))
        (λ g e. by_member n W (λ i. ap is_some (mark_new_is n i)) (λ out. let o = old_is n g out e in ap is_some o.1 ∙ shape.marks.marked n ∙ ap is_some o.0) ∙ sym (ap is_some (over_M n ∙ e)));
    distinct = λ g n k o p e. distinct g n k (sym (over_M n) ∙ o) (sym (over_M k) ∙ p) e;
    of_one_set = λ g h n k o p e. of_one_set g h n k (sym (over_M n) ∙ o) (sym (over_M k) ∙ p) e;
  }
    where
      distinct : (g n k : ℕ) → over P n ≡ Some g → over P k ≡ Some g → mark_at M n ≡ mark_at M k → n ≡ k
      distinct g n k o p e = by_member n W
          (λ i. by_member k W
          (λ j. row_one P.next W n k i j (some_one (mark_new_is n i) (e ∙ mark_new_is k j)))
          (λ out. absurd (apart_marks n k i (sym (old_is k g out p).1 ∙ sym e ∙ mark_new_is n i))))
          (λ out. by_member k W
          (λ j. absurd (apart_marks k n j (sym (old_is n g out o).1 ∙ e ∙ mark_new_is k j)))
          (λ out2. let a = old_is n g out o in let b = old_is k g out2 p in shape.marks.distinct g n k a.0 b.0 (sym a.1 ∙ e ∙ b.1)))

      of_one_set : (g h n k : ℕ) → over P n ≡ Some g → over P k ≡ Some h → mark_at M n ≡ mark_at M k → set_at M g ≡ set_at M h
      of_one_set g h n k o p e = by_member n W
          (λ i. by_member k W
          (λ j. ap (set_at M) (some_one o (ap (over P) (row_one P.next W n k i j (some_one (mark_new_is n i) (e ∙ mark_new_is k j))) ∙ p)))
          (λ out. absurd (apart_marks n k i (sym (old_is k h out p).1 ∙ sym e ∙ mark_new_is n i))))
          (λ out. by_member k W
          (λ j. absurd (apart_marks k n j (sym (old_is n g out o).1 ∙ e ∙ mark_new_is k j)))
          (λ out2. let a = old_is n g out o in let b = old_is k h out2 p in
          set_B g (over_from n g o).3 ∙ shape.marks.of_one_set g h n k a.0 b.0 (sym a.1 ∙ e ∙ b.1) ∙ sym (set_B h (over_from k h p).3)))

  -- where a mark of M comes from
  mark_from : (n s : ℕ) → mark_at M n ≡ Some s → ((P.next ≤ s) × (s < M.next)) ⊎ (mark_at P n ≡ Some s)
  mark_from n s e = by_option (over P n)
      (λ none. absurd (not_none e (mark_none_is n none)))
      (λ g o. by_member n W
      (λ i. inl (new s (some_one (mark_new_is n i) e) i))
      (λ out. inr (sym (fresh_out W U n out ∙ unmarks_kept (all_numbers P) P placed bound n g o) ∙ e)))
    where
      new : (s : ℕ) → row P.next W n ≡ s → n ∈ W → (P.next ≤ s) × (s < M.next)
      new s e i = (omega (arith, row_from P.next W n i), omega (arith, row_to P.next W n i, next_M))

  pub shape_after : ((g : ℕ) → is_kind P group g ≡ true → children P g ≡ [] → ⊥) → M.next ≤ 65536 → Shape M
  shape_after full most =
      let numbers_P : Numbers P = numbers_kept comes (omega (arith, next_M)) shape.numbers in
      let sets : (g s : ℕ) → set_at M g ≡ Some s → set_at P g ≡ Some s = λ g s e. sym (ap (option_map (λ l. l.set)) (same_links all_marked g)) ∙ e in
      record {
        standing = standing_of (marked_placed all_marked placed) (λ g is none. full g (is_kind_by P group g (sym (same_kinds all_marked g) ∙ kind_is M group g is)) (sym (same_children all_marked g) ∙ none));
        each_node = each_same all_marked (each_node_kept comes (format_kept comes placed_B placed shape.numbers.nodes) shape.each_node);
        numbers = record {
          most = most;
          nodes = marked_bounded all_marked bound;
          sets = λ g s e. omega (arith, numbers_P.sets g s (sets g s e), next_M);
          marks = λ n s e. elim (mark_from n s e) [ inl r ↦ r.1 | inr o ↦ below s (numbers_P.marks n s o) ];
          set_is_no_node = λ g s e. same_none all_marked s (numbers_P.set_is_no_node g s (sets g s e));
          mark_is_no_node = λ n s e. same_none all_marked s (elim (mark_from n s e) [ inl r ↦ bound s r.0 | inr o ↦ numbers_P.mark_is_no_node n s o ]);
          mark_is_no_set = λ g n s t e f. elim (mark_from n t f) [ inl r ↦ (λ u. differ s t (numbers_P.sets g s (sets g s e)) r.0 u) | inr o ↦ numbers_P.mark_is_no_set g n s t (sets g s e) o ];
        };
        marks = marks_after;
      }
    where
      below : (s : ℕ) → s < P.next → s < M.next
      below s lt = omega (arith, next_M)

      differ : (s t : ℕ) → s < P.next → P.next ≤ t → s ≡ t → ⊥
      differ s t a b u = omega arith

  pub spared_after : (h : ℕ) → is_linked P h ≡ true → (h ∈ gs → ⊥) → Unchanged B M h
  spared_after h l out =
      let s = spared h l out in
      let o = linked_old h l in
      let cb = chains B (planted placed_B) shape.numbers.nodes in
      let rb = rooted_at B placed_B shape.numbers.nodes h group (group_linked B h o.1) in
      let same : content P h ≡ content B h = same_content s (planted placed_B) cb rb comes.next in
      record {
        linked = o.1;
        listed = content_same all_marked placed bound h (rooted_linked h l) ∙ same;
        nodes = λ n i.
            let ip : n ∈ content P h = subst (λ x. n ∈ x) (sym same) i in
            let ov = in_content h n l ip in
            let r = over_from n h ov in
            let strictly : n ≢ h = λ t. no_circle (planted placed).top (parent_rooted c r.0 (with_parent_live (planted placed) n r.0 r.1) r.1) r.1 (subst (λ x. Beneath (up P) x r.0) (sym t) r.2) in
            fresh_at W U n (λ j. let w = W_in n j in out (subst (λ x. x ∈ gs) (some_one w.2 ov) w.1))
            ∙ unmarks_at (all_numbers P) P placed bound n h ov
            ∙ s.nodes n (below_back s (planted placed_B) (planted placed) (under n r.0 r.1 r.2)) strictly;
        lists = λ b. same_lists all_marked b h ∙ s.lists b;
        link = same_links all_marked h ∙ part_alike link_of None bare_link (at P h) (at B h) (kept h group o.0 (group_linked P h l));
      }
