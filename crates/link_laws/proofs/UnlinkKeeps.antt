-- unlink keeps the sets of linked groups.
use Rattle.std.proofs.Common.{◌≡◌, ℕ, List, [], ◌∷◌, ◌++◌, filter, Bool, true, false, cond, ◌&&◌, inl, inr, refl, ap, sym, ◌∙◌, subst, arith, Option, Some, None, option_map}
use Rattle.std.specs.Prelude.{not, is_some, is_none, option_to_list, unwrap_or}
use Rattle.std.proofs.lemmas.Bool.{cases_lt, and_right}
use Rattle.map_model.specs.Tree.{Whole, Node, World, Layer, Group, Entity, Brush, at, up, over, among, is_linked, set_at, mark_at, kind_of, mark_of, with_mark, with_link, all_numbers, group}
use Rattle.map_model.specs.Edits.{renew, each_in_turn}
use Rattle.map_model.specs.Shape.{Shape, Marks}
use Rattle.map_model.specs.Links.{AllOne}
use Rattle.map_model.specs.Commands.{Command, Settings, Unlink}
use Rattle.map_model.specs.Below.{Below}
use Rattle.map_model.specs.Replies.{NotLinked}
use Rattle.map_model.specs.Rows.{rows, first, no_node, repeated, wrong_kind, nested_ids, locked_layer, two_members, reserved_key, no_key, not_linked}
use Rattle.map_model.specs.Apply.{prune, edited, marked, unmark, before_spread}
use Rattle.map_laws.proofs.Lists.{by_eq, tally-member}
use Rattle.map_laws.proofs.Beneath.{Beneath, itself, under}
use Rattle.map_laws.proofs.Forest.{not_none}
use Rattle.map_laws.proofs.Skeleton.{standing_of, planted, kind_is, is_kind_by}
use Rattle.map_laws.proofs.Slots.{at-renew_same, at-renew_other}
use Rattle.map_laws.proofs.Placing.{chains}
use Rattle.map_laws.proofs.Replacing.{tally-numbers_in}
use Rattle.map_laws.proofs.Refused.{first_none, refuse_none}
use Rattle.map_laws.proofs.Tests.{not_false}
use Rattle.map_laws.proofs.Pruned.{not_emptied, prune_none, rooted_at}
use Rattle.map_laws.proofs.Unlinking.{filter_none}
use Rattle.link_laws.specs.Keeping.{KeepsAllOne}
use Rattle.link_laws.proofs.Edited.{group_linked}
use Rattle.link_laws.proofs.Untouched.{over_is}
use Rattle.link_laws.proofs.Grafts.{parent_within}
use Rattle.link_laws.proofs.Putting.{from_content}
use Rattle.link_laws.proofs.Remarked.{by_option, unmarks_marked, unmarks_next, unmarks_none, unmarks_kept, unmarks_at}
use Rattle.link_laws.proofs.MarkSteps.{Marked, marked_placed, marked_bounded, same_kinds, same_children, same_links, same_linked, same_none, over_same, each_same, content_same}
use Rattle.link_laws.proofs.Elsewhere.{all_left, unlink_is}
use Rattle.link_laws.proofs.SpreadOne.{set_linked}
use Rattle.link_laws.proofs.SpreadEach.{ToSpread}
use Rattle.link_laws.proofs.Unlinked.{same_children as children_unlinked, marks, placed_k, bound_k, full, each_k, still, set_other, set_before, over_before, apart_k, over_linked}
use Rattle.link_laws.proofs.Finishing.{keeps}

-- A node that has no mark stays where marks are taken.
unmarked_same : (x : Node) → mark_of x ≡ None → with_mark None x ≡ x
unmarked_same (World a b c d) e = refl
unmarked_same (Layer a b c d g) e = refl
unmarked_same (Group a b c d g h i) e = λ z. Group a (sym e z) c d g h i
unmarked_same (Entity a b c d g) e = λ z. Entity a (sym e z) c d g
unmarked_same (Brush a b c) e = λ z. Brush a (sym e z) c

slot_same : (o : Option Node) → unwrap_or (option_map mark_of o) None ≡ None → option_map (with_mark None) o ≡ o
slot_same None e = refl
slot_same (Some x) e = ap Some (unmarked_same x e)

unmark_same : (m : Whole) (n q : ℕ) → mark_at m q ≡ None → at (unmark n m) q ≡ at m q
unmark_same m n q e = by (is_none (over m n))
  where
    by : (b : Bool) → at (cond b (renew n (with_mark None) m) m) q ≡ at m q
    by true = by_eq q n (λ s. at-renew_same m n q (with_mark None) s ∙ slot_same (at m q) e) (λ ne. at-renew_other m n q (with_mark None) ne)
    by false = refl

unmarks_same : (ns : List ℕ) (m : Whole) (q : ℕ) → mark_at m q ≡ None → at (each_in_turn unmark ns m) q ≡ at m q
unmarks_same [] m q e = refl
unmarks_same (n ∷ ns) m q e =
    let s = unmark_same m n q e in
    unmarks_same ns (unmark n m) q (ap (λ o. unwrap_or (option_map mark_of o) None) s ∙ e) ∙ s

module _ (m : Whole) (g : ℕ) (shape : Shape m) (all : AllOne m) (linked : is_linked m g ≡ true) where
  abbrev k : Whole
  k = renew g (with_link None) m

  abbrev u : Whole
  u = each_in_turn unmark (all_numbers (renew g (with_link None) m)) (renew g (with_link None) m)

  a : Marked (renew g (with_link None) m) u
  a = unmarks_marked (all_numbers k) k

  next_u : u.next ≡ m.next
  next_u = unmarks_next (all_numbers k) k

  over_u : (q : ℕ) → over u q ≡ over k q
  over_u q = over_same a (placed_k m g shape linked) (bound_k m g shape linked) q

  linked_u : (q : ℕ) → is_linked u q ≡ true → is_linked k q ≡ true
  linked_u q l = sym (same_linked a q) ∙ l

  sets_u : (q : ℕ) → set_at u q ≡ set_at k q
  sets_u q = ap (option_map (λ l. l.set)) (same_links a q)

  set_m : (q s : ℕ) → set_at u q ≡ Some s → set_at m q ≡ Some s
  set_m q s e = set_before m g shape linked q s (sym (sets_u q) ∙ e)

  mark_over : (q h : ℕ) → over k q ≡ Some h → mark_at u q ≡ mark_at m q
  mark_over q h e = unmarks_kept (all_numbers k) k (placed_k m g shape linked) (bound_k m g shape linked) q h e ∙ marks m g shape linked q

  mark_out : (q : ℕ) → over k q ≡ None → mark_at u q ≡ None
  mark_out q e = elim (cases_lt q m.next) [
    | inl lt ↦ unmarks_none (all_numbers k) k (placed_k m g shape linked) (bound_k m g shape linked) q e (tally-member q (all_numbers m) (omega (arith, tally-numbers_in 0 m.next q (omega arith) (omega arith))))
    | inr far ↦ ap (λ o. unwrap_or (option_map mark_of o) None) (same_none a q (bound_k m g shape linked q far))
  ]

  mark_m : (q s : ℕ) → mark_at u q ≡ Some s → mark_at m q ≡ Some s
  mark_m q s e = by_option (over k q) (λ none. absurd (not_none e (mark_out q none))) (λ h o. sym (mark_over q h o) ∙ e)

  over_m : (q h : ℕ) → over u q ≡ Some h → over m q ≡ Some h
  over_m q h e = over_before m g shape linked q h (sym (over_u q) ∙ e)

  none_m : (q : ℕ) → at m q ≡ None → at u q ≡ None
  none_m q e = same_none a q (by_eq q g
      (λ s. absurd (not_none (group_linked m g linked) (ap (option_map kind_of) (ap (at m) (sym s) ∙ e))))
      (λ ne. at-renew_other m g q (with_link None) ne ∙ e))

  set_over : (q h : ℕ) → over u q ≡ Some h → set_at u h ≡ set_at m h
  set_over q h e = sets_u h ∙ set_other m g shape linked h (still m g shape linked h (over_linked m g shape linked q h (sym (over_u q) ∙ e))).0

  marks_u : Marks u
  marks_u = record {
    not_nested = λ h l. over_u h ∙ apart_k m g shape linked h (linked_u h l);
    marked = λ n. by_option (over k n)
        (λ e. ap is_some (mark_out n e) ∙ ap is_some (sym (over_u n ∙ e)))
        (λ h e. ap is_some (mark_over n h e) ∙ shape.marks.marked n ∙ ap is_some (over_before m g shape linked n h e) ∙ ap is_some (sym (over_u n ∙ e)));
    distinct = λ h n j e f s. shape.marks.distinct h n j (over_m n h e) (over_m j h f) (sym (mark_over n h (sym (over_u n) ∙ e)) ∙ s ∙ mark_over j h (sym (over_u j) ∙ f));
    of_one_set = λ h i n j e f s. set_over n h e
        ∙ shape.marks.of_one_set h i n j (over_m n h e) (over_m j i f) (sym (mark_over n h (sym (over_u n) ∙ e)) ∙ s ∙ mark_over j i (sym (over_u j) ∙ f))
        ∙ sym (set_over j i f);
  }

  pub shape_u : Shape u
  shape_u = record {
    standing = standing_of (marked_placed a (placed_k m g shape linked)) (λ q is none. full m g shape linked q (is_kind_by k group q (sym (same_kinds a q) ∙ kind_is u group q is)) (sym (same_children a q) ∙ none));
    each_node = each_same a (each_k m g shape linked);
    numbers = record {
      most = omega (arith, next_u, shape.numbers.most);
      nodes = marked_bounded a (bound_k m g shape linked);
      sets = λ q s e. omega (arith, next_u, shape.numbers.sets q s (set_m q s e));
      marks = λ q s e. omega (arith, next_u, shape.numbers.marks q s (mark_m q s e));
      set_is_no_node = λ q s e. none_m s (shape.numbers.set_is_no_node q s (set_m q s e));
      mark_is_no_node = λ q s e. none_m s (shape.numbers.mark_is_no_node q s (mark_m q s e));
      mark_is_no_set = λ q n s t e f. shape.numbers.mark_is_no_set q n s t (set_m q s e) (mark_m n t f);
    };
    marks = marks_u;
  }

  root_k : (p : ℕ) → is_linked k p ≡ true → Beneath (up k) 0 p
  root_k p l = rooted_at k (placed_k m g shape linked) (bound_k m g shape linked) p group (group_linked k p l)

  pub all_u : AllOne u
  all_u = all_left k u (record {
    groups = λ p s e. let l = member p s e in unmarks_same (all_numbers k) k p (marks m g shape linked p ∙ no_mark p (still m g shape linked p l).1);
    contents = λ p s e. content_same a (placed_k m g shape linked) (bound_k m g shape linked) p (root_k p (member p s e));
    nodes = λ p s q e i.
        let l = member p s e in
        let w = from_content k (placed_k m g shape linked) (bound_k m g shape linked) p (root_k p l) q i in
        let v = parent_within w.0 w.1 in
        unmarks_at (all_numbers k) k (placed_k m g shape linked) (bound_k m g shape linked) q p
        (over_is k (chains k (planted (placed_k m g shape linked)) (bound_k m g shape linked)) (apart_k m g shape linked) p q v.0 (both (root_k p l) w.0) v.1 v.2 l);
  }) (unlink_is m g shape linked all)
    where
      member : (p s : ℕ) → set_at u p ≡ Some s → is_linked k p ≡ true
      member p s e = set_linked k p s (sym (sets_u p) ∙ e)

      no_mark : (p : ℕ) → is_linked m p ≡ true → mark_at m p ≡ None
      no_mark p l = none_of (mark_at m p) (shape.marks.marked p ∙ ap is_some (shape.marks.not_nested p l))
        where
          none_of : (o : Option ℕ) → is_some o ≡ false → o ≡ None
          none_of None e = refl
          none_of (Some x) e = absurd (cc)

      both : {x y z : ℕ} → Beneath (up k) x y → Beneath (up k) y z → Beneath (up k) x z
      both v itself = v
      both v (under q p e w) = under q p e (both v w)

  unpruned : prune m (Unlink g) k ≡ k
  unpruned = prune_none m (Unlink g) k (λ q. not_emptied m k q (λ had j i s. had (sym (children_unlinked m g shape linked q) ∙ s)))

  none_edited : edited m (Unlink g) k ≡ []
  none_edited = ap (λ o. filter (λ h. is_linked k h && among h (option_to_list o ++ [])) (all_numbers m)) (shape.marks.not_nested g linked)
      ∙ filter_none (λ h. is_linked k h && false) (λ h. and_right (is_linked k h) false refl) (all_numbers m)

  pub unlink_spread : ToSpread (before_spread m (Unlink g) k) (edited m (Unlink g) (prune m (Unlink g) k))
  unlink_spread = subst (λ x. ToSpread x (edited m (Unlink g) (prune m (Unlink g) k))) (sym (ap (λ p. marked m (edited m (Unlink g) p) p) unpruned ∙ ap (λ gs. marked m gs k) none_edited))
      (subst (ToSpread u) (sym (ap (edited m (Unlink g)) unpruned ∙ none_edited)) (record {
        shape = shape_u;
        linked = λ g i. elim i [ ];
        distinct = tt;
        apart = λ g h i j e. elim i [ ];
        one = λ s h j e f ne oh oj. all_u s h j e f ne;
      }))

-- The row of groups that aren't linked.
linked_row : (b : Below) (s : Settings) (m : Whole) (c : Command) → first (rows b s m c) ≡ None → not_linked m c ≡ None
linked_row b s m c e =
    let a1 = first_none (no_node m c) _ e in
    let a2 = first_none (repeated c) _ a1.1 in
    let a3 = first_none (wrong_kind m c) _ a2.1 in
    let a4 = first_none (nested_ids m c) _ a3.1 in
    let a5 = first_none (locked_layer m c) _ a4.1 in
    let a6 = first_none (two_members m c) _ a5.1 in
    let a7 = first_none (reserved_key c) _ a6.1 in
    let a8 = first_none (no_key m c) _ a7.1 in
    (first_none (not_linked m c) _ a8.1).0

pub unlink_keeps : (g : ℕ) → KeepsAllOne (Unlink g)
unlink_keeps g b s m a right good shape all e =
    keeps b s m (Unlink g) a right refl
    (λ none empty most. unlink_spread m g shape all (not_false (is_linked m g) (refuse_none (not (is_linked m g)) (NotLinked g) (linked_row b s m (Unlink g) none)))) e
