-- A command that changes one node where no other sees it: the map from which edited groups are spread.
use Rattle.std.proofs.Common.{◌≡◌, ℕ, ◌≤◌, List, [], ◌∷◌, flat_map, true, cond, ◌&&◌, inl, inr, refl, ap, sym, ◌∙◌, subst, arith, Some, option_map, filter}
use Rattle.std.specs.Prelude.{is_some}
use Rattle.std.proofs.lemmas.Bool.{cases_lt, and_parts, and_from}
use Rattle.algebra.specs.Members.{◌∈◌}
use Rattle.map_model.specs.Tree.{content as content_at, Whole, Node, link_at, set_at, group, over, among, is_linked, is_one_number, kind_of, with_mark, format_of, all_numbers, content}
use Rattle.map_model.specs.Edits.{renew, each_in_turn, draw_number}
use Rattle.map_model.specs.Shape.{Shape}
use Rattle.map_model.specs.Apply.{prune, edited, marked, mark_content, mark_new, unmark, before_spread}
use Rattle.map_model.specs.Commands.{Command}
use Rattle.map_model.specs.Rows.{named, edits}
use Rattle.map_laws.specs.Placed.{Placed, KeepsAll}
use Rattle.map_laws.proofs.Lists.{tally, tally-member}
use Rattle.map_laws.proofs.Forest.{not_none}
use Rattle.map_laws.proofs.Skeleton.{planted, placed_of}
use Rattle.map_laws.proofs.Slots.{member_among, among_member}
use Rattle.map_laws.proofs.Placing.{chains}
use Rattle.map_laws.proofs.Replacing.{tally-numbers_in}
use Rattle.map_laws.proofs.Kept.{Comes, comes_itself}
use Rattle.map_laws.proofs.Pruned.{rooted_at, not_emptied, prune_none}
use Rattle.map_laws.proofs.Renewing.{linked_is, renew_alike, same_children, same_over, Alike}
use Rattle.link_laws.proofs.Contents.{SameContent, same_itself, same_content}
use Rattle.link_laws.proofs.Edited.{group_linked}
use Rattle.link_laws.proofs.Filtering.{tally-filter, filter_member, member_filter}
use Rattle.link_laws.proofs.Remarked.{remarked, shape_after, spared_after, all_marked, Unchanged}
use Rattle.link_laws.proofs.MarkSteps.{same_links}
use Rattle.link_laws.proofs.Pairs.{Once, once_by}
use Rattle.link_laws.proofs.SpreadOne.{set_linked}
use Rattle.link_laws.proofs.SpreadEach.{ToSpread}
use Rattle.link_laws.proofs.Others.{still_one}
use Rattle.map_model.specs.Links.{AllOne}
use Rattle.link_laws.proofs.Putting.{from_content}
use Rattle.link_laws.proofs.BeforeSpread.{numbers_once, linked_set}

pub turn_same : {A : Type 0} (e f : A → Whole → Whole) → ((x : A) (k : Whole) → e x k ≡ f x k) → (xs : List A) (k : Whole) → each_in_turn e xs k ≡ each_in_turn f xs k
turn_same e f h [] k = refl
turn_same e f h (x ∷ xs) k = ap (each_in_turn e xs) (h x k) ∙ turn_same e f h xs (f x k)

-- Marks are drawn by what stands over nodes before.
pub marked_before : (m k : Whole) → ((n : ℕ) → over m n ≡ over k n) → (gs : List ℕ) (l : Whole) → marked m gs l ≡ marked k gs l
marked_before m k h gs l = turn_same (mark_content m) (mark_content k) (λ g w. turn_same (mark_new m g) (mark_new k g) (λ n w.
    ap (λ o. cond (is_one_number o (Some g)) w (renew n (with_mark (Some w.next)) (draw_number w))) (h n)) (content w g) w) gs (each_in_turn unmark (all_numbers l) l)

module _ (m : Whole) (c : Command) (n : ℕ) (g : Node → Node) (keeps : KeepsAll g) (after : Shape (renew n g m)) (shape : Shape m)
    (is : (k : Whole) → edited m c k ≡ filter (λ g. is_linked k g && among g (flat_map (edits m c) (named c))) (all_numbers m))
    (content : (h : ℕ) → is_linked m h ≡ true → (h ∈ flat_map (edits m c) (named c) → ⊥) → SameContent h m (renew n g m)) where
  k : Whole
  k = renew n g m

  gs : List ℕ
  gs = filter (λ a. is_linked (renew n g m) a && among a (flat_map (edits m c) (named c))) (all_numbers m)

  placed : Placed (renew n g m)
  placed = placed_of after.standing

  comes : Comes (format_of (renew n g m)) (renew n g m) (renew n g m)
  comes = comes_itself (format_of (renew n g m)) (renew n g m) after.numbers.nodes

  pruned : prune m c (renew n g m) ≡ renew n g m
  pruned = prune_none m c (renew n g m) (λ q. not_emptied m (renew n g m) q (λ had j i s. had (sym (same_children (renew_alike m n g keeps) q) ∙ s)))

  linked_gs : (a : ℕ) → a ∈ filter (λ a. is_linked (renew n g m) a && among a (flat_map (edits m c) (named c))) (all_numbers m) → is_linked (renew n g m) a ≡ true
  linked_gs a i = (and_parts (is_linked (renew n g m) a) (among a (flat_map (edits m c) (named c))) (filter_member (λ a. is_linked (renew n g m) a && among a (flat_map (edits m c) (named c))) a (all_numbers m) i).1).0

  once_gs : (a : ℕ) → tally a (filter (λ a. is_linked (renew n g m) a && among a (flat_map (edits m c) (named c))) (all_numbers m)) ≤ 1
  once_gs a = le_then (tally-filter (λ a. is_linked (renew n g m) a && among a (flat_map (edits m c) (named c))) a (all_numbers m)) (numbers_once m.next a)
    where
      le_then : {a b : ℕ} → a ≤ b → b ≤ 1 → a ≤ 1
      le_then e f = omega arith

  same : before_spread m c (renew n g m) ≡ Rattle.link_laws.proofs.Remarked.M (renew n g m) (renew n g m) (filter (λ a. is_linked (renew n g m) a && among a (flat_map (edits m c) (named c))) (all_numbers m)) after placed comes after.marks.not_nested linked_gs once_gs (λ h l out. same_itself h (renew n g m))
  same = ap (λ p. marked m (edited m c p) p) pruned ∙ ap (λ l. marked m l (renew n g m)) (is (renew n g m))
      ∙ marked_before m (renew n g m) (λ q. sym (same_over (renew_alike m n g keeps) q)) (filter (λ a. is_linked (renew n g m) a && among a (flat_map (edits m c) (named c))) (all_numbers m)) (renew n g m)
      ∙ remarked (renew n g m) (renew n g m) (filter (λ a. is_linked (renew n g m) a && among a (flat_map (edits m c) (named c))) (all_numbers m)) after placed comes after.marks.not_nested linked_gs once_gs (λ h l out. same_itself h (renew n g m))

  alike : Alike m (renew n g m)
  alike = renew_alike m n g keeps

  edited_is : edited m c (prune m c (renew n g m)) ≡ (filter (λ a. is_linked (renew n g m) a && among a (flat_map (edits m c) (named c))) (all_numbers m))
  edited_is = ap (edited m c) pruned ∙ is (renew n g m)

  all_links : (q : ℕ) → link_at (before_spread m c (renew n g m)) q ≡ link_at m q
  all_links q = ap (λ x. link_at x q) same ∙ same_links (all_marked (renew n g m) (renew n g m) (filter (λ a. is_linked (renew n g m) a && among a (flat_map (edits m c) (named c))) (all_numbers m)) after placed comes after.marks.not_nested linked_gs once_gs (λ h l out. same_itself h (renew n g m))) q ∙ alike.links q

  all_sets : (q : ℕ) → set_at (before_spread m c (renew n g m)) q ≡ set_at m q
  all_sets q = ap (option_map (λ l. l.set)) (all_links q)

  all_linked : (q : ℕ) → is_linked (before_spread m c (renew n g m)) q ≡ is_linked m q
  all_linked q = linked_is (before_spread m c (renew n g m)) q ∙ ap is_some (all_links q) ∙ sym (linked_is m q)

  number : (h : ℕ) → is_linked m h ≡ true → h ∈ all_numbers m
  number h l = elim (cases_lt h m.next) [
    | inl lt ↦ tally-member h (all_numbers m) (omega (arith, tally-numbers_in 0 m.next h (omega arith) (omega arith)))
    | inr far ↦ absurd (not_none (group_linked m h l) (ap (option_map kind_of) (shape.numbers.nodes h far)))
  ]

  linked_k : (h : ℕ) → is_linked m h ≡ true → is_linked (renew n g m) h ≡ true
  linked_k h l = linked_is (renew n g m) h ∙ ap is_some (alike.links h) ∙ sym (linked_is m h) ∙ l

  out_of : (h : ℕ) → is_linked m h ≡ true → (h ∈ edited m c (prune m c (renew n g m)) → ⊥) → h ∈ flat_map (edits m c) (named c) → ⊥
  out_of h l out i = out (subst (λ x. h ∈ x) (sym edited_is) (member_filter (λ a. is_linked (renew n g m) a && among a (flat_map (edits m c) (named c))) h (all_numbers m) (number h l)
      (and_from (is_linked (renew n g m) h) (among h (flat_map (edits m c) (named c))) (linked_k h l) (member_among h (flat_map (edits m c) (named c)) i))))

  unchanged : (h : ℕ) → is_linked m h ≡ true → (h ∈ edited m c (prune m c (renew n g m)) → ⊥) → Unchanged m (before_spread m c (renew n g m)) h
  unchanged h l out =
      let s = content h l (out_of h l out) in
      let u = spared_after (renew n g m) (renew n g m) (filter (λ a. is_linked (renew n g m) a && among a (flat_map (edits m c) (named c))) (all_numbers m)) after placed comes after.marks.not_nested linked_gs once_gs (λ h l out. same_itself h (renew n g m)) h (linked_k h l) (λ i. out (subst (λ x. h ∈ x) (sym edited_is) i)) in
      let root = rooted_at m (placed_of shape.standing) shape.numbers.nodes h group (group_linked m h l) in
      let listed : content_at (renew n g m) h ≡ content_at m h = same_content s (planted (placed_of shape.standing)) (chains m (planted (placed_of shape.standing)) shape.numbers.nodes) root (omega (arith, alike.next)) in
      subst (λ x. Unchanged m x h) (sym same) (record {
        linked = l;
        listed = u.listed ∙ listed;
        nodes = λ q i. u.nodes q (subst (λ x. q ∈ x) (sym listed) i) ∙ (let w = from_content m (placed_of shape.standing) shape.numbers.nodes h root q i in s.nodes q w.0 w.1);
        lists = λ b. u.lists b ∙ s.lists b;
        link = u.link ∙ alike.links h;
      })

  named_over : (g2 : ℕ) → g2 ∈ edited m c (prune m c (renew n g m)) → (is_linked (renew n g m) g2 ≡ true) × (g2 ∈ flat_map (edits m c) (named c))
  named_over g2 i =
      let w = and_parts (is_linked (renew n g m) g2) (among g2 (flat_map (edits m c) (named c)))
      (filter_member (λ a. is_linked (renew n g m) a && among a (flat_map (edits m c) (named c))) g2 (all_numbers m) (subst (λ l. g2 ∈ l) edited_is i)).1 in
      (w.0, among_member g2 (flat_map (edits m c) (named c)) w.1)

  -- The edited groups can be spread.
  pub renewed_spread : AllOne m → ((g h t : ℕ) → g ∈ flat_map (edits m c) (named c) → h ∈ flat_map (edits m c) (named c) → set_at m g ≡ Some t → set_at m h ≡ Some t → g ≡ h) →
      (before_spread m c (renew n g m)).next ≤ 65536 → ToSpread (before_spread m c (renew n g m)) (edited m c (prune m c (renew n g m)))
  renewed_spread all one_edited most = record {
    shape = subst Shape (sym same) (shape_after (renew n g m) (renew n g m) (filter (λ a. is_linked (renew n g m) a && among a (flat_map (edits m c) (named c))) (all_numbers m)) after placed comes after.marks.not_nested linked_gs once_gs (λ h l out. same_itself h (renew n g m)) (λ g is none. after.standing.no_empty_group g is none) (subst (λ x. x ≤ 65536) (ap (λ x. x.next) same) most));
    linked = λ g2 i. all_linked g2 ∙ sym (linked_is (renew n g m) g2 ∙ ap is_some (alike.links g2) ∙ sym (linked_is m g2)) ∙ (named_over g2 i).0;
    distinct = subst Once (sym edited_is) (once_by (filter (λ a. is_linked (renew n g m) a && among a (flat_map (edits m c) (named c))) (all_numbers m)) once_gs);
    apart = λ x y i j e. let w = linked_set (renew n g m) x (named_over x i).0 in
        let own : set_at m x ≡ Some w.0 = sym (ap (option_map (λ l. l.set)) (alike.links x)) ∙ w.1 in
        one_edited x y w.0 (named_over x i).1 (named_over y j).1 own (sym (all_sets y) ∙ sym e ∙ all_sets x ∙ own);
    one = λ s h j e f ne oh oj.
        let lh = set_linked m h s (sym (all_sets h) ∙ e) in let lj = set_linked m j s (sym (all_sets j) ∙ f) in
        still_one m (before_spread m c (renew n g m)) h j (unchanged h lh oh) (unchanged j lj oj)
        (group_linked (before_spread m c (renew n g m)) h (all_linked h ∙ lh)) (group_linked (before_spread m c (renew n g m)) j (all_linked j ∙ lj))
        (all s h j (sym (all_sets h) ∙ e) (sym (all_sets j) ∙ f) ne);
  }
