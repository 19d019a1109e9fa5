-- The map from which edited groups are spread has its shape, command by command.
use Rattle.std.proofs.Common.{Option, ◌≡◌, ◌≢◌, ℕ, ◌≤◌, List, [], flat_map, true, ◌&&◌, inl, inr, refl, ap, sym, ◌∙◌, subst, arith, Some, None, option_map, filter}
use Rattle.std.specs.Prelude.{option_to_list, is_none, is_some}
use Rattle.std.proofs.lemmas.Bool.{cases_lt, and_parts, and_from}
use Rattle.algebra.specs.Members.{◌∈◌}
use Rattle.map_model.specs.Tree.{Whole, Link, Kind, link_at, set_at, at, group, up, over, children, among, is_linked, is_kind, kind_of, format_of, all_numbers, numbers_from}
use Rattle.map_model.specs.Shape.{Shape}
use Rattle.map_model.specs.Below.{Below}
use Rattle.map_model.specs.Apply.{prune, edited, marked, before_spread, empty_link, is_emptied}
use Rattle.map_model.specs.Commands.{Command, Settings}
use Rattle.map_model.specs.Replies.{EmptyLink, NoNode}
use Rattle.map_model.specs.Rows.{named, no_node, edits, rows, first, refuse, at_each}
use Rattle.map_laws.specs.Placed.{Placed}
use Rattle.map_laws.proofs.Lists.{tally, tally-member}
use Rattle.map_laws.proofs.Beneath.{Beneath}
use Rattle.map_laws.proofs.Forest.{not_none}
use Rattle.map_laws.proofs.Skeleton.{kind_at, planted, placed_of, not_both, is_kind_by}
use Rattle.map_laws.proofs.Slots.{member_among, among_member}
use Rattle.map_laws.proofs.Placing.{chains}
use Rattle.map_laws.proofs.Replacing.{tally-numbers_in, tally-numbers_out}
use Rattle.map_laws.proofs.Pruning.{emptied_by}
use Rattle.map_laws.proofs.Kept.{old_set}
use Rattle.map_laws.proofs.Refused.{first_none, each_none, refuse_none}
use Rattle.map_laws.proofs.Pruned.{Pruned, in_chain, rooted_at}
use Rattle.link_laws.proofs.Moves.{live_kind}
use Rattle.map_laws.proofs.Renewing.{linked_is}
use Rattle.link_laws.proofs.Contents.{SameContent}
use Rattle.link_laws.proofs.Edited.{group_linked, in_option}
use Rattle.link_laws.proofs.Untouched.{over_is}
use Rattle.link_laws.proofs.Filtering.{tally-filter, filter_member, member_filter}
use Rattle.link_laws.proofs.Remarked.{remarked, shape_after, spared_after, all_marked, Unchanged}
use Rattle.link_laws.proofs.MarkSteps.{same_linked, same_links}
use Rattle.link_laws.proofs.Pairs.{Once, once_by}
use Rattle.link_laws.proofs.SpreadOne.{set_linked}
use Rattle.link_laws.proofs.SpreadEach.{ToSpread}
use Rattle.link_laws.proofs.Others.{still_one}
use Rattle.map_model.specs.Links.{One, AllOne}
use Rattle.link_laws.proofs.Nested.{linked_before, apart_by}

-- A linked group has a set.
pub linked_set : (m : Whole) (g : ℕ) → is_linked m g ≡ true → (s : ℕ) × (set_at m g ≡ Some s)
linked_set m g l = by (link_at m g) (sym (linked_is m g) ∙ l)
  where
    by : (o : Option Link) → is_some o ≡ true → (s : ℕ) × (option_map (λ l. l.set) o ≡ Some s)
    by None e = absurd (cc)
    by (Some x) e = (x.set, refl)

-- What is known of the map k that a command's own changes make of m.
pub record Result (m : Whole) (c : Command) (k : Whole) : Type 0 where
  pub pruned : Pruned (format_of m) m c k
  pub content : (h : ℕ) → is_linked m h ≡ true → (h ∈ flat_map (edits m c) (named c) → ⊥) → (j : Kind) → kind_at (prune m c k) h ≡ Some j → SameContent h m (prune m c k)
  pub before : (h g : ℕ) → is_linked m h ≡ true → is_linked m g ≡ true → Beneath (up (prune m c k)) h g → Beneath (up m) h g

pub numbers_once : (n q : ℕ) → tally q (numbers_from 0 n) ≤ 1
numbers_once n q = elim (cases_lt q n) [ inl lt ↦ omega (arith, tally-numbers_in 0 n q (omega arith) (omega arith)) | inr far ↦ omega (arith, tally-numbers_out 0 n q (inr (omega arith))) ]

-- The named nodes are there.
pub named_rooted : (b : Below) (s : Settings) (m : Whole) (c : Command) → Shape m → first (rows b s m c) ≡ None → (n : ℕ) → n ∈ named c → Beneath (up m) 0 n
named_rooted b s m c shape none n i =
    let row = refuse_none (is_none (at m n)) (NoNode n) (each_none (named c) (λ n. refuse (is_none (at m n)) (NoNode n)) (first_none (no_node m c) _ none).0 n i) in
    let k = live_kind m n row in
    rooted_at m (placed_of shape.standing) shape.numbers.nodes n k.0 k.1

module _ (m : Whole) (c : Command) (k : Whole) (shape : Shape m) (rooted : (n : ℕ) → n ∈ named c → Beneath (up m) 0 n) (r : Result m c k)
    (is : edited m c (prune m c k) ≡ filter (λ g. is_linked (prune m c k) g && among g (flat_map (edits m c) (named c))) (all_numbers m)) where
  abbrev P : Whole
  P = prune m c k

  es : List ℕ
  es = flat_map (edits m c) (named c)

  abbrev gs : List ℕ
  gs = filter (λ g. is_linked (prune m c k) g && among g (flat_map (edits m c) (named c))) (all_numbers m)

  placed_m : Placed m
  placed_m = placed_of shape.standing

  apart : (g : ℕ) → is_linked (prune m c k) g ≡ true → over (prune m c k) g ≡ None
  apart = apart_by m (prune m c k) shape r.pruned.placed r.pruned.comes
      (λ h g lh lg ne b. r.before h g (linked_before m (prune m c k) r.pruned.comes h lh) (linked_before m (prune m c k) r.pruned.comes g lg) b)

  linked_gs : (g : ℕ) → g ∈ filter (λ g. is_linked (prune m c k) g && among g (flat_map (edits m c) (named c))) (all_numbers m) → is_linked (prune m c k) g ≡ true
  linked_gs g i = (and_parts (is_linked (prune m c k) g) (among g (flat_map (edits m c) (named c)))
      (filter_member (λ g. is_linked (prune m c k) g && among g (flat_map (edits m c) (named c))) g (all_numbers m) i).1).0

  once_gs : (g : ℕ) → tally g (filter (λ g. is_linked (prune m c k) g && among g (flat_map (edits m c) (named c))) (all_numbers m)) ≤ 1
  once_gs g = le_then (tally-filter (λ g. is_linked (prune m c k) g && among g (flat_map (edits m c) (named c))) g (all_numbers m)) (numbers_once m.next g)
    where
      le_then : {a b : ℕ} → a ≤ b → b ≤ 1 → a ≤ 1
      le_then e f = omega arith

  number : (h : ℕ) → is_linked m h ≡ true → h ∈ all_numbers m
  number h l = elim (cases_lt h m.next) [
    | inl lt ↦ tally-member h (all_numbers m) (omega (arith, tally-numbers_in 0 m.next h (omega arith) (omega arith)))
    | inr far ↦ absurd (not_none (group_linked m h l) (ap (option_map kind_of) (shape.numbers.nodes h far)))
  ]

  spared : (h : ℕ) → is_linked (prune m c k) h ≡ true → (h ∈ filter (λ g. is_linked (prune m c k) g && among g (flat_map (edits m c) (named c))) (all_numbers m) → ⊥) → SameContent h m (prune m c k)
  spared h l out =
      let lm = linked_before m (prune m c k) r.pruned.comes h l in
      r.content h lm (λ i. out (member_filter (λ g. is_linked (prune m c k) g && among g (flat_map (edits m c) (named c))) h (all_numbers m) (number h lm)
      (and_from (is_linked (prune m c k) h) (among h (flat_map (edits m c) (named c))) l (member_among h (flat_map (edits m c) (named c)) i)))) group (group_linked (prune m c k) h l)

  full : empty_link m c (prune m c k) ≡ None → (g : ℕ) → is_kind (prune m c k) group g ≡ true → children (prune m c k) g ≡ [] → ⊥
  full empty g is_g none =
      let w = r.pruned.empties g is_g none in
      let lm = linked_before m (prune m c k) r.pruned.comes g w.0 in
      let a = in_chain m placed_m shape.numbers.nodes (named c) rooted g w.1 in
      let o = over_is m (chains m (planted placed_m) shape.numbers.nodes) shape.marks.not_nested g a.0 a.1 (rooted a.0 a.2) a.3 a.4 lm in
      let row = each_none (option_to_list (over m a.0)) (λ g. refuse (is_emptied m (prune m c k) g) (EmptyLink g))
      (each_none (named c) (λ n. at_each (option_to_list (over m n)) (λ g. refuse (is_emptied m (prune m c k) g) (EmptyLink g))) empty a.0 a.2) g (in_option (over m a.0) g o) in
      not_both (is_emptied m (prune m c k) g)
      (emptied_by m (prune m c k) g is_g (shape.standing.no_empty_group g (is_kind_by m group g (group_linked m g lm))) none)
      (refuse_none (is_emptied m (prune m c k) g) (EmptyLink g) row)

  same : before_spread m c k ≡ Rattle.link_laws.proofs.Remarked.M m (prune m c k) (filter (λ g. is_linked (prune m c k) g && among g (flat_map (edits m c) (named c))) (all_numbers m)) shape r.pruned.placed r.pruned.comes apart linked_gs once_gs spared
  same = ap (λ l. marked m l (prune m c k)) is ∙ remarked m (prune m c k) (filter (λ g. is_linked (prune m c k) g && among g (flat_map (edits m c) (named c))) (all_numbers m)) shape r.pruned.placed r.pruned.comes apart linked_gs once_gs spared

  marked_shape : empty_link m c (prune m c k) ≡ None → (before_spread m c k).next ≤ 65536 → Shape (before_spread m c k)
  marked_shape empty most =
      subst Shape (sym same) (shape_after m P gs shape r.pruned.placed r.pruned.comes apart linked_gs once_gs spared (full empty) (subst (λ n. n ≤ 65536) (ap (λ x. x.next) same) most))

  -- A linked group that isn't edited has its content as before.
  unchanged : (h : ℕ) → is_linked (before_spread m c k) h ≡ true → (h ∈ edited m c (prune m c k) → ⊥) → Unchanged m (before_spread m c k) h
  unchanged h l out =
      subst (λ x. Unchanged m x h) (sym same) (spared_after m P gs shape r.pruned.placed r.pruned.comes apart linked_gs once_gs spared h
      (sym (same_linked (all_marked m P gs shape r.pruned.placed r.pruned.comes apart linked_gs once_gs spared) h) ∙ ap (λ x. is_linked x h) (sym same) ∙ l)
      (λ i. out (subst (λ x. h ∈ x) (sym is) i)))

  all_links : (q : ℕ) → link_at (before_spread m c k) q ≡ link_at (prune m c k) q
  all_links q = ap (λ x. link_at x q) same ∙ same_links (all_marked m P gs shape r.pruned.placed r.pruned.comes apart linked_gs once_gs spared) q

  set_before : (q s : ℕ) → set_at (before_spread m c k) q ≡ Some s → set_at m q ≡ Some s
  set_before q s e = old_set r.pruned.comes q s (sym (ap (option_map (λ l. l.set)) (all_links q)) ∙ e)

  linked_all : (g : ℕ) → g ∈ edited m c (prune m c k) → is_linked (before_spread m c k) g ≡ true
  linked_all g i = linked_is (before_spread m c k) g ∙ ap is_some (all_links g) ∙ sym (linked_is (prune m c k) g) ∙ linked_gs g (subst (λ l. g ∈ l) is i)

  named_over : (g : ℕ) → g ∈ edited m c (prune m c k) → g ∈ flat_map (edits m c) (named c)
  named_over g i = among_member g (flat_map (edits m c) (named c)) (and_parts (is_linked (prune m c k) g) (among g (flat_map (edits m c) (named c)))
      (filter_member (λ g. is_linked (prune m c k) g && among g (flat_map (edits m c) (named c))) g (all_numbers m) (subst (λ l. g ∈ l) is i)).1).1

  -- A linked group that isn't edited stands over no named node.
  out_of : (h : ℕ) → is_linked (before_spread m c k) h ≡ true → (h ∈ edited m c (prune m c k) → ⊥) → h ∈ flat_map (edits m c) (named c) → ⊥
  out_of h l out i =
      let lp : is_linked (prune m c k) h ≡ true = linked_is (prune m c k) h ∙ ap is_some (sym (all_links h)) ∙ sym (linked_is (before_spread m c k) h) ∙ l in
      out (subst (λ x. h ∈ x) (sym is) (member_filter (λ g. is_linked (prune m c k) g && among g (flat_map (edits m c) (named c))) h (all_numbers m) (number h (linked_before m (prune m c k) r.pruned.comes h lp))
      (and_from (is_linked (prune m c k) h) (among h (flat_map (edits m c) (named c))) lp (member_among h (flat_map (edits m c) (named c)) i))))

  -- The edited groups can be spread, where each two members of a set that aren't edited are one content.
  pub to_spread_from : ((s h j : ℕ) → set_at m h ≡ Some s → set_at m j ≡ Some s → h ≢ j → (h ∈ flat_map (edits m c) (named c) → ⊥) → (j ∈ flat_map (edits m c) (named c) → ⊥) → One m h j) →
      ((g h t : ℕ) → g ∈ flat_map (edits m c) (named c) → h ∈ flat_map (edits m c) (named c) → set_at m g ≡ Some t → set_at m h ≡ Some t → g ≡ h) →
      empty_link m c (prune m c k) ≡ None → (before_spread m c k).next ≤ 65536 → ToSpread (before_spread m c k) (edited m c (prune m c k))
  to_spread_from all one_edited empty most = record {
    shape = marked_shape empty most;
    linked = linked_all;
    distinct = subst Once (sym is) (once_by gs once_gs);
    apart = λ g h i j e. let w = linked_set (before_spread m c k) g (linked_all g i) in
        one_edited g h w.0 (named_over g i) (named_over h j) (set_before g w.0 w.1) (set_before h w.0 (sym e ∙ w.1));
    one = λ s h j e f ne oh oj.
        let lh = set_linked (before_spread m c k) h s e in let lj = set_linked (before_spread m c k) j s f in
        still_one m (before_spread m c k) h j (unchanged h lh oh) (unchanged j lj oj)
        (group_linked (before_spread m c k) h lh) (group_linked (before_spread m c k) j lj)
        (all s h j (set_before h s e) (set_before j s f) ne (out_of h lh oh) (out_of j lj oj));
  }

  -- So they can where all members are.
  pub to_spread : AllOne m → ((g h t : ℕ) → g ∈ flat_map (edits m c) (named c) → h ∈ flat_map (edits m c) (named c) → set_at m g ≡ Some t → set_at m h ≡ Some t → g ≡ h) →
      empty_link m c (prune m c k) ≡ None → (before_spread m c k).next ≤ 65536 → ToSpread (before_spread m c k) (edited m c (prune m c k))
  to_spread all = to_spread_from (λ s h j e f ne oh oj. all s h j e f ne)
