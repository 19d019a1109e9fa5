-- A command that spreads no group, from a map that keeps the sets.
use Rattle.std.proofs.Common.{◌≡◌, ℕ, ◌≤◌, [], true, ap, sym, ◌∙◌, subst, arith, option_map}
use Rattle.std.specs.Prelude.{is_some}
use Rattle.algebra.specs.Members.{◌∈◌}
use Rattle.map_model.specs.Tree.{Whole, is_linked, link_at, set_at, format_of}
use Rattle.map_model.specs.Shape.{Shape}
use Rattle.map_model.specs.Links.{AllOne}
use Rattle.map_model.specs.Commands.{Command}
use Rattle.map_model.specs.Apply.{prune, edited, marked, before_spread}
use Rattle.map_laws.specs.Placed.{Placed}
use Rattle.map_laws.proofs.Lists.{tally}
use Rattle.map_laws.proofs.Skeleton.{placed_of}
use Rattle.map_laws.proofs.Kept.{Comes, comes_itself}
use Rattle.map_laws.proofs.Renewing.{linked_is}
use Rattle.link_laws.proofs.Contents.{same_itself}
use Rattle.link_laws.proofs.Edited.{group_linked}
use Rattle.link_laws.proofs.Remarked.{Unchanged, remarked, shape_after, spared_after, all_marked}
use Rattle.link_laws.proofs.MarkSteps.{same_links}
use Rattle.link_laws.proofs.Others.{still_one}
use Rattle.link_laws.proofs.SpreadOne.{set_linked}
use Rattle.link_laws.proofs.SpreadEach.{ToSpread}

module _ (m k : Whole) (c : Command) (shape : Shape k) (all : AllOne k) (unpruned : prune m c k ≡ k) (none : edited m c k ≡ []) where
  placed : Placed k
  placed = placed_of shape.standing

  comes : Comes (format_of k) k k
  comes = comes_itself (format_of k) k shape.numbers.nodes

  no_member : (g : ℕ) → g ∈ [] → is_linked k g ≡ true
  no_member g i = elim i [ ]

  no_count : (g : ℕ) → tally g [] ≤ 1
  no_count g = omega arith

  same : before_spread m c k ≡ Rattle.link_laws.proofs.Remarked.M k k [] shape placed comes shape.marks.not_nested no_member no_count (λ h l out. same_itself h k)
  same = ap (λ p. marked m (edited m c p) p) unpruned ∙ ap (λ gs. marked m gs k) none ∙ remarked k k [] shape placed comes shape.marks.not_nested no_member no_count (λ h l out. same_itself h k)

  none_edited : edited m c (prune m c k) ≡ []
  none_edited = ap (edited m c) unpruned ∙ none

  links : (q : ℕ) → link_at (before_spread m c k) q ≡ link_at k q
  links q = ap (λ x. link_at x q) same ∙ same_links (all_marked k k [] shape placed comes shape.marks.not_nested no_member no_count (λ h l out. same_itself h k)) q

  sets : (q : ℕ) → set_at (before_spread m c k) q ≡ set_at k q
  sets q = ap (option_map (λ l. l.set)) (links q)

  linked : (q : ℕ) → is_linked (before_spread m c k) q ≡ is_linked k q
  linked q = linked_is (before_spread m c k) q ∙ ap is_some (links q) ∙ sym (linked_is k q)

  pub plain_spread : (before_spread m c k).next ≤ 65536 → ToSpread (before_spread m c k) (edited m c (prune m c k))
  plain_spread most = subst (ToSpread (before_spread m c k)) (sym none_edited) (record {
    shape = subst Shape (sym same) (shape_after k k [] shape placed comes shape.marks.not_nested no_member no_count (λ h l out. same_itself h k)
        (λ g is none. shape.standing.no_empty_group g is none) (subst (λ x. x ≤ 65536) (ap (λ x. x.next) same) most));
    linked = λ g i. elim i [ ];
    distinct = tt;
    apart = λ g h i j e. elim i [ ];
    one = λ s h j e f ne oh oj.
        let lh = set_linked k h s (sym (sets h) ∙ e) in let lj = set_linked k j s (sym (sets j) ∙ f) in
        still_one k (before_spread m c k) h j (unchanged h lh) (unchanged j lj)
        (group_linked (before_spread m c k) h (linked h ∙ lh)) (group_linked (before_spread m c k) j (linked j ∙ lj))
        (all s h j (sym (sets h) ∙ e) (sym (sets j) ∙ f) ne);
  })
    where
      unchanged : (h : ℕ) → is_linked k h ≡ true → Unchanged k (before_spread m c k) h
      unchanged h l = subst (λ x. Unchanged k x h) (sym same)
          (spared_after k k [] shape placed comes shape.marks.not_nested no_member no_count (λ h l out. same_itself h k) h l (λ i. elim i [ ]))
