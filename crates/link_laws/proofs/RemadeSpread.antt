-- A command that remakes the brushes that it names: the map from which edited groups are spread.
use Rattle.std.proofs.Common.{◌≡◌, ℕ, ◌<◌, ◌≤◌, [], ◌∷◌, flat_map, length, true, cond, not, ◌==◌, ◌&&◌, ◌||◌, ap, sym, ◌∙◌, subst, arith, Some, None, filter, inl, inr}
use Rattle.std.specs.Prelude.{option_to_list, option_and_then}
use Rattle.std.proofs.lemmas.Bool.{cases_lt}
use Rattle.algebra.specs.Members.{◌∈◌}
use Rattle.map_model.specs.Tree.{Whole, Kind, group, entity, brush, at, up, above, over, children, among, is_linked, is_kind, parent_of, set_at, all_numbers, format_of}
use Rattle.map_model.specs.Edits.{each_in_turn, take_out, forget}
use Rattle.map_model.specs.Shape.{Shape}
use Rattle.map_model.specs.Links.{AllOne}
use Rattle.map_model.specs.Commands.{Command}
use Rattle.map_model.specs.Replies.{EmptyLink}
use Rattle.map_model.specs.Rows.{named, edits, refuse, at_each}
use Rattle.map_model.specs.Apply.{prune, edited, marked, before_spread, empty_link, is_emptied, drop_emptied}
use Rattle.map_laws.specs.Placed.{Placed, Bounded}
use Rattle.map_laws.proofs.Lists.{flat-agree}
use Rattle.map_laws.proofs.Beneath.{Beneath, itself, under, some_one}
use Rattle.map_laws.proofs.Fuel.{Chains, parent_rooted}
use Rattle.map_laws.proofs.Forest.{not_none}
use Rattle.map_laws.proofs.Skeleton.{kind_at, planted, placed_of, is_kind_by, not_both}
use Rattle.map_laws.proofs.Placing.{chains, no_slot}
use Rattle.map_laws.proofs.Holding.{kind_p}
use Rattle.map_laws.proofs.Pruning.{emptied_by}
use Rattle.map_laws.proofs.Pruned.{chain_list, in_chain, rooted_at, rooted_child, above_live}
use Rattle.map_laws.proofs.Refused.{each_none, refuse_none}
use Rattle.map_laws.proofs.Kept.{Comes}
use Rattle.map_laws.proofs.Renewing.{Alike, same_above, same_children, same_over, same_set, same_linked}
use Rattle.link_laws.proofs.Contents.{SameContent, same_by, same_content}
use Rattle.link_laws.proofs.Edited.{group_linked, in_option, not_over_by}
use Rattle.link_laws.proofs.Untouched.{Unedited, not_beneath, not_parent, not_chain, over_is}
use Rattle.link_laws.proofs.Putting.{from_content}
use Rattle.link_laws.proofs.Remarked.{Unchanged}
use Rattle.link_laws.proofs.Others.{still_one}
use Rattle.link_laws.proofs.SpreadOne.{set_linked}
use Rattle.link_laws.proofs.SpreadEach.{ToSpread}
use Rattle.link_laws.proofs.BeforeSpread.{Result, to_spread_from}
use Rattle.link_laws.proofs.RenewedSpread.{turn_same, marked_before}
use Rattle.link_laws.proofs.Erasing.{erase, erased_is, erased_children}
use Rattle.link_laws.proofs.ErasedPruning.{prune_stems, prune_leaves, prune_erased}
use Rattle.link_laws.proofs.Stems.{KeepsStems, stems_then, ups_kept, linked_kept}
use Rattle.link_laws.proofs.Refaced.{reface, reface_itself, refaced, refaced_alike, refaced_shape, refaced_comes, placed}
use Rattle.link_laws.proofs.BrushEdits.{BrushEdit, IsBrushNumber}

-- Pruning looks at the map before for children and for what stands above.
prune_alike : (m B : Whole) → Alike m B → (c : Command) (k : Whole) → prune B c k ≡ prune m c k
prune_alike m B a c k = turn_same (λ n. each_in_turn (drop_emptied B) (above B n)) (λ n. each_in_turn (drop_emptied m) (above m n))
    (λ n w. ap (λ l. each_in_turn (drop_emptied B) l w) (same_above a n) ∙ turn_same (drop_emptied B) (drop_emptied m) drop (above m n) w) (named c) k
  where
    drop : (q : ℕ) (w : Whole) → drop_emptied B q w ≡ drop_emptied m q w
    drop q w = ap (λ l. cond (((is_kind w entity q || is_kind w group q) && (not (length l == 0) && (length (children w q) == 0))) && not (is_linked w q)) (forget (q ∷ []) (take_out q w)) w) (same_children a q)

empty_alike : (m B : Whole) → Alike m B → (c : Command) (p : Whole) → empty_link B c p ≡ empty_link m c p
empty_alike m B a c p = λ i. at_each (named c) (λ n. at_each (option_to_list (same_over a n i)) (λ g.
    refuse ((is_kind p entity g || is_kind p group g) && (not (length (same_children a g i) == 0) && (length (children p g) == 0))) (EmptyLink g)))

module _ (m : Whole) (c : Command) (e : Whole → Whole) (shape : Shape m) (d : BrushEdit (λ n. n ∈ named c) e) (brushes : (n : ℕ) → n ∈ named c → kind_at m n ≡ Some brush)
    (own : (x : Whole) (n : ℕ) → edits x c n ≡ option_to_list (over x n))
    (is : (x p : Whole) → edited x c p ≡ filter (λ g. is_linked p g && among g (flat_map (edits x c) (named c))) (all_numbers x)) where
  bound : Bounded m
  bound = shape.numbers.nodes

  standing : Placed m
  standing = placed_of shape.standing

  ch : Chains m
  ch = chains m (planted standing) bound

  rooted : (n : ℕ) → n ∈ named c → Beneath (up m) 0 n
  rooted n i = rooted_at m standing bound n brush (brushes n i)

  low : (q : ℕ) (j : Kind) → kind_at m q ≡ Some j → q < m.next
  low q j f = elim (cases_lt q m.next) [ inl lt ↦ lt | inr far ↦ absurd (not_none f (no_slot (at m q) (bound q far))) ]

  numbers : (n : ℕ) → n ∈ named c → IsBrushNumber m n
  numbers n i = record { low = low n brush (brushes n i); only = λ j f. some_one f (brushes n i) }

  pub stems : KeepsStems m (prune m c (e m))
  stems = let s = d.stems m bound in stems_then s (prune_stems m c (e m) s.past)

  linked_low : (h : ℕ) → is_linked m h ≡ true → h < m.next
  linked_low h l = low h group (group_linked m h l)

  -- What stands beneath a linked group that isn't edited stays.
  unedited : (h : ℕ) → is_linked m h ≡ true → (h ∈ flat_map (edits m c) (named c) → ⊥) → Unedited m h (named c)
  unedited h l out = record { linked = l; not_over = not_over_by m h (edits m c) (named c) (λ a f. subst (λ x. h ∈ x) (sym (own m a)) (in_option (over m a) h f)) out }

  chain_low : (n : ℕ) → n ∈ chain_list m c → n < m.next
  chain_low n i =
      let a = in_chain m standing bound (named c) rooted n i in
      let j = above_live m standing bound n a.1 (parent_rooted ch a.1 (rooted_child m standing bound a.0 a.1 a.3) a.3) a.4 in
      low n j.0 j.1

  left : (h : ℕ) → is_linked m h ≡ true → (h ∈ flat_map (edits m c) (named c) → ⊥) → (q : ℕ) → Beneath (up m) h q → at (prune m c (e m)) q ≡ at m q
  left h l out q w =
      let u = unedited h l out in
      prune_leaves m (e m) c q (d.stems m bound) chain_low (λ i. not_chain m standing bound shape.marks h (named c) u rooted q i w)
      (λ n i f. not_chain m standing bound shape.marks h (named c) u rooted n i (under n q f w))
      ∙ d.leaves m bound numbers q (below q w) (λ i. not_beneath m standing bound shape.marks h (named c) u rooted q i w (λ s. no_group (some_one (brushes q i) (ap (kind_at m) s ∙ group_linked m h l))))
      (λ n i f. not_parent m standing bound shape.marks h (named c) u rooted n q i f w)
    where
      no_group : brush ≡ group → ⊥
      no_group f = cc

      below : (q : ℕ) → Beneath (up m) h q → q < m.next
      below q itself = linked_low h l
      below q (under t p f b) = elim (cases_lt q m.next) [ inl lt ↦ lt | inr far ↦ absurd (not_none f (ap (option_and_then parent_of) (bound q far))) ]

  -- No linked group is emptied.
  full : empty_link m c (prune m c (e m)) ≡ None → (g : ℕ) → g ∈ chain_list m c → is_linked (prune m c (e m)) g ≡ true → children (prune m c (e m)) g ≡ [] → ⊥
  full empty g i l none =
      let a = in_chain m standing bound (named c) rooted g i in
      let lm = linked_kept stems g (chain_low g i) l in
      let o = over_is m ch shape.marks.not_nested g a.0 a.1 (rooted a.0 a.2) a.3 a.4 lm in
      let row = each_none (option_to_list (over m a.0)) (λ g. refuse (is_emptied m (prune m c (e m)) g) (EmptyLink g))
      (each_none (named c) (λ n. at_each (option_to_list (over m n)) (λ g. refuse (is_emptied m (prune m c (e m)) g) (EmptyLink g))) empty a.0 a.2) g (in_option (over m a.0) g o) in
      not_both (is_emptied m (prune m c (e m)) g)
      (emptied_by m (prune m c (e m)) g (is_kind_by (prune m c (e m)) group g (group_linked (prune m c (e m)) g l)) (shape.standing.no_empty_group g (is_kind_by m group g (group_linked m g lm))) none)
      (refuse_none (is_emptied m (prune m c (e m)) g) (EmptyLink g) row)

  -- Without links and marks the command leads to the same.
  pub without_links : empty_link m c (prune m c (e m)) ≡ None → prune (erase m) c (e (erase m)) ≡ erase (prune m c (e m))
  without_links empty = ap (prune (erase m) c) (d.erases m) ∙ prune_erased m (e m) c (full empty)

  module _ (right : Shape (erase (prune m c (e m)))) where
    a : Alike m (refaced (prune m c (e m)) m)
    a = refaced_alike (prune m c (e m)) m

    same : prune (refaced (prune m c (e m)) m) c (e m) ≡ prune m c (e m)
    same = prune_alike m (refaced (prune m c (e m)) m) a c (e m)

    es : flat_map (edits (refaced (prune m c (e m)) m) c) (named c) ≡ flat_map (edits m c) (named c)
    es = flat-agree (edits (refaced (prune m c (e m)) m) c) (edits m c) (named c) (λ n i. own (refaced (prune m c (e m)) m) n ∙ ap option_to_list (same_over a n) ∙ sym (own m n))

    linked_m : (h : ℕ) → is_linked (refaced (prune m c (e m)) m) h ≡ true → is_linked m h ≡ true
    linked_m h l = sym (same_linked a h) ∙ l

    out_m : (h : ℕ) → (h ∈ flat_map (edits (refaced (prune m c (e m)) m) c) (named c) → ⊥) → h ∈ flat_map (edits m c) (named c) → ⊥
    out_m h out i = out (subst (λ l. h ∈ l) (sym es) i)

    -- what stands beneath an unedited group is as before in the map between
    stays : (h : ℕ) → is_linked m h ≡ true → (h ∈ flat_map (edits m c) (named c) → ⊥) → (q : ℕ) → Beneath (up m) h q → at (refaced (prune m c (e m)) m) q ≡ at m q
    stays h l out q w = ap (λ p. reface p (at m q)) (left h l out q w) ∙ reface_itself (at m q)

    in_m : {h q : ℕ} → Beneath (up (refaced (prune m c (e m)) m)) h q → Beneath (up m) h q
    in_m {h} {q} w = subst (λ f. Beneath f h q) (λ i n. a.ups n i) w

    in_between : {h q : ℕ} → Beneath (up m) h q → Beneath (up (refaced (prune m c (e m)) m)) h q
    in_between {h} {q} w = subst (λ f. Beneath f h q) (λ i n. sym (a.ups n) i) w

    placed_after : Placed (prune m c (e m))
    placed_after = placed m (prune m c (e m)) shape stems right

    -- what stands above an old node once the command is pruned stood there
    back : (h q : ℕ) → q < m.next → Beneath (up (prune m c (e m))) h q → Beneath (up m) h q
    back h q lt itself = itself
    back h q lt (under t p f b) =
        let u = ups_kept stems q p lt f in
        let j = kind_p m standing q p u in
        under q p u (back h p (low p j.0 j.1) b)

    result : Result (refaced (prune m c (e m)) m) c (e m)
    result = record {
      pruned = record {
        placed = subst Placed (sym same) placed_after;
        comes = subst (Comes (format_of (refaced (prune m c (e m)) m)) (refaced (prune m c (e m)) m)) (sym same) (refaced_comes m (prune m c (e m)) shape stems right);
        empties = λ g is_g none. absurd (right.standing.no_empty_group g
            (erased_is (prune m c (e m)) group g ∙ sym (ap (λ x. is_kind x group g) same) ∙ is_g)
            (erased_children (prune m c (e m)) g ∙ sym (ap (λ x. children x g) same) ∙ none));
      };
      content = λ h l out j live. subst (SameContent h (refaced (prune m c (e m)) m)) (sym same) (same_by h (refaced (prune m c (e m)) m) (prune m c (e m))
          (λ q w. left h (linked_m h l) (out_m h out) q (in_m w) ∙ sym (stays h (linked_m h l) (out_m h out) q (in_m w))));
      before = λ h g lh lg w. in_between (back h g (linked_low g (linked_m g lg)) (subst (λ x. Beneath (up x) h g) same w));
    }

    unchanged : (h : ℕ) → is_linked m h ≡ true → (h ∈ flat_map (edits m c) (named c) → ⊥) → Unchanged m (refaced (prune m c (e m)) m) h
    unchanged h l out =
        let content : SameContent h m (refaced (prune m c (e m)) m) = same_by h m (refaced (prune m c (e m)) m) (stays h l out) in
        let root = rooted_at m standing bound h group (group_linked m h l) in
        record {
          linked = l;
          listed = same_content content (planted standing) ch root (omega (arith, a.next));
          nodes = λ q i. let w = from_content m standing bound h root q i in content.nodes q w.0 w.1;
          lists = λ b. content.lists b;
          link = a.links h;
        }

    edited_is : edited (refaced (prune m c (e m)) m) c (prune (refaced (prune m c (e m)) m) c (e m)) ≡ edited m c (prune m c (e m))
    edited_is = ap (edited (refaced (prune m c (e m)) m) c) same ∙ is (refaced (prune m c (e m)) m) (prune m c (e m))
        ∙ ap (λ l. filter (λ g. is_linked (prune m c (e m)) g && among g l) (all_numbers m)) es ∙ sym (is m (prune m c (e m)))

    before_is : before_spread (refaced (prune m c (e m)) m) c (e m) ≡ before_spread m c (e m)
    before_is = ap (λ gs. marked (refaced (prune m c (e m)) m) gs (prune (refaced (prune m c (e m)) m) c (e m))) edited_is
        ∙ ap (marked (refaced (prune m c (e m)) m) (edited m c (prune m c (e m)))) same
        ∙ marked_before (refaced (prune m c (e m)) m) m (same_over a) (edited m c (prune m c (e m))) (prune m c (e m))

    pub remade_spread : AllOne m → ((g h t : ℕ) → g ∈ flat_map (edits m c) (named c) → h ∈ flat_map (edits m c) (named c) → set_at m g ≡ Some t → set_at m h ≡ Some t → g ≡ h) →
        empty_link m c (prune m c (e m)) ≡ None → (before_spread m c (e m)).next ≤ 65536 → ToSpread (before_spread m c (e m)) (edited m c (prune m c (e m)))
    remade_spread all one_edited empty most =
        subst (ToSpread (before_spread m c (e m))) edited_is (subst (λ x. ToSpread x (edited (refaced (prune m c (e m)) m) c (prune (refaced (prune m c (e m)) m) c (e m)))) before_is
        (to_spread_from (refaced (prune m c (e m)) m) c (e m) (refaced_shape m (prune m c (e m)) shape stems right) (λ n i. in_between (rooted n i)) result (is (refaced (prune m c (e m)) m) (prune (refaced (prune m c (e m)) m) c (e m)))
        (λ s h j f g ne oh oj.
        let fm = sym (same_set a h) ∙ f in let gm = sym (same_set a j) ∙ g in
        let lh = set_linked m h s fm in let lj = set_linked m j s gm in
        still_one m (refaced (prune m c (e m)) m) h j (unchanged h lh (out_m h oh)) (unchanged j lj (out_m j oj))
        (group_linked (refaced (prune m c (e m)) m) h (same_linked a h ∙ lh)) (group_linked (refaced (prune m c (e m)) m) j (same_linked a j ∙ lj)) (all s h j fm gm ne))
        (λ g h t i j f k. one_edited g h t (subst (λ l. g ∈ l) es i) (subst (λ l. h ∈ l) es j) (sym (same_set a g) ∙ f) (sym (same_set a h) ∙ k))
        (empty_alike m (refaced (prune m c (e m)) m) a c (prune (refaced (prune m c (e m)) m) c (e m)) ∙ ap (empty_link m c) same ∙ empty)
        (subst (λ x. x.next ≤ 65536) (sym before_is) most)))
