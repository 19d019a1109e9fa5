-- The map that a document builds keeps the rules of maps.
use Rattle.std.proofs.Common.{◌≡◌, ℕ, ◌+◌, Bool, true, false, cond, not, List, [], ◌∷◌, ◌++◌, map, length, refl, ap, sym, ◌∙◌, subst}
use Rattle.std.specs.Prelude.{filter, flat_map, Ok, Err}
use Rattle.uv_lock.specs.declared.texture.Format.{Format}
use Rattle.map_text.specs.declared.document.RawEntity.{RawEntity}
use Rattle.map_model.specs.Tree.{Whole}
use Rattle.file_laws.specs.Leaves.{Leaves}
use Rattle.file_laws.specs.Readings.{Reading, readings, readings_from}
use Rattle.file_laws.specs.Build.{Item, items, kept_items, slots, map_of, notes, Built, NoWorld, begins_with_world}
use Rattle.file_laws.specs.Linked.{Candidate, candidate, is_nested, sets_of, all_agree, linked, link_notes, built_with_links}
use Rattle.file_laws.specs.Laws.{KeepsRules, BuiltRulesLaw}
use Rattle.file_laws.proofs.Order.{order_of}
use Rattle.file_laws.proofs.Growing.{kept_stand}
use Rattle.file_laws.proofs.Relinked.{fits_in}
use Rattle.file_laws.proofs.Marking.{numbers_linked, marks_linked, stands_linked}
use Rattle.file_laws.proofs.Sets.{numbers_plain, sets_sound, kept, plain, good_sets, of_kept, from_item, in_sets, grown, slot_member}
use Rattle.algebra.specs.Members.{◌∈◌, here, there}
use Rattle.uv_lock.specs.declared.texture.Format.TheVariants.{Standard}
use Rattle.std.proofs.Common.{suc, ◌⊎◌, inl, inr, arith, option_map, unwrap_or, codes}
use Rattle.std.specs.Prelude.{Option, Some, None}
use Rattle.map_model.specs.Faces.{Face}
use Rattle.map_model.specs.Motions.{Motion, is_kept_motion}
use Rattle.map_model.specs.Tree.{Node, Brush, Link, group, same_kind, at, numbers_from, format_of, format_of_node}
use Rattle.map_model.specs.Props.{value_at}
use Rattle.map_model.specs.Shape.{EachNode, NodeOk, LinkOk}
use Rattle.file_laws.specs.Leaves.{AreSound}
use Rattle.file_laws.specs.Readings.{reading, kind_in, named_set_in}
use Rattle.file_laws.specs.Build.{place_of, number_of, slots_of, built_node, kept_brushes, lies_in}
use Rattle.file_laws.specs.Linked.{in_table, links_from, marks_from}
use Rattle.file_laws.specs.Laws.{BuiltShapeLaw}
use Rattle.file_laws.proofs.Lists.{of_map, head_or_tail}
use Rattle.file_laws.proofs.Tables.{of_flat_map}
use Rattle.file_laws.proofs.Linking.{set_in, link_hit}
use Rattle.file_laws.proofs.Relinked.{relinked}
use Rattle.file_laws.proofs.Slots.{stands}
use Rattle.file_laws.proofs.Standing.{built, item_node, number_is, world_number}
use Rattle.file_laws.proofs.Shaped.{EntityOk, entities_ok, read_from, kept_is_ok, relinked_ok, built_ok, reading_ok, motion_ok}

rules_of : (w : Leaves) (f : Format) (raw : RawEntity) (raws : List RawEntity) (built : Built) →
    built_with_links (readings_from w f 0 (raw ∷ raws)) (items (readings_from w f 0 (raw ∷ raws))) (kept_items (items (readings_from w f 0 (raw ∷ raws)))) ≡ Ok built → KeepsRules built.map
rules_of w f raw raws built e =
    let all : List Item = items (readings_from w f 0 (raw ∷ raws)) in
    let kept : List Item = kept_items all in
    let plain : Whole = map_of (slots kept) in
    let parents : List ℕ = map (λ i. i.parent) all in
    let moved : List Candidate = flat_map (candidate kept) kept in
    let found : List (List Candidate) = sets_of (filter (λ c. not (is_nested parents moved c)) moved) in
    let sets : List (List Candidate) = filter (all_agree plain) found in
    let r = fits_in plain (linked plain sets) (notes (readings_from w f 0 (raw ∷ raws)) all kept ++ link_notes plain parents kept moved found) built e in
    let s = kept_stand w f raw raws in
    let n = numbers_plain w f raw raws r.plain_fits in
    let o = order_of plain s n in
    let sound = sets_sound w f raw raws in
    subst KeepsRules (sym r.map_is) (record {
      standing = stands_linked plain s n o sets sound r.all_fits;
      numbers = numbers_linked plain s n o sets sound r.all_fits;
      marks = marks_linked plain s n o sets sound r.all_fits;
    })

-- ---- what the nodes are

later_place : (w : Leaves) (f : Format) (k : ℕ) (raws : List RawEntity) (r : Reading) → r ∈ readings_from w f (suc k) raws → r.place ≡ 0 → ⊥
later_place w f k [] r i e = elim i [ ]
later_place w f k (raw ∷ raws) r here e = suc_is_no_zero e
  where
    suc_is_no_zero : suc k ≡ 0 → ⊥
    suc_is_no_zero e = omega arith
later_place w f k (raw ∷ raws) r (there i) e = later_place w f (suc k) raws r i e

first_place : (w : Leaves) (f : Format) (raw : RawEntity) (raws : List RawEntity) (r : Reading) → r ∈ readings_from w f 0 (raw ∷ raws) → r.place ≡ 0 → r ≡ reading w f 0 raw
first_place w f raw raws r here e = refl
first_place w f raw raws r (there i) e = absurd (later_place w f 0 raws r i e)

module _ (w : Leaves) (f : Format) (sound_leaves : AreSound w f) (raw : RawEntity) (raws : List RawEntity) (each : (e : RawEntity) → e ∈ (raw ∷ raws) → EntityOk f e) where
  -- The entity of a kept item.
  item_entity : (i : Item) → i ∈ kept w f raw raws → (e : RawEntity) × EntityOk f e × (i.reading ≡ reading w f i.reading.place e)
  item_entity i t =
      let k = of_kept w f raw raws i t in
      let x = read_from w f 0 (raw ∷ raws) k.reading_of k.in_file in
      let same : i.reading ≡ k.reading_of = ap (λ j. j.reading) k.is in
      (x.raw, each x.raw x.in_file, same ∙ x.is ∙ ap (λ r. reading w f r.place x.raw) (sym same))

  plain_node_ok : (q : ℕ) (x : Node) → at (plain w f raw raws) q ≡ Some x → NodeOk f x
  plain_node_ok q x e =
      let r = of_flat_map (slots_of (kept w f raw raws)) (kept w f raw raws) (Some x) (slot_member (slots (kept w f raw raws)) q x e) in
      by_slot r.0 r.1 (head_or_tail (Some x) (Some (built_node (kept w f raw raws) r.0)) (map (λ faces. Some (Brush (number_of (kept w f raw raws) (place_of r.0)) None faces)) (kept_brushes r.0.reading)) r.2)
    where
      by_slot : (i : Item) → i ∈ kept w f raw raws → (Some x ≡ Some (built_node (kept w f raw raws) i)) ⊎ (Some x ∈ map (λ faces. Some (Brush (number_of (kept w f raw raws) (place_of i)) None faces)) (kept_brushes i.reading)) → NodeOk f x
      by_slot i t (inl h) =
          let y = item_entity i t in
          subst (NodeOk f) (sym (ap (λ o. unwrap_or o x) h))
          (built_ok f (number_of (kept w f raw raws) i.parent) (numbers_from (suc (number_of (kept w f raw raws) (place_of i))) (length (kept_brushes i.reading)))
          (map (λ j. number_of (kept w f raw raws) (place_of j)) (filter (lies_in (place_of i)) (kept w f raw raws))) i.reading.node
          (subst (λ (r : Reading). NodeOk f r.node) (sym y.2) (reading_ok w f y.0 y.1 i.reading.place)))
      by_slot i t (inr j) =
          let y = item_entity i t in
          let r = of_map (λ faces. Some (Brush (number_of (kept w f raw raws) (place_of i)) None faces)) (kept_brushes i.reading) (Some x) j in
          subst (NodeOk f) (sym (ap (λ o. unwrap_or o x) r.2))
          (kept_is_ok w f sound_leaves y.0 y.1 r.0 (subst (λ (l : List (List Face)). r.0 ∈ l) (ap kept_brushes y.2) r.1))

  link_ok : (q : ℕ) → LinkOk (in_table (links_from (plain w f raw raws).next (good_sets w f raw raws)) q)
  link_ok q = by_value (in_table (links_from (plain w f raw raws).next (good_sets w f raw raws)) q) refl
    where
      by_value : (v : Option Link) → in_table (links_from (plain w f raw raws).next (good_sets w f raw raws)) q ≡ v → LinkOk v
      by_value None e = tt
      by_value (Some l) e =
          let h = link_hit (plain w f raw raws) (plain w f raw raws).next (good_sets w f raw raws) q l e in
          let c = from_item w f raw raws h.member (in_sets w f raw raws h.members h.member (set_in h.set_place) h.among).in_moved in
          let y = item_entity c.source c.among_kept in
          ap (λ k. is_kept_motion k.motion) h.link_is
          ∙ motion_ok w f sound_leaves (named_set_in (kind_in c.source.reading.place y.0.props) y.0.props) (value_at (codes "_tb_transformation") y.0.props) h.member.motion (sym (ap (λ r. r.motion) y.2) ∙ c.motion_is)

  format_is : format_of (linked (plain w f raw raws) (good_sets w f raw raws)) ≡ f
  format_is =
      let g = grown w f raw raws in
      let t : g.top ∈ kept w f raw raws = subst (λ (l : List Item). g.top ∈ l) (sym g.begins) here in
      let s = stands (kept w f raw raws) g.top t in
      let k = of_kept w f raw raws g.top t in
      let first = first_place w f raw raws k.reading_of k.in_file (sym (ap place_of k.is) ∙ g.first) in
      let node_is : g.top.reading.node ≡ (reading w f 0 raw).node = ap (λ i. i.reading.node) k.is ∙ ap (λ r. r.node) first in
      let at_top : at (plain w f raw raws) 0 ≡ Some (built_node (kept w f raw raws) g.top) =
      ap (at (plain w f raw raws)) (sym (sym (number_is (kept w f raw raws) g s.1) ∙ ap (number_of (kept w f raw raws)) g.first ∙ world_number (kept w f raw raws) g))
      ∙ item_node (kept w f raw raws) g s.1 in
      ap (λ o. unwrap_or (option_map format_of_node (option_map (relinked (in_table (marks_from (plain w f raw raws) ((plain w f raw raws).next + length (good_sets w f raw raws)) (good_sets w f raw raws)) 0)
      (in_table (links_from (plain w f raw raws).next (good_sets w f raw raws)) 0)) o)) Standard) at_top
      ∙ ap (λ x. format_of_node (relinked (in_table (marks_from (plain w f raw raws) ((plain w f raw raws).next + length (good_sets w f raw raws)) (good_sets w f raw raws)) 0)
      (in_table (links_from (plain w f raw raws).next (good_sets w f raw raws)) 0)
      (built (number_of (kept w f raw raws) g.top.parent) (numbers_from (suc (number_of (kept w f raw raws) (place_of g.top))) (length (kept_brushes g.top.reading)))
      (map (λ j. number_of (kept w f raw raws) (place_of j)) (filter (lies_in (place_of g.top)) (kept w f raw raws))) x))) node_is

  each_node : EachNode (linked (plain w f raw raws) (good_sets w f raw raws))
  each_node q x e = subst (λ (k : Format). NodeOk k x) (sym format_is) (by_node (at (plain w f raw raws) q) refl e)
    where
      by_node : (o : Option Node) → at (plain w f raw raws) q ≡ o →
          option_map (relinked (in_table (marks_from (plain w f raw raws) ((plain w f raw raws).next + length (good_sets w f raw raws)) (good_sets w f raw raws)) q) (in_table (links_from (plain w f raw raws).next (good_sets w f raw raws)) q)) o ≡ Some x → NodeOk f x
      by_node None h k = absurd (cc k)
      by_node (Some y) h k =
          subst (NodeOk f) (ap (λ o. unwrap_or o x) k)
          (relinked_ok f (in_table (marks_from (plain w f raw raws) ((plain w f raw raws).next + length (good_sets w f raw raws)) (good_sets w f raw raws)) q) (in_table (links_from (plain w f raw raws).next (good_sets w f raw raws)) q) y (link_ok q) (plain_node_ok q y h))

pub built_rules_law : BuiltRulesLaw
built_rules_law w doc built e = by_entities doc.entities refl
  where
    by_entities : (es : List RawEntity) → doc.entities ≡ es → KeepsRules built.map
    by_entities [] h = absurd (no_ok (sym (ap (λ es. cond (begins_with_world es) (built_with_links (readings w doc) (items (readings w doc)) (kept_items (items (readings w doc)))) (Err NoWorld)) h) ∙ e))
      where
        no_ok : Err NoWorld ≡ Ok built → ⊥
        no_ok e = cc
    by_entities (raw ∷ raws) h = by_world (begins_with_world doc.entities) e
      where
        by_world : (b : Bool) → cond b (built_with_links (readings w doc) (items (readings w doc)) (kept_items (items (readings w doc)))) (Err NoWorld) ≡ Ok built → KeepsRules built.map
        by_world false f = absurd (cc f)
        by_world true f = rules_of w doc.format raw raws built (sym (ap (λ es. built_with_links (readings_from w doc.format 0 es) (items (readings_from w doc.format 0 es)) (kept_items (items (readings_from w doc.format 0 es)))) h) ∙ f)

nodes_of : (w : Leaves) (f : Format) → AreSound w f → (raw : RawEntity) (raws : List RawEntity) → ((e : RawEntity) → e ∈ (raw ∷ raws) → EntityOk f e) → (built : Built) →
    built_with_links (readings_from w f 0 (raw ∷ raws)) (items (readings_from w f 0 (raw ∷ raws))) (kept_items (items (readings_from w f 0 (raw ∷ raws)))) ≡ Ok built → EachNode built.map
nodes_of w f sound raw raws each built e =
    let all : List Item = items (readings_from w f 0 (raw ∷ raws)) in
    let kept : List Item = kept_items all in
    let plain : Whole = map_of (slots kept) in
    let parents : List ℕ = map (λ i. i.parent) all in
    let moved : List Candidate = flat_map (candidate kept) kept in
    let found : List (List Candidate) = sets_of (filter (λ c. not (is_nested parents moved c)) moved) in
    let sets : List (List Candidate) = filter (all_agree plain) found in
    let r = fits_in plain (linked plain sets) (notes (readings_from w f 0 (raw ∷ raws)) all kept ++ link_notes plain parents kept moved found) built e in
    subst EachNode (sym r.map_is) (each_node w f sound raw raws each)

pub built_shape_law : BuiltShapeLaw
built_shape_law w doc sound spelled built e =
    let rules = built_rules_law w doc built e in
    record { standing = rules.standing; each_node = by_entities doc.entities refl; numbers = rules.numbers; marks = rules.marks }
  where
    by_entities : (es : List RawEntity) → doc.entities ≡ es → EachNode built.map
    by_entities [] h = absurd (no_ok (sym (ap (λ es. cond (begins_with_world es) (built_with_links (readings w doc) (items (readings w doc)) (kept_items (items (readings w doc)))) (Err NoWorld)) h) ∙ e))
      where
        no_ok : Err NoWorld ≡ Ok built → ⊥
        no_ok e = cc
    by_entities (raw ∷ raws) h = by_world (begins_with_world doc.entities) e
      where
        by_world : (b : Bool) → cond b (built_with_links (readings w doc) (items (readings w doc)) (kept_items (items (readings w doc)))) (Err NoWorld) ≡ Ok built → EachNode built.map
        by_world false f = absurd (cc f)
        by_world true f =
            nodes_of w doc.format sound raw raws (λ x i. entities_ok doc spelled x (subst (λ (l : List RawEntity). x ∈ l) (sym h) i)) built
            (sym (ap (λ es. built_with_links (readings_from w doc.format 0 es) (items (readings_from w doc.format 0 es)) (kept_items (items (readings_from w doc.format 0 es)))) h) ∙ f)
