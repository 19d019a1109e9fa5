use Rattle.std.proofs.Common.{◌≡◌, ◌<◌, ◌≤◌, ◌^◌, length, Ok, ap, sym, subst, ◌∙◌, arith}
use Rattle.std.specs.List.{list_any, list_all}
use Rattle.map_text.specs.Spelled.{is_spelled_entity}
use Rattle.file_laws.specs.FileLeaves.{file_leaves}
use Rattle.file_laws.specs.Readings.{readings_from}
use Rattle.file_laws.specs.Build.{begins_with_world, items, notes, slots, map_of}
use Rattle.tree_node.specs.Held.{IsMap}
use Rattle.tree_file.specs.Passes.{AreWithin, room}
use Rattle.tree_file.specs.Promises.{asks_for_links}
use Rattle.tree_file.proofs.BuiltMap.{entities_spelled, few_entities, in_place, few_readings, few_items, builds_no_world, too_many, built, built_is_map, full_refuses, begins_and_asks}
use Rattle.tree_file.proofs.building.to_tree.Goals as goal

pub returns-then-not-begins_with_world-clause-refused : goal.returns-then-not-begins_with_world-clause-refused
returns-then-not-begins_with_world-clause-refused c =
    builds_no_world c.args.doc (sym (c.begins_with_world.ensures ∙ ap begins_with_world c.list.ensures) ∙ c.if-not-begins_with_world.true)

pub returns-then-has_links-clause-refused : goal.returns-then-has_links-clause-refused
returns-then-has_links-clause-refused c =
    begins_and_asks c.args.doc
    (sym (c.begins_with_world.ensures ∙ ap begins_with_world c.list.ensures) ∙ c.if-not-begins_with_world.false)
    (sym (c.has_links.ensures ∙ ap (list_any asks_for_links) c.list-2.ensures) ∙ c.if-has_links.true)

pub read_entities-requires : goal.read_entities-requires
read_entities-requires c =
    let few = few_entities c.args.doc c.requires.few in
    let same = ap length c.into_vec.ensures in
    record {
      few = omega (arith, few, same);
      spelled = ap (list_all is_spelled_entity) c.into_vec.ensures ∙ entities_spelled c.args.doc c.requires.spelled;
      plain = ap (list_any asks_for_links) c.into_vec.ensures ∙ sym (c.has_links.ensures ∙ ap (list_any asks_for_links) c.list-2.ensures) ∙ c.if-has_links.false;
    }

pub keep-requires : goal.keep-requires
keep-requires c =
    let doc = c.args.doc in
    let rs = c.in_ok-readings.readings.items in
    record {
      in_place = in_place doc rs (λ b right. ap (readings_from (file_leaves b) doc.format 0) (sym c.into_vec.ensures) ∙ c.in_ok-readings.ensures b right);
      few = few_readings doc rs (λ b right. ap (readings_from (file_leaves b) doc.format 0) (sym c.into_vec.ensures) ∙ c.in_ok-readings.ensures b right) c.requires.few;
    }

pub slot_count-count-requires : goal.slot_count-count-requires
slot_count-count-requires c =
    let doc = c.args.doc in
    let rs = c.in_ok-readings.readings.items in
    let kept = c.in_ok-items.field-0.items.items in
    record {
      few = subst (λ l. room l < 2 ^ 32) (sym c.deref.ensures.value)
          (few_items doc rs (λ b right. ap (readings_from (file_leaves b) doc.format 0) (sym c.into_vec.ensures) ∙ c.in_ok-readings.ensures b right) kept c.in_ok-items.ensures.items c.requires.few);
    }

pub returns-then-count-gt65536-clause-refused : goal.returns-then-count-gt65536-clause-refused
returns-then-count-gt65536-clause-refused c =
    let doc = c.args.doc in
    let rs = c.in_ok-readings.readings.items in
    let kept = c.in_ok-items.field-0.items.items in
    let plain = sym (c.has_links.ensures ∙ ap (list_any asks_for_links) c.list-2.ensures) ∙ c.if-has_links.false in
    let count : c.slot_count-count.result ≡ length (slots kept) = c.slot_count-count.ensures ∙ ap (λ l. length (slots l)) c.deref.ensures.value in
    full_refuses doc c.slot_count-count.result (length (slots kept)) count
    (too_many doc c.requires.spelled
    (sym (c.begins_with_world.ensures ∙ ap begins_with_world c.list.ensures) ∙ c.if-not-begins_with_world.false) plain rs
    (λ b right. ap (readings_from (file_leaves b) doc.format 0) (sym c.into_vec.ensures) ∙ c.in_ok-readings.ensures b right) kept c.in_ok-items.ensures.items
    (let many = c.if-count-gt65536.true in omega arith)) plain

pub slots-requires : goal.slots-requires
slots-requires c =
    let doc = c.args.doc in
    let rs = c.in_ok-readings.readings.items in
    let kept = c.in_ok-items.field-0.items.items in
    let places : c.len-places.result ≡ length rs = omega (arith, c.len-places.ensures, c.in_ok-readings.readings.ok.0) in
    let few = few_readings doc rs (λ b right. ap (readings_from (file_leaves b) doc.format 0) (sym c.into_vec.ensures) ∙ c.in_ok-readings.ensures b right) c.requires.few in
    record {
      within = subst (λ n. AreWithin n kept) (sym places) c.in_ok-items.ensures.within;
      rising = c.in_ok-items.ensures.rising;
      few = few_items doc rs (λ b right. ap (readings_from (file_leaves b) doc.format 0) (sym c.into_vec.ensures) ∙ c.in_ok-readings.ensures b right) kept c.in_ok-items.ensures.items c.requires.few;
      places = omega arith;
    }

pub map_of_slots-requires : goal.map_of_slots-requires
map_of_slots-requires c =
    let doc = c.args.doc in
    let rs = c.in_ok-readings.readings.items in
    let kept = c.in_ok-items.field-0.items.items in
    let count : c.slot_count-count.result ≡ length (slots kept) = c.slot_count-count.ensures ∙ ap (λ l. length (slots l)) c.deref.ensures.value in
    let few : length (slots kept) ≤ 65536 = let most = c.if-count-gt65536.false in omega arith in
    record {
      sound = subst (λ l. IsMap (map_of l)) (sym c.in_ok-slots.ensures)
          (built_is_map doc c.requires.spelled
          (sym (c.begins_with_world.ensures ∙ ap begins_with_world c.list.ensures) ∙ c.if-not-begins_with_world.false)
          (sym (c.has_links.ensures ∙ ap (list_any asks_for_links) c.list-2.ensures) ∙ c.if-has_links.false) rs
          (λ b right. ap (readings_from (file_leaves b) doc.format 0) (sym c.into_vec.ensures) ∙ c.in_ok-readings.ensures b right) kept c.in_ok-items.ensures.items few);
      few = subst (λ l. length l ≤ 65536) (sym c.in_ok-slots.ensures) few;
    }

pub returns-clause-built : goal.returns-clause-built
returns-clause-built c b right =
    let doc = c.args.doc in
    let rs = c.in_ok-readings.readings.items in
    let kept = c.in_ok-items.field-0.items.items in
    let count : c.slot_count-count.result ≡ length (slots kept) = c.slot_count-count.ensures ∙ ap (λ l. length (slots l)) c.deref.ensures.value in
    built doc c.requires.spelled
    (sym (c.begins_with_world.ensures ∙ ap begins_with_world c.list.ensures) ∙ c.if-not-begins_with_world.false)
    (sym (c.has_links.ensures ∙ ap (list_any asks_for_links) c.list-2.ensures) ∙ c.if-has_links.false) rs
    (λ b right. ap (readings_from (file_leaves b) doc.format 0) (sym c.into_vec.ensures) ∙ c.in_ok-readings.ensures b right) kept c.in_ok-items.ensures.items
    (let most = c.if-count-gt65536.false in omega arith) b right
    ∙ (λ i. Ok (record {
      map = sym (c.in_ok-map.ensures ∙ ap map_of c.in_ok-slots.ensures) i;
      notes = (ap (notes rs (items rs)) c.in_ok-items.ensures.items ∙ sym c.in_ok-items.ensures.notes) i;
    }))

pub returns-clause-plain : goal.returns-clause-plain
returns-clause-plain c = sym (c.has_links.ensures ∙ ap (list_any asks_for_links) c.list-2.ensures) ∙ c.if-has_links.false
