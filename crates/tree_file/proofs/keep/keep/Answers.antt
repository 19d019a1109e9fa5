use Rattle.std.proofs.Common.{◌++◌, length, flat_map, ap, sym, subst, ◌∙◌, arith}
use Rattle.file_laws.specs.Build.{items, kept_items, brush_notes}
use Rattle.tree_file.specs.Passes.{AreInPlace, AreWithin, PlacesRise}
use Rattle.tree_file.proofs.InPlaces.{items_at, items_length, items_within, placed_within, kept_within, kept_rises, all_notes}
use Rattle.tree_file.proofs.keep.keep.Goals as goal

pub place_readings-requires-clause-few : goal.place_readings-requires-clause-few
place_readings-requires-clause-few c = omega (arith, c.requires.few)

pub drop_empty-requires-clause-places : goal.drop_empty-requires-clause-places
drop_empty-requires-clause-places c = subst AreInPlace (sym c.in_ok-placed.ensures.items) (items_at c.args.readings.items c.requires.in_place)

pub drop_empty-requires-clause-within : goal.drop_empty-requires-clause-within
drop_empty-requires-clause-within c = placed_within c.args.readings.items c.requires.in_place c.in_ok-placed.placed.items c.in_ok-placed.ensures.items

pub drop_empty-requires-clause-few : goal.drop_empty-requires-clause-few
drop_empty-requires-clause-few c =
    let long = ap length c.in_ok-placed.ensures.items ∙ items_length c.args.readings.items in
    omega (arith, long, c.requires.few)

pub returns-clause-items : goal.returns-clause-items
returns-clause-items c = c.in_ok-items.ensures.items ∙ ap kept_items c.in_ok-placed.ensures.items

pub returns-clause-notes : goal.returns-clause-notes
returns-clause-notes c =
    all_notes c.args.readings.items c.in_ok-placed.placed.items c.new-notes.result.items c.note_brushes.new.notes.items c.place_readings.new.notes.items c.drop_empty.new.notes.items
    c.new-notes.ensures.items (c.in_ok-note_brushes.ensures ∙ ap (λ l. c.new-notes.result.items ++ flat_map brush_notes l) c.deref.ensures.value)
    c.in_ok-placed.ensures.notes c.in_ok-placed.ensures.items c.in_ok-items.ensures.notes

pub returns-clause-within : goal.returns-clause-within
returns-clause-within c =
    let rs = c.args.readings.items in
    subst (AreWithin (length rs)) (sym (c.in_ok-items.ensures.items ∙ ap kept_items c.in_ok-placed.ensures.items)) (kept_within (length rs) (items rs) (items_within rs c.requires.in_place))

pub returns-clause-rising : goal.returns-clause-rising
returns-clause-rising c =
    let rs = c.args.readings.items in
    subst (PlacesRise 0) (sym (c.in_ok-items.ensures.items ∙ ap kept_items c.in_ok-placed.ensures.items)) (kept_rises (items rs) (items_at rs c.requires.in_place))
