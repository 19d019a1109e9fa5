use Rattle.std.proofs.Common.{◌++◌, length, ap, sym, subst, ◌∙◌, arith}
use Rattle.file_laws.specs.Build.{first_parents}
use Rattle.tree_file.specs.Passes.{InPlace, HasPlaces, ring_flags, id_notes, parent_notes}
use Rattle.tree_file.proofs.InPlaces.{each_parent_within, parents_length, flags_are}
use Rattle.tree_file.proofs.keep.place_readings.Goals as goal

pub note_ids-requires : goal.note_ids-requires
note_ids-requires c = record { table = subst (λ l. HasPlaces l c.in_ok-table.table) (c.deref.ensures.value ∙ sym c.deref-2.ensures.value) c.in_ok-table.ensures }

pub first_parents-requires-clause-table : goal.first_parents-requires-clause-table
first_parents-requires-clause-table c = subst (λ l. HasPlaces l c.in_ok-table.table) (c.deref.ensures.value ∙ sym c.deref-3.ensures.value) c.in_ok-table.ensures

pub first_parents-requires-clause-in_place : goal.first_parents-requires-clause-in_place
first_parents-requires-clause-in_place c = subst InPlace (sym c.deref-3.ensures.value) c.requires.in_place

pub first_of_rings-requires-clause-within : goal.first_of_rings-requires-clause-within
first_of_rings-requires-clause-within c =
    each_parent_within c.args.readings.items c.requires.in_place c.deref-4.result.now (c.deref-4.ensures.value ∙ c.in_ok-parents.ensures ∙ ap first_parents c.deref-3.ensures.value)

pub first_of_rings-requires-clause-few : goal.first_of_rings-requires-clause-few
first_of_rings-requires-clause-few c =
    let long = ap length (c.deref-4.ensures.value ∙ c.in_ok-parents.ensures ∙ ap first_parents c.deref-3.ensures.value) ∙ parents_length c.args.readings.items in
    omega (arith, long, c.requires.few)

pub note_parents-requires-clause-table : goal.note_parents-requires-clause-table
note_parents-requires-clause-table c = subst (λ l. HasPlaces l c.in_ok-table.table) (c.deref.ensures.value ∙ sym c.deref-5.ensures.value) c.in_ok-table.ensures

pub note_parents-requires-clause-in_place : goal.note_parents-requires-clause-in_place
note_parents-requires-clause-in_place c = subst InPlace (sym c.deref-5.ensures.value) c.requires.in_place

pub note_parents-requires-clause-breaks : goal.note_parents-requires-clause-breaks
note_parents-requires-clause-breaks c =
    let parents = c.deref-4.ensures.value ∙ c.in_ok-parents.ensures ∙ ap first_parents c.deref-3.ensures.value in
    c.deref-6.ensures.value ∙ flags_are c.args.readings.items c.deref-4.result.now c.in_ok-breaks.breaks.items parents c.in_ok-breaks.ensures ∙ ap ring_flags (sym c.deref-5.ensures.value)

pub items_of-requires-clause-parents : goal.items_of-requires-clause-parents
items_of-requires-clause-parents c = c.deref-7.ensures.value ∙ c.in_ok-parents.ensures ∙ ap first_parents c.deref-3.ensures.value

pub items_of-requires-clause-breaks : goal.items_of-requires-clause-breaks
items_of-requires-clause-breaks c =
    let parents = c.deref-4.ensures.value ∙ c.in_ok-parents.ensures ∙ ap first_parents c.deref-3.ensures.value in
    c.deref-8.ensures.value ∙ flags_are c.args.readings.items c.deref-4.result.now c.in_ok-breaks.breaks.items parents c.in_ok-breaks.ensures

pub returns-clause-items : goal.returns-clause-items
returns-clause-items c = c.in_ok-placed.ensures

pub returns-clause-notes : goal.returns-clause-notes
returns-clause-notes c =
    let ids = c.in_ok-note_ids.ensures ∙ ap (λ l. c.args.notes.now.items ++ id_notes l) c.deref-2.ensures.value in
    c.in_ok-note_parents.ensures ∙ (λ j. ids j ++ parent_notes (c.deref-5.ensures.value j))
