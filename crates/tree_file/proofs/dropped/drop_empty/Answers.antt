use Rattle.std.proofs.Common.{◌++◌, length, map, ap, sym, subst, ◌∙◌, arith}
use Rattle.file_laws.specs.Build.{is_dropped, kept_items}
use Rattle.tree_file.specs.Passes.{AreInPlace, AreWithin, empty_notes}
use Rattle.tree_file.proofs.dropped.drop_empty.Goals as goal

pub dropped-requires-clause-places : goal.dropped-requires-clause-places
dropped-requires-clause-places c = subst AreInPlace (sym c.deref.ensures.value) c.requires.places

pub dropped-requires-clause-within : goal.dropped-requires-clause-within
dropped-requires-clause-within c = subst (λ l. AreWithin (length l) l) (sym c.deref.ensures.value) c.requires.within

pub dropped-requires-clause-few : goal.dropped-requires-clause-few
dropped-requires-clause-few c = let same = ap length c.deref.ensures.value in omega (arith, same, c.requires.few)

pub note_dropped-requires-clause-places : goal.note_dropped-requires-clause-places
note_dropped-requires-clause-places c = subst AreInPlace (sym c.deref-2.ensures.value) c.requires.places

pub note_dropped-requires-clause-drops : goal.note_dropped-requires-clause-drops
note_dropped-requires-clause-drops c =
    let same = c.deref.ensures.value ∙ sym c.deref-2.ensures.value in
    c.deref-3.ensures.value ∙ c.in_ok-drops.ensures ∙ (λ j. map (is_dropped (kept_items (same j))) (same j))

pub not_dropped-requires-clause-drops : goal.not_dropped-requires-clause-drops
not_dropped-requires-clause-drops c =
    c.deref-4.ensures.value ∙ c.in_ok-drops.ensures ∙ (λ j. map (is_dropped (kept_items (c.deref.ensures.value j))) (c.deref.ensures.value j))

pub returns-clause-items : goal.returns-clause-items
returns-clause-items c = c.in_ok-kept.ensures

pub returns-clause-notes : goal.returns-clause-notes
returns-clause-notes c = c.in_ok-note_dropped.ensures ∙ ap (λ l. c.args.notes.now.items ++ empty_notes l) c.deref-2.ensures.value
