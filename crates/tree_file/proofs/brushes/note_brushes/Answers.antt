use Rattle.std.proofs.Common.{◌++◌, flat_map, take, take_all, ap, sym, ◌∙◌, append_assoc}
use Rattle.file_laws.specs.Build.{brush_notes}
use Rattle.tree_file.proofs.BrushNotes.{flat_more}
use Rattle.tree_file.proofs.brushes.note_brushes.Goals as goal

pub loop-reading-preserved : goal.loop-reading-preserved
loop-reading-preserved c =
    let rs = c.args.readings.now in
    let i = c.loop-reading.reading-index in
    let r = c.reading-item.result in
    let start = c.args.notes.now.items in
    c.in_ok-note_brushes_of.ensures ∙ ap (λ l. l ++ brush_notes r) c.loop-reading.invariant
    ∙ append_assoc start (flat_map brush_notes (take i rs)) (brush_notes r)
    ∙ ap (λ l. start ++ l) (sym (flat_more brush_notes rs i r c.loop-reading-test.true c.reading-item.is))

pub returns : goal.returns
returns c = c.loop-reading.invariant ∙ ap (λ l. c.args.notes.now.items ++ flat_map brush_notes l) (take_all c.loop-reading.reading-index c.args.readings.now c.loop-reading-test.false)
