use Rattle.std.proofs.Common.{◌+◌, ◌<◌, ◌^◌, ◌++◌, length, get_or, take, ap, sym, ◌∙◌, append_assoc, arith}
use Rattle.file_laws.specs.Build.{brush_note, brush_notes_from}
use Rattle.tree_file.proofs.BrushNotes.{notes_more, counted_on}
use Rattle.tree_file.proofs.brushes.note_brushes_of.Goals as goal

pub loop-outcome-preserved : goal.loop-outcome-preserved
loop-outcome-preserved c =
    let r = c.args.reading.now in
    let i = c.loop-outcome.outcome-index in
    let b = c.outcome-item.result in
    let start = c.args.notes.now.items in
    let inv = c.loop-outcome.invariant in
    let list = c.brushes-outcome-items.ensures in
    let long = ap length list in
    let here = c.loop-outcome-test.true in
    record {
      brush = counted_on c.checked_add.result (c.loop-outcome.brush + 1 < 2 ^ 32) (c.loop-outcome.brush + 1) c.in_ok-brush.brush c.checked_add.ensures c.in_ok-brush.ensures.ok_part ∙ ap (λ n. n + 1) inv.brush;
      notes =
          c.in_ok-note_brush.ensures ∙ (λ j. inv.notes j ++ brush_note (c.place.ensures j) (inv.brush j) b)
          ∙ append_assoc start (brush_notes_from r.place 0 (take i r.brushes)) (brush_note r.place i b)
          ∙ ap (λ l. start ++ l) (sym (notes_more r.place i r.brushes b (omega (arith, here, long)) (c.outcome-item.is ∙ ap (λ l. get_or l i b) list)));
    }
