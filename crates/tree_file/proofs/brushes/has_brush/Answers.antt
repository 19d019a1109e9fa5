use Rattle.std.proofs.Common.{sym, ◌∙◌}
use Rattle.tree_file.proofs.Kept.{in_list}
use Rattle.tree_file.proofs.BrushNotes.{some_kept, none_more, none_kept}
use Rattle.tree_file.proofs.brushes.has_brush.Goals as goal

pub returns-then-is_ok : goal.returns-then-is_ok
returns-then-is_ok c =
    let bs = c.args.brushes.now in
    sym (some_kept bs c.brush-item.result (in_list bs c.loop-brush.brush-index c.brush-item.result c.loop-brush-test.true c.brush-item.is) (sym c.is_ok.ensures.value ∙ c.if-is_ok.true))

pub loop-brush-preserved : goal.loop-brush-preserved
loop-brush-preserved c =
    none_more c.args.brushes.now c.loop-brush.brush-index c.brush-item.result c.loop-brush-test.true c.brush-item.is (sym c.is_ok.ensures.value ∙ c.if-is_ok.false) c.loop-brush.invariant

pub returns : goal.returns
returns c = none_kept c.args.brushes.now c.loop-brush.brush-index c.loop-brush-test.false c.loop-brush.invariant
