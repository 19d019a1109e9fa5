use Rattle.std.proofs.Common.{sym}
use Rattle.map_write.specs.Written.{kept, brush_lines}
use Rattle.map_write.proofs.WriteLemmas.{numbered_left, numbered_done}
use Rattle.map_write.proofs.entity_writer.write_brushes.Goals as goal

pub loop-number-preserved : goal.loop-number-preserved
loop-number-preserved c =
    rw c.in_ok-write_brush.ensures
    (numbered_left (brush_lines kept) c.args.text.now.items c.args.brushes.now c.loop-number.number c.loop-number.text.items c.index-brushes-number.result c.index-brushes-number.result c.loop-number-test.true (sym c.index-brushes-number.is) c.loop-number.invariant)

pub returns : goal.returns
returns c =
    numbered_done (brush_lines kept) c.args.text.now.items c.args.brushes.now c.loop-number.number c.loop-number.text.items c.loop-number-test.false c.loop-number.invariant
