use Rattle.std.proofs.Common.{rules}
use Rattle.solid_brush.specs.Sides.{with_base}
use Rattle.solid_brush.proofs.Retagged.{next_changed, tag_fits}
use Rattle.solid_brush.proofs.side.add_to_tags.Goals as goal

pub overflow_add-side : goal.overflow_add-side
overflow_add-side c =
    let h = tag_fits c.args.base c.args.sides.now c.loop-side.side-items c.loop-side.side-index c.side-item.result c.loop-side-test.true c.loop-side.invariant c.requires.room c.side-item.is in
    search rules

pub loop-side-preserved : goal.loop-side-preserved
loop-side-preserved c = next_changed (with_base c.args.base) c.args.sides.now c.loop-side.side-items c.loop-side.side-index c.side-item.result c.loop-side-test.true c.loop-side.invariant
