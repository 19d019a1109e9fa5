use Rattle.cut_plans.proofs.Faces.{old_within, new_within, told_below, told_above}
use Rattle.cut_plans.proofs.told.told.Goals as goal

pub bounds-old-side : goal.bounds-old-side
bounds-old-side c = old_within c.args.base c.args.old.now c.args.new.now c.args.side.now c.requires c.if-side-base.true

pub bounds-new-side : goal.bounds-new-side
bounds-new-side c = new_within c.args.base c.args.old.now c.args.new.now c.args.side.now c.requires c.if-side-base.false

pub returns-then-side-base : goal.returns-then-side-base
returns-then-side-base c = told_below c.args.base c.args.old.now c.args.new.now c.args.side.now c.index-old-side.result c.requires c.if-side-base.true c.index-old-side.is

pub returns-else-side-base : goal.returns-else-side-base
returns-else-side-base c = told_above c.args.base c.args.old.now c.args.new.now c.args.side.now c.index-new-side.result c.requires c.if-side-base.false c.index-new-side.is
