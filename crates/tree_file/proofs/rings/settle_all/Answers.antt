use Rattle.tree_file.proofs.RingMarks.{none_settled, all_settled}
use Rattle.tree_file.proofs.rings.settle_all.Goals as goal

pub loop-start-init : goal.loop-start-init
loop-start-init c = none_settled c.args.parents.now c.args.met.now c.args.breaks.now c.requires.unmet c.requires.unflagged

pub returns : goal.returns
returns c = all_settled c.args.parents.now c.loop-start.met c.loop-start.breaks c.loop-start.start c.loop-start-test.false c.loop-start.invariant
