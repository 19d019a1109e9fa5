use Rattle.tree_file.proofs.RingMarks.{settled_with_one, settled_with_none}
use Rattle.tree_file.proofs.rings.settle.Goals as goal

pub returns-then-met-stop : goal.returns-then-met-stop
returns-then-met-stop c =
    settled_with_one c.args.parents.now c.args.met.now c.args.breaks.now c.args.start c.requires.some c.walk_up-stop.new.met c.walk_up-stop.result c.requires.settled c.walk_up-stop.ensures
    c.if-met-stop.true c.first_of_ring.result c.first_of_ring.ensures.within c.first_of_ring.ensures.first c.first_of_ring.ensures.on_ring

pub returns-else-met-stop : goal.returns-else-met-stop
returns-else-met-stop c =
    settled_with_none c.args.parents.now c.args.met.now c.args.breaks.now c.args.start c.requires.some c.walk_up-stop.new.met c.walk_up-stop.result c.requires.settled c.walk_up-stop.ensures
    c.if-met-stop.false
