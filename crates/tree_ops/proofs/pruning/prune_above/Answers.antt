use Rattle.std.proofs.Common.{arith}
use Rattle.map_model.specs.Tree.{whole}
use Rattle.map_model.specs.Edits.{swap}
use Rattle.map_model.specs.Apply.{drop_emptied}
use Rattle.tree_ops.proofs.Climbing.{climbs, climbed, climbed_out, climbed_all}
use Rattle.tree_ops.proofs.pruning.prune_above.Goals as goal

pub loop-step-init : goal.loop-step-init
loop-step-init c = let m = whole c.args.map.now in climbs (drop_emptied m) m c.args.id (swap m c.args.change.now)

pub loop-step-preserved : goal.loop-step-preserved
loop-step-preserved c =
    let m = whole c.args.map.now in
    climbed (drop_emptied m) m c.args.id c.loop-step.step c.loop-step.below c.in-Some.place (swap m c.args.change.now) (swap m c.loop-step.change) (swap m c.drop_emptied.new.change)
    (omega (arith, c.loop-step-test.true, c.next-step-end.ensures)) c.in-Some.ensures c.loop-step.invariant c.in_ok-drop_emptied-in-Some.ensures

pub returns-in-None : goal.returns-in-None
returns-in-None c =
    let m = whole c.args.map.now in
    climbed_out (drop_emptied m) m c.args.id c.loop-step.step c.loop-step.below (swap m c.args.change.now) (swap m c.loop-step.change)
    (omega (arith, c.loop-step-test.true, c.next-step-end.ensures)) c.in-None.ensures c.loop-step.invariant

pub returns : goal.returns
returns c =
    let m = whole c.args.map.now in
    climbed_all (drop_emptied m) m c.args.id c.loop-step.step c.loop-step.below (swap m c.args.change.now) (swap m c.loop-step.change)
    (omega (arith, c.loop-step-test.false, c.next-step-end.ensures)) c.loop-step.invariant
