use Rattle.std.proofs.Common.{◌++◌, ap, ◌∙◌}
use Rattle.tree_ops.proofs.Lists.{pushed_none, pushed_one, pushed_all}
use Rattle.tree_ops.proofs.named.push_all.Goals as goal

pub loop-number-init : goal.loop-number-init
loop-number-init c = pushed_none c.args.ids.now.items c.list-number-items.result.now

pub loop-number-preserved : goal.loop-number-preserved
loop-number-preserved c = pushed_one c.args.ids.now.items c.list-number-items.result.now c.loop-number.ids.items c.push.new.self.items c.loop-number.number-index
    c.loop-number-test.true c.loop-number.invariant c.in_ok-push.ensures.items

pub returns : goal.returns
returns c = pushed_all c.args.ids.now.items c.list-number-items.result.now c.loop-number.ids.items c.loop-number.number-index c.loop-number-test.false c.loop-number.invariant
    ∙ ap (λ l. c.args.ids.now.items ++ l) c.list-number-items.ensures
