use Rattle.std.proofs.Common.{rules, ◌≡◌, length, append-nil, sym, ◌∙◌, arith}
use Rattle.touch_index.proofs.Joins.{few_now, add_more, all_added}
use Rattle.touch_index.proofs.joining.add_sides.Goals as goal

pub loop-side-init : goal.loop-side-init
loop-side-init c = sym (append-nil c.args.sides.now.items)

pub overflow_cast-tag : goal.overflow_cast-tag
overflow_cast-tag c =
    let f = few_now c.args.sides.now.items c.args.more.now c.loop-side.sides.items c.loop-side.sides.items c.loop-side.side-index 0 c.side-item.result c.loop-side.invariant c.loop-side-test.true c.side-item.is c.requires.few in
    let e = c.len-tag.ensures in omega arith

pub loop-side-preserved : goal.loop-side-preserved
loop-side-preserved c = let len : c.len-tag.result ≡ length c.loop-side.sides.items = c.len-tag.ensures ∙ search rules in add_more c.args.sides.now.items c.args.more.now c.loop-side.sides.items c.push.new.self.items c.loop-side.side-index c.len-tag.result c.side-item.result
    c.loop-side.invariant c.loop-side-test.true c.side-item.is len c.in_ok-push.ensures.items

pub returns : goal.returns
returns c = all_added c.args.sides.now.items c.args.more.now c.loop-side.sides.items c.loop-side.side-index c.loop-side.invariant c.loop-side-test.false
