use Rattle.std.proofs.Common.{◌+◌, length, arith, ap, sym, subst}
use Rattle.cut_plans.proofs.PartedPlacing.{Counting, none_counted, one_few, counted_one, counted_all}
use Rattle.cut_plans.proofs.subtract_plans.drawn_by.Goals as goal

pub loop-one-init : goal.loop-one-init
loop-one-init c = none_counted c.args.parted.now c.requires.pieces

pub overflow_cast-made : goal.overflow_cast-made
overflow_cast-made c =
    let few = one_few c.args.parted.now c.loop-one.one-index c.loop-one.made c.one-item.result c.loop-one-test.true c.one-item.is c.loop-one.invariant in
    let e = ap length c.list.ensures in omega arith

pub overflow_add-made : goal.overflow_add-made
overflow_add-made c =
    let few = one_few c.args.parted.now c.loop-one.one-index c.loop-one.made c.one-item.result c.loop-one-test.true c.one-item.is c.loop-one.invariant in
    let most = c.loop-one.invariant.most in
    let lt = c.loop-one-test.true in
    let many = c.requires.brushes in
    let e = ap length c.list.ensures in omega arith

pub loop-one-preserved : goal.loop-one-preserved
loop-one-preserved c =
    subst (λ n. Counting c.args.parted.now (c.loop-one.one-index + 1) (c.loop-one.made + n)) (sym (ap length c.list.ensures))
    (counted_one c.args.parted.now c.loop-one.one-index c.loop-one.made c.one-item.result c.loop-one-test.true c.one-item.is c.loop-one.invariant)

pub returns : goal.returns
returns c = counted_all c.args.parted.now c.loop-one.one-index c.loop-one.made c.loop-one-test.false c.loop-one.invariant
