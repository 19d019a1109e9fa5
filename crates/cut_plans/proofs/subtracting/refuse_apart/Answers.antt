use Rattle.std.proofs.Common.{refl}
use Rattle.map_model.specs.Tree.{whole}
use Rattle.brush_plans.proofs.Lists.{is_member}
use Rattle.brush_plans.proofs.RowLoops.{passed_row, stopped_row, passed_all, says_stop, says_err}
use Rattle.cut_plans.specs.Subtracts.{apart_row, apart_any}
use Rattle.cut_plans.proofs.subtracting.refuse_apart.Goals as goal

pub refuse_one-requires-clause-brush : goal.refuse_one-requires-clause-brush
refuse_one-requires-clause-brush c = c.requires.brushes c.id-item.result (is_member c.args.ids.now c.loop-id.id-index c.id-item.result c.loop-id-test.true c.id-item.is)

pub loop-id-init : goal.loop-id-init
loop-id-init c = λ b right. record { rest = refl }

pub loop-id-preserved : goal.loop-id-preserved
loop-id-preserved c = λ b right.
    passed_row (λ n. apart_row (whole c.args.map.now) c.args.cutter.now.body n b) c.args.ids.now c.loop-id.id-index c.id-item.result c.loop-id-test.true c.id-item.is (c.loop-id.invariant b right)
    (c.in_ok-refuse_one.ensures b right)

pub returns-in_err-refuse_one : goal.returns-in_err-refuse_one
returns-in_err-refuse_one c =
    let m = whole c.args.map.now in
    let cut = c.args.cutter.now.body in
    says_err (apart_any m cut c.args.ids.now) c.from_residual.result c.in_err-refuse_one.field-0.0 c.from_residual.ensures.1
    (says_stop (apart_row m cut c.id-item.result) (apart_any m cut c.args.ids.now)
    (λ b right x e. stopped_row (λ n. apart_row m cut n b) c.args.ids.now c.loop-id.id-index c.id-item.result c.loop-id-test.true c.id-item.is (c.loop-id.invariant b right) x e)
    c.in_err-refuse_one.field-0.0 c.in_err-refuse_one.ensures)

pub returns : goal.returns
returns c = λ b right.
    passed_all (λ n. apart_row (whole c.args.map.now) c.args.cutter.now.body n b) c.args.ids.now c.loop-id.id-index c.loop-id-test.false (c.loop-id.invariant b right)
