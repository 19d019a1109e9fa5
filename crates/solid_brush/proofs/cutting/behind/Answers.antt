use Rattle.std.proofs.Common.{◌∙◌, sym}
use Rattle.exact_geom.proofs.PlaneLaws.{normal_positive}
use Rattle.solid_brush.proofs.Behind.{at_start, new_tag, after_one, after_all, gone_at}
use Rattle.solid_brush.proofs.cutting.behind.Goals as goal

pub loop-side-init : goal.loop-side-init
loop-side-init c = at_start c.args.sides.now c.in_ok-poly.poly c.in_ok-poly.ensures.cube

pub cut_poly-requires : goal.cut_poly-requires
cut_poly-requires c = record { new = new_tag c.args.sides.now c.loop-side.poly c.loop-side.side-index c.side-item.result c.requires.tags c.loop-side-test.true c.side-item.is c.loop-side.invariant }

pub returns-then-is_gone : goal.returns-then-is_gone
returns-then-is_gone c = gone_at c.args.sides.now c.loop-side.poly c.cut_poly.new.poly c.loop-side.side-index c.side-item.result c.in_ok-cut.cut c.loop-side-test.true c.side-item.is c.loop-side.invariant
    c.in_ok-cut.ensures.says (sym c.is_gone.ensures ∙ c.if-is_gone.true)

pub loop-side-preserved : goal.loop-side-preserved
loop-side-preserved c = after_one c.args.sides.now c.loop-side.poly c.cut_poly.new.poly c.loop-side.side-index c.side-item.result c.in_ok-cut.cut c.loop-side-test.true c.side-item.is c.loop-side.invariant
    (normal_positive c.side-item.result.plane c.cut_poly.ensures.proper) c.in_ok-cut.ensures.says (sym c.is_gone.ensures ∙ c.if-is_gone.false)

pub returns : goal.returns
returns c = after_all c.args.sides.now c.loop-side.poly c.loop-side.side-index c.loop-side-test.false c.loop-side.invariant
