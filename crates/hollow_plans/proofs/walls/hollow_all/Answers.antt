use Rattle.std.proofs.Common.{to_z, of_z, w32, subst, Ok}
use Rattle.std.proofs.lemmas.Int.{to_z-of_z}
use Rattle.map_model.specs.Tree.{whole}
use Rattle.brush_plans.proofs.Lists.{is_member}
use Rattle.hollow_plans.specs.Walls.{AreHollowed}
use Rattle.hollow_plans.proofs.HollowedLists.{none_hollowed, one_hollowed, hollowing_stops, all_hollowed}
use Rattle.hollow_plans.proofs.walls.hollow_all.Goals as goal

pub hollow_one-requires-clause-brush : goal.hollow_one-requires-clause-brush
hollow_one-requires-clause-brush c = c.requires.brushes c.id-item.result (is_member c.args.ids.now c.loop-id.id-index c.id-item.result c.loop-id-test.true c.id-item.is)

pub hollow_one-requires-clause-boxed : goal.hollow_one-requires-clause-boxed
hollow_one-requires-clause-boxed c = c.requires.boxes c.id-item.result (is_member c.args.ids.now c.loop-id.id-index c.id-item.result c.loop-id-test.true c.id-item.is)

pub loop-id-init : goal.loop-id-init
loop-id-init c = λ b right. none_hollowed (whole c.args.map.now) (to_z w32 (of_z w32 c.args.thickness)) c.args.ids.now c.in_ok-hollowed.hollowed.items c.in_ok-hollowed.ensures.items b

pub loop-id-preserved : goal.loop-id-preserved
loop-id-preserved c =
    one_hollowed (whole c.args.map.now) (to_z w32 (of_z w32 c.args.thickness)) c.args.ids.now c.loop-id.id-index c.id-item.result c.loop-id.hollowed.items c.add.new.hollowed.items c.in_ok-one.one
    c.loop-id-test.true c.id-item.is c.loop-id.invariant c.in_ok-one.ensures c.in_ok-add.ensures

pub returns-in_err-one : goal.returns-in_err-one
returns-in_err-one c =
    subst (λ t. AreHollowed (whole c.args.map.now) t c.args.ids.now c.from_residual-in_err-one.result) (to_z-of_z w32 c.args.thickness c.ranges.thickness)
    (hollowing_stops (whole c.args.map.now) (to_z w32 (of_z w32 c.args.thickness)) c.args.ids.now c.loop-id.id-index c.id-item.result c.loop-id.hollowed.items c.in_err-one.field-0.0 c.from_residual-in_err-one.result
    c.loop-id-test.true c.id-item.is c.loop-id.invariant c.from_residual-in_err-one.ensures.1 c.in_err-one.ensures)

pub returns : goal.returns
returns c =
    subst (λ t. AreHollowed (whole c.args.map.now) t c.args.ids.now (Ok c.of.result)) (to_z-of_z w32 c.args.thickness c.ranges.thickness)
    (all_hollowed (whole c.args.map.now) (to_z w32 (of_z w32 c.args.thickness)) c.args.ids.now c.loop-id.id-index c.loop-id.hollowed.items c.of.result c.loop-id-test.false c.loop-id.invariant c.of.ensures)
