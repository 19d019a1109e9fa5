use Rattle.map_model.specs.Tree.{whole}
use Rattle.map_model.specs.Commands.{Hull}
use Rattle.map_laws.proofs.BoxCommand.{material_kept}
use Rattle.tree_ops.specs.Faults.{RefusesRightly}
use Rattle.tree_ops.proofs.Outcomes.{fault_is}
use Rattle.hull_plans.proofs.HullOutcomes.{refuses, refuses_late, plans, is_map}
use Rattle.hull_plans.proofs.hulling.plan_hull.Goals as goal

pub returns-in_err-body-clause-refused : goal.returns-in_err-body-clause-refused
returns-in_err-body-clause-refused c =
    let m = whole c.args.map.now in
    fault_is c.from_residual.result (RefusesRightly c.args.set.now m (Hull c.args.points.now)) c.in_err-body.field-0.0 c.from_residual.ensures.1
    (refuses c.args.set.now m c.args.points.now (material_kept c.args.set.now c.has_material.ensures) c.requires.good c.is_map.ensures c.in_err-body.field-0.0 c.in_err-body.ensures)

pub returns-in_err-planned-clause-refused : goal.returns-in_err-planned-clause-refused
returns-in_err-planned-clause-refused c =
    let m = whole c.args.map.now in
    fault_is c.from_residual-in_err-planned.result (RefusesRightly c.args.set.now m (Hull c.args.points.now)) c.in_err-planned.field-0.0 c.from_residual-in_err-planned.ensures.1
    (refuses_late c.args.set.now m c.args.points.now (material_kept c.args.set.now c.has_material.ensures) c.requires.good c.is_map.ensures c.in_ok-body.body c.in_ok-body.ensures
    c.in_err-planned.field-0.0 c.in_err-planned.ensures)

pub returns-clause-planned : goal.returns-clause-planned
returns-clause-planned c =
    let m = whole c.args.map.now in
    plans c.args.set.now m c.args.points.now (material_kept c.args.set.now c.has_material.ensures) c.requires.good c.is_map.ensures c.in_ok-body.body c.in_ok-body.ensures
    c.in_ok-planned.planned c.in_ok-planned.ensures

pub returns-clause-sound : goal.returns-clause-sound
returns-clause-sound c =
    let m = whole c.args.map.now in
    is_map c.args.set.now m c.args.points.now (material_kept c.args.set.now c.has_material.ensures) c.requires.good c.is_map.ensures c.in_ok-body.body c.in_ok-body.ensures
    c.in_ok-planned.planned c.in_ok-planned.ensures
