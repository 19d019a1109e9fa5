use Rattle.std.proofs.Common.{◌≡◌, Ok, Err, sym, subst, ap, ◌∙◌}
use Rattle.map_model.specs.Tree.{whole}
use Rattle.map_model.specs.Edits.{each_in_turn}
use Rattle.map_model.specs.Commands.{Snap}
use Rattle.map_model.specs.Replies.{Done}
use Rattle.tree_ops.specs.Faults.{RefusesRightly}
use Rattle.tree_ops.proofs.Outcomes.{fault_is}
use Rattle.cut_plans.specs.Ending.{Ends, Makes}
use Rattle.cut_plans.proofs.Laws.{material_kept}
use Rattle.vertex_plans.specs.Putting.{put_body}
use Rattle.vertex_plans.specs.Snaps.{IsRounded, AreRounded}
use Rattle.vertex_plans.proofs.SnapOutcomes.{refuses, refuses_late, plans, is_map}
use Rattle.vertex_plans.proofs.snap.plan_snap.Goals as goal

pub rounded-requires : goal.rounded-requires
rounded-requires c = record { grid = c.requires.good.ranges.0 }

pub returns-in_err-bodies-clause-refused : goal.returns-in_err-bodies-clause-refused
returns-in_err-bodies-clause-refused c =
    let s = c.args.set.now in
    let m = whole c.args.map.now in
    let these = c.deref.ensures.value ∙ c.in_ok-ids.ensures in
    fault_is c.from_residual-in_err-bodies.result (RefusesRightly s m (Snap c.args.grid.now c.args.nodes.now)) c.in_err-bodies.field-0.0 c.from_residual-in_err-bodies.ensures.1
    (refuses s m c.args.grid.now c.args.nodes.now (material_kept s c.has_material.ensures) c.requires.good c.is_map.ensures c.in_err-bodies.field-0.0
    (subst (λ ns. IsRounded s m c.args.grid.now ns (Err c.in_err-bodies.field-0.0)) these c.in_err-bodies.ensures))

pub returns-in_err-planned-clause-refused : goal.returns-in_err-planned-clause-refused
returns-in_err-planned-clause-refused c =
    let s = c.args.set.now in
    let m = whole c.args.map.now in
    let these = c.deref.ensures.value ∙ c.in_ok-ids.ensures in
    let again = c.deref-2.ensures.value ∙ c.in_ok-ids.ensures in
    let rounded = subst (λ ns. AreRounded s m c.args.grid.now ns c.in_ok-bodies.bodies) these c.in_ok-bodies.ensures in
    fault_is c.from_residual-in_err-planned.result (RefusesRightly s m (Snap c.args.grid.now c.args.nodes.now)) c.in_err-planned.field-0.0 c.from_residual-in_err-planned.ensures.1
    (refuses_late s m c.args.grid.now c.args.nodes.now (material_kept s c.has_material.ensures) c.requires.good c.is_map.ensures c.in_ok-bodies.bodies rounded c.in_err-planned.field-0.0
    (subst (λ ns. Ends m ns (each_in_turn put_body c.in_ok-bodies.bodies m) 0 Done (Err c.in_err-planned.field-0.0)) again
    (subst (λ list. Ends m c.deref-2.result.now (each_in_turn put_body list m) 0 Done (Err c.in_err-planned.field-0.0)) c.into_vec.ensures c.in_err-planned.ensures)))

pub returns-clause-planned : goal.returns-clause-planned
returns-clause-planned c =
    let s = c.args.set.now in
    let m = whole c.args.map.now in
    let these = c.deref.ensures.value ∙ c.in_ok-ids.ensures in
    let again = c.deref-2.ensures.value ∙ c.in_ok-ids.ensures in
    let rounded = subst (λ ns. AreRounded s m c.args.grid.now ns c.in_ok-bodies.bodies) these c.in_ok-bodies.ensures in
    plans s m c.args.grid.now c.args.nodes.now (material_kept s c.has_material.ensures) c.requires.good c.is_map.ensures c.in_ok-bodies.bodies rounded c.in_ok-planned.planned
    (subst (λ ns. Makes m ns (each_in_turn put_body c.in_ok-bodies.bodies m) 0 Done c.in_ok-planned.planned) again
    (subst (λ list. Makes m c.deref-2.result.now (each_in_turn put_body list m) 0 Done c.in_ok-planned.planned) c.into_vec.ensures c.in_ok-planned.ensures))

pub returns-clause-sound : goal.returns-clause-sound
returns-clause-sound c =
    let s = c.args.set.now in
    let m = whole c.args.map.now in
    let these = c.deref.ensures.value ∙ c.in_ok-ids.ensures in
    let again = c.deref-2.ensures.value ∙ c.in_ok-ids.ensures in
    let rounded = subst (λ ns. AreRounded s m c.args.grid.now ns c.in_ok-bodies.bodies) these c.in_ok-bodies.ensures in
    is_map s m c.args.grid.now c.args.nodes.now (material_kept s c.has_material.ensures) c.requires.good c.is_map.ensures c.in_ok-bodies.bodies rounded c.in_ok-planned.planned
    (subst (λ ns. Makes m ns (each_in_turn put_body c.in_ok-bodies.bodies m) 0 Done c.in_ok-planned.planned) again
    (subst (λ list. Makes m c.deref-2.result.now (each_in_turn put_body list m) 0 Done c.in_ok-planned.planned) c.into_vec.ensures c.in_ok-planned.ensures))
