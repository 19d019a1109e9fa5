use Rattle.std.proofs.Common.{◌≡◌, ◌<◌, length, Err, sym, subst, ap, arith, ◌∙◌}
use Rattle.map_model.specs.Tree.{whole}
use Rattle.map_model.specs.Commands.{Merge}
use Rattle.map_model.specs.Own.{keep_first}
use Rattle.map_model.specs.Replies.{Done}
use Rattle.map_laws.proofs.BoxCommand.{material_kept}
use Rattle.tree_ops.specs.Faults.{RefusesRightly}
use Rattle.tree_ops.proofs.Outcomes.{fault_is}
use Rattle.cut_plans.specs.Ending.{Ends, Makes}
use Rattle.hull_plans.specs.Merges.{IsMerged, AreMerged}
use Rattle.hull_plans.proofs.MergeOutcomes.{refuses, refuses_late, plans, is_map}
use Rattle.hull_plans.proofs.merging.plan_merge.Goals as goal

pub merged-requires-clause-some : goal.merged-requires-clause-some
merged-requires-clause-some c =
    let these = c.deref.ensures.value ∙ c.in_ok-ids.ensures in
    subst (λ l. 0 < length l) (sym these) (omega (arith, c.requires.good.counts))

pub merged-requires-clause-few : goal.merged-requires-clause-few
merged-requires-clause-few c =
    let these = c.deref.ensures.value ∙ c.in_ok-ids.ensures in
    subst (λ l. length l < 4096) (sym these) c.requires.good.ranges.1

pub returns-in_err-body-clause-refused : goal.returns-in_err-body-clause-refused
returns-in_err-body-clause-refused c =
    let s = c.args.set.now in
    let m = whole c.args.map.now in
    let these = c.deref.ensures.value ∙ c.in_ok-ids.ensures in
    fault_is c.from_residual-in_err-body.result (RefusesRightly s m (Merge c.args.nodes.now)) c.in_err-body.field-0.0 c.from_residual-in_err-body.ensures.1
    (refuses s m c.args.nodes.now (material_kept s c.has_material.ensures) c.requires.good c.is_map.ensures c.in_err-body.field-0.0
    (subst (λ ns. IsMerged s m ns (Err c.in_err-body.field-0.0)) these c.in_err-body.ensures))

pub keep_first-requires : goal.keep_first-requires
keep_first-requires c =
    let these = c.deref-2.ensures.value ∙ c.in_ok-ids.ensures in
    record { some = subst (λ l. 0 < length l) (sym these) (omega (arith, c.requires.good.counts)) }

pub returns-in_err-planned-clause-refused : goal.returns-in_err-planned-clause-refused
returns-in_err-planned-clause-refused c =
    let s = c.args.set.now in
    let m = whole c.args.map.now in
    let body = c.in_ok-body.body in
    let made = subst (λ ns. AreMerged s m ns body) (c.deref.ensures.value ∙ c.in_ok-ids.ensures) c.in_ok-body.ensures in
    fault_is c.from_residual-in_err-planned.result (RefusesRightly s m (Merge c.args.nodes.now)) c.in_err-planned.field-0.0 c.from_residual-in_err-planned.ensures.1
    (refuses_late s m c.args.nodes.now (material_kept s c.has_material.ensures) c.requires.good c.is_map.ensures body made c.in_err-planned.field-0.0
    (subst (λ ns. Ends m ns (keep_first body ns m) 0 Done (Err c.in_err-planned.field-0.0)) (c.deref-2.ensures.value ∙ c.in_ok-ids.ensures) c.in_err-planned.ensures))

pub returns-clause-planned : goal.returns-clause-planned
returns-clause-planned c =
    let s = c.args.set.now in
    let m = whole c.args.map.now in
    let body = c.in_ok-body.body in
    let made = subst (λ ns. AreMerged s m ns body) (c.deref.ensures.value ∙ c.in_ok-ids.ensures) c.in_ok-body.ensures in
    plans s m c.args.nodes.now (material_kept s c.has_material.ensures) c.requires.good c.is_map.ensures body made c.in_ok-planned.planned
    (subst (λ ns. Makes m ns (keep_first body ns m) 0 Done c.in_ok-planned.planned) (c.deref-2.ensures.value ∙ c.in_ok-ids.ensures) c.in_ok-planned.ensures)

pub returns-clause-sound : goal.returns-clause-sound
returns-clause-sound c =
    let s = c.args.set.now in
    let m = whole c.args.map.now in
    let body = c.in_ok-body.body in
    let made = subst (λ ns. AreMerged s m ns body) (c.deref.ensures.value ∙ c.in_ok-ids.ensures) c.in_ok-body.ensures in
    is_map s m c.args.nodes.now (material_kept s c.has_material.ensures) c.requires.good c.is_map.ensures body made c.in_ok-planned.planned
    (subst (λ ns. Makes m ns (keep_first body ns m) 0 Done c.in_ok-planned.planned) (c.deref-2.ensures.value ∙ c.in_ok-ids.ensures) c.in_ok-planned.ensures)
