use Rattle.std.proofs.Common.{◌≡◌, ◌<◌, ◌∷◌, length, Err, sym, subst, ap, ◌∙◌, arith}
use Rattle.map_model.specs.Tree.{whole}
use Rattle.map_model.specs.Commands.{Intersect}
use Rattle.map_model.specs.Replies.{Done}
use Rattle.map_model.specs.Own.{keep_first}
use Rattle.tree_ops.specs.Faults.{RefusesRightly}
use Rattle.tree_ops.proofs.Outcomes.{fault_is}
use Rattle.cut_plans.specs.Ending.{Ends, Makes}
use Rattle.cut_plans.specs.Intersects.{IsIntersected, IsIntersection}
use Rattle.cut_plans.proofs.Laws.{material_kept}
use Rattle.cut_plans.proofs.IntersectOutcomes.{refuses, refuses_late, plans, is_map}
use Rattle.cut_plans.proofs.intersect_plans.plan_intersect.Goals as goal

pub intersected-requires-clause-some : goal.intersected-requires-clause-some
intersected-requires-clause-some c =
    let e = ap length (c.deref.ensures.value ∙ c.in_ok-ids.ensures) in
    let some = c.requires.good.counts in omega (arith, e, some)

pub intersected-requires-clause-few : goal.intersected-requires-clause-few
intersected-requires-clause-few c =
    let e = ap length (c.deref.ensures.value ∙ c.in_ok-ids.ensures) in
    let few = c.requires.good.ranges.1 in omega (arith, e, few)

pub returns-in_err-body-clause-refused : goal.returns-in_err-body-clause-refused
returns-in_err-body-clause-refused c =
    let s = c.args.set.now in
    let m = whole c.args.map.now in
    let these = c.deref.ensures.value ∙ c.in_ok-ids.ensures in
    fault_is c.from_residual-in_err-body.result (RefusesRightly s m (Intersect c.args.nodes.now)) c.in_err-body.field-0.0 c.from_residual-in_err-body.ensures.1
    (refuses s m c.args.nodes.now (material_kept s c.has_material.ensures) c.requires.good c.is_map.ensures c.in_err-body.field-0.0
    (subst (λ ns. IsIntersected s m ns (Err c.in_err-body.field-0.0)) these c.in_err-body.ensures))

pub put_all-requires : goal.put_all-requires
put_all-requires c =
    let e = ap length (c.deref-2.ensures.value ∙ c.in_ok-ids.ensures) in
    let some = c.requires.good.counts in record { some = omega (arith, e, some) }

pub returns-in_err-planned-clause-refused : goal.returns-in_err-planned-clause-refused
returns-in_err-planned-clause-refused c =
    let s = c.args.set.now in
    let m = whole c.args.map.now in
    let body = c.in_ok-body.body in
    let named = c.deref-2.ensures.value ∙ c.in_ok-ids.ensures in
    let made = subst (λ ns. IsIntersection s m ns body) (c.deref.ensures.value ∙ c.in_ok-ids.ensures) c.in_ok-body.ensures in
    fault_is c.from_residual-in_err-planned.result (RefusesRightly s m (Intersect c.args.nodes.now)) c.in_err-planned.field-0.0 c.from_residual-in_err-planned.ensures.1
    (refuses_late s m c.args.nodes.now (material_kept s c.has_material.ensures) c.requires.good c.is_map.ensures body made c.in_err-planned.field-0.0
    (subst (λ ns. Ends m ns (keep_first body ns m) 0 Done (Err c.in_err-planned.field-0.0)) named c.in_err-planned.ensures))

pub returns-clause-planned : goal.returns-clause-planned
returns-clause-planned c =
    let s = c.args.set.now in
    let m = whole c.args.map.now in
    let body = c.in_ok-body.body in
    let named = c.deref-2.ensures.value ∙ c.in_ok-ids.ensures in
    let made = subst (λ ns. IsIntersection s m ns body) (c.deref.ensures.value ∙ c.in_ok-ids.ensures) c.in_ok-body.ensures in
    plans s m c.args.nodes.now (material_kept s c.has_material.ensures) c.requires.good c.is_map.ensures body made c.in_ok-planned.planned
    (subst (λ ns. Makes m ns (keep_first body ns m) 0 Done c.in_ok-planned.planned) named c.in_ok-planned.ensures)

pub returns-clause-sound : goal.returns-clause-sound
returns-clause-sound c =
    let s = c.args.set.now in
    let m = whole c.args.map.now in
    let body = c.in_ok-body.body in
    let named = c.deref-2.ensures.value ∙ c.in_ok-ids.ensures in
    let made = subst (λ ns. IsIntersection s m ns body) (c.deref.ensures.value ∙ c.in_ok-ids.ensures) c.in_ok-body.ensures in
    is_map s m c.args.nodes.now (material_kept s c.has_material.ensures) c.requires.good c.is_map.ensures body made c.in_ok-planned.planned
    (subst (λ ns. Makes m ns (keep_first body ns m) 0 Done c.in_ok-planned.planned) named c.in_ok-planned.ensures)
