use Rattle.std.proofs.Common.{◌≡◌, ◌<◌, ◌∷◌, length, Err, sym, subst, ap, ◌∙◌}
use Rattle.map_model.specs.Tree.{whole}
use Rattle.map_model.specs.Commands.{Subtract}
use Rattle.map_model.specs.Replies.{Made}
use Rattle.tree_ops.specs.Faults.{RefusesRightly}
use Rattle.tree_ops.proofs.Outcomes.{fault_is}
use Rattle.cut_plans.specs.Ending.{Ends, Makes}
use Rattle.cut_plans.specs.Subtracts.{IsSubtracted, AreSubtracted, drawn_by, subtracted}
use Rattle.cut_plans.proofs.Laws.{material_kept}
use Rattle.cut_plans.proofs.SubtractOutcomes.{refuses, refuses_late, one_each, plans, is_map}
use Rattle.cut_plans.proofs.subtract_plans.plan_subtract.Goals as goal

pub subtracted-requires : goal.subtracted-requires
subtracted-requires c = record { named = c.deref-3.ensures.value ∙ c.in_ok-named.ensures ∙ ap (λ l. c.args.by ∷ l) (c.deref.ensures.value ∙ sym c.deref-2.ensures.value) }

pub returns-in_err-parted-clause-refused : goal.returns-in_err-parted-clause-refused
returns-in_err-parted-clause-refused c =
    let s = c.args.set.now in
    let m = whole c.args.map.now in
    let these = c.deref-2.ensures.value ∙ c.in_ok-ids.ensures in
    fault_is c.from_residual-in_err-parted.result (RefusesRightly s m (Subtract c.args.by c.args.nodes.now)) c.in_err-parted.field-0.0 c.from_residual-in_err-parted.ensures.1
    (refuses s m c.args.by c.args.nodes.now (material_kept s c.has_material.ensures) c.requires.good c.is_map.ensures c.in_err-parted.field-0.0
    (subst (λ ns. IsSubtracted s m c.args.by ns (Err c.in_err-parted.field-0.0)) these c.in_err-parted.ensures))

pub put_all-requires-clause-brushes : goal.put_all-requires-clause-brushes
put_all-requires-clause-brushes c =
    let s = c.args.set.now in
    let m = whole c.args.map.now in
    let these = c.deref-2.ensures.value ∙ c.in_ok-ids.ensures in
    let made = subst (λ ns. AreSubtracted s m c.args.by ns c.in_ok-parted.parted) these c.in_ok-parted.ensures in
    subst (λ n. n < 4096) (sym (one_each s m c.args.by c.args.nodes.now (material_kept s c.has_material.ensures) c.requires.good c.is_map.ensures c.in_ok-parted.parted made)) c.requires.good.ranges.1.1

pub put_all-requires-clause-pieces : goal.put_all-requires-clause-pieces
put_all-requires-clause-pieces c = c.in_ok-parted.ensures.few

pub returns-in_err-planned-clause-refused : goal.returns-in_err-planned-clause-refused
returns-in_err-planned-clause-refused c =
    let s = c.args.set.now in
    let m = whole c.args.map.now in
    let list = c.in_ok-parted.parted in
    let these = c.deref-2.ensures.value ∙ c.in_ok-ids.ensures in
    let named = c.deref-4.ensures.value ∙ c.in_ok-named.ensures ∙ ap (λ l. c.args.by ∷ l) (c.deref.ensures.value ∙ c.in_ok-ids.ensures) in
    let made = subst (λ ns. AreSubtracted s m c.args.by ns list) these c.in_ok-parted.ensures in
    fault_is c.from_residual-in_err-planned.result (RefusesRightly s m (Subtract c.args.by c.args.nodes.now)) c.in_err-planned.field-0.0 c.from_residual-in_err-planned.ensures.1
    (refuses_late s m c.args.by c.args.nodes.now (material_kept s c.has_material.ensures) c.requires.good c.is_map.ensures list made c.in_err-planned.field-0.0
    (subst (λ ns. Ends m ns (subtracted c.args.by list m) (drawn_by list) (Made (drawn_by list) m.next) (Err c.in_err-planned.field-0.0)) named c.in_err-planned.ensures))

pub returns-clause-planned : goal.returns-clause-planned
returns-clause-planned c =
    let s = c.args.set.now in
    let m = whole c.args.map.now in
    let list = c.in_ok-parted.parted in
    let these = c.deref-2.ensures.value ∙ c.in_ok-ids.ensures in
    let named = c.deref-4.ensures.value ∙ c.in_ok-named.ensures ∙ ap (λ l. c.args.by ∷ l) (c.deref.ensures.value ∙ c.in_ok-ids.ensures) in
    let made = subst (λ ns. AreSubtracted s m c.args.by ns list) these c.in_ok-parted.ensures in
    plans s m c.args.by c.args.nodes.now (material_kept s c.has_material.ensures) c.requires.good c.is_map.ensures list made c.in_ok-planned.planned
    (subst (λ ns. Makes m ns (subtracted c.args.by list m) (drawn_by list) (Made (drawn_by list) m.next) c.in_ok-planned.planned) named c.in_ok-planned.ensures)

pub returns-clause-sound : goal.returns-clause-sound
returns-clause-sound c =
    let s = c.args.set.now in
    let m = whole c.args.map.now in
    let list = c.in_ok-parted.parted in
    let these = c.deref-2.ensures.value ∙ c.in_ok-ids.ensures in
    let named = c.deref-4.ensures.value ∙ c.in_ok-named.ensures ∙ ap (λ l. c.args.by ∷ l) (c.deref.ensures.value ∙ c.in_ok-ids.ensures) in
    let made = subst (λ ns. AreSubtracted s m c.args.by ns list) these c.in_ok-parted.ensures in
    is_map s m c.args.by c.args.nodes.now (material_kept s c.has_material.ensures) c.requires.good c.is_map.ensures list made c.in_ok-planned.planned
    (subst (λ ns. Makes m ns (subtracted c.args.by list m) (drawn_by list) (Made (drawn_by list) m.next) c.in_ok-planned.planned) named c.in_ok-planned.ensures)
