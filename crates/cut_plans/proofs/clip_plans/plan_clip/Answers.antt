use Rattle.std.proofs.Common.{◌≡◌, ◌<◌, length, Err, sym, subst, ap, ◌∙◌}
use Rattle.map_model.specs.Tree.{whole}
use Rattle.map_model.specs.Edits.{each_in_turn}
use Rattle.map_model.specs.Commands.{Clip}
use Rattle.tree_ops.specs.Faults.{RefusesRightly}
use Rattle.tree_ops.proofs.Outcomes.{fault_is}
use Rattle.cut_plans.specs.Ending.{Ends, Makes}
use Rattle.cut_plans.specs.Clips.{IsCut, AreCut, put_clipped, drawn_by, drawn_for, clip_reply}
use Rattle.cut_plans.proofs.Laws.{material_kept}
use Rattle.cut_plans.proofs.ClipOutcomes.{refuses, refuses_late, drawn, plans, is_map}
use Rattle.cut_plans.proofs.clip_plans.plan_clip.Goals as goal

pub clipped-requires : goal.clipped-requires
clipped-requires c = record { good = c.requires.good.ranges.0 }

pub returns-in_err-clipped-clause-refused : goal.returns-in_err-clipped-clause-refused
returns-in_err-clipped-clause-refused c =
    let s = c.args.set.now in
    let m = whole c.args.map.now in
    let these = c.deref.ensures.value ∙ c.in_ok-ids.ensures in
    fault_is c.from_residual-in_err-clipped.result (RefusesRightly s m (Clip c.args.part c.args.plane c.args.nodes.now)) c.in_err-clipped.field-0.0 c.from_residual-in_err-clipped.ensures.1
    (refuses s m c.args.part c.args.plane c.args.nodes.now (material_kept s c.has_material.ensures) c.requires.good c.is_map.ensures c.in_err-clipped.field-0.0
    (subst (λ ns. IsCut s m c.args.part c.args.plane ns (Err c.in_err-clipped.field-0.0)) these c.in_err-clipped.ensures))

pub put_all-requires : goal.put_all-requires
put_all-requires c =
    let s = c.args.set.now in
    let m = whole c.args.map.now in
    let these = c.deref.ensures.value ∙ c.in_ok-ids.ensures in
    let again = c.deref-2.ensures.value ∙ c.in_ok-ids.ensures in
    let cut = subst (λ ns. AreCut s m c.args.part c.args.plane ns c.in_ok-clipped.clipped) these c.in_ok-clipped.ensures in
    record {
      few = subst (λ ns. length ns < 4096) (sym again) c.requires.good.ranges.1.1;
      drawn = subst (λ ns. drawn_by c.in_ok-clipped.clipped ≡ drawn_for c.args.part ns) (sym again)
          (drawn s m c.args.part c.args.plane c.args.nodes.now (material_kept s c.has_material.ensures) c.requires.good c.is_map.ensures c.in_ok-clipped.clipped cut);
    }

pub returns-in_err-planned-clause-refused : goal.returns-in_err-planned-clause-refused
returns-in_err-planned-clause-refused c =
    let s = c.args.set.now in
    let m = whole c.args.map.now in
    let part = c.args.part in
    let list = c.in_ok-clipped.clipped in
    let these = c.deref.ensures.value ∙ c.in_ok-ids.ensures in
    let again = c.deref-2.ensures.value ∙ c.in_ok-ids.ensures in
    let cut = subst (λ ns. AreCut s m part c.args.plane ns list) these c.in_ok-clipped.ensures in
    fault_is c.from_residual-in_err-planned.result (RefusesRightly s m (Clip part c.args.plane c.args.nodes.now)) c.in_err-planned.field-0.0 c.from_residual-in_err-planned.ensures.1
    (refuses_late s m part c.args.plane c.args.nodes.now (material_kept s c.has_material.ensures) c.requires.good c.is_map.ensures list cut c.in_err-planned.field-0.0
    (subst (λ ns. Ends m ns (each_in_turn put_clipped list m) (drawn_for part ns) (clip_reply part (drawn_for part ns) m.next) (Err c.in_err-planned.field-0.0)) again c.in_err-planned.ensures))

pub returns-clause-planned : goal.returns-clause-planned
returns-clause-planned c =
    let s = c.args.set.now in
    let m = whole c.args.map.now in
    let part = c.args.part in
    let list = c.in_ok-clipped.clipped in
    let these = c.deref.ensures.value ∙ c.in_ok-ids.ensures in
    let again = c.deref-2.ensures.value ∙ c.in_ok-ids.ensures in
    let cut = subst (λ ns. AreCut s m part c.args.plane ns list) these c.in_ok-clipped.ensures in
    plans s m part c.args.plane c.args.nodes.now (material_kept s c.has_material.ensures) c.requires.good c.is_map.ensures list cut c.in_ok-planned.planned
    (subst (λ ns. Makes m ns (each_in_turn put_clipped list m) (drawn_for part ns) (clip_reply part (drawn_for part ns) m.next) c.in_ok-planned.planned) again c.in_ok-planned.ensures)

pub returns-clause-sound : goal.returns-clause-sound
returns-clause-sound c =
    let s = c.args.set.now in
    let m = whole c.args.map.now in
    let part = c.args.part in
    let list = c.in_ok-clipped.clipped in
    let these = c.deref.ensures.value ∙ c.in_ok-ids.ensures in
    let again = c.deref-2.ensures.value ∙ c.in_ok-ids.ensures in
    let cut = subst (λ ns. AreCut s m part c.args.plane ns list) these c.in_ok-clipped.ensures in
    is_map s m part c.args.plane c.args.nodes.now (material_kept s c.has_material.ensures) c.requires.good c.is_map.ensures list cut c.in_ok-planned.planned
    (subst (λ ns. Makes m ns (each_in_turn put_clipped list m) (drawn_for part ns) (clip_reply part (drawn_for part ns) m.next) c.in_ok-planned.planned) again c.in_ok-planned.ensures)
