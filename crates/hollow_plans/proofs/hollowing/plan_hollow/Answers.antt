use Rattle.std.proofs.Common.{Err, w32, sym, subst, ◌∙◌}
use Rattle.std.proofs.lemmas.Int.{to_z-of_z}
use Rattle.map_model.specs.Tree.{whole}
use Rattle.map_model.specs.Edits.{each_in_turn}
use Rattle.map_model.specs.Commands.{Hollow}
use Rattle.map_model.specs.Replies.{Made}
use Rattle.csg_ops.specs.Hollows.{IsThickness}
use Rattle.tree_ops.specs.Faults.{RefusesRightly}
use Rattle.tree_ops.proofs.Outcomes.{fault_is}
use Rattle.cut_plans.specs.Ending.{Ends, Makes}
use Rattle.cut_plans.proofs.Laws.{material_kept}
use Rattle.hollow_plans.specs.Walls.{IsHollow, HaveWalls, put_walls, wall_count}
use Rattle.hollow_plans.proofs.HollowOutcomes.{refuses, refuses_late, few, plans, is_map}
use Rattle.hollow_plans.proofs.hollowing.plan_hollow.Goals as goal

pub hollowed-requires : goal.hollowed-requires
hollowed-requires c = record {
  thickness = subst IsThickness (sym (to_z-of_z w32 c.args.thickness c.ranges.thickness)) (record { least = c.requires.good.ranges.0.0; most = c.requires.good.ranges.0.1 });
}

pub returns-in_err-hollowed-clause-refused : goal.returns-in_err-hollowed-clause-refused
returns-in_err-hollowed-clause-refused c =
    let s = c.args.set.now in
    let m = whole c.args.map.now in
    let these = c.deref.ensures.value ∙ c.in_ok-ids.ensures in
    fault_is c.from_residual-in_err-hollowed.result (RefusesRightly s m (Hollow c.args.thickness c.args.nodes.now)) c.in_err-hollowed.field-0.0 c.from_residual-in_err-hollowed.ensures.1
    (refuses s m c.args.thickness c.args.nodes.now (material_kept s c.has_material.ensures) c.requires.good c.is_map.ensures c.in_err-hollowed.field-0.0
    (subst (λ ns. IsHollow m c.args.thickness ns (Err c.in_err-hollowed.field-0.0)) these
    (subst (λ t. IsHollow m t c.deref.result.now (Err c.in_err-hollowed.field-0.0)) (to_z-of_z w32 c.args.thickness c.ranges.thickness) c.in_err-hollowed.ensures)))

pub put_all-requires : goal.put_all-requires
put_all-requires c =
    let s = c.args.set.now in
    let m = whole c.args.map.now in
    let these = c.deref.ensures.value ∙ c.in_ok-ids.ensures in
    let have = subst (λ ns. HaveWalls m c.args.thickness ns c.in_ok-hollowed.hollowed) these
    (subst (λ t. HaveWalls m t c.deref.result.now c.in_ok-hollowed.hollowed) (to_z-of_z w32 c.args.thickness c.ranges.thickness) c.in_ok-hollowed.ensures) in
    record { few = few s m c.args.thickness c.args.nodes.now (material_kept s c.has_material.ensures) c.requires.good c.is_map.ensures c.in_ok-hollowed.hollowed have }

pub returns-in_err-planned-clause-refused : goal.returns-in_err-planned-clause-refused
returns-in_err-planned-clause-refused c =
    let s = c.args.set.now in
    let m = whole c.args.map.now in
    let list = c.in_ok-hollowed.hollowed in
    let these = c.deref.ensures.value ∙ c.in_ok-ids.ensures in
    let again = c.deref-2.ensures.value ∙ c.in_ok-ids.ensures in
    let have = subst (λ ns. HaveWalls m c.args.thickness ns list) these
    (subst (λ t. HaveWalls m t c.deref.result.now c.in_ok-hollowed.hollowed) (to_z-of_z w32 c.args.thickness c.ranges.thickness) c.in_ok-hollowed.ensures) in
    fault_is c.from_residual-in_err-planned.result (RefusesRightly s m (Hollow c.args.thickness c.args.nodes.now)) c.in_err-planned.field-0.0 c.from_residual-in_err-planned.ensures.1
    (refuses_late s m c.args.thickness c.args.nodes.now (material_kept s c.has_material.ensures) c.requires.good c.is_map.ensures list have c.in_err-planned.field-0.0
    (subst (λ ns. Ends m ns (each_in_turn put_walls list m) (wall_count list) (Made (wall_count list) m.next) (Err c.in_err-planned.field-0.0)) again c.in_err-planned.ensures))

pub returns-clause-planned : goal.returns-clause-planned
returns-clause-planned c =
    let s = c.args.set.now in
    let m = whole c.args.map.now in
    let list = c.in_ok-hollowed.hollowed in
    let these = c.deref.ensures.value ∙ c.in_ok-ids.ensures in
    let again = c.deref-2.ensures.value ∙ c.in_ok-ids.ensures in
    let have = subst (λ ns. HaveWalls m c.args.thickness ns list) these
    (subst (λ t. HaveWalls m t c.deref.result.now c.in_ok-hollowed.hollowed) (to_z-of_z w32 c.args.thickness c.ranges.thickness) c.in_ok-hollowed.ensures) in
    plans s m c.args.thickness c.args.nodes.now (material_kept s c.has_material.ensures) c.requires.good c.is_map.ensures list have c.in_ok-planned.planned
    (subst (λ ns. Makes m ns (each_in_turn put_walls list m) (wall_count list) (Made (wall_count list) m.next) c.in_ok-planned.planned) again c.in_ok-planned.ensures)

pub returns-clause-sound : goal.returns-clause-sound
returns-clause-sound c =
    let s = c.args.set.now in
    let m = whole c.args.map.now in
    let list = c.in_ok-hollowed.hollowed in
    let these = c.deref.ensures.value ∙ c.in_ok-ids.ensures in
    let again = c.deref-2.ensures.value ∙ c.in_ok-ids.ensures in
    let have = subst (λ ns. HaveWalls m c.args.thickness ns list) these
    (subst (λ t. HaveWalls m t c.deref.result.now c.in_ok-hollowed.hollowed) (to_z-of_z w32 c.args.thickness c.ranges.thickness) c.in_ok-hollowed.ensures) in
    is_map s m c.args.thickness c.args.nodes.now (material_kept s c.has_material.ensures) c.requires.good c.is_map.ensures list have c.in_ok-planned.planned
    (subst (λ ns. Makes m ns (each_in_turn put_walls list m) (wall_count list) (Made (wall_count list) m.next) c.in_ok-planned.planned) again c.in_ok-planned.ensures)
