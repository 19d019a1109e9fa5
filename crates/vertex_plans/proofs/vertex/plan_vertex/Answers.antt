use Rattle.std.proofs.Common.{◌≡◌, Ok, Err, [], ◌∷◌, sym, subst, ap, ◌∙◌}
use Rattle.map_model.specs.Tree.{whole}
use Rattle.map_model.specs.Edits.{each_in_turn}
use Rattle.map_model.specs.Commands.{Vertex}
use Rattle.map_model.specs.Replies.{Done}
use Rattle.tree_ops.specs.Faults.{RefusesRightly}
use Rattle.tree_ops.proofs.Outcomes.{fault_is}
use Rattle.cut_plans.specs.Ending.{Ends, Makes}
use Rattle.cut_plans.proofs.Laws.{material_kept}
use Rattle.vertex_plans.specs.Putting.{put_body}
use Rattle.vertex_plans.proofs.VertexOutcomes.{refuses, refuses_late, plans, is_map}
use Rattle.vertex_plans.proofs.vertex.plan_vertex.Goals as goal

pub moved-requires : goal.moved-requires
moved-requires c = record { good = c.requires.good }

pub returns-in_err-body-clause-refused : goal.returns-in_err-body-clause-refused
returns-in_err-body-clause-refused c =
    let s = c.args.set.now in
    let m = whole c.args.map.now in
    fault_is c.from_residual.result (RefusesRightly s m (Vertex c.args.node c.args.shift c.args.picks.now)) c.in_err-body.field-0.0 c.from_residual.ensures.1
    (refuses s m c.args.node c.args.shift c.args.picks.now (material_kept s c.has_material.ensures) c.requires.good c.is_map.ensures c.in_err-body.field-0.0 c.in_err-body.ensures)

pub returns-in_err-planned-clause-refused : goal.returns-in_err-planned-clause-refused
returns-in_err-planned-clause-refused c =
    let s = c.args.set.now in
    let m = whole c.args.map.now in
    fault_is c.from_residual-in_err-planned.result (RefusesRightly s m (Vertex c.args.node c.args.shift c.args.picks.now)) c.in_err-planned.field-0.0 c.from_residual-in_err-planned.ensures.1
    (refuses_late s m c.args.node c.args.shift c.args.picks.now (material_kept s c.has_material.ensures) c.requires.good c.is_map.ensures c.in_ok-body.body c.in_ok-body.ensures c.in_err-planned.field-0.0
    (subst (λ list. Ends m (c.args.node ∷ []) (each_in_turn put_body list m) 0 Done (Err c.in_err-planned.field-0.0)) c.in_ok-bodies.ensures c.in_err-planned.ensures))

pub returns-clause-planned : goal.returns-clause-planned
returns-clause-planned c =
    let s = c.args.set.now in
    let m = whole c.args.map.now in
    plans s m c.args.node c.args.shift c.args.picks.now (material_kept s c.has_material.ensures) c.requires.good c.is_map.ensures c.in_ok-body.body c.in_ok-body.ensures c.in_ok-planned.planned
    (subst (λ list. Makes m (c.args.node ∷ []) (each_in_turn put_body list m) 0 Done c.in_ok-planned.planned) c.in_ok-bodies.ensures c.in_ok-planned.ensures)

pub returns-clause-sound : goal.returns-clause-sound
returns-clause-sound c =
    let s = c.args.set.now in
    let m = whole c.args.map.now in
    is_map s m c.args.node c.args.shift c.args.picks.now (material_kept s c.has_material.ensures) c.requires.good c.is_map.ensures c.in_ok-body.body c.in_ok-body.ensures c.in_ok-planned.planned
    (subst (λ list. Makes m (c.args.node ∷ []) (each_in_turn put_body list m) 0 Done c.in_ok-planned.planned) c.in_ok-bodies.ensures c.in_ok-planned.ensures)
