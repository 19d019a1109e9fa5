use Rattle.std.proofs.Common.{◌≡◌, Err, ap, sym, subst, ◌∙◌}
use Rattle.solid_brush.specs.Sides as solid
use Rattle.vertex_edit.specs.MoveFaults.{IsNoMoveFor}
use Rattle.vertex_edit.specs.Places.{IsMoved}
use Rattle.cut_plans.proofs.Faces.{spaces}
use Rattle.cut_plans.proofs.Trimmed.{valid_faces}
use Rattle.map_model.specs.Shape.{half_spaces}
use Rattle.vertex_plans.specs.Moves.{IsMovedBody}
use Rattle.vertex_plans.proofs.MoveRows.{comes_from, moved_body, no_body, few_pick}
use Rattle.vertex_plans.proofs.moving.moved_body.Goals as goal

pub remade-requires : goal.remade-requires
remade-requires c =
    let fs = c.args.body.now in
    let moved = subst (λ F. IsMoved F c.args.picks.now c.args.shift c.in-Ok.moved.facets c.in-Ok.moved.solid) (ap solid.half_spaces c.solid.ensures.sides ∙ spaces 0 fs) c.in-Ok.ensures.moved in
    record { from = comes_from fs c.args.id c.args.shift c.args.picks.now (valid_faces fs c.is_valid.ensures) c.in-Ok.moved.facets c.in-Ok.moved.solid moved }

pub returns-in_ok-remade-in-Ok : goal.returns-in_ok-remade-in-Ok
returns-in_ok-remade-in-Ok c =
    let fs = c.args.body.now in
    let moved = subst (λ F. IsMoved F c.args.picks.now c.args.shift c.in-Ok.moved.facets c.in-Ok.moved.solid) (ap solid.half_spaces c.solid.ensures.sides ∙ spaces 0 fs) c.in-Ok.ensures.moved in
    moved_body fs c.args.id c.args.shift c.args.picks.now (valid_faces fs c.is_valid.ensures) c.in-Ok.moved.facets c.in-Ok.moved.solid c.in_ok-remade-in-Ok.field-0 moved c.in_ok-remade-in-Ok.ensures

pub why-requires : goal.why-requires
why-requires c = record { few = few_pick (solid.half_spaces c.solid.result.now) c.args.picks.now c.args.shift c.in-Err.fault c.in-Err.ensures.fault c.requires.few }

pub returns-in-Err : goal.returns-in-Err
returns-in-Err c =
    let fs = c.args.body.now in
    let none = subst (λ F. IsNoMoveFor F c.args.picks.now c.args.shift c.in-Err.fault) (ap solid.half_spaces c.solid.ensures.sides ∙ spaces 0 fs) c.in-Err.ensures.fault in
    subst (λ e. IsMovedBody fs c.args.id c.args.shift c.args.picks.now (Err e)) (sym c.why.ensures) (no_body fs c.args.id c.args.shift c.args.picks.now (valid_faces fs c.is_valid.ensures) c.in-Err.fault none)
