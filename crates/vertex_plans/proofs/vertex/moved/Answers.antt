use Rattle.std.proofs.Common.{sym, subst, ap, ◌∙◌, length, ◌<◌}
use Rattle.std.proofs.lemmas.List.{length-map}
use Rattle.map_model.specs.Tree.{whole}
use Rattle.map_model.specs.Commands.{point_in, points_in}
use Rattle.vertex_plans.specs.Moves.{IsMovedBody}
use Rattle.vertex_plans.proofs.MoveRows.{small_shift}
use Rattle.vertex_plans.proofs.VertexOutcomes.{stops_named, brush_is, vertex_moved}
use Rattle.vertex_plans.proofs.vertex.moved.Goals as goal

pub returns-in_err-refuse_brushes : goal.returns-in_err-refuse_brushes
returns-in_err-refuse_brushes c =
    stops_named c.args.set.now (whole c.args.map.now) c.args.id c.args.shift c.args.picks.now c.in_err-refuse_brushes.field-0.0 c.from_residual.result c.from_residual.ensures.1
    (sym c.in_err-refuse_brushes.was ∙ c.refuse_brushes.ensures)

pub body_at-requires : goal.body_at-requires
body_at-requires c = record { brush = brush_is c.args.set.now (whole c.args.map.now) c.args.id c.args.shift c.args.picks.now c.in_ok-refuse_brushes.ensures }

pub moved_body-requires : goal.moved_body-requires
moved_body-requires c = record {
  small = small_shift c.args.shift c.requires.good.ranges.1;
  few = subst (λ n. n < 4096) (sym (ap length (c.deref.ensures.value ∙ c.in_ok-points.ensures) ∙ length-map c.args.picks.now point_in)) c.requires.good.ranges.2.1;
}

pub returns : goal.returns
returns c =
    let h = subst (λ ps. IsMovedBody c.body_at.result.now c.args.id c.args.shift ps c.moved_body.result) (c.deref.ensures.value ∙ c.in_ok-points.ensures) c.moved_body.ensures in
    vertex_moved c.args.set.now (whole c.args.map.now) c.args.id c.args.shift c.args.picks.now c.in_ok-refuse_brushes.ensures c.moved_body.result
    (subst (λ fs. IsMovedBody fs c.args.id c.args.shift (points_in c.args.picks.now) c.moved_body.result) c.body_at.ensures h)
