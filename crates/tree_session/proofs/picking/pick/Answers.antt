use Rattle.std.proofs.Common.{Some, ap₂, sym, subst, ◌∙◌}
use Rattle.exact_geom.specs.Planes.{vector}
use Rattle.map_model.specs.Tree.{whole}
use Rattle.map_model.specs.Brushes.{is_same_point}
use Rattle.tree_session.specs.Words.{AnswersRay}
use Rattle.tree_session.specs.Picks.{IsNearest}
use Rattle.tree_session.proofs.Picks.{point_in_range, answered_ray}
use Rattle.tree_session.proofs.picking.pick.Goals as goal

pub first_met-requires-clause-from_in_range : goal.first_met-requires-clause-from_in_range
first_met-requires-clause-from_in_range c = point_in_range c.args.from c.point-from.result c.point-from.ensures c.requires.from_is_point

pub first_met-requires-clause-to_in_range : goal.first_met-requires-clause-to_in_range
first_met-requires-clause-to_in_range c = point_in_range c.args.to c.point-to.result c.point-to.ensures c.requires.to_is_point

pub returns-in-Some : goal.returns-in-Some
returns-in-Some c =
    let m = whole c.args.map.now in
    let p = c.point-from.result in
    let q = c.point-to.result in
    subst (AnswersRay m c.args.from c.args.to) (sym c.hit_reply.ensures)
    (answered_ray m c.args.from c.args.to (Some c.in-Some.met) p q c.point-from.ensures c.point-to.ensures
    (ap₂ is_same_point (sym c.point-from.ensures) (sym c.point-to.ensures) ∙ sym c.if-eq.ensures)
    (subst (IsNearest m (vector p) (vector q) m.next) c.in-Some.is c.first_met.ensures))
