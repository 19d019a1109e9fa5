use Rattle.std.proofs.Common.{ap, sym, subst, ◌∙◌}
use Rattle.exact_geom.specs.Planes.{vector}
use Rattle.solid_brush.specs.Sides.{half_spaces as of_sides}
use Rattle.ray_pick.specs.Hits.{IsHit}
use Rattle.map_model.specs.Tree.{whole}
use Rattle.loop_laws.proofs.Faces.{same_spaces}
use Rattle.tree_session.proofs.Picks.{met_brush}
use Rattle.tree_session.proofs.picking.hit_at.Goals as goal

pub returns-in-Some : goal.returns-in-Some
returns-in-Some c =
    let fs = c.in-Some.body.now in
    let a = vector c.args.from in
    let b = vector c.args.to in
    met_brush (whole c.args.map.now) a b c.args.node fs c.first_hit.result (sym c.in-Some.ensures)
    (subst (λ F. IsHit F a b c.first_hit.result) (ap of_sides c.solid.ensures.sides ∙ same_spaces 0 fs) c.first_hit.ensures)
