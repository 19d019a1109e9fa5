use Rattle.std.proofs.Common.{◌≡◌, Some, rules, get_or, subst, refl}
use Rattle.exact_geom.specs.Vertices.{IsReduced}
use Rattle.half_arena.specs.Slots.{contents}
use Rattle.half_poly.specs.Names.{no_name}
use Rattle.half_poly.proofs.Making.{same_value}
use Rattle.half_poly.proofs.Cornering.{corners_more}
use Rattle.half_poly.proofs.names.add_corner.Goals as goal

pub returns-in_err-push-clause-reduced : goal.returns-in_err-push-clause-reduced
returns-in_err-push-clause-reduced c = λ v q. let e : contents c.args.vertices.now c.args.place ≡ Some c.in-Some.vertex.now = search rules in subst IsReduced (same_value e q) c.parts-parts.ensures.vertex.reduced

pub returns-in_ok-push-clause-corners : goal.returns-in_ok-push-clause-corners
returns-in_ok-push-clause-corners c = λ a.
    let e : contents c.args.vertices.now c.args.place ≡ Some c.in-Some.vertex.now = search rules in
    corners_more (contents c.args.vertices.now) c.args.names.now c.args.place c.args.corners.now.items c.push.new.self.items (record { name = get_or c.args.names.now c.args.place no_name; slot = c.args.place }) c.in-Some.vertex.now
    e refl refl c.in_ok-push.ensures.items a

pub returns-in_ok-push-clause-reduced : goal.returns-in_ok-push-clause-reduced
returns-in_ok-push-clause-reduced c = λ v q. let e : contents c.args.vertices.now c.args.place ≡ Some c.in-Some.vertex.now = search rules in subst IsReduced (same_value e q) c.parts-parts.ensures.vertex.reduced
