use Rattle.std.proofs.Common.{Some, None, option_map, map, ap, sym, subst, ◌∙◌}
use Rattle.std.specs.Prelude.{slice_get}
use Rattle.algebra.specs.Space.{whole_point}
use Rattle.exact_geom.specs.Planes.{vector}
use Rattle.uv_lock.specs.Coordinates.{coordinates}
use Rattle.map_nodes.specs.Fractions.{fraction_of}
use Rattle.map_model.specs.Tree.{whole, faces_at}
use Rattle.tree_session.proofs.FaceCoordinates.{answered, refused_rotation}
use Rattle.tree_session.proofs.asking.uv.Goals as goal

pub returns-in-Some-uv_at : goal.returns-in-Some-uv_at
returns-in-Some-uv_at c =
    let f = c.in-Some.asked.now in
    answered (whole c.args.map.now) c.args.node c.args.face c.args.at f (sym c.in-Some.ensures) c.in-Some-uv_at.coordinates
    (ap (λ q. coordinates f (whole_point (vector q))) (sym c.point.ensures) ∙ sym c.in-Some-uv_at.ensures)

pub returns-in-None : goal.returns-in-None
returns-in-None c =
    let f = c.in-Some.asked.now in
    refused_rotation (whole c.args.map.now) c.args.node c.args.face c.args.at f (sym c.in-Some.ensures)
    (ap (λ q. coordinates f (whole_point (vector q))) (sym c.point.ensures) ∙ sym c.in-None.ensures)
