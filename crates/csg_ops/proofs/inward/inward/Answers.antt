use Rattle.std.proofs.Common.{sym, ap, refl, ◌∙◌, ◌+◌}
use Rattle.exact_geom.specs.Planes.{plane_of}
use Rattle.csg_ops.specs.Hollows.{inward_plane}
use Rattle.csg_ops.proofs.MovedPlanes.{thickness_kept, points_are, listed_in_range, none_behind, plane_is}
use Rattle.csg_ops.proofs.inward.inward.Goals as goal

pub inward_point-requires-clause-range : goal.inward_point-requires-clause-range
inward_point-requires-clause-range c = (listed_in_range c.args.side.now.plane c.points.result c.points.ensures.points c.points.ensures.plane).0

pub inward_point-requires-2-clause-range : goal.inward_point-requires-2-clause-range
inward_point-requires-2-clause-range c = (listed_in_range c.args.side.now.plane c.points.result c.points.ensures.points c.points.ensures.plane).1

pub inward_point-requires-3-clause-range : goal.inward_point-requires-3-clause-range
inward_point-requires-3-clause-range c = (listed_in_range c.args.side.now.plane c.points.result c.points.ensures.points c.points.ensures.plane).2

pub returns-in_default : goal.returns-in_default
returns-in_default c =
    let t = c.args.thickness in let f = c.args.side.now.plane in
    let is = c.of.ensures ∙ ap plane_of (points_are t _ f c.points.result c.inward_point.result c.inward_point-2.result c.inward_point-3.result (thickness_kept t c.requires.thickness) c.points.ensures.points c.inward_point.ensures c.inward_point-2.ensures c.inward_point-3.ensures refl) in
    none_behind t f c.in_default.field-0 c.requires.thickness c.points.ensures.plane c.requires.along (sym is ∙ c.in_default.is)

pub returns : goal.returns
returns c =
    let t = c.args.thickness in let f = c.args.side.now.plane in
    let is = c.of.ensures ∙ ap plane_of (points_are t _ f c.points.result c.inward_point.result c.inward_point-2.result c.inward_point-3.result (thickness_kept t c.requires.thickness) c.points.ensures.points c.inward_point.ensures c.inward_point-2.ensures c.inward_point-3.ensures refl) in
    let e = plane_is (inward_plane t f) c.in-Ok.plane (sym is ∙ c.in-Ok.is) in
    λ i. record { plane = e i; tag = c.args.side.now.tag + 1073741824 }
