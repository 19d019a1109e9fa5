use Rattle.std.proofs.Common.{◌≤◌, unsigned_abs, sym, subst}
use Rattle.exact_geom.specs.Planes.{half_space}
use Rattle.exact_geom.proofs.PlaneLaws.{in_range}
use Rattle.csg_ops.proofs.MovedPlanes.{coordinate_kept, thickness_kept, moved_kept, part_kept, point_by}
use Rattle.csg_ops.proofs.inward.inward_point.Goals as goal

pub against-requires-2-clause-range : goal.against-requires-2-clause-range
against-requires-2-clause-range c = let r = (in_range c.args.p c.requires.range).y in subst (λ k. unsigned_abs k ≤ 4352) (sym (coordinate_kept c.args.p.y r)) r

pub against-requires-3-clause-range : goal.against-requires-3-clause-range
against-requires-3-clause-range c = let r = (in_range c.args.p c.requires.range).z in subst (λ k. unsigned_abs k ≤ 4352) (sym (coordinate_kept c.args.p.z r)) r

pub returns : goal.returns
returns c =
    let r = in_range c.args.p c.requires.range in let n = (half_space c.args.plane.now).normal in
    let k = thickness_kept c.args.thickness c.requires.thickness in
    let m = part_kept c.normal.result n c.normal.ensures.normal c.normal.ensures.size.normal in point_by
    (moved_kept c.args.thickness n.x c.args.p.x _ _ _ c.against.result c.requires.thickness r.x c.against.ensures k m.0 (coordinate_kept c.args.p.x r.x))
    (moved_kept c.args.thickness n.y c.args.p.y _ _ _ c.against-2.result c.requires.thickness r.y c.against-2.ensures k m.1 (coordinate_kept c.args.p.y r.y))
    (moved_kept c.args.thickness n.z c.args.p.z _ _ _ c.against-3.result c.requires.thickness r.z c.against-3.ensures k m.2 (coordinate_kept c.args.p.z r.z))
