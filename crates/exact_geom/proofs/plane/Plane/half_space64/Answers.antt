use Rattle.exact_geom.proofs.PlaneLaws.{is_small, IsSmall_at}
use Rattle.exact_geom.proofs.plane.Plane.half_space64.Goals as goal

pub returns-clause-size : goal.returns-clause-size
returns-clause-size c =
    IsSmall_at c.through.ensures (is_small (record { p0 = c.self.inside.p0; p1 = c.self.inside.p1; p2 = c.self.inside.p2 }) c.self.invariant)
