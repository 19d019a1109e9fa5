use Rattle.std.proofs.Common.{ap, ◌∙◌}
use Rattle.algebra.specs.Space.{reverse}
use Rattle.algebra.proofs.Identities.{through-swap}
use Rattle.exact_geom.specs.Planes.{half_space, vector}
use Rattle.exact_geom.proofs.PlaneLaws.{is_plane-reverse}
use Rattle.exact_geom.proofs.plane.Plane.reverse.Goals as goal

pub invariant_of-result : goal.invariant_of-result
invariant_of-result c = is_plane-reverse (record { p0 = c.self.inside.p0; p1 = c.self.inside.p1; p2 = c.self.inside.p2 }) c.self.invariant

pub returns-clause-half_space : goal.returns-clause-half_space
returns-clause-half_space c =
    through-swap (vector c.self.inside.p0) (vector c.self.inside.p1) (vector c.self.inside.p2) ∙ ap (λ t. reverse (half_space t)) c.self.view_is
