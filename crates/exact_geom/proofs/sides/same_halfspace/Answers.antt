use Rattle.std.proofs.Common.{ap, ◌∙◌}
use Rattle.exact_geom.specs.Machine.{is_same, half_space64}
use Rattle.exact_geom.specs.Planes.{half_space}
use Rattle.exact_geom.proofs.PlaneLaws.{normal_positive}
use Rattle.exact_geom.proofs.SameSide.{same_test}
use Rattle.exact_geom.proofs.sides.same_halfspace.Goals as goal

pub returns : goal.returns
returns c =
    same_test (half_space c.args.a.now) (half_space c.args.b.now) c.is_same.result (normal_positive c.args.a.now c.half_space64.ensures.plane) (normal_positive c.args.b.now c.half_space64-2.ensures.plane)
    (c.is_same.ensures ∙ ap (λ f. is_same f (half_space64 c.half_space64-2.result)) c.half_space64.ensures.half_space ∙ ap (λ g. is_same (half_space c.args.a.now) g) c.half_space64-2.ensures.half_space)
