use Rattle.std.proofs.Common.{◌≤◌, ap, ◌∙◌, arith, refl, to_z, of_z}
use Rattle.std.specs.Int.{w128}
use Rattle.algebra.specs.Space.{dot, minus}
use Rattle.exact_geom.specs.Planes.{half_space, vector}
use Rattle.ray_pick.specs.Passings.{way_limit}
use Rattle.ray_pick.proofs.Sizes.{size_within}
use Rattle.ray_pick.proofs.Ways.{way_from_plane, way_between, second_is, second_in_range, widened, below}
use Rattle.ray_pick.proofs.passing.Passing.of.Goals as goal

pub normal_times-requires-clause-b_in_range : goal.normal_times-requires-clause-b_in_range
normal_times-requires-clause-b_in_range c = second_in_range c.args.plane.now c.points.result _ c.points.ensures.points c.points.ensures.plane

pub returns-clause-passes : goal.returns-clause-passes
returns-clause-passes c =
    let t = c.args.plane.now in
    let a = vector c.args.from.now in
    record {
      start = (widened c.from.result c.normal_times.result c.from.ensures c.normal_times.ensures.size).is ∙ c.normal_times.ensures.value
          ∙ ap (λ p. dot (half_space t).normal (minus a (vector p))) (second_is t c.points.result _ c.points.ensures.points) ∙ way_from_plane t a;
      fall = (widened c.from-2.result c.normal_times-2.result c.from-2.ensures c.normal_times-2.ensures.size).is ∙ c.normal_times-2.ensures.value
          ∙ way_between (half_space t) a (vector c.args.to.now);
    }

pub returns-clause-small : goal.returns-clause-small
returns-clause-small c = record {
  start = below (to_z w128 (of_z w128 c.from.result)) (size_within way_limit (widened c.from.result c.normal_times.result c.from.ensures c.normal_times.ensures.size) (omega arith));
  fall = below (to_z w128 (of_z w128 c.from-2.result)) (size_within way_limit (widened c.from-2.result c.normal_times-2.result c.from-2.ensures c.normal_times-2.ensures.size) (omega arith));
}
