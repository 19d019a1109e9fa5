use Rattle.std.proofs.Common.{◌≡◌, ap, ◌∙◌, lit≤, ℤ, w64}
use Rattle.algebra.specs.Space.{Vector, cross, dot, minus, through}
use Rattle.algebra.proofs.Identities.{half_space_by}
use Rattle.exact_geom.specs.Limits.{normal_limit}
use Rattle.exact_geom.specs.declared.point.Point.{Point}
use Rattle.exact_geom.specs.Planes.{half_space, vector}
use Rattle.exact_geom.proofs.Exactly.{call}
use Rattle.exact_geom.proofs.Sizes.{IsWithin_more, IsWithin_at, IsWithin-minus}
use Rattle.exact_geom.proofs.PlaneLaws.{in_range, normal_size, distance_size}
use Rattle.exact_geom.proofs.half_space.HalfSpace64.through.Goals as goal

pub cross-normal-requires-clause-size : goal.cross-normal-requires-clause-size
cross-normal-requires-clause-size c =
    IsWithin_at c.between.ensures (IsWithin_more normal_limit (IsWithin-minus (vector c.args.p0.now) (vector c.args.p1.now) 4352 4352 (in_range c.args.p0.now c.requires.p0_in_range) (in_range c.args.p1.now c.requires.p1_in_range)) (lit≤ tt))

pub cross-normal-requires-clause-other_size : goal.cross-normal-requires-clause-other_size
cross-normal-requires-clause-other_size c =
    IsWithin_at c.between-2.ensures (IsWithin_more normal_limit (IsWithin-minus (vector c.args.p2.now) (vector c.args.p1.now) 4352 4352 (in_range c.args.p2.now c.requires.p2_in_range) (in_range c.args.p1.now c.requires.p1_in_range)) (lit≤ tt))

-- from what the calls gave
normal_is : {u v w : Vector} (p0 p1 p2 : Point) → w ≡ cross u v → u ≡ minus (vector p0) (vector p1) → v ≡ minus (vector p2) (vector p1) → w ≡ (half_space (record { p0 = p0; p1 = p1; p2 = p2 })).normal
unfolding through
normal_is {u} {v} {w} p0 p1 p2 e f g = e ∙ ap (λ x. cross x v) f ∙ ap (λ x. cross (minus (vector p0) (vector p1)) x) g

distance_is : {d : ℤ} {w q : Vector} (p0 p1 p2 : Point) → d ≡ dot w q → w ≡ (half_space (record { p0 = p0; p1 = p1; p2 = p2 })).normal → q ≡ vector p1 → d ≡ (half_space (record { p0 = p0; p1 = p1; p2 = p2 })).distance
unfolding through
distance_is {d} {w} {q} p0 p1 p2 e f g = e ∙ ap (λ x. dot x q) f ∙ ap (λ x. dot (half_space (record { p0 = p0; p1 = p1; p2 = p2 })).normal x) g

pub dot-distance-requires-clause-size : goal.dot-distance-requires-clause-size
dot-distance-requires-clause-size c =
    IsWithin_at (normal_is c.args.p0.now c.args.p1.now c.args.p2.now c.cross-normal.ensures c.between.ensures c.between-2.ensures)
    (normal_size (record { p0 = c.args.p0.now; p1 = c.args.p1.now; p2 = c.args.p2.now }) c.requires.p0_in_range c.requires.p1_in_range c.requires.p2_in_range)

pub dot-distance-requires-clause-other_size : goal.dot-distance-requires-clause-other_size
dot-distance-requires-clause-other_size c =
    IsWithin_at c.of_point.ensures (IsWithin_more normal_limit (in_range c.args.p1.now c.requires.p1_in_range) (lit≤ tt))

pub returns : goal.returns
returns c =
    let normal = normal_is c.args.p0.now c.args.p1.now c.args.p2.now c.cross-normal.ensures c.between.ensures c.between-2.ensures in
    let distance = distance_is c.args.p0.now c.args.p1.now c.args.p2.now c.dot-distance.ensures normal c.of_point.ensures in
    half_space_by normal
    (call w64 c.dot-distance.result (half_space (record { p0 = c.args.p0.now; p1 = c.args.p1.now; p2 = c.args.p2.now })).distance distance
    (distance_size (record { p0 = c.args.p0.now; p1 = c.args.p1.now; p2 = c.args.p2.now }) c.requires.p0_in_range c.requires.p1_in_range c.requires.p2_in_range) tt).is
