-- A normal times a way, as sides of the points at its ends.
use Rattle.std.proofs.Common.{◌≡◌, ℤ, ◌*ℤ◌, ◌-ℤ◌, [], ◌∷◌, List, get_or, unsigned_abs, ◌≤◌, ◌<◌, ◌^◌, to_z, of_z, w64, refl, ap, sym, ◌∙◌, arith, subst}
use Rattle.std.specs.Int.{w128}
use Rattle.std.specs.Prelude.{IsTrue}
use Rattle.algebra.specs.Space.{Vector, HalfSpace, dot, minus, side, whole_point, through}
use Rattle.algebra.proofs.Expr.{read}
use Rattle.algebra.proofs.Ring.{ring}
use Rattle.algebra.proofs.Identities.{dot-minus_right, side-whole_point}
use Rattle.exact_geom.specs.declared.point.Point.{Point}
use Rattle.exact_geom.specs.Planes.{ThreePoints, half_space, vector, is_in_range, IsPlane}
use Rattle.exact_geom.proofs.PlaneLaws.{good_points}
use Rattle.exact_geom.proofs.Exactly.{Exactly, wide}
use Rattle.ray_pick.specs.Passings.{way_limit}

distance_is : (t : ThreePoints) → (half_space t).distance ≡ dot (half_space t).normal (vector t.p1)
unfolding through
distance_is t = refl

-- From the plane's second point: the side.
pub way_from_plane : (t : ThreePoints) (a : Vector) → dot (half_space t).normal (minus a (vector t.p1)) ≡ side (half_space t) (whole_point a)
way_from_plane t a =
    dot-minus_right (half_space t).normal a (vector t.p1) ∙ ap (λ d. dot (half_space t).normal a -ℤ d) (sym (distance_is t)) ∙ sym (side-whole_point (half_space t) a)

less_distance : (x y d : ℤ) → x -ℤ y ≡ (x -ℤ d) -ℤ (y -ℤ d)
less_distance x y d = ring (x ∷ y ∷ d ∷ []) (search read depth 20) tt

-- Between two points: the difference of their sides.
pub way_between : (f : HalfSpace) (a b : Vector) → dot f.normal (minus a b) ≡ side f (whole_point a) -ℤ side f (whole_point b)
way_between f a b =
    dot-minus_right f.normal a b ∙ less_distance (dot f.normal a) (dot f.normal b) f.distance
    ∙ (λ i. sym (side-whole_point f a) i -ℤ sym (side-whole_point f b) i)

-- The second of three points.
pub second_is : (t : ThreePoints) (points : List Point) (d : Point) → points ≡ t.p0 ∷ t.p1 ∷ t.p2 ∷ [] → get_or points 1 d ≡ t.p1
second_is t points d e = ap (λ l. get_or l 1 d) e

pub second_in_range : (t : ThreePoints) (points : List Point) (d : Point) → points ≡ t.p0 ∷ t.p1 ∷ t.p2 ∷ [] → IsPlane t → IsTrue (is_in_range (get_or points 1 d))
second_in_range t points d e h = subst (λ p. IsTrue (is_in_range p)) (sym (second_is t points d e)) (good_points t h).second

-- What is widened from 64 bits.
pub widened : (m z : ℤ) → m ≡ to_z w64 (of_z w64 z) → unsigned_abs z ≤ way_limit → Exactly w128 (to_z w128 (of_z w128 m)) z way_limit
widened m z e h = wide m z e h tt

pub below : (x : ℤ) → unsigned_abs x ≤ way_limit → unsigned_abs x < 2 ^ 42
below x h = omega arith
