-- How far a point can go in a direction within some half-spaces.
use Rattle.std.specs.Prelude.{◌≡◌, List, ℤ, pos, ◌*ℤ◌, ◌<ℤ◌, ◌≤ℤ◌}
use Rattle.algebra.specs.Members.{◌∈◌}
use Rattle.algebra.specs.Space.{Vector, Homogeneous, HalfSpace, dot, side, go}

-- The point p, moved along m by t / (q * the weight of p), is on the plane of a half-space that lay ahead, and still in each half-space.
pub record Hit (F : List HalfSpace) (p : Homogeneous) (m : Vector) : Type 0 where
  pub face : HalfSpace
  pub t : ℤ
  pub q : ℤ
  pub among : face ∈ F
  pub ahead : pos 0 <ℤ dot face.normal m
  pub t_nonneg : pos 0 ≤ℤ t
  pub q_positive : pos 0 <ℤ q
  pub reached : side face (go q t p m) ≡ pos 0
  pub inside : (f : HalfSpace) → f ∈ F → side f (go q t p m) ≤ℤ pos 0
  pub kept : (f : HalfSpace) → f ∈ F → dot f.normal m ≡ pos 0 → side f (go q t p m) ≡ q *ℤ side f p
