-- A convex solid as the list of half-spaces that its faces bound.
use Rattle.std.specs.Prelude.{List, pos, ◌≤ℤ◌, ◌<ℤ◌}
use Rattle.algebra.specs.Members.{◌∈◌}
use Rattle.algebra.specs.Space.{Vector, Homogeneous, HalfSpace, dot, side}

-- The point is in the solid, its boundary included: in front of no face.
pub record IsIn (F : List HalfSpace) (p : Homogeneous) : Type 0 where
  pub weight : pos 0 <ℤ p.weight
  pub all : (f : HalfSpace) → f ∈ F → side f p ≤ℤ pos 0

-- The point is inside the solid: behind each face.
pub record IsInside (F : List HalfSpace) (p : Homogeneous) : Type 0 where
  pub weight : pos 0 <ℤ p.weight
  pub all : (f : HalfSpace) → f ∈ F → side f p <ℤ pos 0

-- No normal is zero.
abbrev pub Proper : List HalfSpace → Type 0
Proper F = (f : HalfSpace) → f ∈ F → pos 0 <ℤ dot f.normal f.normal

-- A face whose normal points forward along m.
pub record FaceAhead (F : List HalfSpace) (m : Vector) : Type 0 where
  pub face : HalfSpace
  pub among : face ∈ F
  pub ahead : pos 0 <ℤ dot face.normal m

-- In each direction a face is ahead, so no point can go on without end.
abbrev pub Bounded : List HalfSpace → Type 0
Bounded F = (m : Vector) → pos 0 <ℤ dot m m → FaceAhead F m
