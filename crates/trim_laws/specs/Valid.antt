-- The lists that are brushes, and why another list is refused. Lengths are map units.
use Rattle.std.specs.Prelude.{ℕ, ◌≤◌, ◌<◌, ◌≡◌, List, length, ℤ}
use Rattle.algebra.specs.Space.{Homogeneous, HalfSpace}
use Rattle.algebra.specs.World.{InCube, world, reach}
use Rattle.trim_laws.specs.Solid.{IsIn, IsInside}
use Rattle.trim_laws.specs.Trim.{Trim}

-- Some point is inside the solid.
pub record HasInside (F : List HalfSpace) : Type 0 where
  pub at : Homogeneous
  pub inside : IsInside F at

-- Some point of the solid lies outside the cube from -c to c.
pub record LeavesCube (F : List HalfSpace) (c : ℤ) : Type 0 where
  pub at : Homogeneous
  pub is_in : IsIn F at
  pub outside : ¬ (InCube c at)

-- A valid brush: a trimmed list of 4 to 128 faces, with some point inside and no point outside the world.
pub record Valid (F : List HalfSpace) : Type 0 where
  pub trimmed : Trim F F
  pub least : 4 ≤ length F
  pub most : length F ≤ 128
  pub volume : HasInside F
  pub within : (p : Homogeneous) → IsIn F p → InCube world p

-- No point of the larger cube is inside.
abbrev pub NoVolume : List HalfSpace → Type 0
NoVolume F = (p : Homogeneous) → InCube reach p → ¬ (IsInside F p)

-- Some point of the solid lies outside the world.
abbrev pub OutOfWorld : List HalfSpace → Type 0
OutOfWorld F = LeavesCube F world

-- The trimmed list has n faces, and n is above 128.
pub record TooManyFaces (F : List HalfSpace) (n : ℕ) : Type 0 where
  pub kept : List HalfSpace
  pub trim : Trim F kept
  pub count : length kept ≡ n
  pub above : 128 < n

-- The causes for which a list is refused; the last one with the count of faces that trimming keeps.
pub data Cause : Type 0 where
  no_volume : Cause
  out_of_world : Cause
  too_many_faces : ℕ → Cause

-- Why a list is refused: the first of the three causes that holds.
pub data HasCause (F : List HalfSpace) : Cause → Type 0 where
  is_no_volume : NoVolume F → HasCause F no_volume
  is_out_of_world : ¬ (NoVolume F) → OutOfWorld F → HasCause F out_of_world
  is_too_many : {n : ℕ} → ¬ (NoVolume F) → ¬ (OutOfWorld F) → TooManyFaces F n → HasCause F (too_many_faces n)
