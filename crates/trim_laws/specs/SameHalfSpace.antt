-- When two half-spaces are one, told by their numbers.
use Rattle.std.specs.Prelude.{◌≡◌, ℤ, pos, ◌*ℤ◌, ◌<ℤ◌}
use Rattle.algebra.specs.Space.{HalfSpace, dot, cross, scale}

-- The normal and the distance of one, times a factor, are those of the other, times another, and both factors are above 0.
pub record InProportion (f g : HalfSpace) : Type 0 where
  pub a : ℤ
  pub b : ℤ
  pub a_positive : pos 0 <ℤ a
  pub b_positive : pos 0 <ℤ b
  pub normal : scale a f.normal ≡ scale b g.normal
  pub distance : a *ℤ f.distance ≡ b *ℤ g.distance

-- The test by numbers: the normals point the same way, and the distances are in proportion.
pub record SameByNumbers (f g : HalfSpace) : Type 0 where
  pub parallel : dot (cross f.normal g.normal) (cross f.normal g.normal) ≡ pos 0
  pub along : pos 0 <ℤ dot f.normal g.normal
  pub distance : f.distance *ℤ dot g.normal g.normal ≡ g.distance *ℤ dot f.normal g.normal
