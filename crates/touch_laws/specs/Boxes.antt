-- The boxes of solids along the axes, and solids that share a point inside. Lengths are map units.
use Rattle.std.specs.Prelude.{List, ℤ, ◌*ℤ◌, ◌<ℤ◌, ◌≤ℤ◌}
use Rattle.algebra.specs.Space.{Vector, Homogeneous, HalfSpace}
use Rattle.trim_laws.specs.Solid.{IsIn, IsInside}

-- The greatest whole number that is at most the coordinate of each point of the solid.
pub record IsLow (coordinate : Vector → ℤ) (F : List HalfSpace) (low : ℤ) : Type 0 where
  pub below : (p : Homogeneous) → IsIn F p → (low *ℤ p.weight) ≤ℤ coordinate p.vector
  pub greatest : (k : ℤ) → ((p : Homogeneous) → IsIn F p → (k *ℤ p.weight) ≤ℤ coordinate p.vector) → k ≤ℤ low

-- The least whole number that is at least the coordinate of each point of the solid.
pub record IsHigh (coordinate : Vector → ℤ) (F : List HalfSpace) (high : ℤ) : Type 0 where
  pub above : (p : Homogeneous) → IsIn F p → coordinate p.vector ≤ℤ (high *ℤ p.weight)
  pub least : (k : ℤ) → ((p : Homogeneous) → IsIn F p → coordinate p.vector ≤ℤ (k *ℤ p.weight)) → high ≤ℤ k

-- The box of a solid: the closest whole corners between which it lies.
pub record IsBox (F : List HalfSpace) (low high : Vector) : Type 0 where
  pub left : IsLow (λ v. v.x) F low.x
  pub right : IsHigh (λ v. v.x) F high.x
  pub near : IsLow (λ v. v.y) F low.y
  pub far : IsHigh (λ v. v.y) F high.y
  pub bottom : IsLow (λ v. v.z) F low.z
  pub top : IsHigh (λ v. v.z) F high.z

-- Two boxes have a point inside in common.
pub record BoxesMeet (low_a high_a low_b high_b : Vector) : Type 0 where
  pub x_first : low_a.x <ℤ high_b.x
  pub x_second : low_b.x <ℤ high_a.x
  pub y_first : low_a.y <ℤ high_b.y
  pub y_second : low_b.y <ℤ high_a.y
  pub z_first : low_a.z <ℤ high_b.z
  pub z_second : low_b.z <ℤ high_a.z

-- Some point is inside both solids.
pub record ShareInside (F G : List HalfSpace) : Type 0 where
  pub at : Homogeneous
  pub first : IsInside F at
  pub second : IsInside G at

-- Solids that share a point inside have boxes that meet.
abbrev pub BoxesMeetLaw : Type 0
BoxesMeetLaw =
    (F G : List HalfSpace) (low_a high_a low_b high_b : Vector) → ShareInside F G → IsBox F low_a high_a → IsBox G low_b high_b →
    BoxesMeet low_a high_a low_b high_b
