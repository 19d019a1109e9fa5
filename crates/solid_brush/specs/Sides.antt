-- Brushes as lists of tagged sides.
use Rattle.std.specs.Prelude.{◌≡◌, ℕ, ◌+◌, ◌^◌, ◌<◌, List, map, [], ◌∷◌, ◌↔◌}
use Rattle.algebra.specs.Members.{Every}
use Rattle.algebra.specs.Space.{Homogeneous, HalfSpace}
use Rattle.algebra.specs.World.{InCube, world}
use Rattle.exact_geom.specs.Planes.{half_space}
use Rattle.trim_laws.specs.Solid.{IsIn, Proper}
use Rattle.trim_laws.specs.Trim.{TrimFaces}
use Rattle.solid_laws.specs.Names.{HoldsVertices}
use Rattle.trim_laws.specs.Valid.{HasInside, Valid, Cause, HasCause, no_volume, out_of_world, too_many_faces}
use Rattle.solid_brush.specs.declared.side.Side.{Side}
use Rattle.solid_brush.specs.declared.fault.BuildFault.{BuildFault}
use Rattle.solid_brush.specs.declared.fault.BuildFault.TheVariants.{NoVolume, OutOfWorld, TooManyFaces, Memory}

-- The half-space that a side bounds.
abbrev pub bounds : Side → HalfSpace
bounds s = half_space s.plane

-- The half-spaces of sides, in order.
abbrev pub half_spaces : List Side → List HalfSpace
half_spaces sides = map bounds sides

-- The list has no zero normal, a point inside and none outside the world, and these are its vertices.
pub record IsWithinWorld (F : List HalfSpace) (corners : List Homogeneous) : Type 0 where
  pub proper : Proper F
  pub volume : HasInside F
  pub within : (p : Homogeneous) → IsIn F p → InCube world p
  pub holds : HoldsVertices F corners

-- No two sides have the same tag.
pub data DistinctTags : List Side → Type 0 where
  no_sides : DistinctTags []
  one_more_side : {s : Side} {sides : List Side} → Every (λ t. ¬ (s.tag ≡ t.tag)) sides → DistinctTags sides → DistinctTags (s ∷ sides)

-- The tags tell the sides apart, and are below 2^31.
pub record HaveTags (sides : List Side) : Type 0 where
  pub distinct : DistinctTags sides
  pub small : Every (λ s. s.tag < 2 ^ 31) sides

-- A solid: sides that tags tell apart, whose half-spaces are a valid brush.
pub record IsSolid (sides : List Side) : Type 0 where
  pub tags : HaveTags sides
  pub brush : Valid (half_spaces sides)

-- The solid has the faces that the sides need, and exactly their points; and they are refused for no cause.
pub record IsBuiltOf (sides solid : List Side) : Type 0 where
  pub trim : TrimFaces bounds sides solid
  pub points : (p : Homogeneous) → IsIn (half_spaces sides) p ↔ IsIn (half_spaces solid) p
  pub accepted : (c : Cause) → ¬ (HasCause (half_spaces sides) c)

-- Why sides are no solid. Want of memory has no cause in them.
abbrev pub IsRefusedFor : List HalfSpace → BuildFault → Type 0
IsRefusedFor F NoVolume = HasCause F no_volume
IsRefusedFor F OutOfWorld = HasCause F out_of_world
IsRefusedFor F (TooManyFaces n) = HasCause F (too_many_faces n)
IsRefusedFor F Memory = Unit {0}

-- The side with a number added to its tag.
abbrev pub with_base : ℕ → Side → Side
with_base base s = record s { tag = s.tag + base }
