-- Blocks, and what is left of sides that further ones cut.
use Rattle.std.specs.Prelude.{◌≡◌, ◌<◌, ◌↔◌, List, [], ◌∷◌, ◌++◌, length, Bool, true, false, Option, Some, None}
use Rattle.algebra.specs.Space.{Homogeneous}
use Rattle.algebra.specs.World.{InCube, world}
use Rattle.trim_laws.specs.Solid.{IsIn, IsInside, Proper}
use Rattle.trim_laws.specs.Trim.{Trim, TrimFaces}
use Rattle.trim_laws.specs.Valid.{HasInside, TooManyFaces}
use Rattle.solid_brush.specs.declared.side.Side.{Side}
use Rattle.solid_brush.specs.declared.meet_fault.MeetFault.{MeetFault}
use Rattle.solid_brush.specs.declared.meet_fault.MeetFault.TheVariants.{TooManyFaces as Overfull, Memory}
use Rattle.solid_brush.specs.Sides.{bounds, half_spaces, HaveTags}

-- A block: sides that tags tell apart, each of them needed, with a point inside and none outside the world.
pub record IsBlock (sides : List Side) : Type 0 where
  pub tags : HaveTags sides
  pub proper : Proper (half_spaces sides)
  pub trimmed : Trim (half_spaces sides) (half_spaces sides)
  pub volume : HasInside (half_spaces sides)
  pub within : (p : Homogeneous) → IsIn (half_spaces sides) p → InCube world p

-- No point is inside all of the sides.
abbrev pub IsEmpty : List Side → Type 0
IsEmpty sides = (p : Homogeneous) → ¬ (IsInside (half_spaces sides) p)

-- Some point is inside all of the sides, and these are the faces that are needed, with exactly the points of the sides.
pub record IsTrimmedTo (sides kept : List Side) : Type 0 where
  pub proper : Proper (half_spaces sides)
  pub volume : HasInside (half_spaces sides)
  pub trim : TrimFaces bounds sides kept
  pub points : (p : Homogeneous) → IsIn (half_spaces sides) p ↔ IsIn (half_spaces kept) p

-- What is left behind all of the sides, if any point is inside.
abbrev pub IsLeft : List Side → Option (List Side) → Type 0
IsLeft sides None = IsEmpty sides
IsLeft sides (Some kept) = IsTrimmedTo sides kept

-- The block `old` is cut by a side, and the answer says whether anything is left of it. Else it stays as it is.
abbrev pub IsCut : (old : List Side) → Side → (new : List Side) → Bool → Type 0
IsCut old side new true = IsTrimmedTo (old ++ side ∷ []) new
IsCut old side new false = IsEmpty (old ++ side ∷ []) × (new ≡ old)

-- A block has too many faces for a brush. Want of memory has no cause in it.
abbrev pub IsOverfull : List Side → MeetFault → Type 0
IsOverfull block (Overfull n) = (length block ≡ n) × (128 < n)
IsOverfull block Memory = Unit {0}

-- Too many faces are needed of the sides. Want of memory has no cause in them.
abbrev pub NeedsTooMany : List Side → MeetFault → Type 0
NeedsTooMany sides (Overfull n) = TooManyFaces (half_spaces sides) n
NeedsTooMany sides Memory = Unit {0}
