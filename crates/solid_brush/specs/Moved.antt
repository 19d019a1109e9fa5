-- Brushes that a motion moves.
use Rattle.std.specs.Prelude.{◌≡◌, List, map, Option, Some, None}
use Rattle.orient48.specs.Motions.{Motion, moved_plane}
use Rattle.trim_laws.specs.Valid.{Valid, OutOfWorld}
use Rattle.solid_brush.specs.declared.side.Side.{Side}
use Rattle.solid_brush.specs.Sides.{half_spaces}

-- The side with its plane moved.
abbrev pub moved_side : Motion → Side → Side
moved_side r s = record s { plane = moved_plane r s.plane }

-- The moved sides, which are a valid brush; none where it leaves the world.
abbrev pub IsMovedOf : Motion → List Side → Option (List Side) → Type 0
IsMovedOf r sides None = OutOfWorld (half_spaces (map (moved_side r) sides))
IsMovedOf r sides (Some solid) = (solid ≡ map (moved_side r) sides) × Valid (half_spaces (map (moved_side r) sides))
