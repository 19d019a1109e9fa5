-- Sides as planes that cut a polyhedron.
use Rattle.std.specs.Prelude.{◌≡◌, Bool, true, false, List, ◌++◌, map, Option, Some, None}
use Rattle.algebra.specs.Space.{Homogeneous}
use Rattle.trim_laws.specs.Solid.{IsInside}
use Rattle.half_poly.specs.declared.cut.Cut.{Cut}
use Rattle.half_poly.specs.declared.cut.Cut.TheVariants.{Missed, Halved, Gone}
use Rattle.half_poly.specs.Shapes.{Tagged, solid_of}
use Rattle.half_poly.specs.Trims.{StandsForAll}
use Rattle.half_poly.specs.Walls.{cube_sides}
use Rattle.solid_brush.specs.declared.side.Side.{Side}
use Rattle.solid_brush.specs.Sides.{IsSolid}

-- The side as a tagged plane.
abbrev pub tagged : Side → Tagged
tagged s = record { plane = s.plane; tag = s.tag }

-- The tagged plane as a side.
abbrev pub untagged : Tagged → Side
untagged s = record { plane = s.plane; tag = s.tag }

-- The faces of the larger cube, and the sides.
abbrev pub all_planes : List Side → List Tagged
all_planes sides = cube_sides ++ map tagged sides

abbrev pub is_gone : Cut → Bool
is_gone Missed = false
is_gone Halved = false
is_gone Gone = true

-- What is left of the larger cube behind the sides; none where nothing is inside.
abbrev pub IsBehind : List Side → Option (List Tagged) → Type 0
IsBehind sides None = (o : Homogeneous) → ¬ (IsInside (solid_of (all_planes sides)) o)
IsBehind sides (Some poly) = StandsForAll (all_planes sides) poly

-- A solid with its polyhedron.
pub record IsKeptSolid (sides : List Side) (poly : List Tagged) : Type 0 where
  pub solid : IsSolid sides
  pub same : poly ≡ map tagged sides
