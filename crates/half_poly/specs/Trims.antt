-- What a list of cuts leaves: what trimming keeps of all the planes.
use Rattle.std.specs.Prelude.{◌≡◌, List, [], ◌∷◌, ◌++◌, pos, ◌<ℤ◌}
use Rattle.algebra.specs.Space.{Homogeneous, dot}
use Rattle.trim_laws.specs.Solid.{IsInside}
use Rattle.trim_laws.specs.Trim.{TrimFaces}
use Rattle.poly_laws.specs.Cuts.{TrimsTo}
use Rattle.half_poly.specs.declared.cut.Cut.{Cut}
use Rattle.half_poly.specs.declared.cut.Cut.TheVariants.{Gone}
use Rattle.half_poly.specs.Shapes.{Tagged, bounds, solid_of, Says}
use Rattle.half_poly.specs.Walls.{cube_sides}

-- The planes bound a solid with a volume, and trimming keeps these sides of them.
pub record StandsForAll (all sides : List Tagged) : Type 0 where
  pub solids : TrimsTo (solid_of all) (solid_of sides)
  pub trim : TrimFaces bounds all sides

-- The cube stands for its own planes.
abbrev pub CubeTrimsLaw : Type 0
CubeTrimsLaw = StandsForAll cube_sides cube_sides

-- After a cut that is answered Missed or Halved the sides stand for one plane more.
abbrev pub CutTrimsLaw : Type 0
CutTrimsLaw = (all sides after : List Tagged) (side : Tagged) (answer : Cut) → StandsForAll all sides → pos 0 <ℤ dot (bounds side).normal (bounds side).normal →
    Says sides side after answer → ¬ (answer ≡ Gone) → StandsForAll (all ++ side ∷ []) after

-- A cut that is answered Gone would leave nothing inside.
abbrev pub GoneTrimsLaw : Type 0
GoneTrimsLaw = (all sides after : List Tagged) (side : Tagged) → StandsForAll all sides → Says sides side after Gone → (o : Homogeneous) → ¬ (IsInside (solid_of (all ++ side ∷ [])) o)
