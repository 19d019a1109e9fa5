-- A list of planes that cut one after another.
use Rattle.std.specs.Prelude.{List, [], ◌∷◌, ◌++◌, pos, ◌≤ℤ◌}
use Rattle.algebra.specs.Space.{Homogeneous, HalfSpace, side}
use Rattle.trim_laws.specs.Solid.{IsInside, Proper, Bounded}
use Rattle.trim_laws.specs.Trim.{Trim}
use Rattle.trim_laws.specs.Valid.{HasInside}
use Rattle.vertex_laws.specs.Vertex.{IsVertex}
use Rattle.cut_laws.specs.Cut.{back}

-- What one cut makes of a trimmed list: nothing else where no vertex is in front of the plane, and else the trimmed list with the plane.
pub data CutsOne (G : List HalfSpace) (P : HalfSpace) : List HalfSpace → Type 0 where
  misses : ((v : Homogeneous) → IsVertex G v → side P v ≤ℤ pos 0) → CutsOne G P G
  halves : {H : List HalfSpace} → HasInside (back G P) → Trim (back G P) H → CutsOne G P H

-- What a list of cuts does.
pub data Cuts : (G rest H : List HalfSpace) → Type 0 where
  no_cut : {G : List HalfSpace} → Cuts G [] G
  then_cuts : {G M rest H : List HalfSpace} {P : HalfSpace} → CutsOne G P M → Cuts M rest H → Cuts G (P ∷ rest) H

-- The list is trimmed to G, and has a point inside.
pub record TrimsTo (L G : List HalfSpace) : Type 0 where
  pub proper : Proper L
  pub bounded : Bounded L
  pub volume : HasInside L
  pub trim : Trim L G

-- After the cuts it is the trimmed list of all the planes.
abbrev pub CutsLaw : Type 0
CutsLaw = (L G rest H : List HalfSpace) → TrimsTo L G → Proper rest → Cuts G rest H → TrimsTo (L ++ rest) H

-- Where no vertex is behind the next plane, all the planes leave nothing inside.
abbrev pub CutsGoneLaw : Type 0
CutsGoneLaw = (L G : List HalfSpace) (P : HalfSpace) → TrimsTo L G → ((v : Homogeneous) → IsVertex G v → pos 0 ≤ℤ side P v) → (o : Homogeneous) → ¬ (IsInside (back L P) o)
