-- The vertices of solids as points.
use Rattle.std.specs.Prelude.{◌≡◌, ◌^◌, ◌++◌, ℕ, ◌<◌, List, [], ◌∷◌, length, get_or, map, pos}
use Rattle.algebra.specs.Members.{◌∈◌}
use Rattle.algebra.specs.Space.{Homogeneous, HalfSpace, whole_point}
use Rattle.exact_geom.specs.declared.point.Point.{Point}
use Rattle.exact_geom.specs.Planes.{vector}
use Rattle.exact_geom.specs.Vertices.{IsReduced}
use Rattle.vertex_laws.specs.Vertex.{IsVertex}
use Rattle.solid_laws.specs.Names.{AreVertices}
use Rattle.solid_brush.specs.declared.side.Side.{Side}
use Rattle.solid_brush.specs.Sides.{half_spaces}
use Rattle.hull_merge.specs.Hulls.{distinct}
use Rattle.hull_merge.specs.declared.gather_fault.GatherFault.{GatherFault}
use Rattle.hull_merge.specs.declared.gather_fault.GatherFault.TheVariants.{Fractional, Memory}

-- The whole point of a point's coordinates.
abbrev pub whole_of : Point → Homogeneous
whole_of p = whole_point (vector p)

-- Some of the points isn't whole: its weight isn't 1.
pub record HasWeight (V : List Homogeneous) : Type 0 where
  pub at : Homogeneous
  pub among : at ∈ V
  pub weight : ¬ (at.weight ≡ pos 1)

-- all are the vertices of the solids, by solid and by name.
pub data AreAllVertices : List (List Side) → List Homogeneous → Type 0 where
  no_solids : AreAllVertices [] []
  one_more_solid : {solid : List Side} {solids : List (List Side)} {V all : List Homogeneous} →
      AreVertices (half_spaces solid) V → AreAllVertices solids all → AreAllVertices (solid ∷ solids) (V ++ all)

-- The points are the vertices of the solids, all of them whole, by solid and by name.
abbrev pub AreAllWhole : List (List Side) → List Point → Type 0
AreAllWhole solids all = AreAllVertices solids (map whole_of all)

-- The points are the vertices of the solids, all of them whole, by solid and by name, later equal ones dropped.
pub record AreGathered (solids : List (List Side)) (points : List Point) : Type 0 where
  pub all : List Point
  pub vertices : AreAllWhole solids all
  pub are : map vector points ≡ distinct all
  pub few : length points < 2 ^ 32

-- Some vertex of F isn't whole.
pub record HasFraction (F : List HalfSpace) : Type 0 where
  pub at : Homogeneous
  pub vertex : IsVertex F at
  pub reduced : IsReduced at
  pub fraction : ¬ (at.weight ≡ pos 1)

-- Solid k is the first with a vertex that isn't whole.
pub record IsFirstFraction (solids : List (List Side)) (k : ℕ) : Type 0 where
  pub within : k < length solids
  pub here : HasFraction (half_spaces (get_or solids k []))
  pub before : (j : ℕ) → j < k → ¬ (HasFraction (half_spaces (get_or solids j [])))

-- Why the vertices of solids are no points. Want of memory has no cause in them.
abbrev pub IsNoGatherFor : List (List Side) → GatherFault → Type 0
IsNoGatherFor solids (Fractional k) = IsFirstFraction solids k
IsNoGatherFor solids Memory = Unit {0}
