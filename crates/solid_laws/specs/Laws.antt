-- The laws that tell most.
use Rattle.std.specs.Prelude.{◌≡◌, ◌≤◌, ◌↔◌, ◌⊎◌, ℕ, List, length, pos, ◌<ℤ◌}
use Rattle.algebra.specs.Members.{◌∈◌}
use Rattle.algebra.specs.Space.{Homogeneous, HalfSpace, SamePoint, side, SameHalfSpace}
use Rattle.algebra.specs.World.{InCube, world, reach}
use Rattle.exact_geom.specs.Vertices.{IsReduced}
use Rattle.trim_laws.specs.Solid.{IsIn, IsInside, Proper, Bounded}
use Rattle.trim_laws.specs.Trim.{Bears, Trim}
use Rattle.trim_laws.specs.Valid.{HasInside, Valid, Cause, HasCause}
use Rattle.vertex_laws.specs.Vertex.{IsVertex, VertexBehind, VertexOnBehind}
use Rattle.vertex_laws.specs.Cube.{boxed}
use Rattle.solid_laws.specs.Names.{Triple, IsName, AreVertices, HoldsVertices}
use Rattle.solid_laws.specs.FaceLoop.{IsNumberedLoop}

-- A list with a point in it and none outside the world is bounded.
abbrev pub WorldBoundedLaw : Type 0
WorldBoundedLaw = (F : List HalfSpace) (o : Homogeneous) → IsIn F o → ((p : Homogeneous) → IsIn F p → InCube world p) → Bounded F

-- A bounded list has at least four faces.
abbrev pub FourFacesLaw : Type 0
FourFacesLaw = (F : List HalfSpace) → Bounded F → 4 ≤ length F

-- A list with a point inside whose trimmed list is a valid brush is refused for no cause.
abbrev pub NoCauseOfTrimLaw : Type 0
NoCauseOfTrimLaw = (F G : List HalfSpace) (o : Homogeneous) (c : Cause) → Proper F → IsInside F o → Trim F G → Valid G → ¬ (HasCause F c)

-- Each point has a reduced form.
pub record HasReducedForm (p : Homogeneous) : Type 0 where
  pub form : Homogeneous
  pub positive : pos 0 <ℤ form.weight
  pub reduced : IsReduced form
  pub same : SamePoint p form

abbrev pub ReducedFormLaw : Type 0
ReducedFormLaw = (p : Homogeneous) → pos 0 <ℤ p.weight → HasReducedForm p

-- The list of the vertices holds each vertex, by whatever numbers it is given.
abbrev pub HoldsVerticesLaw : Type 0
HoldsVerticesLaw = (F : List HalfSpace) (V : List Homogeneous) → AreVertices F V → HoldsVertices F V

-- Where no point of a list lies outside the world, the larger cube adds no vertex to it and takes none away.
abbrev pub BoxVerticesLaw : Type 0
BoxVerticesLaw = (F : List HalfSpace) (v : Homogeneous) → ((p : Homogeneous) → IsIn F p → InCube world p) →
    IsVertex (boxed reach F) v ↔ IsVertex F v

-- A face of a bounded solid bears exactly where a vertex is on it, and behind each other half-space there is a vertex on it.
pub record HasCorners (F : List HalfSpace) (f : HalfSpace) : Type 0 where
  pub corner : Homogeneous
  pub vertex : IsVertex F corner
  pub on : side f corner ≡ pos 0
  pub behind : (g : HalfSpace) → g ∈ F → SameHalfSpace f g ⊎ VertexOnBehind F f g

abbrev pub BearsExactlyLaw : Type 0
BearsExactlyLaw = (F : List HalfSpace) (f : HalfSpace) → Bounded F → Proper F → f ∈ F → Bears F f ↔ HasCorners F f

-- Some point is inside a bounded solid exactly where it has a vertex, and a vertex is behind each face.
pub record HasVertexBehindEach (F : List HalfSpace) : Type 0 where
  pub corner : Homogeneous
  pub vertex : IsVertex F corner
  pub behind : (g : HalfSpace) → g ∈ F → VertexBehind F g

abbrev pub InsideExactlyLaw : Type 0
InsideExactlyLaw = (F : List HalfSpace) → Bounded F → HasInside F ↔ HasVertexBehindEach F

-- Each vertex has one name.
pub record OneName (F : List HalfSpace) (v : Homogeneous) : Type 0 where
  pub name : Triple
  pub named : IsName F v name
  pub only : (t : Triple) → IsName F v t → t ≡ name

abbrev pub NameLaw : Type 0
NameLaw = (F : List HalfSpace) (v : Homogeneous) → IsVertex F v → OneName F v

-- The vertices of a list are one list.
abbrev pub OneListLaw : Type 0
OneListLaw = (F : List HalfSpace) (V W : List Homogeneous) → AreVertices F V → AreVertices F W → V ≡ W

-- A face has one loop.
abbrev pub OneNumberedLoopLaw : Type 0
OneNumberedLoopLaw = (F : List HalfSpace) (f : HalfSpace) (V : List Homogeneous) (numbers others : List ℕ) → AreVertices F V →
    IsNumberedLoop F f V numbers → IsNumberedLoop F f V others → numbers ≡ others
