-- The laws that tell most.
use Rattle.std.specs.Prelude.{◌≡◌, List, ◌∷◌, ◌⊎◌, ◌↔◌, ℤ, pos, ◌<ℤ◌, ◌≤ℤ◌}
use Rattle.algebra.specs.Members.{◌∈◌}
use Rattle.algebra.specs.Fractions.{Fraction≤}
use Rattle.algebra.specs.Space.{Homogeneous, HalfSpace, SamePoint, dot, side, SameHalfSpace}
use Rattle.algebra.specs.World.{InCube, world, reach}
use Rattle.trim_laws.specs.Solid.{IsIn, IsInside, Proper, Bounded}
use Rattle.trim_laws.specs.Trim.{Bears, Trim}
use Rattle.trim_laws.specs.Valid.{Valid, HasInside, LeavesCube, NoVolume, OutOfWorld}
use Rattle.vertex_laws.specs.Vertex.{IsVertex, IsEdge, VertexBehind, VertexOnBehind}
use Rattle.vertex_laws.specs.Cube.{cube, boxed, VertexOutside}
use Rattle.vertex_laws.specs.HalfEdge.{IsHalfEdge, turn, Outgoing, From, To, IsAmong}
use Rattle.vertex_laws.specs.Loop.{IsNext, closed, Distinct, IsLoop, HasHalfEdge}

-- A vertex that is at most as far along the normal of k as p.
pub record CornerBelow (F : List HalfSpace) (k : HalfSpace) (p : Homogeneous) : Type 0 where
  pub at : Homogeneous
  pub vertex : IsVertex F at
  pub lower : Fraction≤ (side k at) at.weight (side k p) p.weight

-- From each point of a bounded solid there is a vertex down on any plane.
abbrev pub CornerLaw : Type 0
CornerLaw = (F : List HalfSpace) (k : HalfSpace) (p : Homogeneous) → Bounded F → IsIn F p → CornerBelow F k p

-- A face bears where some vertex is on it, and behind each other half-space there is a vertex on it.
abbrev pub BearsLaw : Type 0
BearsLaw = (F : List HalfSpace) (f : HalfSpace) (v : Homogeneous) → IsVertex F v → side f v ≡ pos 0 →
    ((g : HalfSpace) → g ∈ F → SameHalfSpace f g ⊎ VertexOnBehind F f g) → Bears F f

-- A face of a bounded solid whose vertices are all on the plane of one other half-space does not bear.
abbrev pub IdlesLaw : Type 0
IdlesLaw = (F : List HalfSpace) (f g : HalfSpace) → Bounded F → Proper F → f ∈ F → g ∈ F → ¬ (SameHalfSpace f g) →
    ((v : Homogeneous) → IsVertex F v → side f v ≡ pos 0 → side g v ≡ pos 0) → ¬ (Bears F f)

-- A face of a bounded solid with no vertex on it does not bear.
abbrev pub NoVertexLaw : Type 0
NoVertexLaw = (F : List HalfSpace) (f : HalfSpace) → Bounded F → Proper F → f ∈ F →
    ((v : Homogeneous) → IsVertex F v → ¬ (side f v ≡ pos 0)) → ¬ (Bears F f)

-- Where there is a vertex, and one behind each face, some point is inside.
abbrev pub VolumeLaw : Type 0
VolumeLaw = (F : List HalfSpace) (v : Homogeneous) → IsVertex F v → ((g : HalfSpace) → g ∈ F → VertexBehind F g) → HasInside F

-- Where some point is inside a bounded solid, a vertex is behind each face.
abbrev pub NoVolumeLaw : Type 0
NoVolumeLaw = (F : List HalfSpace) (o : Homogeneous) → Bounded F → IsInside F o → (g : HalfSpace) → g ∈ F → VertexBehind F g

-- A list with the faces of a cube among its own is bounded.
abbrev pub CubeLaw : Type 0
CubeLaw = (F : List HalfSpace) (c : ℤ) → ((f : HalfSpace) → f ∈ cube c → f ∈ F) → Bounded F

-- The points of a cube are those with coordinates from -c to c.
abbrev pub InCubeLaw : Type 0
InCubeLaw = (c : ℤ) (p : Homogeneous) → pos 0 <ℤ p.weight → IsIn (cube c) p ↔ InCube c p

-- A cube within the world is a valid brush.
abbrev pub CubeValidLaw : Type 0
CubeValidLaw = (c : ℤ) → pos 0 <ℤ c → c ≤ℤ world → Valid (cube c)

-- Some point of a bounded solid lies outside a cube exactly where some vertex does.
abbrev pub LeavesCubeLaw : Type 0
LeavesCubeLaw = (F : List HalfSpace) (c : ℤ) → Bounded F → LeavesCube F c ↔ VertexOutside F c

-- A list has no volume exactly where no point is inside it and the larger cube.
abbrev pub BoxVolumeLaw : Type 0
BoxVolumeLaw = (F : List HalfSpace) → NoVolume F ↔ ¬ (HasInside (boxed reach F))

-- A list with a point in the larger cube leaves the world exactly where it does so within that cube.
abbrev pub BoxLeavesLaw : Type 0
BoxLeavesLaw = (F : List HalfSpace) (p : Homogeneous) → IsIn (boxed reach F) p → OutOfWorld F ↔ LeavesCube (boxed reach F) world

-- Where no point lies outside the world, the larger cube adds nothing to the trimmed list.
abbrev pub BoxTrimLaw : Type 0
BoxTrimLaw = (F G : List HalfSpace) → Proper F → ((p : Homogeneous) → IsIn F p → InCube world p) → Trim (boxed reach F) G → Trim F G

-- The vertices of the list are vertices of the trimmed list.
abbrev pub TrimVertexLaw : Type 0
TrimVertexLaw = (F G : List HalfSpace) (o v : Homogeneous) → Proper F → IsInside F o → Trim F G → IsVertex F v → IsVertex G v

-- The vertices of the trimmed list are vertices of the list.
abbrev pub TrimVertexBackLaw : Type 0
TrimVertexBackLaw = (F G : List HalfSpace) (o v : Homogeneous) → Proper F → IsInside F o → Trim F G → IsVertex G v → IsVertex F v

-- Each edge is a half-edge of one of its two faces, whose other face is the other one.
abbrev pub EdgeLaw : Type 0
EdgeLaw = (F : List HalfSpace) (a b : Homogeneous) (e : IsEdge F a b) → IsHalfEdge F e.f e.g a b ⊎ IsHalfEdge F e.g e.f a b

-- The twin of a half-edge is a half-edge of the other face.
abbrev pub TwinLaw : Type 0
TwinLaw = (F : List HalfSpace) (f g : HalfSpace) (a b : Homogeneous) → IsHalfEdge F f g a b → IsHalfEdge F g f b a

-- A point of the face that is behind the other face is on the inner side of the half-edge.
abbrev pub TurnLaw : Type 0
TurnLaw = (F : List HalfSpace) (f g : HalfSpace) (a b c : Homogeneous) → IsHalfEdge F f g a b → pos 0 <ℤ dot f.normal f.normal →
    side f c ≡ pos 0 → side g c <ℤ pos 0 → pos 0 <ℤ turn f a b c

-- Each vertex on a face that bears has a half-edge of the face.
abbrev pub OutgoingLaw : Type 0
OutgoingLaw = (F : List HalfSpace) (f : HalfSpace) (a : Homogeneous) → Bounded F → Proper F → f ∈ F → Bears F f → IsVertex F a → side f a ≡ pos 0 → Outgoing F f a

-- Only one half-edge of a face goes from a vertex.
abbrev pub OneOutgoingLaw : Type 0
OneOutgoingLaw = (F : List HalfSpace) (f g h : HalfSpace) (a b c : Homogeneous) → pos 0 <ℤ dot f.normal f.normal →
    IsHalfEdge F f g a b → IsHalfEdge F f h a c → SamePoint b c

-- Only one half-edge of a face goes to a vertex.
abbrev pub OneIncomingLaw : Type 0
OneIncomingLaw = (F : List HalfSpace) (f g h : HalfSpace) (a c b : Homogeneous) → pos 0 <ℤ dot f.normal f.normal →
    IsHalfEdge F f g a b → IsHalfEdge F f h c b → SamePoint c a

-- Both ends of a half-edge are on no third half-space that bears.
abbrev pub TwoFacesLaw : Type 0
TwoFacesLaw = (F : List HalfSpace) (f g h : HalfSpace) (a b : Homogeneous) → IsHalfEdge F f g a b → Bears F f → Bears F g → Bears F h →
    h ∈ F → side h a ≡ pos 0 → side h b ≡ pos 0 → ¬ (SameHalfSpace f g) → ¬ (SameHalfSpace f h) → ¬ (SameHalfSpace g h) → ⊥

-- Points of a face that its half-edges lead to and from among themselves are all of its vertices.
abbrev pub OneLoopLaw : Type 0
OneLoopLaw = (F : List HalfSpace) (f : HalfSpace) (first v : Homogeneous) (S : List Homogeneous) → Bounded F → Proper F → f ∈ F → Bears F f →
    first ∈ S → ((s : Homogeneous) → s ∈ S → From F f S s) → ((s : Homogeneous) → s ∈ S → To F f S s) →
    IsVertex F v → side f v ≡ pos 0 → IsAmong v S

-- Distinct points that half-edges of a face lead round, back to the first one, are the loop of the face.
abbrev pub LoopLaw : Type 0
LoopLaw = (F : List HalfSpace) (f : HalfSpace) (s : Homogeneous) (S : List Homogeneous) → Bounded F → Proper F → f ∈ F → Bears F f →
    Distinct (s ∷ S) → ((a b : Homogeneous) → IsNext a b (closed (s ∷ S)) → HasHalfEdge F f a b) → IsLoop F f (s ∷ S)
