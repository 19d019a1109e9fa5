-- The laws of cutting.
use Rattle.std.specs.Prelude.{◌≡◌, ◌⊎◌, List, pos, ◌≤ℤ◌, ◌<ℤ◌}
use Rattle.algebra.specs.Members.{◌∈◌}
use Rattle.algebra.specs.Space.{Homogeneous, HalfSpace, SamePoint, dot, side, SameHalfSpace}
use Rattle.trim_laws.specs.Solid.{IsIn, IsInside, Proper, Bounded}
use Rattle.trim_laws.specs.Trim.{Bears, Trim}
use Rattle.vertex_laws.specs.Vertex.{IsVertex, VertexOnBehind}
use Rattle.vertex_laws.specs.HalfEdge.{IsHalfEdge}
use Rattle.cut_laws.specs.Cut.{back, cut_point, Crossed, OldVertex, NewVertex, Sifts, Incoming}

-- Each vertex of the part behind a plane is an old one, or the point of the plane on an edge that it cuts.
abbrev pub CutVerticesLaw : Type 0
CutVerticesLaw = (F : List HalfSpace) (P : HalfSpace) (v : Homogeneous) → Bounded F → IsVertex (back F P) v → OldVertex F P v ⊎ NewVertex F P v

-- And each of both is one.
abbrev pub OldVertexLaw : Type 0
OldVertexLaw = (F : List HalfSpace) (P : HalfSpace) (v : Homogeneous) → OldVertex F P v → IsVertex (back F P) v

abbrev pub NewVertexLaw : Type 0
NewVertexLaw = (F : List HalfSpace) (P : HalfSpace) (v : Homogeneous) → pos 0 <ℤ v.weight → NewVertex F P v → IsVertex (back F P) v

-- A face that bears and has a point behind the plane goes on bearing, and each face that goes on bearing has a vertex behind.
abbrev pub KeptFaceLaw : Type 0
KeptFaceLaw = (F : List HalfSpace) (P f : HalfSpace) (v : Homogeneous) → Bears F f → IsIn F v → side f v ≡ pos 0 → side P v <ℤ pos 0 → Bears (back F P) f

abbrev pub GoneFaceLaw : Type 0
GoneFaceLaw = (F : List HalfSpace) (P f : HalfSpace) → Bounded F → Proper F → f ∈ F → ¬ (SameHalfSpace f P) → Bears (back F P) f → VertexOnBehind F f P

-- Where some points of the solid are behind and some in front, the plane bears.
abbrev pub NewFaceLaw : Type 0
NewFaceLaw = (F : List HalfSpace) (P : HalfSpace) (o a b : Homogeneous) → IsInside F o → IsIn F a → IsIn F b → side P a <ℤ pos 0 → pos 0 <ℤ side P b → Bears (back F P) P

-- No vertex in front: nothing is cut off, the plane bears only where it repeats a face, and the faces bear as before.
abbrev pub MissedLaw : Type 0
MissedLaw = (F : List HalfSpace) (P : HalfSpace) → Bounded F → ((v : Homogeneous) → IsVertex F v → side P v ≤ℤ pos 0) → (p : Homogeneous) → IsIn F p → IsIn (back F P) p

abbrev pub MissedNewLaw : Type 0
MissedNewLaw = (F : List HalfSpace) (P : HalfSpace) → Bounded F → Proper F → pos 0 <ℤ dot P.normal P.normal → ((v : Homogeneous) → IsVertex F v → side P v ≤ℤ pos 0) →
    Bears (back F P) P → ((f : HalfSpace) → f ∈ F → ¬ (SameHalfSpace f P)) → ⊥

abbrev pub MissedOldLaw : Type 0
MissedOldLaw = (F : List HalfSpace) (P f : HalfSpace) (o : Homogeneous) → Bounded F → Proper F → f ∈ F → IsInside F o → side P o <ℤ pos 0 →
    ((v : Homogeneous) → IsVertex F v → side P v ≤ℤ pos 0) → Bears F f → Bears (back F P) f

-- No vertex behind: nothing is left inside.
abbrev pub GoneLaw : Type 0
GoneLaw = (F : List HalfSpace) (P : HalfSpace) → Bounded F → ((v : Homogeneous) → IsVertex F v → pos 0 ≤ℤ side P v) → (o : Homogeneous) → ¬ (IsInside (back F P) o)

-- A half-edge with no end in front stays one, and one that leads from behind to the front leads to the plane then.
abbrev pub KeptHalfEdgeLaw : Type 0
KeptHalfEdgeLaw = (F : List HalfSpace) (P f g : HalfSpace) (a b : Homogeneous) → IsHalfEdge F f g a b → side P a ≤ℤ pos 0 → side P b ≤ℤ pos 0 → IsHalfEdge (back F P) f g a b

abbrev pub LeavingHalfEdgeLaw : Type 0
LeavingHalfEdgeLaw = (F : List HalfSpace) (P f g : HalfSpace) (a b : Homogeneous) → IsHalfEdge F f g a b → side P a <ℤ pos 0 → pos 0 <ℤ side P b →
    IsHalfEdge (back F P) f g a (cut_point P a b)

-- A half-edge that comes from behind to the plane ends where the face's half-edge on the plane begins.
abbrev pub LeaveLaw : Type 0
LeaveLaw = (G : List HalfSpace) (P f g : HalfSpace) (u v a c : Homogeneous) → pos 0 <ℤ dot f.normal f.normal → IsHalfEdge G f P u v → IsHalfEdge G f g a c →
    side P a <ℤ pos 0 → side P c ≡ pos 0 → SamePoint c u

-- And one that goes from the plane to behind begins where that one ends.
abbrev pub EnterLaw : Type 0
EnterLaw = (G : List HalfSpace) (P f g : HalfSpace) (u v c b : Homogeneous) → pos 0 <ℤ dot f.normal f.normal → IsHalfEdge G f P u v → IsHalfEdge G f g c b →
    side P b <ℤ pos 0 → side P c ≡ pos 0 → SamePoint c v

-- The old faces through the point of the plane on a crossing edge are the faces through the edge.
abbrev pub NewCornerLaw : Type 0
NewCornerLaw = (F : List HalfSpace) (P h : HalfSpace) (a b : Homogeneous) → Crossed F P a b → h ∈ F → side h (cut_point P a b) ≡ pos 0 →
    (side h a ≡ pos 0) × (side h b ≡ pos 0)

-- What trimming makes of the trimmed list with a further plane, it makes of the list with that plane.
abbrev pub TrimAddLaw : Type 0
TrimAddLaw = (L G H : List HalfSpace) (P : HalfSpace) (o : Homogeneous) → Proper (back L P) → IsInside (back L P) o → Trim L G → Trim (back G P) H → Trim (back L P) H

-- No vertex in front: trimming gives what it gave before.
abbrev pub MissedTrimLaw : Type 0
MissedTrimLaw = (L G : List HalfSpace) (P : HalfSpace) (o : Homogeneous) → Bounded L → Proper (back L P) → IsInside L o → side P o <ℤ pos 0 →
    ((v : Homogeneous) → IsVertex L v → side P v ≤ℤ pos 0) → Trim L G → Trim (back L P) G

-- Some vertex in front and some behind: trimming keeps the faces with a vertex behind, and the new plane.
abbrev pub HalvedTrimLaw : Type 0
HalvedTrimLaw = (G K : List HalfSpace) (P : HalfSpace) (o a b : Homogeneous) → Bounded G → Proper G → IsInside G o → IsVertex G a → IsVertex G b →
    side P a <ℤ pos 0 → pos 0 <ℤ side P b → Trim G G → Sifts G P G K → Trim (back G P) (back K P)

-- Each vertex on a face that bears has a half-edge of the face that leads to it.
abbrev pub IncomingLaw : Type 0
IncomingLaw = (F : List HalfSpace) (f : HalfSpace) (a : Homogeneous) → Bounded F → Proper F → f ∈ F → Bears F f → IsVertex F a → side f a ≡ pos 0 → Incoming F f a

-- The trimmed list of a bounded list is bounded.
abbrev pub TrimBoundedLaw : Type 0
TrimBoundedLaw = (F G : List HalfSpace) (o : Homogeneous) → Bounded F → Proper F → IsInside F o → Trim F G → Bounded G
