-- What a motion does to solids.
use Rattle.std.specs.Prelude.{◌≡◌, ◌↔◌, IsTrue, ℕ, true, false, List, map, Option, option_map}
use Rattle.algebra.specs.Space.{Homogeneous, HalfSpace, side, whole_point, SameHalfSpace}
use Rattle.algebra.specs.World.{InCube, world}
use Rattle.exact_geom.specs.declared.point.Point.{Point}
use Rattle.exact_geom.specs.Planes.{ThreePoints, half_space, vector}
use Rattle.orient48.specs.Motions.{Motion, is_signed_permutation, is_flip, back, moved_point, moved_plane, moved_half, moved_at}
use Rattle.orient48.specs.Laws.{IsTurn}
use Rattle.trim_laws.specs.Solid.{IsIn, IsInside, Proper, Bounded}
use Rattle.trim_laws.specs.Trim.{Bears, Trim, TrimFaces}
use Rattle.trim_laws.specs.Valid.{HasInside, Valid}
use Rattle.vertex_laws.specs.Vertex.{IsVertex}
use Rattle.vertex_laws.specs.HalfEdge.{IsHalfEdge}
use Rattle.vertex_laws.specs.Loop.{IsLoop}
use Rattle.solid_laws.specs.FaceLoop.{IsNumberedLoop, HasVertexCount, HasVertex}
use Rattle.solid_laws.specs.Names.{Triple, IsName, AreVertices}
use Rattle.moved_laws.specs.Moved.{moved_list, run_back}

-- A moved plane has at the moved point the side that it had, and its half-space is the moved one; each point is a moved point.
pub record MovesSides (r : Motion) : Type 0 where
  pub plane : (t : ThreePoints) (p : Homogeneous) → side (half_space (moved_plane r t)) (moved_at r p) ≡ side (half_space t) p
  pub half : (f : HalfSpace) (p : Homogeneous) → side (moved_half r f) (moved_at r p) ≡ side f p
  pub planes : (ts : List ThreePoints) → map half_space (map (moved_plane r) ts) ≡ moved_list r (map half_space ts)
  pub whole : (a : Point) → moved_at r (whole_point (vector a)) ≡ whole_point (vector (moved_point r a))
  pub each_point : (q : Homogeneous) → moved_at r (moved_at (back r) q) ≡ q
  pub point_back : (p : Homogeneous) → moved_at (back r) (moved_at r p) ≡ p
  pub list_back : (F : List HalfSpace) → moved_list (back r) (moved_list r F) ≡ F

abbrev pub SideLaw : Type 0
SideLaw = (r : Motion) → IsTurn r.matrix → MovesSides r

-- The moved solid has the moved points, and no others.
pub record MovesPoints (r : Motion) (F : List HalfSpace) : Type 0 where
  pub is_in : (p : Homogeneous) → IsIn F p ↔ IsIn (moved_list r F) (moved_at r p)
  pub is_inside : (p : Homogeneous) → IsInside F p ↔ IsInside (moved_list r F) (moved_at r p)
  pub was_in : (q : Homogeneous) → IsIn (moved_list r F) q ↔ IsIn F (moved_at (back r) q)
  pub was_inside : (q : Homogeneous) → IsInside (moved_list r F) q ↔ IsInside F (moved_at (back r) q)
  pub has_inside : HasInside F ↔ HasInside (moved_list r F)
  pub proper : Proper F ↔ Proper (moved_list r F)
  pub bounded : Bounded F ↔ Bounded (moved_list r F)

abbrev pub PointsLaw : Type 0
PointsLaw = (r : Motion) (F : List HalfSpace) → IsTurn r.matrix → MovesPoints r F

-- The faces that bear are the moved ones, and the trimmed list is.
pub record MovesTrim (r : Motion) (F : List HalfSpace) : Type 0 where
  pub same : (f g : HalfSpace) → SameHalfSpace f g ↔ SameHalfSpace (moved_half r f) (moved_half r g)
  pub bears : (f : HalfSpace) → Bears F f ↔ Bears (moved_list r F) (moved_half r f)
  pub trim : (G : List HalfSpace) → Trim F G ↔ Trim (moved_list r F) (moved_list r G)
  pub was_trim : (G : List HalfSpace) → Trim (moved_list r F) G → Trim F (moved_list (back r) G)

abbrev pub TrimMovedLaw : Type 0
TrimMovedLaw = (r : Motion) (F : List HalfSpace) → IsTurn r.matrix → MovesTrim r F

-- A valid brush stays one exactly where its vertices stay in the world.
abbrev pub ValidMovedLaw : Type 0
ValidMovedLaw = (r : Motion) (F : List HalfSpace) → IsTurn r.matrix → Valid F → ((v : Homogeneous) → IsVertex F v → InCube world (moved_at r v)) ↔ Valid (moved_list r F)

-- The vertices are the moved ones, with the names that they had, and so in the order that they had.
pub record MovesVertices (r : Motion) (F : List HalfSpace) : Type 0 where
  pub vertex : (v : Homogeneous) → IsVertex F v ↔ IsVertex (moved_list r F) (moved_at r v)
  pub was_vertex : (q : Homogeneous) → IsVertex (moved_list r F) q → IsVertex F (moved_at (back r) q)
  pub name : (v : Homogeneous) (n : Triple) → IsName F v n ↔ IsName (moved_list r F) (moved_at r v) n
  pub list : (V : List Homogeneous) → AreVertices F V → AreVertices (moved_list r F) (map (moved_at r) V)
  pub count : (n : ℕ) → HasVertexCount F n ↔ HasVertexCount (moved_list r F) n
  pub numbered : (k : ℕ) (v : Option Homogeneous) → HasVertex F k v → HasVertex (moved_list r F) k (option_map (moved_at r) v)

abbrev pub VerticesMovedLaw : Type 0
VerticesMovedLaw = (r : Motion) (F : List HalfSpace) → IsTurn r.matrix → MovesVertices r F

-- The half-edges are the moved ones; a flip turns each of them round.
pub record MovesHalfEdges (r : Motion) (F : List HalfSpace) : Type 0 where
  pub kept : is_flip r.matrix ≡ false → (f g : HalfSpace) (a b : Homogeneous) →
      IsHalfEdge F f g a b ↔ IsHalfEdge (moved_list r F) (moved_half r f) (moved_half r g) (moved_at r a) (moved_at r b)
  pub turned_round : is_flip r.matrix ≡ true → (f g : HalfSpace) (a b : Homogeneous) →
      IsHalfEdge F f g a b ↔ IsHalfEdge (moved_list r F) (moved_half r f) (moved_half r g) (moved_at r b) (moved_at r a)

abbrev pub HalfEdgesMovedLaw : Type 0
HalfEdgesMovedLaw = (r : Motion) (F : List HalfSpace) → IsTurn r.matrix → MovesHalfEdges r F

-- The loops are the moved ones; a flip turns them round, from the same first vertex. The vertices keep their numbers.
pub record MovesLoops (r : Motion) (F : List HalfSpace) : Type 0 where
  pub kept : is_flip r.matrix ≡ false → (f : HalfSpace) (S : List Homogeneous) → IsLoop F f S → IsLoop (moved_list r F) (moved_half r f) (map (moved_at r) S)
  pub turned_round : is_flip r.matrix ≡ true → (f : HalfSpace) (S : List Homogeneous) → IsLoop F f S → IsLoop (moved_list r F) (moved_half r f) (run_back (map (moved_at r) S))
  pub numbers_kept : is_flip r.matrix ≡ false → (f : HalfSpace) (V : List Homogeneous) (numbers : List ℕ) → IsNumberedLoop F f V numbers →
      IsNumberedLoop (moved_list r F) (moved_half r f) (map (moved_at r) V) numbers
  pub numbers_turned_round : is_flip r.matrix ≡ true → (f : HalfSpace) (V : List Homogeneous) (numbers : List ℕ) → IsNumberedLoop F f V numbers →
      IsNumberedLoop (moved_list r F) (moved_half r f) (map (moved_at r) V) (run_back numbers)

abbrev pub LoopsMovedLaw : Type 0
LoopsMovedLaw = (r : Motion) (F : List HalfSpace) → IsTurn r.matrix → MovesLoops r F

-- The same of faces that have more than a half-space, where each is moved to one with the moved half-space.
abbrev pub FacesMovedLaw : Type 0 → Type 0
FacesMovedLaw A = (plane : A → HalfSpace) (move : A → A) (r : Motion) (F G : List A) → IsTurn r.matrix → ((f : A) → plane (move f) ≡ moved_half r (plane f)) →
    TrimFaces plane F G → TrimFaces plane (map move F) (map move G)

-- A brush by its planes, each of them moved by a signed permutation and a shift, is valid exactly where its vertices stay in the world.
abbrev pub BrushMovedLaw : Type 0
BrushMovedLaw = (r : Motion) (ts : List ThreePoints) → IsTrue (is_signed_permutation r.matrix) → Valid (map half_space ts) →
    ((v : Homogeneous) → IsVertex (map half_space ts) v → InCube world (moved_at r v)) ↔ Valid (map half_space (map (moved_plane r) ts))
