-- The walks round the faces, by the numbers of vertices.
use Rattle.std.specs.Prelude.{◌≡◌, ℕ, ◌<◌, ◌≤◌, Bool, true, nat_lt, List, length, get_or, slice_get, slice_index_or, Option, Some, None, pos}
use Rattle.std.specs.Option.{option_map_or}
use Rattle.algebra.specs.Members.{◌∈◌}
use Rattle.algebra.specs.Space.{Homogeneous, HalfSpace, side}
use Rattle.half_arena.specs.declared.ids.EdgeId.{EdgeId}
use Rattle.vertex_laws.specs.Loop.{HasHalfEdge}
use Rattle.solid_laws.specs.Names.{AreVertices}
use Rattle.solid_laws.specs.FaceLoop.{IsNumberedLoop}
use Rattle.poly_laws.specs.Stands.{Neat}
use Rattle.half_poly.specs.declared.links.HalfEdge.{HalfEdge}
use Rattle.half_poly.specs.Noted.{Table, entry}

-- The number of the vertex where a half-edge begins.
abbrev pub begin_number : (ℕ → Option HalfEdge) → List ℕ → ℕ → ℕ
begin_number edges numbers e = option_map_or (λ h. get_or numbers h.origin.0 0) (edges e) 0

-- Whether the half-edge begins at a lesser number than the one that was noted, if one was.
abbrev pub is_less : (ℕ → Option HalfEdge) → List ℕ → ℕ → Option EdgeId → Bool
is_less edges numbers e None = true
is_less edges numbers e (Some id) = nat_lt (begin_number edges numbers e) (begin_number edges numbers id.0)

-- The half-edge of the face whose vertex has the least number of those below n.
pub record LeastOf (edges : ℕ → Option HalfEdge) (numbers : List ℕ) (table : Table) (face number : ℕ) : Type 0 where
  pub id : EdgeId
  pub entry_is : entry table face ≡ Some id
  pub least : begin_number edges numbers id.0 ≤ number

-- The half-edge is live and of this face.
pub record OfFace (edges : ℕ → Option HalfEdge) (e face : ℕ) : Type 0 where
  pub h : HalfEdge
  pub there : edges e ≡ Some h
  pub face_is : h.face.0 ≡ face

-- The table has for each face, by its slot, a half-edge from its vertex with the least number, of the half-edges below n.
pub record LeastBelow (edges : ℕ → Option HalfEdge) (numbers : List ℕ) (table : Table) (n : ℕ) : Type 0 where
  pub some : (e : ℕ) (h : HalfEdge) → e < n → edges e ≡ Some h → h.face.0 < length table → LeastOf edges numbers table h.face.0 (begin_number edges numbers e)
  pub names : (k : ℕ) (id : EdgeId) → entry table k ≡ Some id → OfFace edges id.0 k

-- Of all half-edges.
pub record Least (edges : ℕ → Option HalfEdge) (numbers : List ℕ) (table : Table) : Type 0 where
  pub some : (e : ℕ) (h : HalfEdge) → edges e ≡ Some h → h.face.0 < length table → LeastOf edges numbers table h.face.0 (begin_number edges numbers e)
  pub names : (k : ℕ) (id : EdgeId) → entry table k ≡ Some id → OfFace edges id.0 k

-- F is neat, V are its vertices and f is one of its faces.
pub record IsFaceOf (F : List HalfSpace) (V : List Homogeneous) (f : HalfSpace) : Type 0 where
  pub neat : Neat F
  pub vertices : AreVertices F V
  pub among : f ∈ F

-- The point (0, 0, 0).
abbrev pub origin : Homogeneous
origin = record { vector = record { x = pos 0; y = pos 0; z = pos 0 }; weight = pos 1 }

-- The point with number k, or the origin past the end.
abbrev pub point : List Homogeneous → ℕ → Homogeneous
point V k = slice_index_or V k origin

-- The point with number k is on f.
pub record IsNumberOn (V : List Homogeneous) (f : HalfSpace) (k : ℕ) : Type 0 where
  pub within : k < length V
  pub on : side f (point V k) ≡ pos 0

-- k is the least number of a point on f.
pub record IsFirstOn (V : List Homogeneous) (f : HalfSpace) (k : ℕ) : Type 0 where
  pub here : IsNumberOn V f k
  pub before : (j : ℕ) → j < k → ¬ (side f (point V j) ≡ pos 0)

-- A half-edge of f leads from the point with number k to that with number n.
pub record LeadsTo (F : List HalfSpace) (V : List Homogeneous) (f : HalfSpace) (k n : ℕ) : Type 0 where
  pub within : n < length V
  pub edge : HasHalfEdge F f (point V k) (point V n)

-- From each half-edge of the face the next one of it begins where it ends, and no two begin at one vertex.
pub record GoesOn (F : List HalfSpace) (V : List Homogeneous) (f : HalfSpace) (edges : ℕ → Option HalfEdge) (numbers : List ℕ) (face : ℕ) : Type 0 where
  pub face_of : IsFaceOf F V f
  pub next : (e : ℕ) (h : HalfEdge) → edges e ≡ Some h → h.face.0 ≡ face → OfFace edges h.next.0 face
  pub leads : (e : ℕ) (h : HalfEdge) → edges e ≡ Some h → h.face.0 ≡ face → LeadsTo F V f (begin_number edges numbers e) (begin_number edges numbers h.next.0)
  pub one : (e d : ℕ) → OfFace edges e face → OfFace edges d face → begin_number edges numbers e ≡ begin_number edges numbers d → e ≡ d

-- The loops of the faces, in order.
pub record AreLoops (F : List HalfSpace) (V : List Homogeneous) (loops : List (List ℕ)) : Type 0 where
  pub count : length loops ≡ length F
  pub each : (k : ℕ) (f : HalfSpace) (numbers : List ℕ) → slice_get F k ≡ Some f → slice_get loops k ≡ Some numbers → IsNumberedLoop F f V numbers
