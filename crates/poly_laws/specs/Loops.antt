-- What the arenas of a polyhedron tell: the half-edges of each edge, and the way round each face.
use Rattle.std.specs.Prelude.{◌≡◌, ℕ, List, [], ◌∷◌, pos}
use Rattle.algebra.specs.Members.{◌∈◌}
use Rattle.algebra.specs.Space.{Homogeneous, HalfSpace, SamePoint, side}
use Rattle.vertex_laws.specs.Vertex.{IsVertex, IsEdge}
use Rattle.poly_laws.specs.Links.{Links, HasEdge, from_point, to_point}
use Rattle.poly_laws.specs.Stands.{Neat, StandsFor}

-- The half-edge from a to b: there is one, and only one.
pub record OneHalfEdge (L : Links) (a b : Homogeneous) : Type 0 where
  pub slot : ℕ
  pub live : HasEdge L slot
  pub from : SamePoint a (from_point L slot)
  pub to : SamePoint b (to_point L slot)
  pub only : (e : ℕ) → HasEdge L e → SamePoint a (from_point L e) → SamePoint b (to_point L e) → e ≡ slot

-- Each edge has exactly one half-edge in each direction.
abbrev pub OneHalfEdgeLaw : Type 0
OneHalfEdgeLaw = (F : List HalfSpace) (L : Links) (a b : Homogeneous) → Neat F → StandsFor F L → IsEdge F a b → OneHalfEdge L a b

-- The way from slot x to slot y by next-links, and the slots on it, the last one first.
pub data Way (next : ℕ → ℕ) (x : ℕ) : ℕ → List ℕ → Type 0 where
  start : Way next x x (x ∷ [])
  onward : {y : ℕ} {V : List ℕ} → Way next x y V → ¬ (next y ∈ V) → Way next x (next y) (next y ∷ V)

-- A half-edge on the way that begins at this point.
pub record OnWay (L : Links) (V : List ℕ) (v : Homogeneous) : Type 0 where
  pub slot : ℕ
  pub among : slot ∈ V
  pub same : SamePoint v (from_point L slot)

-- The next-links from a half-edge come back, and pass each vertex of its face.
pub record GoesRound (F : List HalfSpace) (L : Links) (e : ℕ) : Type 0 where
  pub last : ℕ
  pub slots : List ℕ
  pub way : Way L.next e last slots
  pub back : L.next last ≡ e
  pub live : (d : ℕ) → d ∈ slots → HasEdge L d
  pub face_is : (d : ℕ) → d ∈ slots → L.face d ≡ L.face e
  pub passes : (v : Homogeneous) → IsVertex F v → side (L.plane (L.face e)) v ≡ pos 0 → OnWay L slots v

-- Where the live slots are among some list.
abbrev pub GoesRoundLaw : Type 0
GoesRoundLaw = (F : List HalfSpace) (L : Links) (S : List ℕ) → Neat F → StandsFor F L → ((e : ℕ) → HasEdge L e → e ∈ S) → (e : ℕ) → HasEdge L e → GoesRound F L e
