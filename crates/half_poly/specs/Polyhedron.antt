-- Arenas that are a polyhedron: they hold the vertices, edges and faces of a list of tagged planes, and nothing else.
use Rattle.std.specs.Prelude.{◌≡◌, ℕ, List, Option, Some, pos}
use Rattle.algebra.specs.Members.{◌∈◌}
use Rattle.algebra.specs.Space.{Homogeneous, HalfSpace, SamePoint, side}
use Rattle.half_arena.specs.Slots.{contents}
use Rattle.half_arena.specs.declared.ids.VertId.{VertId}
use Rattle.vertex_laws.specs.Vertex.{IsVertex, IsEdge}
use Rattle.poly_laws.specs.Links.{Links, HasVertex, HasEdge, HasFace, VertexSlot, from_point, to_point, own_plane, other_plane}
use Rattle.poly_laws.specs.Loops.{OneHalfEdge, GoesRound}
use Rattle.half_poly.specs.declared.links.HalfEdge.{HalfEdge}
use Rattle.half_poly.specs.declared.links.Face.{Face}
use Rattle.half_poly.specs.declared.shape.Shape.{Shape}
use Rattle.half_poly.specs.Arenas.{links}
use Rattle.half_poly.specs.Shapes.{Tagged, solid_of, sides_of}
use Rattle.half_poly.specs.Readings.{IsPoly}

-- The twin of a half-edge leads back, and belongs to the other one of two faces through both ends.
pub record HasTwin (F : List HalfSpace) (L : Links) (e : ℕ) : Type 0 where
  pub live : HasEdge L (L.twin e)
  pub back : L.twin (L.twin e) ≡ e
  pub from : from_point L (L.twin e) ≡ to_point L e
  pub to : to_point L (L.twin e) ≡ from_point L e
  pub own_in : own_plane L e ∈ F
  pub other_in : other_plane L e ∈ F
  pub apart : ¬ (own_plane L e ≡ other_plane L e)
  pub from_on_own : side (own_plane L e) (from_point L e) ≡ pos 0
  pub to_on_own : side (own_plane L e) (to_point L e) ≡ pos 0
  pub from_on_other : side (other_plane L e) (from_point L e) ≡ pos 0
  pub to_on_other : side (other_plane L e) (to_point L e) ≡ pos 0

-- A live face with this plane and tag.
pub record FaceEntry (Fc : ℕ → Option Face) (s : Tagged) : Type 0 where
  pub slot : ℕ
  pub face : Face
  pub there : Fc slot ≡ Some face
  pub plane_is : face.plane ≡ s.plane
  pub tag_is : face.tag ≡ s.tag

pub record IsPolyhedron (sides : List Tagged) (V : ℕ → Option Homogeneous) (E : ℕ → Option HalfEdge) (Fc : ℕ → Option Face) : Type 0 where
  -- each vertex exactly once
  pub vertex : (x : ℕ) → HasVertex (links V E Fc) x → IsVertex (solid_of sides) ((links V E Fc).point x)
  pub vertex_once : (x y : ℕ) → HasVertex (links V E Fc) x → HasVertex (links V E Fc) y → SamePoint ((links V E Fc).point x) ((links V E Fc).point y) → x ≡ y
  pub vertex_all : (v : Homogeneous) → IsVertex (solid_of sides) v → VertexSlot (links V E Fc) v
  -- exactly one half-edge of each edge in each direction, each with its twin
  pub edge : (e : ℕ) → HasEdge (links V E Fc) e → IsEdge (solid_of sides) (from_point (links V E Fc) e) (to_point (links V E Fc) e)
  pub edge_all : (a b : Homogeneous) → IsEdge (solid_of sides) a b → OneHalfEdge (links V E Fc) a b
  pub twin : (e : ℕ) → HasEdge (links V E Fc) e → HasTwin (solid_of sides) (links V E Fc) e
  -- each face exactly once, with its tag
  pub face : (k : ℕ) (f : Face) → Fc k ≡ Some f → record { plane = f.plane; tag = f.tag } ∈ sides
  pub face_once : (k l : ℕ) (f g : Face) → Fc k ≡ Some f → Fc l ≡ Some g → f.tag ≡ g.tag → k ≡ l
  pub face_all : (s : Tagged) → s ∈ sides → FaceEntry Fc s
  -- the next-links from its first half-edge come back, and pass each vertex on it
  pub first : (k : ℕ) → HasFace (links V E Fc) k → HasEdge (links V E Fc) ((links V E Fc).first k) × ((links V E Fc).face ((links V E Fc).first k) ≡ k)
  pub goes_round : (k : ℕ) → HasFace (links V E Fc) k → GoesRound (solid_of sides) (links V E Fc) ((links V E Fc).first k)

-- The sides have such arenas.
pub record HasPolyhedron (sides : List Tagged) : Type 0 where
  pub vertices : ℕ → Option Homogeneous
  pub edges : ℕ → Option HalfEdge
  pub faces : ℕ → Option Face
  pub is_polyhedron : IsPolyhedron sides vertices edges faces

-- The arenas that are kept are such.
abbrev pub PolyhedronLaw : Type 0
PolyhedronLaw = (shape : Shape) (named : List VertId) (loops : List (List ℕ)) → IsPoly shape named loops →
    IsPolyhedron (sides_of (contents shape.faces) shape.order.items) (contents shape.vertices) (contents shape.edges) (contents shape.faces)
