-- What a motion makes of a polyhedron: its faces and its vertices.
use Rattle.std.specs.Prelude.{◌≡◌, ◌↔◌, ℕ, Bool, true, false, IsTrue, List, map, get_or, slice_get, Option, Some, None, pos, ◌<ℤ◌, ◌<◌, ◌≤◌}
use Rattle.std.specs.Option.{option_map, option_and_then}
use Rattle.algebra.specs.Space.{Homogeneous, HalfSpace, det, side}
use Rattle.algebra.specs.World.{InCube, world}
use Rattle.exact_geom.specs.Planes.{ThreePoints, half_space}
use Rattle.exact_geom.specs.Vertices.{IsReduced}
use Rattle.half_arena.specs.Slots.{contents}
use Rattle.half_arena.specs.declared.ids.FaceId.{FaceId}
use Rattle.orient48.specs.Motions.{Motion, moved_plane, moved_at}
use Rattle.vertex_laws.specs.Vertex.{IsVertex}
use Rattle.vertex_laws.specs.Cube.{VertexOutside}
use Rattle.solid_laws.specs.Names.{Triple, MeetAt}
use Rattle.half_poly.specs.declared.links.Face.{Face}
use Rattle.half_poly.specs.declared.names.Name.{Name}
use Rattle.half_poly.specs.declared.shape.Shape.{Shape}
use Rattle.half_poly.specs.Names.{no_name}
use Rattle.half_poly.specs.Shapes.{Tagged, solid_of, sides_of, IsShape}

-- A face with its plane moved.
abbrev pub moved_face : Motion → Face → Face
moved_face r f = record f { plane = moved_plane r f.plane }

-- A side with its plane moved.
abbrev pub moved_side : Motion → Tagged → Tagged
moved_side r s = record s { plane = moved_plane r s.plane }

-- The name by its three numbers.
abbrev pub triple_of : Name → Triple
triple_of n = record { first = n.first; second = n.second; third = n.third }

-- Each vertex lies where the three faces of its name meet.
abbrev pub AreSlotNames : (ℕ → Option Homogeneous) → List HalfSpace → List Name → Type 0
AreSlotNames vertices F names = (x : ℕ) (v : Homogeneous) → vertices x ≡ Some v → MeetAt F (triple_of (get_or names x no_name)) v

-- The plane of the face with this number.
abbrev pub plane_at : (ℕ → Option Face) → List FaceId → ℕ → Option ThreePoints
plane_at faces order k = option_map (λ f. f.plane) (option_and_then (λ id. faces id.0) (slice_get order k))

-- The reduced point where the three faces of a name meet.
pub record IsCornerOf (faces : ℕ → Option Face) (order : List FaceId) (name : Name) (p : Homogeneous) : Type 0 where
  pub f : ThreePoints
  pub g : ThreePoints
  pub h : ThreePoints
  pub first : plane_at faces order name.first ≡ Some f
  pub second : plane_at faces order name.second ≡ Some g
  pub third : plane_at faces order name.third ≡ Some h
  pub on_f : side (half_space f) p ≡ pos 0
  pub on_g : side (half_space g) p ≡ pos 0
  pub on_h : side (half_space h) p ≡ pos 0
  pub independent : ¬ (det (half_space f).normal (half_space g).normal (half_space h).normal ≡ pos 0)
  pub weight : pos 0 <ℤ p.weight
  pub reduced : IsReduced p

-- The vertex in a slot goes to where the three faces of its name meet.
abbrev pub CanMove : Motion → (ℕ → Option Face) → List FaceId → List Name → (ℕ → Option Homogeneous) → ℕ → Type 0
CanMove r faces order names vertices x = (v : Homogeneous) → vertices x ≡ Some v → IsReduced v → IsCornerOf faces order (get_or names x no_name) (moved_at r v)

-- What the slot had is moved, and whether that is in the world.
abbrev pub IsMovedSlot : Motion → Option Homogeneous → Option Homogeneous → Bool → Type 0
IsMovedSlot r None new inside = (new ≡ None) × (inside ≡ true)
IsMovedSlot r (Some v) new inside = (new ≡ Some (moved_at r v)) × (IsTrue inside ↔ InCube world (moved_at r v))

-- The slots below n were moved and stay in the world, and the others stayed.
pub record MovedBelow (r : Motion) (before after : ℕ → Option Homogeneous) (n : ℕ) : Type 0 where
  pub done : (x : ℕ) → x < n → IsMovedSlot r (before x) (after x) true
  pub stays : (x : ℕ) → n ≤ x → after x ≡ before x

-- Some vertex leaves the world.
pub record SomeLeaves (r : Motion) (vertices : ℕ → Option Homogeneous) : Type 0 where
  pub slot : ℕ
  pub vertex : Homogeneous
  pub there : vertices slot ≡ Some vertex
  pub outside : ¬ (InCube world (moved_at r vertex))

-- All vertices are moved and stay in the world, or some leaves it.
abbrev pub SaysMoved : Motion → (ℕ → Option Homogeneous) → (ℕ → Option Homogeneous) → Bool → Type 0
SaysMoved r before after true = (x : ℕ) → IsMovedSlot r (before x) (after x) true
SaysMoved r before after false = SomeLeaves r before

-- All vertices lie in the world.
abbrev pub LiesInWorld : List HalfSpace → Type 0
LiesInWorld F = (v : Homogeneous) → IsVertex F v → InCube world v

-- The arenas stand for the moved sides, which stay in the world; none where some vertex leaves it.
abbrev pub IsMovedShape : Motion → Shape → Option Shape → Type 0
IsMovedShape r old None = SomeLeaves r (contents old.vertices)
IsMovedShape r old (Some new) =
    IsShape (contents new.vertices) (contents new.edges) (contents new.faces) new.order.items
    × (sides_of (contents new.faces) new.order.items ≡ map (moved_side r) (sides_of (contents old.faces) old.order.items))
    × LiesInWorld (solid_of (sides_of (contents new.faces) new.order.items))

-- The moved sides, which stay in the world; none where some vertex of them leaves it.
abbrev pub IsMovedTo : Motion → List Tagged → Option (List Tagged) → Type 0
IsMovedTo r sides None = VertexOutside (solid_of (map (moved_side r) sides)) world
IsMovedTo r sides (Some poly) = (poly ≡ map (moved_side r) sides) × LiesInWorld (solid_of poly)
