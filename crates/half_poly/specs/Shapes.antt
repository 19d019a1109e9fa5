-- A polyhedron as a list of tagged planes.
use Rattle.std.specs.Prelude.{◌≡◌, ℕ, List, [], ◌∷◌, ◌++◌, map, filter, Option, IsSome, is_some, pos, ◌<ℤ◌, ◌≤ℤ◌}
use Rattle.std.specs.Option.{option_map_or}
use Rattle.algebra.specs.Members.{◌∈◌, Every}
use Rattle.algebra.specs.Space.{Homogeneous, HalfSpace, dot, side}
use Rattle.exact_geom.specs.declared.point.Point.{Point}
use Rattle.exact_geom.specs.Planes.{ThreePoints, half_space}
use Rattle.half_arena.specs.declared.ids.FaceId.{FaceId}
use Rattle.half_poly.specs.declared.links.HalfEdge.{HalfEdge}
use Rattle.half_poly.specs.declared.links.Face.{Face}
use Rattle.half_poly.specs.Arenas.{links}
use Rattle.half_poly.specs.Noted.{Table, entry}
use Rattle.trim_laws.specs.Trim.{Trim, TrimFaces}
use Rattle.trim_laws.specs.Valid.{HasInside}
use Rattle.vertex_laws.specs.Vertex.{IsVertex, VertexBehind}
use Rattle.half_poly.specs.declared.cut.Cut.{Cut}
use Rattle.half_poly.specs.declared.cut.Cut.TheVariants.{Missed, Gone, Halved}
use Rattle.half_poly.specs.Phases.{CutTo}
use Rattle.poly_laws.specs.Stands.{Neat, StandsFor}
use Rattle.poly_laws.specs.Cuts.{CutsOne}

-- A plane with its tag.
pub record Tagged : Type 0 where
  pub plane : ThreePoints
  pub tag : ℕ

abbrev pub no_point : Point
no_point = record { x = pos 0; y = pos 0; z = pos 0 }

abbrev pub no_side : Tagged
no_side = record { plane = record { p0 = no_point; p1 = no_point; p2 = no_point }; tag = 0 }

abbrev pub bounds : Tagged → HalfSpace
bounds s = half_space s.plane

abbrev pub solid_of : List Tagged → List HalfSpace
solid_of sides = map bounds sides

-- The side of a face.
abbrev pub side_at : (ℕ → Option Face) → FaceId → Tagged
side_at faces id = option_map_or (λ f. record { plane = f.plane; tag = f.tag }) (faces id.0) no_side

-- The sides of the faces, in order.
abbrev pub sides_of : (ℕ → Option Face) → List FaceId → List Tagged
sides_of faces order = map (side_at faces) order

-- The arenas stand for the trimmed list of the faces in this order.
pub record IsShape (V : ℕ → Option Homogeneous) (E : ℕ → Option HalfEdge) (Fc : ℕ → Option Face) (order : List FaceId) : Type 0 where
  pub listed : (id : FaceId) → id ∈ order → IsSome (Fc id.0)
  pub neat : Neat (solid_of (sides_of Fc order))
  pub trimmed : Trim (solid_of (sides_of Fc order)) (solid_of (sides_of Fc order))
  pub volume : HasInside (solid_of (sides_of Fc order))
  pub stands : StandsFor (solid_of (sides_of Fc order)) (links V E Fc)

-- The faces that a cut keeps, in order.
abbrev pub keeps : Table → List FaceId → List FaceId
keeps begin order = filter (λ id. is_some (entry begin id.0)) order

-- The sides that a cut leaves: those that trimming keeps of the old ones and the plane.
abbrev pub IsHalved : List Tagged → Tagged → List Tagged → Type 0
IsHalved sides side after = TrimFaces bounds (sides ++ side ∷ []) after

-- No two sides have the same tag.
pub data DistinctTags : List Tagged → Type 0 where
  no_sides : DistinctTags []
  one_more_side : {s : Tagged} {sides : List Tagged} → Every (λ t. ¬ (s.tag ≡ t.tag)) sides → DistinctTags sides → DistinctTags (s ∷ sides)

pub record HalvedShape (P : ThreePoints) (tag : ℕ) (V2 : ℕ → Option Homogeneous) (E3 : ℕ → Option HalfEdge) (Fc F3 : ℕ → Option Face) (begin : Table) (wall : FaceId) (order : List FaceId) : Type 0 where
  pub shape : IsShape V2 E3 F3 (keeps begin order ++ wall ∷ [])
  pub halved : IsHalved (sides_of Fc order) (record { plane = P; tag = tag }) (sides_of F3 (keeps begin order ++ wall ∷ []))

-- Where the plane has a vertex behind it and one in front, the passes leave the sides with a vertex behind, and the plane.
abbrev pub HalvedLaw : Type 0
HalvedLaw = (P : ThreePoints) (tag : ℕ) (V V2 : ℕ → Option Homogeneous) (E E3 : ℕ → Option HalfEdge) (Fc F3 : ℕ → Option Face) (begin : Table) (wall : FaceId) (order : List FaceId) (a b : Homogeneous) →
    IsShape V E Fc order → CutTo P tag V V2 E E3 Fc F3 begin wall → pos 0 <ℤ dot (half_space P).normal (half_space P).normal →
    IsVertex (solid_of (sides_of Fc order)) a → side (half_space P) a <ℤ pos 0 → IsVertex (solid_of (sides_of Fc order)) b → pos 0 <ℤ side (half_space P) b →
    HalvedShape P tag V2 E3 Fc F3 begin wall order

-- ---- what a cut answers
pub record SomeInFront (F : List HalfSpace) (P : HalfSpace) : Type 0 where
  pub at : Homogeneous
  pub vertex : IsVertex F at
  pub front : pos 0 <ℤ side P at

abbrev pub NoneInFront : List HalfSpace → HalfSpace → Type 0
NoneInFront F P = (v : Homogeneous) → IsVertex F v → side P v ≤ℤ pos 0

abbrev pub NoneBehind : List HalfSpace → HalfSpace → Type 0
NoneBehind F P = (v : Homogeneous) → IsVertex F v → pos 0 ≤ℤ side P v

-- Missed where no vertex is in front, else Gone where none is behind, else Halved. Only then the sides change.
abbrev pub Says : List Tagged → Tagged → List Tagged → Cut → Type 0
Says sides side after Missed = NoneInFront (solid_of sides) (bounds side) × (after ≡ sides)
Says sides side after Gone = SomeInFront (solid_of sides) (bounds side) × NoneBehind (solid_of sides) (bounds side) × (after ≡ sides)
Says sides side after Halved = SomeInFront (solid_of sides) (bounds side) × VertexBehind (solid_of sides) (bounds side) × IsHalved sides side after

-- What is said of a cut that leaves some solid is what one cut makes of the trimmed list; so a list of cuts leaves what trimming leaves.
abbrev pub SaysLaw : Type 0
SaysLaw = (sides after : List Tagged) (side : Tagged) (answer : Cut) → HasInside (solid_of sides) → Says sides side after answer → ¬ (answer ≡ Gone) →
    CutsOne (solid_of sides) (bounds side) (solid_of after)
