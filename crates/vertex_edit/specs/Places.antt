-- Where vertices go, and what the brush becomes.
use Rattle.std.specs.Prelude.{◌≡◌, ℕ, Bool, ◌&&◌, if◌then◌else◌, ◌≤◌, List, length, get_or, map, ℤ, pos, unsigned_abs, IsTrue, ◌+ℤ◌, ◌<◌}
use Rattle.std.specs.List.{list_any}
use Rattle.std.specs.Ordering.{int_eq}
use Rattle.algebra.specs.Members.{◌∈◌, Every}
use Rattle.algebra.specs.Space.{Homogeneous, HalfSpace}
use Rattle.exact_geom.specs.declared.point.Point.{Point}
use Rattle.exact_geom.specs.Machine.{IsWithin}
use Rattle.exact_geom.specs.Planes.{vector, is_in_range}
use Rattle.exact_geom.specs.Rounding.{IsRounded}
use Rattle.solid_laws.specs.Names.{AreVertices}
use Rattle.solid_brush.specs.declared.side.Side.{Side}
use Rattle.hull_laws.specs.Moved.{Carried}
use Rattle.hull_merge.specs.Gathered.{whole_of}
use Rattle.vertex_edit.specs.declared.shape.FromFace.{FromFace}
use Rattle.vertex_edit.specs.Edits.{IsEdit}

-- Each coordinate is at most 4096 in size.
abbrev pub IsInWorld : Point → Type 0
IsInWorld p = IsWithin 4096 (vector p)

-- ---- moving
-- Each coordinate of the shift is at most 8704 in size.
pub record IsSmall (shift : List ℤ) : Type 0 where
  pub x : unsigned_abs (get_or shift 0 (pos 0)) ≤ 8704
  pub y : unsigned_abs (get_or shift 1 (pos 0)) ≤ 8704
  pub z : unsigned_abs (get_or shift 2 (pos 0)) ≤ 8704

-- The point moved by a shift.
abbrev pub moved : List ℤ → Point → Point
moved shift p = record { x = p.x +ℤ get_or shift 0 (pos 0); y = p.y +ℤ get_or shift 1 (pos 0); z = p.z +ℤ get_or shift 2 (pos 0) }

-- One of the picks is at the point.
abbrev pub is_pick : List Point → Point → Bool
is_pick picks p = list_any (λ q. int_eq q.x p.x && (int_eq q.y p.y && int_eq q.z p.z)) picks

-- Where a point goes: by the shift, if it is one of the picks.
abbrev pub place_of : List Point → List ℤ → Point → Point
place_of picks shift p = if is_pick picks p then moved shift p else p

-- The point's new place is in range.
abbrev pub GoesInRange : List ℤ → Point → Type 0
GoesInRange shift q = IsTrue (is_in_range (moved shift q))

-- All vertices of F are whole, the picks are some of them and go by the shift to places in range, and the others stay.
pub record AreShifted (F : List HalfSpace) (picks : List Point) (shift : List ℤ) (vs : List Carried) : Type 0 where
  pub points : List Point
  pub vertices : AreVertices F (map whole_of points)
  pub picked : Every (λ q. whole_of q ∈ map whole_of points) picks
  pub range : Every (GoesInRange shift) picks
  pub carried : vs ≡ map (λ p. record { old = whole_of p; new = vector (place_of picks shift p) }) points

-- The brush of the facets of the moved vertices.
pub record IsMoved (F : List HalfSpace) (picks : List Point) (shift : List ℤ) (facets : List FromFace) (solid : List Side) : Type 0 where
  pub vs : List Carried
  pub shifted : AreShifted F picks shift vs
  pub edit : IsEdit F vs facets solid

-- ---- rounding
-- The point is the nearest one of the grid.
abbrev pub IsRoundedTo : ℤ → Homogeneous → Point → Type 0
IsRoundedTo grid v p = IsRounded grid v (vector p)

-- Each vertex of F goes to its nearest point of the grid.
pub record AreRounded (F : List HalfSpace) (grid : ℤ) (vs : List Carried) : Type 0 where
  pub vertices : AreVertices F (map (λ v. v.old) vs)
  pub rounded : Every (λ v. IsRounded grid v.old v.new) vs

-- The brush of the facets of the rounded vertices.
pub record IsSnapped (F : List HalfSpace) (grid : ℤ) (facets : List FromFace) (solid : List Side) : Type 0 where
  pub vs : List Carried
  pub rounded : AreRounded F grid vs
  pub edit : IsEdit F vs facets solid

-- The places are the nearest points of the grid, one for each vertex.
pub record AreRoundedTo (grid : ℤ) (V : List Homogeneous) (places : List Point) : Type 0 where
  pub count : length places ≡ length V
  pub each : (k : ℕ) (v : Homogeneous) (p : Point) → k < length V → IsRoundedTo grid (get_or V k v) (get_or places k p)
  pub world : Every IsInWorld places
