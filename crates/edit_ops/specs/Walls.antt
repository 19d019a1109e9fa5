-- The walls of a box as planes, and the first of them that has a point beyond the range of points.
pub use Rattle.map_laws.proofs.Boxes.{IsNear}
use Rattle.std.specs.Prelude.{◌≡◌, ℕ, not, List, Option, Some, None, is_none, is_ok, option_map, Result, Ok, Err, pos, false}
use Rattle.exact_geom.specs.declared.axis.Axis.{Axis}
use Rattle.exact_geom.specs.declared.axis.Axis.TheVariants.{X, Y, Z}
use Rattle.exact_geom.specs.declared.point.Point.{Point}
use Rattle.exact_geom.specs.Planes.{ThreePoints, plane_of, first_out_of_range}
use Rattle.map_model.specs.Brushes.{moved_by, box_planes, first_place}
use Rattle.map_model.specs.Replies.{Refusal, PointRange}

-- The point beside another one, one further along an axis.
abbrev pub beside : Axis → Point → Point
beside X p = moved_by (pos 1) (pos 0) (pos 0) p
beside Y p = moved_by (pos 0) (pos 1) (pos 0) p
beside Z p = moved_by (pos 0) (pos 0) (pos 1) p

-- A wall by a corner and the points beside it along two axes.
abbrev pub wall : Axis → Axis → Point → ThreePoints
wall u v p = record { p0 = p; p1 = beside u p; p2 = beside v p }

-- What is answered for the wall k by three points: its plane, or that they give none.
abbrev pub IsWallOf : ℕ → ThreePoints → Result ThreePoints Refusal → Type 0
IsWallOf k t (Ok plane) = plane_of t ≡ Ok plane
IsWallOf k t (Err refusal) = (refusal ≡ PointRange 0 k) × (is_ok (plane_of t) ≡ false)

-- The first of the walls, counted from k, that has a point out of range.
abbrev pub range_from : ℕ → List ThreePoints → Option Refusal
range_from k ts = option_map (PointRange 0) (first_place (λ t. not (is_none (first_out_of_range t))) k ts)

-- The walls of the box from a to b, or why a box has none.
abbrev pub AreWalls : Point → Point → Result (List ThreePoints) Refusal → Type 0
AreWalls a b (Ok planes) = (planes ≡ box_planes a b) × (range_from 0 (box_planes a b) ≡ None)
AreWalls a b (Err refusal) = range_from 0 (box_planes a b) ≡ Some refusal
