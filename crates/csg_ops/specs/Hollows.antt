-- Boxes, and the inner boxes that are taken out of them. Lengths are map units.
use Rattle.std.specs.Prelude.{◌≡◌, ◌⊎◌, ℕ, zero, suc, ◌+◌, ◌^◌, ℤ, pos, negsuc, ◌+ℤ◌, ◌-ℤ◌, ◌*ℤ◌, ◌<ℤ◌, ◌≤ℤ◌, Bool, true, false, ◌&&◌, ◌||◌, nat_eq, List, [], ◌∷◌, length, map, Option, Some, None}
use Rattle.std.specs.Ordering.{int_eq}
use Rattle.algebra.specs.Space.{Vector, Homogeneous, HalfSpace, side}
use Rattle.algebra.specs.World.{InCube, world}
use Rattle.trim_laws.specs.Solid.{IsIn, IsInside}
use Rattle.exact_geom.specs.declared.point.Point.{Point}
use Rattle.exact_geom.specs.Planes.{ThreePoints, half_space}
use Rattle.solid_brush.specs.declared.side.Side.{Side}
use Rattle.solid_brush.specs.Sides.{bounds, half_spaces}
use Rattle.csg_ops.specs.declared.hollow_fault.HollowFault.{HollowFault}
use Rattle.csg_ops.specs.declared.hollow_fault.HollowFault.TheVariants.{NotBox, Thick, Memory}

-- ---- boxes
-- Two parts of the normal are 0.
abbrev pub is_along_axis : Vector → Bool
is_along_axis n =
    (int_eq n.y (pos 0) && int_eq n.z (pos 0)) || (int_eq n.z (pos 0) && int_eq n.x (pos 0)) || (int_eq n.x (pos 0) && int_eq n.y (pos 0))

abbrev pub are_along_axes : List Side → Bool
are_along_axes [] = true
are_along_axes (s ∷ sides) = is_along_axis (bounds s).normal && are_along_axes sides

-- Six faces with normals along the axes.
abbrev pub is_box : List Side → Bool
is_box sides = nat_eq (length sides) 6 && are_along_axes sides

-- ---- inner boxes
-- How thick walls may be.
pub record IsThickness (t : ℤ) : Type 0 where
  pub least : pos 1 ≤ℤ t
  pub most : t ≤ℤ pos 4096

-- The coordinate moved by t against a part of a normal: down where this is above 0, up where it is below.
abbrev pub against : (t part coordinate : ℤ) → ℤ
against t (pos zero) c = c
against t (pos (suc n)) c = c -ℤ t
against t (negsuc n) c = c +ℤ t

-- The point moved by t against a normal along an axis.
abbrev pub inward_point : ℤ → Vector → Point → Point
inward_point t n p = record { x = against t n.x p.x; y = against t n.y p.y; z = against t n.z p.z }

abbrev pub inward_plane : ℤ → ThreePoints → ThreePoints
inward_plane t f = record {
  p0 = inward_point t (half_space f).normal f.p0;
  p1 = inward_point t (half_space f).normal f.p1;
  p2 = inward_point t (half_space f).normal f.p2;
}

-- The side moved inward, its tag 2^30 higher.
abbrev pub inward : ℤ → Side → Side
inward t s = record { plane = inward_plane t s.plane; tag = s.tag + 2 ^ 30 }

-- The sides of a box moved inward.
abbrev pub inner_box : ℤ → List Side → List Side
inner_box t sides = map (inward t) sides

-- ---- the lengths of a box's sides
-- No two points of the solid are further apart along the coordinate than the length.
abbrev pub IsShortAlong : (Vector → ℤ) → (length : ℤ) → List HalfSpace → Type 0
IsShortAlong coordinate length F = (p q : Homogeneous) → IsIn F p → IsIn F q →
    (coordinate p.vector *ℤ q.weight -ℤ coordinate q.vector *ℤ p.weight) ≤ℤ (length *ℤ (p.weight *ℤ q.weight))

-- A side of the box is at most so long.
abbrev pub HasShortSide : (length : ℤ) → List HalfSpace → Type 0
HasShortSide length F = IsShortAlong (λ v. v.x) length F ⊎ (IsShortAlong (λ v. v.y) length F ⊎ IsShortAlong (λ v. v.z) length F)

-- ---- hollow
-- Why a brush isn't hollowed. Want of memory has no cause in it.
abbrev pub IsNotHollowedFor : ℤ → List Side → HollowFault → Type 0
IsNotHollowedFor t a NotBox = is_box a ≡ false
IsNotHollowedFor t a Thick = (is_box a ≡ true) × HasShortSide (t +ℤ t) (half_spaces a)
IsNotHollowedFor t a Memory = Unit {0}

-- ---- on the way
-- The side moved inward, or none; then no point of the world is behind it.
abbrev pub IsInward : Side → Option Side → Type 0
IsInward moved None = (p : Homogeneous) → pos 0 <ℤ p.weight → InCube world p → ¬ (side (bounds moved) p <ℤ pos 0)
IsInward moved (Some s) = s ≡ moved

-- The sides moved inward, or none; then no point of the world is behind all of them.
abbrev pub IsInnerBox : ℤ → List Side → Option (List Side) → Type 0
IsInnerBox t sides None = (p : Homogeneous) → InCube world p → ¬ (IsInside (half_spaces (inner_box t sides)) p)
IsInnerBox t sides (Some inner) = inner ≡ inner_box t sides
