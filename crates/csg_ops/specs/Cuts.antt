-- Brushes that are cut by planes and by each other.
use Rattle.std.specs.Prelude.{◌≡◌, ◌⊎◌, ℕ, ◌+◌, ◌<◌, List, [], ◌∷◌, ◌++◌, length, take, Option, Some, None}
use Rattle.trim_laws.specs.Solid.{Proper}
use Rattle.trim_laws.specs.Valid.{HasInside}
use Rattle.exact_geom.specs.Planes.{ThreePoints}
use Rattle.piece_laws.specs.Pieces.{ArePieces}
use Rattle.solid_brush.specs.declared.side.Side.{Side}
use Rattle.solid_brush.specs.Sides.{bounds, half_spaces}
use Rattle.solid_brush.specs.Blocks.{IsEmpty, IsTrimmedTo}
use Rattle.csg_ops.specs.declared.split_fault.SplitFault.{SplitFault}
use Rattle.csg_ops.specs.declared.split_fault.SplitFault.TheVariants.{PlaneMisses, TooManyFaces as SplitOverfull, Memory as SplitMemory}
use Rattle.csg_ops.specs.declared.intersect_fault.IntersectFault.{IntersectFault}
use Rattle.csg_ops.specs.declared.intersect_fault.IntersectFault.TheVariants.{Apart as ApartAt, TooManyFaces as IntersectOverfull, Memory as IntersectMemory}
use Rattle.csg_ops.specs.declared.subtract_fault.SubtractFault.{SubtractFault}
use Rattle.csg_ops.specs.declared.subtract_fault.SubtractFault.TheVariants.{Apart, TooManyFaces as SubtractOverfull, Memory as SubtractMemory}
use Rattle.csg_ops.specs.Faults.{IsFirstOverfull}

-- The plane seen from the other side: the first and the last point are swapped.
abbrev pub reversed_plane : ThreePoints → ThreePoints
reversed_plane t = record { p0 = t.p2; p1 = t.p1; p2 = t.p0 }

-- The side seen from its other side, with the same tag.
abbrev pub reversed : Side → Side
reversed s = record s { plane = reversed_plane s.plane }

-- ---- split
-- Both halves of the brush at a side have points inside, and the first with too many faces has n; the half behind is tried first.
pub record IsSplitOverfull (a : List Side) (cut : Side) (n : ℕ) : Type 0 where
  pub back : List Side
  pub front : List Side
  pub is_back : IsTrimmedTo (a ++ cut ∷ []) back
  pub is_front : IsTrimmedTo (a ++ reversed cut ∷ []) front
  pub first : IsFirstOverfull n (back ∷ front ∷ [])

-- Why a side doesn't split a brush. Want of memory has no cause in them.
abbrev pub IsNotSplitFor : List Side → Side → SplitFault → Type 0
IsNotSplitFor a cut PlaneMisses = IsEmpty (a ++ cut ∷ []) ⊎ IsEmpty (a ++ reversed cut ∷ [])
IsNotSplitFor a cut (SplitOverfull n) = IsSplitOverfull a cut n
IsNotSplitFor a cut SplitMemory = Unit {0}

-- ---- intersect
-- The sides of all solids, in order.
abbrev pub all_sides : List (List Side) → List Side
all_sides [] = []
all_sides (solid ∷ others) = solid ++ all_sides others

-- The first k solids have a common point inside, and the solid with number k has none with them.
pub record IsFirstApart (solids : List (List Side)) (k : ℕ) : Type 0 where
  pub within : k < length solids
  pub common : HasInside (half_spaces (all_sides (take k solids)))
  pub empty : IsEmpty (all_sides (take (k + 1) solids))

-- The sides have a common point inside, and n faces are needed, more than 128.
pub record IsOverfullOf (sides : List Side) (n : ℕ) : Type 0 where
  pub kept : List Side
  pub trimmed : IsTrimmedTo sides kept
  pub count : length kept ≡ n
  pub above : 128 < n

-- Why brushes have no intersection. Want of memory has no cause in them.
abbrev pub IsNoIntersectionFor : List (List Side) → IntersectFault → Type 0
IsNoIntersectionFor solids (ApartAt k) = IsFirstApart solids k
IsNoIntersectionFor solids (IntersectOverfull n) = IsOverfullOf (all_sides solids) n
IsNoIntersectionFor solids IntersectMemory = Unit {0}

-- ---- subtract
-- The pieces of a without the solid behind the sides b, of which some point is inside both.
pub record HasPieces (a b : List Side) (pieces : List (List Side)) : Type 0 where
  pub proper : Proper (half_spaces (a ++ b))
  pub common : HasInside (half_spaces (a ++ b))
  pub pieces_are : ArePieces bounds reversed a b pieces

-- The pieces, or none where no point is inside both.
abbrev pub IsCarved : List Side → List Side → Option (List (List Side)) → Type 0
IsCarved a b None = IsEmpty (a ++ b)
IsCarved a b (Some pieces) = HasPieces a b pieces

-- The brushes have a common point inside, and the first piece with too many faces has n.
pub record IsPieceOverfull (a b : List Side) (n : ℕ) : Type 0 where
  pub pieces : List (List Side)
  pub have : HasPieces a b pieces
  pub first : IsFirstOverfull n pieces

-- Why brushes have no pieces of one without the other. Want of memory has no cause in them.
abbrev pub IsNoDifferenceFor : List Side → List Side → SubtractFault → Type 0
IsNoDifferenceFor a b Apart = IsEmpty (a ++ b)
IsNoDifferenceFor a b (SubtractOverfull n) = IsPieceOverfull a b n
IsNoDifferenceFor a b SubtractMemory = Unit {0}
