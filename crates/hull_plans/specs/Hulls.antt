-- Hulls of points: the sides of their facets, and which row refuses them.
use Rattle.std.specs.Prelude.{◌≡◌, ℕ, suc, not, nat_lt, List, [], ◌∷◌, length, Option, None, Some, Result, Ok, Err}
use Rattle.std.specs.List.{list_any}
use Rattle.exact_geom.specs.declared.point.Point.{Point}
use Rattle.exact_geom.specs.Planes.{ThreePoints}
use Rattle.solid_brush.specs.declared.side.Side.{Side}
use Rattle.map_model.specs.Brushes.{distinct_points, spans_space, facets, is_outside_world}
use Rattle.map_model.specs.Replies.{Refusal, TooManyPoints, NoVolume, TooManyFaces, OutOfWorld}
use Rattle.map_model.specs.Rows.{refuse, first}
use Rattle.tree_ops.specs.declared.fault.OpFault.{OpFault}
use Rattle.tree_ops.specs.declared.fault.OpFault.TheVariants.{No, Memory}

-- The sides on planes, with tags that count from k on.
abbrev pub sides_on : ℕ → List ThreePoints → List Side
sides_on k [] = []
sides_on k (plane ∷ planes) = record { plane = plane; tag = k } ∷ sides_on (suc k) planes

-- The facets of points.
abbrev pub facets_of : List Point → List ThreePoints
facets_of points = facets (distinct_points points)

-- The rows on points whose hull is a brush at the node n.
abbrev pub hull_rows : ℕ → List Point → List (Option Refusal)
hull_rows n points =
    refuse (nat_lt 512 (length (distinct_points points))) (TooManyPoints (length (distinct_points points)))
    ∷ refuse (not (spans_space (distinct_points points))) (NoVolume n)
    ∷ refuse (nat_lt 128 (length (facets_of points))) (TooManyFaces n (length (facets_of points)))
    ∷ refuse (list_any is_outside_world points) (OutOfWorld n) ∷ []

-- The solid behind the facets, or the refusal of the first row that holds. Want of memory says nothing.
abbrev pub IsHullAt : ℕ → List Point → Result (List Side) OpFault → Type 0
IsHullAt n points (Ok solid) = (solid ≡ sides_on 0 (facets_of points)) × (first (hull_rows n points) ≡ None)
IsHullAt n points (Err (No refusal)) = first (hull_rows n points) ≡ Some refusal
IsHullAt n points (Err Memory) = Unit {0}
