-- How many vertices of a face are carried onto a plane.
use Rattle.std.specs.Prelude.{ℕ, ◌<◌, ◌≤◌, List, [], ◌∷◌, map, filter, get_or, count_by, pos}
use Rattle.std.specs.Ordering.{int_eq}
use Rattle.algebra.specs.Space.{Homogeneous, HalfSpace, side, whole_point}
use Rattle.exact_geom.specs.declared.point.Point.{Point}
use Rattle.exact_geom.specs.Planes.{vector}
use Rattle.hull_laws.specs.Moved.{Carried, nowhere}

-- Vertices with their new places.
abbrev pub carry : List Homogeneous → List Point → List Carried
carry [] places = []
carry (v ∷ V) [] = []
carry (v ∷ V) (p ∷ places) = record { old = v; new = vector p } ∷ carry V places

-- The vertices whose new places are on g.
abbrev pub onto : HalfSpace → List Carried → List Homogeneous
onto g vs = map (λ v. v.old) (filter (λ v. int_eq (side g (whole_point v.new)) (pos 0)) vs)

-- How many of the vertices are on f.
abbrev pub count_on : List Homogeneous → HalfSpace → ℕ
count_on V f = count_by (λ v. int_eq (side f v) (pos 0)) V

-- Of the first n faces, i is the first of those with the most of the vertices on it.
pub record IsFullest (F : List HalfSpace) (V : List Homogeneous) (n i : ℕ) : Type 0 where
  pub within : i < n
  pub most : (j : ℕ) → j < n → count_on V (get_or F j nowhere) ≤ count_on V (get_or F i nowhere)
  pub first : (j : ℕ) → j < i → count_on V (get_or F j nowhere) < count_on V (get_or F i nowhere)
