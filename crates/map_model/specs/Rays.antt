-- How far a ray goes before it is in a solid.
use Rattle.std.specs.Prelude.{Bool, cond, not, ◌&&◌, ◌||◌, List, [], ◌∷◌, map, filter, Option, None, Some, pos, ◌-ℤ◌, ◌*ℤ◌, int_lt, int_le}
use Rattle.std.specs.List.{list_all}
use Rattle.std.specs.Ordering.{int_eq}
use Rattle.algebra.specs.Space.{Vector, HalfSpace, Homogeneous, plus, minus, scale, side, whole_point}
use Rattle.map_model.specs.Carry.{Fraction, fraction}

-- The point of the ray at a fraction of the way.
abbrev pub on_ray : (from to : Vector) → Fraction → Homogeneous
on_ray from to t = record { vector = plus (scale t.den from) (scale t.num (minus to from)); weight = t.den }

-- The fractions of the way at which a ray can first be in a solid, and the least of those at which it is.
abbrev pub crossing : (from to : Vector) → HalfSpace → Fraction
crossing from to f =
    let a = side f (whole_point from) in
    fraction a (a -ℤ side f (whole_point to))

abbrev pub crosses_ahead : (from to : Vector) → HalfSpace → Bool
crosses_ahead from to f =
    let a = side f (whole_point from) in
    let d = a -ℤ side f (whole_point to) in
    not (int_eq d (pos 0)) && (int_eq a (pos 0) || (int_lt (pos 0) a && int_lt (pos 0) d || int_lt a (pos 0) && int_lt d (pos 0)))

abbrev pub least_from : Fraction → List Fraction → Fraction
least_from t [] = t
least_from t (s ∷ ts) = least_from (cond (int_lt (s.num *ℤ t.den) (t.num *ℤ s.den)) s t) ts

abbrev pub least : List Fraction → Option Fraction
least [] = None
least (t ∷ ts) = Some (least_from t ts)

abbrev pub reach : List HalfSpace → (from to : Vector) → Option Fraction
reach F from to =
    least (filter (λ t. list_all (λ f. int_le (side f (on_ray from to t)) (pos 0)) F) (record { num = pos 0; den = pos 1 } ∷ map (crossing from to) (filter (crosses_ahead from to) F)))
