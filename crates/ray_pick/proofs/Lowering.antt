-- The entry of a ray by its lowest terms.
use Rattle.std.proofs.Common.{◌≡◌, ◌<◌, ◌^◌, ℤ, pos, ◌*ℤ◌, ◌-ℤ◌, ◌<ℤ◌, ◌≤ℤ◌, List, unsigned_abs, to_z, of_z, sym, subst, ap, ◌∙◌}
use Rattle.std.specs.Int.{w128}
use Rattle.algebra.specs.Members.{Every}
use Rattle.algebra.specs.Space.{Vector, HalfSpace, side, whole_point}
use Rattle.trim_laws.specs.Solid.{IsIn}
use Rattle.ray_pick.specs.declared.passing.Passing.{Passing}
use Rattle.ray_pick.specs.Rays.{Fraction, point_at, IsOnRay, IsEarlier, IsRatio, Reaches}
use Rattle.ray_pick.specs.Passings.{IsEntry, place}
use Rattle.ray_pick.proofs.Crossings.{side_at, same_nonpos, same_earlier}
use Rattle.ray_pick.proofs.Sizes.{small}

module _ (F : List HalfSpace) (a b : Vector) (e : Passing) (entry : IsEntry F a b e) (t : Fraction) (ratio : IsRatio t)
    (equal : to_z w128 (of_z w128 e.start) *ℤ t.den ≡ t.num *ℤ to_z w128 (of_z w128 e.fall)) where
  same : e.start *ℤ t.den ≡ t.num *ℤ e.fall
  same = (λ i. sym (small e.start entry.small.start).is i *ℤ t.den) ∙ equal ∙ (λ i. t.num *ℤ (small e.fall entry.small.fall).is i)

  module _ (at_entry : Every (λ f. side f (point_at a b (place e)) ≤ℤ pos 0) F) where
    pub is_in : IsIn F (point_at a b t)
    is_in = record {
      weight = ratio.on_ray.positive;
      all = λ f i.
          let x = side f (whole_point a) in
          let y = x -ℤ side f (whole_point b) in
          subst (λ z. z ≤ℤ pos 0) (sym (side_at f a b t))
          (same_nonpos x y e.start e.fall t.num t.den entry.on_ray.positive ratio.on_ray.positive same (subst (λ z. z ≤ℤ pos 0) (side_at f a b (place e)) (at_entry f i)));
    }

    pub reaches : Reaches F a b t
    reaches = record {
      is_in = is_in;
      not_earlier = λ u r l h. entry.first u r h (same_earlier u.num u.den e.start e.fall t.num t.den entry.on_ray.positive ratio.on_ray.positive same l);
    }
