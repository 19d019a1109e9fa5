use Rattle.std.proofs.Common.{◌≡◌, sym, subst, arith, ◌≤◌, ℤ, to_z, of_z, w32, unsigned_abs}
use Rattle.std.specs.Int.{w128}
use Rattle.std.proofs.lemmas.Int.{to_z-of_z, fits_signed_from_abs}
use Rattle.exact_geom.specs.Limits.{coordinate_limit, weight_limit}
use Rattle.exact_geom.specs.Planes.{vector}
use Rattle.exact_geom.specs.Rounding.{IsRounded}
use Rattle.exact_geom.proofs.Exactly.{var}
use Rattle.exact_geom.proofs.Nearest.{nearest_same}
use Rattle.exact_geom.proofs.rounding.round.Goals as goal

coordinate : (x : ℤ) → unsigned_abs x ≤ coordinate_limit → to_z w128 (of_z w128 x) ≡ x
coordinate x h = to_z-of_z w128 x (fits_signed_from_abs w128 x (omega arith))

heavy : (x : ℤ) → unsigned_abs x ≤ weight_limit → to_z w128 (of_z w128 x) ≡ x
heavy x h = to_z-of_z w128 x (fits_signed_from_abs w128 x (omega arith))

pub returns-clause-rounded : goal.returns-clause-rounded
returns-clause-rounded c =
    let v = c.v.inside in
    let b = c.v.invariant.bounded in
    let g = to_z-of_z w32 c.args.grid c.ranges.grid in
    let w = heavy v.w b.weight in
    subst (λ p. IsRounded c.args.grid p (vector (record { x = to_z w32 (of_z w32 c.nearest.result); y = to_z w32 (of_z w32 c.nearest-2.result); z = to_z w32 (of_z w32 c.nearest-3.result) }))) c.v.view_is
    (record {
      x = nearest_same g (coordinate v.x b.x) w (sym (var w32 c.nearest.result c.nearest.ensures.in_world tt).is) c.nearest.ensures.nearest;
      y = nearest_same g (coordinate v.y b.y) w (sym (var w32 c.nearest-2.result c.nearest-2.ensures.in_world tt).is) c.nearest-2.ensures.nearest;
      z = nearest_same g (coordinate v.z b.z) w (sym (var w32 c.nearest-3.result c.nearest-3.ensures.in_world tt).is) c.nearest-3.ensures.nearest;
    })
