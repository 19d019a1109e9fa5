-- The world lies in the larger cube.
use Rattle.std.proofs.Common.{◌≡◌, arith, ℤ, pos, neg_ℤ, ◌*ℤ◌, ◌<ℤ◌, ◌≤ℤ◌}
use Rattle.std.proofs.lemmas.Int.{ints}
use Rattle.algebra.specs.Space.{Homogeneous}
use Rattle.algebra.specs.World.{InCube, world, reach}

low_plain : (w x : ℤ) → pos 0 <ℤ w → neg_ℤ (pos 4096 *ℤ w) ≤ℤ x → neg_ℤ (pos 4352 *ℤ w) ≤ℤ x
low_plain w x h l = omega (arith, ints)

high_plain : (w x : ℤ) → pos 0 <ℤ w → x ≤ℤ (pos 4096 *ℤ w) → x ≤ℤ (pos 4352 *ℤ w)
high_plain w x h l = omega (arith, ints)

pub in_reach : (p : Homogeneous) → InCube world p → pos 0 <ℤ p.weight → InCube reach p
in_reach p i h = record {
  left = low_plain p.weight p.vector.x h i.left;
  right = high_plain p.weight p.vector.x h i.right;
  near = low_plain p.weight p.vector.y h i.near;
  far = high_plain p.weight p.vector.y h i.far;
  bottom = low_plain p.weight p.vector.z h i.bottom;
  top = high_plain p.weight p.vector.z h i.top;
}
