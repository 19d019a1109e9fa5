use Rattle.std.proofs.Common.{◌≡◌, ◌≢◌, ℤ, pos, take}
use Rattle.algebra.specs.Members.{Every}
use Rattle.algebra.specs.Space.{side}
use Rattle.exact_geom.specs.Planes.{vector}
use Rattle.solid_brush.specs.Sides.{half_spaces}
use Rattle.ray_pick.specs.Rays.{point_at}
use Rattle.ray_pick.proofs.picking.first_on.Given as goal

abbrev pub invariant-loop-side : goal.invariant-loop-side
invariant-loop-side l = record {
  place : l.place ≡ l.side-index;
  off : Every (λ f. side f (point_at (vector l.from) (vector l.to) l.at) ≢ pos 0) (half_spaces (take l.side-index l.sides));
}
