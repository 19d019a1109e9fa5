use Rattle.std.proofs.Common.{◌≡◌, ◌<◌, ℕ, Some}
use Rattle.algebra.specs.Space.{Homogeneous}
use Rattle.exact_geom.specs.Vertices.{IsReduced}
use Rattle.half_arena.specs.Slots.{contents}
use Rattle.half_poly.specs.Names.{AreCorners}
use Rattle.half_poly.proofs.names.corners_of.Given as goal

abbrev pub invariant-loop-place : goal.invariant-loop-place
invariant-loop-place l = AreCorners (contents l.vertices) l.names l.place l.corners.items × ((x : ℕ) (v : Homogeneous) → x < l.place → contents l.vertices x ≡ Some v → IsReduced v)
