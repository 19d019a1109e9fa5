use Rattle.std.proofs.Common.{ℕ, ◌<◌, List, slice_get, Some, ◌≡◌}
use Rattle.algebra.specs.Space.{Homogeneous}
use Rattle.algebra.specs.World.{InCube, world}
use Rattle.half_poly.specs.Shapes.{solid_of}
use Rattle.solid_laws.specs.Names.{AreVertices}
use Rattle.solid_brush.proofs.world.lies_in_world.Given as goal

abbrev pub invariant-loop-k : goal.invariant-loop-k
invariant-loop-k l = (V : List Homogeneous) → AreVertices (solid_of l.poly) V → (j : ℕ) (v : Homogeneous) → j < l.k → slice_get V j ≡ Some v → InCube world v
