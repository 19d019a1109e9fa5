use Rattle.std.proofs.Common.{sym, subst}
use Rattle.half_poly.specs.Shapes.{DistinctTags}
use Rattle.half_poly.proofs.CubeTags.{cube_distinct}
use Rattle.half_poly.proofs.poly.Poly.cube.Goals as goal

pub of_shape-requires-clause-tags : goal.of_shape-requires-clause-tags
of_shape-requires-clause-tags c = subst DistinctTags (sym c.in_ok-cube_shape.ensures.sides) cube_distinct
