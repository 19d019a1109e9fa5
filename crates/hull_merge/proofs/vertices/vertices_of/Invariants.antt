use Rattle.solid_brush.specs.Sides.{half_spaces}
use Rattle.hull_merge.proofs.Reading.{Read}
use Rattle.hull_merge.proofs.vertices.vertices_of.Given as goal

abbrev pub invariant-loop-k : goal.invariant-loop-k
invariant-loop-k l = Read (half_spaces l.solid) l.k l.list.items
