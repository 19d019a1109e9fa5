use Rattle.std.proofs.Common.{take}
use Rattle.vertex_edit.specs.Places.{AreRoundedTo}
use Rattle.vertex_edit.proofs.snapping.rounded_all.Given as goal

abbrev pub invariant-loop-vertex : goal.invariant-loop-vertex
invariant-loop-vertex l = AreRoundedTo l.fn.grid (take l.vertex-index l.vertices) l.places.items
