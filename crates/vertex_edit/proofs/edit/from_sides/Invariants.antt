use Rattle.solid_brush.specs.Sides.{half_spaces}
use Rattle.vertex_edit.specs.Carrying.{carry}
use Rattle.vertex_edit.proofs.Edits.{FromBefore}
use Rattle.vertex_edit.proofs.edit.from_sides.Given as goal

abbrev pub invariant-loop-side : goal.invariant-loop-side
invariant-loop-side l = FromBefore (half_spaces l.old) (carry l.vertices l.places) l.sides l.side-index l.facets.items
