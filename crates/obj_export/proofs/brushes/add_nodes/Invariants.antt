use Rattle.map_model.specs.Tree.{whole}
use Rattle.obj_export.specs.Adding.{obj_at}
use Rattle.obj_export.proofs.Walking.{Added}
use Rattle.obj_export.proofs.brushes.add_nodes.Given as goal

abbrev pub invariant-loop-id : goal.invariant-loop-id
invariant-loop-id l = Added (whole l.map) l.ids (obj_at l.fn.text.items l.fn.counts) (obj_at l.text.items l.counts) l.id-index
