use Rattle.edit_ops.proofs.FaceRows.{only_brush, in_brush}
use Rattle.edit_ops.proofs.texturing.retextured_node.Goals as goal

pub retextured_body-requires-clause-there : goal.retextured_body-requires-clause-there
retextured_body-requires-clause-there c = in_brush c.args.node.now c.args.face c.in-Brush.parent c.in-Brush.mark c.in-Brush.body c.in-Brush.is c.requires.there

pub unreachable-requires : goal.unreachable-requires
unreachable-requires c = only_brush c.args.node.now c.args.face c.requires.there c.in_default.not-Brush
