use Rattle.cut_plans.proofs.Brushes.{only_brush}
use Rattle.cut_plans.proofs.bodies.body_of.Goals as goal

pub unreachable-requires : goal.unreachable-requires
unreachable-requires c = only_brush c.args.node.now c.requires.brush c.in_default.not-Brush
