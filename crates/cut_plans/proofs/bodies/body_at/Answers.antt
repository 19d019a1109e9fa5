use Rattle.std.proofs.Common.{sym, ap, ◌∙◌}
use Rattle.std.specs.Option.{option_copied}
use Rattle.map_model.specs.Tree.{whole, at}
use Rattle.cut_plans.proofs.Brushes.{some_brush, that_brush, its_faces}
use Rattle.cut_plans.proofs.bodies.body_at.Goals as goal

pub unreachable-requires : goal.unreachable-requires
unreachable-requires c = some_brush (at (whole c.args.map.now) c.args.id) (sym (ap option_copied c.in-None.is) ∙ c.get.ensures) c.requires.brush

pub body_of-requires : goal.body_of-requires
body_of-requires c = record { brush = that_brush (at (whole c.args.map.now) c.args.id) c.in-Some.node.now (sym (ap option_copied c.in-Some.is) ∙ c.get.ensures) c.requires.brush }

pub returns : goal.returns
returns c = its_faces (at (whole c.args.map.now) c.args.id) c.in-Some.node.now c.body_of.result.now (sym (ap option_copied c.in-Some.is) ∙ c.get.ensures) c.body_of.ensures
