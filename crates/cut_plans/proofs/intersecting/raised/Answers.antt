use Rattle.std.proofs.Common.{refl, ◌∙◌}
use Rattle.cut_plans.proofs.PieceResults.{room_above, raised_are}
use Rattle.cut_plans.proofs.intersecting.raised.Goals as goal

pub retag-requires : goal.retag-requires
retag-requires c = record { room = room_above c.args.base c.requires.small c.args.body.now c.in_ok-solid.solid (c.in_ok-solid.ensures.equal ∙ c.solid.ensures.sides) c.is_valid.ensures }

pub returns : goal.returns
returns c = raised_are c.args.base c.args.body.now c.args.body.now c.in_ok-solid.solid c.retag.new.self (c.in_ok-solid.ensures.equal ∙ c.solid.ensures.sides) refl c.retag.ensures.tags
