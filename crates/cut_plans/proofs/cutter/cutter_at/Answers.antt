use Rattle.std.proofs.Common.{◌∙◌, arith}
use Rattle.cut_plans.proofs.PieceResults.{room_above, raised_are}
use Rattle.cut_plans.proofs.cutter.cutter_at.Goals as goal

pub retag-requires : goal.retag-requires
retag-requires c = record { room = room_above 128 (omega arith) c.body_at-body.result.now c.in_ok-solid.solid (c.in_ok-solid.ensures.equal ∙ c.solid.ensures.sides) c.is_valid.ensures }

pub returns-clause-solid : goal.returns-clause-solid
returns-clause-solid c =
    raised_are 128 c.body_at-body.result.now c.in_ok-copy.field-0 c.in_ok-solid.solid c.retag.new.self (c.in_ok-solid.ensures.equal ∙ c.solid.ensures.sides) c.in_ok-copy.ensures c.retag.ensures.tags
