use Rattle.std.proofs.Common.{sym, ◌∙◌}
use Rattle.cut_plans.proofs.PieceResults.{brush_tags, brush_meets}
use Rattle.cut_plans.proofs.subtracting.meets.Goals as goal

pub meet-requires : goal.meet-requires
meet-requires c = record {
  tags = brush_tags c.args.body.now c.args.cutter.now.body c.is_valid.ensures c.is_valid-2.ensures c.in_ok-block.block c.sides.result.now (c.in_ok-block.ensures.same ∙ c.solid.ensures.sides)
      (c.sides.ensures.sides ∙ c.requires.cutter);
}

pub returns : goal.returns
returns c = λ b right.
    brush_meets c.args.body.now c.args.cutter.now.body c.is_valid.ensures c.is_valid-2.ensures c.in_ok-block.block c.sides.result.now (c.in_ok-block.ensures.same ∙ c.solid.ensures.sides)
    (c.sides.ensures.sides ∙ c.requires.cutter) c.in_ok-left.left c.in_ok-left.ensures.left b right
    ∙ sym c.is_some.ensures
