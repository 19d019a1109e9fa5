use Rattle.std.proofs.Common.{get_or, ◌++◌, ◌∷◌, [], length, ap, sym, subst, ◌∙◌, arith, IfOk, ◌≤◌}
use Rattle.solid_brush.specs.Blocks.{IsLeft}
use Rattle.map_nodes.specs.Seen.{sides_of}
use Rattle.cut_plans.proofs.OneSide.{few_faces, with_side, side_tags, proper_sides, always}
use Rattle.cut_plans.proofs.halves.half.Goals as goal

pub overflow_cast-tag : goal.overflow_cast-tag
overflow_cast-tag c = let few = few_faces c.args.body.now c.is_valid.ensures in let e = ap length c.faces.ensures.faces in omega arith

pub meet-requires : goal.meet-requires
meet-requires c = record {
  tags = side_tags c.args.body.now c.args.new.now c.index-new-0.result (length c.faces.result.now) c.in_ok-block.block c.is_valid.ensures c.requires.one (ap length c.faces.ensures.faces) (c.in_ok-block.ensures.same ∙ c.solid.ensures.sides);
}

pub returns-clause-left : goal.returns-clause-left
returns-clause-left c = subst (λ l. IfOk c.meet.result (IsLeft l))
    (ap (λ l. l ++ record { plane = (get_or c.args.new.now 0 c.index-new-0.result).plane; tag = length c.faces.result.now } ∷ []) (c.in_ok-block.ensures.same ∙ c.solid.ensures.sides)
    ∙ with_side c.args.body.now c.args.new.now c.index-new-0.result (length c.faces.result.now) c.requires.one (ap length c.faces.ensures.faces))
    c.meet.ensures.left

pub returns-clause-proper : goal.returns-clause-proper
returns-clause-proper c = always c.meet.result
    (proper_sides c.args.body.now c.args.new.now c.index-new-0.result c.solid.result.now c.in_ok-block.block c.solid.ensures.sides c.in_ok-block.ensures.trimmed c.requires.one c.points-points.ensures.plane)
