use Rattle.std.proofs.Common.{◌++◌, refl, sym, subst}
use Rattle.solid_brush.specs.Sides.{HaveTags}
use Rattle.solid_brush.specs.Blocks.{NeedsTooMany}
use Rattle.solid_brush.proofs.Meeting.{met_left, overfull, passed_on}
use Rattle.solid_brush.proofs.solid.Solid.meet.Goals as goal

pub meet-requires : goal.meet-requires
meet-requires c = record { tags = subst (λ l. HaveTags (l ++ c.args.more.now)) (sym c.in_ok-block.ensures.same) c.requires.tags }

pub returns-in_err-solid-clause-fault : goal.returns-in_err-solid-clause-fault
returns-in_err-solid-clause-fault c =
    let t = met_left c.in_ok-block.field-0 c.args.self.now c.args.more.now c.in_ok-block-2.field-0 c.in-Some.block c.in-Some.block c.in_ok-block.ensures.same c.in_ok-block-2.ensures.left c.in-Some.is refl in
    let all = c.args.self.now ++ c.args.more.now in
    passed_on (NeedsTooMany all) c.from_residual-in_err-solid.result c.in_err-solid.field-0.0 c.from_residual-in_err-solid.ensures.1 (overfull all c.in-Some.block t c.in_err-solid.field-0.0 c.in_err-solid.ensures.fault)

pub returns-clause-left : goal.returns-clause-left
returns-clause-left c = met_left c.in_ok-block.field-0 c.args.self.now c.args.more.now c.in_ok-block-2.field-0 c.in-Some.block c.in_ok-solid.field-0 c.in_ok-block.ensures.same c.in_ok-block-2.ensures.left c.in-Some.is c.in_ok-solid.ensures.same

pub returns-clause-solid : goal.returns-clause-solid
returns-clause-solid c = c.in_ok-solid.ensures.solid
