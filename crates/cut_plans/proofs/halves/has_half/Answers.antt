use Rattle.std.proofs.Common.{◌∙◌, sym}
use Rattle.cut_plans.proofs.OneSide.{is_left}
use Rattle.cut_plans.proofs.halves.has_half.Goals as goal

pub returns : goal.returns
returns c = λ b right. is_left c.args.body.now c.args.new.now c.in_ok-left.left c.is_valid.ensures c.in_ok-left.ensures.proper c.in_ok-left.ensures.left b right ∙ sym c.is_some.ensures
