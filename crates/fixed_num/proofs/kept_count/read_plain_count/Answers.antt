use Rattle.std.proofs.Common.{arith}
use Rattle.fixed_num.proofs.Plain.{keeps_plain}
use Rattle.fixed_num.proofs.kept_count.read_plain_count.Goals as goal

pub returns : goal.returns
returns c = keeps_plain c.args.decimals c.args.word.now c.split_sign-negative.result.1.now c.split_sign-negative.result.0 _ (omega arith) c.split_sign-negative.ensures.negative c.split_sign-negative.ensures.rest c.in_ok-size.ensures
