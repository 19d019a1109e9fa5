use Rattle.std.proofs.Common.{◌+◌, ◌-◌, ◌≤◌, length, drop, arith, subst}
use Rattle.std.proofs.Math.Nat.{one-le-pow}
use Rattle.fixed_num.specs.PlainWord.{IsBehindPoint}
use Rattle.fixed_num.proofs.Plain.{rest_is, some_from_test, whole_fits, plain_size_is}
use Rattle.fixed_num.proofs.Steps.{some_weaker}
use Rattle.fixed_num.proofs.plain_word.plain_size.Goals.{else-count-eq0-via-then-count-eq0+else-is_empty, else-count-eq0-via-else-count-eq0}
use Rattle.fixed_num.proofs.plain_word.plain_size.Goals as goal

pub continued-whole-requires-clause-small : goal.continued-whole-requires-clause-small
continued-whole-requires-clause-small c = one-le-pow (18 - (18 - c.args.decimals)) 10 (omega arith)

pub rounded_behind-requires-clause-small : goal.rounded_behind-requires-clause-small
rounded_behind-requires-clause-small c = whole_fits c.args.bytes.now (18 - c.args.decimals) _ _ c.continued-whole.ensures

pub returns : goal.returns
returns c =
    let point : IsBehindPoint (drop c.continued-whole.result.1 c.args.bytes.now) c.in_ok-fraction.fraction.now = subst (λ l. IsBehindPoint l c.in_ok-fraction.fraction.now) (rest_is c.continued-whole.result.1 c.args.bytes.now) c.in_ok-fraction.ensures in
    let some : 1 ≤ c.continued-whole.result.1 + length c.in_ok-fraction.fraction.now = elim c.else-count-eq0.branch [
      | else-count-eq0-via-then-count-eq0+else-is_empty w ↦ omega (arith, some_from_test _ w.if-is_empty.ensures)
      | else-count-eq0-via-else-count-eq0 w ↦ let some = w.if-count-eq0.false in omega arith
    ] in
    some_weaker _ _ c.rounded_behind.result (λ size r. plain_size_is c.args.decimals c.args.bytes.now c.in_ok-fraction.fraction.now _ _ size c.continued-whole.ensures point some r) c.rounded_behind.ensures
