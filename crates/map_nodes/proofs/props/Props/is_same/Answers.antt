use Rattle.std.proofs.Common.{arith}
use Rattle.map_nodes.proofs.SameParts.{same_by_places, it_is}
use Rattle.map_nodes.proofs.props.Props.is_same.Goals as goal

pub returns : goal.returns
returns c = it_is (same_by_places c.args.self.now c.args.other.now (omega (arith, c.if-len.false, c.len.ensures, c.len-2.ensures)) (λ j lt. c.loop-k.invariant j (omega (arith, c.loop-k-test.false, c.len-k-end.ensures))))
