use Rattle.std.proofs.Common.{sym, ◌∙◌, arith}
use Rattle.std.specs.Cmp.Lexicographic.{same_text}
use Rattle.map_nodes.proofs.SameParts.{same_more, not_not}
use Rattle.map_nodes.proofs.lists.same_texts.Goals as goal

pub loop-k-preserved : goal.loop-k-preserved
loop-k-preserved c = same_more c.args.a.now c.args.b.now c.loop-k.k c.index-a-k.result c.index-b-k.result c.loop-k-test.true (omega (arith, c.loop-k-test.true, c.if-a-b.false)) c.index-a-k.is c.index-b-k.is
    (sym c.bytes.ensures ∙ same_text c.bytes.result.now c.bytes-in-loop-k.result.now (not_not _ c.if-ne.ensures) ∙ c.bytes-in-loop-k.ensures) c.loop-k.invariant
