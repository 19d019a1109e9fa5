use Rattle.std.proofs.Common.{arith}
use Rattle.map_lex.proofs.Quotes.{open_at}
use Rattle.map_lex.proofs.spans.closing_quote.Goals as goal

pub returns-then-byte-eq10-clause-open : goal.returns-then-byte-eq10-clause-open
returns-then-byte-eq10-clause-open c = open_at c.args.text.now c.loop-len.len c.loop-len.invariant (λ _. c.if-byte-eq10.true)

pub returns-clause-open : goal.returns-clause-open
returns-clause-open c = open_at c.args.text.now c.loop-len.len c.loop-len.invariant (λ past. absurd (omega arith))
