use Rattle.std.proofs.Common.{sym, arith, eq-eqb}
use Rattle.std.proofs.lemmas.List.Sums.{position_or_len_is}
use Rattle.map_lex.proofs.spans.line_len.Goals as goal

pub returns-then-byte-eq10-clause-line : goal.returns-then-byte-eq10-clause-line
returns-then-byte-eq10-clause-line c =
    sym (position_or_len_is _ c.args.text.now c.loop-len.len 0 (omega arith) c.loop-len.invariant (λ _. eq-eqb _ _ c.if-byte-eq10.true))

pub returns-clause-line : goal.returns-clause-line
returns-clause-line c = sym (position_or_len_is _ c.args.text.now _ 0 (omega arith) (λ k below. c.loop-len.invariant k (omega arith)) (λ past. absurd (omega arith)))
