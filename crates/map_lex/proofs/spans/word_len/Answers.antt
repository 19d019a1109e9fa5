use Rattle.std.proofs.Common.{sym, ◌∙◌, arith}
use Rattle.map_lex.proofs.WordEnds.{plain_clean, ends_at_blank, stray_stands}
use Rattle.map_lex.proofs.spans.word_len.Goals as goal

pub returns-then-is_blank-clause-word : goal.returns-then-is_blank-clause-word
returns-then-is_blank-clause-word c =
    (omega arith, ends_at_blank c.args.text.now c.loop-len.len (omega arith) c.loop-len.invariant (λ _. sym c.is_blank.ensures ∙ c.if-is_blank.true))

pub returns-then-is_blank-clause-clean : goal.returns-then-is_blank-clause-clean
returns-then-is_blank-clause-clean c = plain_clean c.args.text.now c.loop-len.len c.loop-len.invariant

pub returns-then-byte-le32-clause-stray : goal.returns-then-byte-le32-clause-stray
returns-then-byte-le32-clause-stray c =
    stray_stands c.args.text.now c.loop-len.len (omega arith) c.loop-len.invariant c.if-byte-le32.true (sym c.is_blank.ensures ∙ c.if-is_blank.false)

pub returns-clause-word : goal.returns-clause-word
returns-clause-word c = (omega arith, ends_at_blank c.args.text.now _ (omega arith) (λ k below. c.loop-len.invariant k (omega arith)) (λ past. absurd (omega arith)))

pub returns-clause-clean : goal.returns-clause-clean
returns-clause-clean c = plain_clean c.args.text.now _ (λ k below. c.loop-len.invariant k (omega arith))
