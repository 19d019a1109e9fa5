use Rattle.std.proofs.Common.{sym, ◌∙◌, ap, arith, drop, ◌+◌}
use Rattle.map_lex.specs.TokenList.{tokens_left}
use Rattle.map_lex.proofs.Reading.{feed_passed, blank_passed}
use Rattle.map_lex.proofs.places.past_blanks.Goals as goal
use Rattle.map_lex.proofs.places.past_blanks.Goals.{then-byte-eq10, else-byte-eq10}

pub loop-len-preserved : goal.loop-len-preserved
loop-len-preserved c =
    let text = c.args.place.rest.now in
    let line = c.loop-len.line in
    let at = c.loop-len.len in
    elim c.if-byte-eq10.branch [
      | then-byte-eq10 w ↦ record {
        left = ap (λ n. tokens_left n (drop (at + 1) text)) w.line-is ∙ feed_passed line text at (omega arith) w.if-byte-eq10.true ∙ c.loop-len.invariant.left;
        lines = omega arith;
      }
      | else-byte-eq10 w ↦ record {
        left = ap (λ n. tokens_left n (drop (at + 1) text)) w.line-is ∙ blank_passed line text at (omega arith) (sym c.is_blank.ensures ∙ c.if-not-is_blank.false) w.if-byte-eq10.false ∙ c.loop-len.invariant.left;
        lines = omega arith;
      }
    ]
