use Rattle.map_lex.proofs.WordEnds.{ArePlain}
use Rattle.map_lex.proofs.spans.word_len.Given as goal

abbrev pub invariant-loop-len : goal.invariant-loop-len
invariant-loop-len l = ArePlain l.text l.len
