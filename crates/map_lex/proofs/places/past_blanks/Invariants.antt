use Rattle.std.proofs.Common.{◌≡◌, ◌+◌, ◌≤◌, drop}
use Rattle.map_lex.specs.TokenList.{tokens_left}
use Rattle.map_lex.proofs.places.past_blanks.Given as goal

abbrev pub invariant-loop-len : goal.invariant-loop-len
invariant-loop-len l = record {
  left : tokens_left l.line (drop l.len l.place.rest.now) ≡ tokens_left l.fn.place.line l.fn.place.rest.now;
  lines : l.line ≤ l.fn.place.line + l.len;
}
