use Rattle.std.proofs.Common.{◌≡◌, drop, take, []}
use Rattle.map_lex.specs.Pieces.{quoted_from}
use Rattle.map_lex.proofs.spans.closing_quote.Given as goal

-- what is left begins as all does
abbrev pub invariant-loop-len : goal.invariant-loop-len
invariant-loop-len l = quoted_from (take l.len l.text) (drop l.len l.text) ≡ quoted_from [] l.text
