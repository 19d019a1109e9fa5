use Rattle.std.proofs.Common.{◌≡◌, ℕ, ◌<◌, false, nat_eq, get_or}
use Rattle.map_lex.proofs.spans.line_len.Given as goal

abbrev pub invariant-loop-len : goal.invariant-loop-len
invariant-loop-len l = (k : ℕ) → k < l.len → nat_eq (get_or l.text k 0) 10 ≡ false
