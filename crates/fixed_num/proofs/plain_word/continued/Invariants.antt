use Rattle.std.proofs.Common.{◌≡◌}
use Rattle.fixed_num.specs.PlainWord.{Continues}
use Rattle.fixed_num.proofs.plain_word.continued.Given as goal

abbrev pub invariant-loop-byte : goal.invariant-loop-byte
invariant-loop-byte l = Continues l.value l.bytes l.most l.total l.byte-index × (l.count ≡ l.byte-index)
