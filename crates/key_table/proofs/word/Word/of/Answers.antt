use Rattle.key_table.proofs.Padded.{written_over_zeros}
use Rattle.key_table.proofs.word.Word.of.Goals as goal

pub invariant_of-result : goal.invariant_of-result
invariant_of-result c = written_over_zeros _ _ c.copy_from_slice.ensures.after
