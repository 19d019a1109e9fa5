use Rattle.fixed_num.proofs.Count.{words_have_counts}
use Rattle.fixed_num.proofs.laws.count_law.Goals as goal

pub returns : goal.returns
returns c = words_have_counts
