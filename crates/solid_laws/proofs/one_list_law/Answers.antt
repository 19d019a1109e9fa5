use Rattle.solid_laws.proofs.OneList.{one_list}
use Rattle.solid_laws.proofs.one_list_law.Goals as goal

pub returns : goal.returns
returns c = one_list
