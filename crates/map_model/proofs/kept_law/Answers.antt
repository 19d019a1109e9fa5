use Rattle.map_model.proofs.KeptFractions.{kept_law}
use Rattle.map_model.proofs.kept_law.Goals as goal

pub returns : goal.returns
returns c = kept_law
