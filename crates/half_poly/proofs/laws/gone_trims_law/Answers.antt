use Rattle.half_poly.proofs.CutTrims.{gone_trims}
use Rattle.half_poly.proofs.laws.gone_trims_law.Goals as goal

pub returns : goal.returns
returns c = gone_trims
