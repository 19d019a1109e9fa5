use Rattle.half_poly.proofs.CutTrims.{cut_trims}
use Rattle.half_poly.proofs.laws.cut_trims_law.Goals as goal

pub returns : goal.returns
returns c = cut_trims
