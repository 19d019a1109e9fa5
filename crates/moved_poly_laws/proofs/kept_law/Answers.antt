use Rattle.moved_poly_laws.proofs.Standing.{kept_is}
use Rattle.moved_poly_laws.proofs.kept_law.Goals as goal

pub returns : goal.returns
returns c = kept_is
