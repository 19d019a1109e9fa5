use Rattle.moved_poly_laws.proofs.Standing.{turned_round_is}
use Rattle.moved_poly_laws.proofs.turned_round_law.Goals as goal

pub returns : goal.returns
returns c = turned_round_is
