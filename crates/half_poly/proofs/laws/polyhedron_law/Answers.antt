use Rattle.half_poly.proofs.Whole.{whole}
use Rattle.half_poly.proofs.laws.polyhedron_law.Goals as goal

pub returns : goal.returns
returns c = whole
