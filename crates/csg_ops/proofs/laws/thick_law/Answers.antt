use Rattle.csg_ops.proofs.ShortSides.{thick}
use Rattle.csg_ops.proofs.laws.thick_law.Goals as goal

pub returns : goal.returns
returns c = thick
