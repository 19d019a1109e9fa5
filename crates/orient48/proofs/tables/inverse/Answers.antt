use Rattle.std.proofs.Common.{refl}
use Rattle.orient48.proofs.Entries.{inverses, inverse_below, inverse_matrix}
use Rattle.orient48.proofs.tables.inverse.Goals as goal

pub returns-clause-below : goal.returns-clause-below
returns-clause-below c = inverse_below inverses refl c.args.number 0 c.requires

pub returns-clause-matrix : goal.returns-clause-matrix
returns-clause-matrix c = inverse_matrix inverses refl c.args.number 0 c.requires
