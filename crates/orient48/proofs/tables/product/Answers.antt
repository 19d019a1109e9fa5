use Rattle.std.proofs.Common.{refl, []}
use Rattle.algebra.specs.Space.{dot}
use Rattle.orient48.proofs.Entries.{products, product_below, product_matrix}
use Rattle.orient48.proofs.tables.product.Goals as goal

pub returns-clause-below : goal.returns-clause-below
unfolding dot
returns-clause-below c = product_below products refl c.args.second c.args.first 0 [] c.requires.second c.requires.first

pub returns-clause-matrix : goal.returns-clause-matrix
unfolding dot
returns-clause-matrix c = product_matrix products refl c.args.second c.args.first 0 [] c.requires.second c.requires.first
