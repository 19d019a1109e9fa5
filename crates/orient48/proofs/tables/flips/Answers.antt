use Rattle.std.proofs.Common.{refl}
use Rattle.algebra.specs.Space.{dot, cross, det}
use Rattle.orient48.proofs.Entries.{flip_entry}
use Rattle.orient48.proofs.tables.flips.Goals as goal

pub returns : goal.returns
unfolding det dot cross
returns c = flip_entry _ refl c.args.number _ c.requires
