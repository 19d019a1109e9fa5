use Rattle.std.proofs.Common.{refl}
use Rattle.orient48.proofs.Entries.{rows_entry}
use Rattle.orient48.proofs.tables.rows.Goals as goal

pub returns : goal.returns
returns c = rows_entry _ refl c.args.number _ c.requires
