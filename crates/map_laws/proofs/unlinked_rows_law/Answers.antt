use Rattle.map_laws.proofs.TreeCommands.{unlinked_rows}
use Rattle.map_laws.proofs.unlinked_rows_law.Goals as goal

pub returns : goal.returns
returns c = unlinked_rows
