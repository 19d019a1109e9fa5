use Rattle.map_laws.proofs.ReshapingRows.{reshaping_rows_are}
use Rattle.map_laws.proofs.ReshapingCommands.{reshaping_apply, reshaping_command}
use Rattle.link_laws.proofs.ReshapingKeeps.{reshaping_keeps}
use Rattle.link_laws.proofs.reshaping_keeps_law.Goals as goal

pub returns : goal.returns
returns c = reshaping_keeps reshaping_rows_are reshaping_apply reshaping_command
