use Rattle.map_laws.proofs.MovingRows.{box_rows_are}
use Rattle.map_laws.proofs.BoxCommand.{box_apply, box_command}
use Rattle.link_laws.proofs.NewBrushKeeps.{box_keeps}
use Rattle.link_laws.proofs.box_keeps_law.Goals as goal

pub returns : goal.returns
returns c = box_keeps box_rows_are box_apply box_command
