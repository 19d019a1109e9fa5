use Rattle.map_laws.proofs.MovingRows.{box_rows_are}
use Rattle.map_laws.proofs.box_rows_law.Goals as goal

pub returns : goal.returns
returns c = box_rows_are
