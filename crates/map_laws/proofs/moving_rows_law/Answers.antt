use Rattle.map_laws.proofs.MovingRows.{moving_rows_are}
use Rattle.map_laws.proofs.moving_rows_law.Goals as goal

pub returns : goal.returns
returns c = moving_rows_are
