use Rattle.map_laws.proofs.ReshapingRows.{reshaping_rows_are}
use Rattle.map_laws.proofs.reshaping_rows_law.Goals as goal

pub returns : goal.returns
returns c = reshaping_rows_are
