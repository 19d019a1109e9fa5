use Rattle.map_opening.proofs.Ways.{some_way}
use Rattle.map_opening.proofs.laws.opens_law.Goals as goal

pub returns : goal.returns
returns c = some_way c.one_reading_law.ensures
