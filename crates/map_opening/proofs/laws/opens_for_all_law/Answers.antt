use Rattle.map_opening.proofs.Ways.{some_way}
use Rattle.map_opening.proofs.AnyTests.{for_all}
use Rattle.map_opening.proofs.laws.opens_for_all_law.Goals as goal

pub returns : goal.returns
returns c = for_all (some_way c.one_reading_law.ensures)
