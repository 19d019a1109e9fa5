use Rattle.fixed_num.proofs.Steps.{places_kept-lowered, places_kept-raised}
use Rattle.fixed_num.proofs.scale.places.Goals as goal

pub returns-then-number : goal.returns-then-number
returns-then-number c = places_kept-lowered _ _ _ _ c.if-number.true c.checked_sub.ensures

pub returns-else-number : goal.returns-else-number
returns-else-number c = places_kept-raised _ _ _ c.if-number.false
