use Rattle.loop_laws.proofs.Places.{number_is}
use Rattle.loop_laws.proofs.place_law.Goals as goal

pub returns : goal.returns
returns c F face k number V f vertices e h = number_is F face k number V f vertices e h
