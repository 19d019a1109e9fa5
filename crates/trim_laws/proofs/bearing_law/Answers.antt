use Rattle.trim_laws.proofs.Bearing.{bearing}
use Rattle.trim_laws.proofs.bearing_law.Goals as goal

pub returns : goal.returns
returns c = bearing
