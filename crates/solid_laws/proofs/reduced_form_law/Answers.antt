use Rattle.solid_laws.proofs.Reduced.{reduced_form}
use Rattle.solid_laws.proofs.reduced_form_law.Goals as goal

pub returns : goal.returns
returns c = reduced_form
