use Rattle.cmd_text.proofs.RuleLaws.{right_law, first_misfit_law, misfit_is}
use Rattle.cmd_text.proofs.laws.misfit_law.Goals as goal

pub returns : goal.returns
returns c = record {
  right = right_law;
  first = λ verb words place. (first_misfit_law verb words place, misfit_is verb words place);
}
