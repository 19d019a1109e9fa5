use Rattle.std.proofs.Common.{◌∙◌, ap}
use Rattle.cmd_text.specs.Table.{Row, misfit_from, misfit_of}
use Rattle.cmd_text.proofs.misfit.misfit.Goals as goal

pub returns : goal.returns
unfolding misfit_of
returns c = c.first_misfit.ensures ∙ ap (λ (row : Row). misfit_from 1 row.kinds row.more c.args.words) c.form_of-more.ensures
