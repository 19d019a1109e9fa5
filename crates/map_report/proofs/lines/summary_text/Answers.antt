use Rattle.std.proofs.Common.{ap, ◌∙◌}
use Rattle.cmd_text.specs.Lines.{line_text}
use Rattle.map_report.specs.Reports.{summary_line}
use Rattle.map_report.proofs.lines.summary_text.Goals as goal

pub returns : goal.returns
unfolding summary_line
returns c = c.write.ensures ∙ ap line_text c.summary_row.ensures
