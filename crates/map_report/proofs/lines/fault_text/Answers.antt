use Rattle.std.proofs.Common.{ap, ◌∙◌}
use Rattle.cmd_text.specs.Lines.{line_text}
use Rattle.map_report.specs.Reports.{fault_line}
use Rattle.map_report.proofs.lines.fault_text.Goals as goal

pub returns : goal.returns
unfolding fault_line
returns c = c.write.ensures ∙ ap line_text c.fault_row.ensures
