use Rattle.std.proofs.Common.{ap, ◌∙◌}
use Rattle.cmd_text.specs.Lines.{line_text}
use Rattle.map_report.specs.Reports.{note_line}
use Rattle.map_report.proofs.lines.note_text.Goals as goal

pub returns : goal.returns
unfolding note_line
returns c = c.write.ensures ∙ ap line_text c.note_row.ensures
