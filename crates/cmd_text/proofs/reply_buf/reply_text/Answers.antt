use Rattle.std.proofs.Common.{ap, ◌∙◌}
use Rattle.cmd_text.specs.Lines.{line_text}
use Rattle.cmd_text.specs.Replies.{reply_line}
use Rattle.cmd_text.proofs.reply_buf.reply_text.Goals as goal

pub returns : goal.returns
unfolding reply_line
returns c = c.write.ensures ∙ ap line_text c.reply_line.ensures
