use Rattle.cmd_text.proofs.Meanings.{meaning}
use Rattle.cmd_text.proofs.laws.meaning_law.Goals as goal

pub returns : goal.returns
returns c = meaning
