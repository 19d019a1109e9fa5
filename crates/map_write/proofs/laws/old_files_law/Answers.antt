use Rattle.map_write.proofs.OldTexts.{same_text, old_again}
use Rattle.map_write.proofs.laws.old_files_law.Goals as goal

pub returns : goal.returns
returns c = record { same_text = same_text; again = old_again }
