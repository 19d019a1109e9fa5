use Rattle.touch_laws.proofs.Strict.{boxes_meet}
use Rattle.touch_laws.proofs.boxes_meet_law.Goals as goal

pub returns : goal.returns
returns c = boxes_meet
