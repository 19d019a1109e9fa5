use Rattle.tree_session.proofs.Serving.{built_front}
use Rattle.tree_session.proofs.laws.front_law.Goals as goal

pub returns : goal.returns
returns c = built_front
