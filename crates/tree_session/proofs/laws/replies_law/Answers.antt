use Rattle.tree_session.proofs.Serving.{built_replies}
use Rattle.tree_session.proofs.laws.replies_law.Goals as goal

pub returns : goal.returns
returns c = built_replies
