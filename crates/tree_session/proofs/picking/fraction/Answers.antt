use Rattle.std.proofs.Common.{refl}
use Rattle.tree_session.proofs.Picks.{kept_is}
use Rattle.tree_session.proofs.picking.fraction.Goals as goal

pub returns : goal.returns
returns c = kept_is _ c.args.at.now c.num.result c.den.result c.num.ensures.num c.den.ensures.den c.num.ensures.ratio refl refl
