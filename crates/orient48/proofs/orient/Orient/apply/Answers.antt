use Rattle.std.proofs.Common.{subst, ◌<◌}
use Rattle.orient48.proofs.Numbers.{signed}
use Rattle.orient48.proofs.orient.Orient.apply.Goals as goal

pub returns-clause-signed : goal.returns-clause-signed
returns-clause-signed c = signed c.args.self (subst (λ n. n < 48) c.self.view_is c.self.invariant)
