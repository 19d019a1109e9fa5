use Rattle.std.proofs.Common.{sym, ap, ◌∙◌}
use Rattle.orient48.specs.Motions.{quarters}
use Rattle.orient48.proofs.Quarters.{turned_x, turned_y, turned_z}
use Rattle.orient48.proofs.orient.Orient.turn.Goals as goal

pub returns-in-X : goal.returns-in-X
returns-in-X c = turned_x c.args.quarters c.requires ∙ ap (λ a. quarters a c.args.quarters) (sym c.in-X.is)

pub returns-in-Y : goal.returns-in-Y
returns-in-Y c = turned_y c.args.quarters c.requires ∙ ap (λ a. quarters a c.args.quarters) (sym c.in-Y.is)

pub returns-in-Z : goal.returns-in-Z
returns-in-Z c = turned_z c.args.quarters c.requires ∙ ap (λ a. quarters a c.args.quarters) (sym c.in-Z.is)
