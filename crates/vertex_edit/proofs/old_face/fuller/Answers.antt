use Rattle.std.proofs.Common.{◌≡◌, get_or, ap, ◌∙◌, sym, arith}
use Rattle.hull_laws.specs.Moved.{nowhere}
use Rattle.solid_brush.specs.Sides.{bounds, half_spaces}
use Rattle.hull_search.proofs.Reading.{read}
use Rattle.vertex_edit.specs.Carrying.{count_on}
use Rattle.vertex_edit.proofs.Fullest.{fullest_stays, fullest_new}
use Rattle.vertex_edit.proofs.old_face.fuller.Goals as goal
use Rattle.vertex_edit.proofs.old_face.fuller.Goals.{After-count_on-count}

count_is : (c : After-count_on-count) → c.count_on-count.result ≡ count_on c.args.vertices.now (get_or (half_spaces c.args.sides.now) c.args.k nowhere)
count_is c = c.count_on-count.ensures ∙ ap (count_on c.args.vertices.now) (sym (ap bounds c.index-sides-k.is) ∙ read bounds nowhere c.args.sides.now c.args.k c.index-sides-k.result c.requires.k_in c.index-sides-k.is)

pub returns-then-count-best-clause-counted : goal.returns-then-count-best-clause-counted
returns-then-count-best-clause-counted c = count_is (goal.at.returns-then-count-best-clause-counted c).After-count_on-count

pub returns-then-count-best-clause-fullest : goal.returns-then-count-best-clause-fullest
returns-then-count-best-clause-fullest c =
    let e = count_is (goal.at.returns-then-count-best-clause-fullest c).After-count_on-count in let b = c.requires.counted in let t = c.if-count-best.true in
    fullest_new (half_spaces c.args.sides.now) c.args.vertices.now c.args.k c.args.best.face c.requires.fullest (omega arith)

pub returns-else-count-best-clause-fullest : goal.returns-else-count-best-clause-fullest
returns-else-count-best-clause-fullest c =
    let e = count_is (goal.at.returns-else-count-best-clause-fullest c).After-count_on-count in let b = c.requires.counted in let t = c.if-count-best.false in
    fullest_stays (half_spaces c.args.sides.now) c.args.vertices.now c.args.k c.args.best.face c.requires.fullest (omega arith)
