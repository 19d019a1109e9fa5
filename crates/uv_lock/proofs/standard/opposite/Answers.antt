use Rattle.std.proofs.Common.{◌≡◌, ◌∙◌, ◌<◌, length, lit<, rules, subst, sym}
use Rattle.uv_lock.proofs.Sums.{read_at}
use Rattle.uv_lock.proofs.Threes.{opposites_are}
use Rattle.uv_lock.proofs.standard.opposite.Goals as goal

pub returns : goal.returns
returns c =
    let three : length c.args.axis ≡ 3 = search rules in
    let x = c.x.view_is ∙ read_at c.args.axis 0 c.index-axis-0.result (subst (λ n. 0 < n) (sym three) (lit< tt)) c.index-axis-0.is in
    let y = c.y.view_is ∙ read_at c.args.axis 1 c.index-axis-1.result (subst (λ n. 1 < n) (sym three) (lit< tt)) c.index-axis-1.is in
    let z = c.z.view_is ∙ read_at c.args.axis 2 c.index-axis-2.result (subst (λ n. 2 < n) (sym three) (lit< tt)) c.index-axis-2.is in
    opposites_are c.args.axis c.x.inside.0 c.y.inside.0 c.z.inside.0 three c.x.invariant c.y.invariant c.z.invariant x y z
