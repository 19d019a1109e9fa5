use Rattle.std.proofs.Common.{◌≡◌, ◌<◌, length, lit<, pos, rules, subst, sym}
use Rattle.uv_lock.proofs.Threes.{counts_are}
use Rattle.uv_lock.proofs.standard.counts.Goals as goal

pub returns : goal.returns
returns c =
    let three : length c.args.axis ≡ 3 = search rules in
    counts_are c.args.axis three (c.requires 0 (pos 0) (subst (λ n. 0 < n) (sym three) (lit< tt))) (c.requires 1 (pos 0) (subst (λ n. 1 < n) (sym three) (lit< tt)))
    (c.requires 2 (pos 0) (subst (λ n. 2 < n) (sym three) (lit< tt)))
