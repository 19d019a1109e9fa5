use Rattle.std.proofs.Common.{◌≡◌, ◌<◌, ◌≤◌, pos, ◌-ℤ◌, ◌≤ℤ◌, to_z, of_z, w64, unsigned_abs, arith, rules}
use Rattle.std.proofs.lemmas.Int.{to_z-of_z}
use mir.Val.{SFits}
use Rattle.fixed_num.proofs.Steps.{ok_weaker}
use Rattle.fixed_num.proofs.Wholes.{size_within_limit, size_outside_limit}
use Rattle.fixed_num.proofs.whole.read_whole.Goals as goal

pub returns-clause-ok : goal.returns-clause-ok
returns-clause-ok c =
    let most : to_z w64 (of_z w64 c.args.limit) ≡ c.args.limit = to_z-of_z w64 c.args.limit c.ranges.limit in
    let fits : SFits w64 (pos 0 -ℤ to_z w64 (of_z w64 c.args.limit)) = search rules in
    let least : to_z w64 (of_z w64 (pos 0 -ℤ to_z w64 (of_z w64 c.args.limit))) ≡ pos 0 -ℤ to_z w64 (of_z w64 c.args.limit) = to_z-of_z w64 _ fits in
    let some : pos 0 ≤ℤ to_z w64 (of_z w64 c.args.limit) = rw most c.requires.low in
    ok_weaker _ _ c.read_within.result (λ whole w. (w.0, let small : unsigned_abs whole ≤ unsigned_abs c.args.limit = rw most at (size_within_limit _ (to_z w64 (of_z w64 c.args.limit)) whole least some w.1) in small)) c.read_within.ensures.ok

pub returns-clause-too_large : goal.returns-clause-too_large
returns-clause-too_large c =
    let most : to_z w64 (of_z w64 c.args.limit) ≡ c.args.limit = to_z-of_z w64 c.args.limit c.ranges.limit in
    let fits : SFits w64 (pos 0 -ℤ to_z w64 (of_z w64 c.args.limit)) = search rules in
    let least : to_z w64 (of_z w64 (pos 0 -ℤ to_z w64 (of_z w64 c.args.limit))) ≡ pos 0 -ℤ to_z w64 (of_z w64 c.args.limit) = to_z-of_z w64 _ fits in
    let some : pos 0 ≤ℤ to_z w64 (of_z w64 c.args.limit) = rw most c.requires.low in (
      λ e. let w = c.read_within.ensures.too_large.0 e in (w.0, w.1, let great : unsigned_abs c.args.limit < unsigned_abs w.0 = rw most at (size_outside_limit _ (to_z w64 (of_z w64 c.args.limit)) w.0 least some w.2) in great),
      λ w. c.read_within.ensures.too_large.1 (
        w.0,
        w.1,
        λ within. let small : unsigned_abs w.0 ≤ unsigned_abs c.args.limit = rw most at (size_within_limit _ (to_z w64 (of_z w64 c.args.limit)) w.0 least some within) in
            let great : unsigned_abs c.args.limit < unsigned_abs w.0 = w.2 in absurd (omega arith),
      ),
    )
