use Rattle.std.proofs.Common.{◌≡◌, ℕ, ◌+◌, ◌*◌, ◌^◌, ◌<◌}
use Rattle.fixed_num.specs.Scan.{squeezed}
use Rattle.fixed_num.proofs.scale.with_zeros.Given as goal

abbrev pub invariant-loop : goal.invariant-loop
invariant-loop l =
    (l.kept < 10 ^ 18 + 10 ^ 6)
    × ((count : ℕ) → l.fn.kept ≡ squeezed count → l.kept ≡ squeezed (count * 10 ^ l.counter))
