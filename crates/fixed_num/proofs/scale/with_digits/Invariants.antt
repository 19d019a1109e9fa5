use Rattle.std.proofs.Common.{◌≡◌, ℕ, ◌+◌, ◌^◌, ◌<◌, take}
use Rattle.std.specs.Str.Parse.{digits_value_after}
use Rattle.fixed_num.specs.Scan.{squeezed}
use Rattle.fixed_num.proofs.scale.with_digits.Given as goal

abbrev pub invariant-loop-digit : goal.invariant-loop-digit
invariant-loop-digit l =
    (l.kept < 10 ^ 18 + 10 ^ 6)
    × ((count : ℕ) → l.fn.kept ≡ squeezed count → l.kept ≡ squeezed (digits_value_after 10 count (take l.digit-index l.digits)))
