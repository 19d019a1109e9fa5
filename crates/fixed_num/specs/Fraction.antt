-- Reduced fractions.
use Rattle.std.specs.Prelude.{◌≡◌, ℕ, ◌*◌, ℤ, unsigned_abs}

-- no number above 1 divides both
abbrev pub IsReduced : ℤ → ℤ → Type 0
IsReduced num den =
    (divisor a b : ℕ) → divisor * a ≡ unsigned_abs num → divisor * b ≡ unsigned_abs den → divisor ≡ 1
