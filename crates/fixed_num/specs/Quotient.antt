-- Quotients without a remainder.
use Rattle.std.specs.Prelude.{◌≡◌, ◌<◌, ℤ, ◌*ℤ◌, unsigned_abs}

-- k times d is n, and k is below limit in size
abbrev pub IsQuotientBelow : ℤ → ℤ → ℤ → ℤ → Type 0
IsQuotientBelow n d limit k = (k *ℤ d ≡ n) × (unsigned_abs k < unsigned_abs limit)
