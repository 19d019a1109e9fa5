-- Fractions in lowest terms, whatever their parts are.
pub use Rattle.uv_lock.specs.Fractions.{Fraction, gcd_by, gcd, fraction, fraction_of}
use Rattle.std.specs.Prelude.{cond, ℤ, pos}
use Rattle.std.specs.Ordering.{int_eq}

-- As `fraction`, and a denominator of 0 counts as 1.
abbrev pub not_zero : ℤ → ℤ
not_zero d = cond (int_eq d (pos 0)) (pos 1) d

abbrev pub lowest : ℤ → ℤ → Fraction
lowest n d = fraction n (not_zero d)
