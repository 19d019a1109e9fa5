-- Fractions in lowest terms.
use Rattle.std.specs.Prelude.{ℕ, zero, suc, ◌%◌, cond, ℤ, pos, neg_ℤ, unsigned_abs, int_div, int_lt}
use Rattle.fixed_num.specs.declared.fraction.Frac.{Frac}

pub record Fraction : Type 0 where
  pub num : ℤ
  pub den : ℤ

abbrev pub gcd_by : ℕ → ℕ → ℕ → ℕ
gcd_by zero a b = a
gcd_by (suc k) a zero = a
gcd_by (suc k) a (suc b) = gcd_by k (suc b) (a % suc b)

-- The greatest common divisor. So many steps are enough.
abbrev pub gcd : ℕ → ℕ → ℕ
gcd a b = gcd_by (suc b) a b

-- n / d in lowest terms, with a denominator of at least 1, where d isn't 0.
abbrev pub fraction : ℤ → ℤ → Fraction
fraction n d =
    let g = pos (gcd (unsigned_abs n) (unsigned_abs d)) in
    record { num = int_div (cond (int_lt d (pos 0)) (neg_ℤ n) n) g; den = int_div (pos (unsigned_abs d)) g }

-- The fraction that is kept.
abbrev pub fraction_of : Frac → Fraction
fraction_of f = record { num = f.num; den = f.den }
