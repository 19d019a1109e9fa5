-- Greatest common divisors: two numbers have one, and so have four.
use Rattle.std.proofs.Common.{◌≡◌, ℕ, zero, suc, ◌+◌, ◌-◌, ◌<◌, ◌≤◌, ◌⊎◌, ⊎_elim, arith, refl}
use Rattle.std.specs.Int.{IsGcd}
use Rattle.std.proofs.lemmas.Nat.Gcd.{IsGcd-from_zero, IsGcd-from_sub, IsGcd-swap}
use Rattle.exact_geom.proofs.Division.{DividesFour, divides_four}

pub record HasGcd (a b : ℕ) : Type 0 where
  pub divisor : ℕ
  pub is : IsGcd a b divisor

swapped : {a b : ℕ} → HasGcd a b → HasGcd b a
swapped {a} {b} g = record { divisor = g.divisor; is = IsGcd-swap a b g.divisor g.is }

with_zero : (a b : ℕ) → b ≡ 0 → HasGcd a b
with_zero a b e = record { divisor = a; is = IsGcd-from_zero a b e }

by_difference : (a b : ℕ) → b ≤ a → HasGcd (a - b) b → HasGcd a b
by_difference a b h g = record { divisor = g.divisor; is = IsGcd-from_sub a b g.divisor h g.is }

le_or_less : (a b : ℕ) → (b ≤ a) ⊎ (a < b)
le_or_less a b = grind arith

within : (fuel a b : ℕ) → a + b ≤ fuel → HasGcd a b
within zero a b h = with_zero a b (omega arith)
within (suc fuel) zero b h = swapped (with_zero b 0 refl)
within (suc fuel) (suc a) zero h = with_zero (suc a) 0 refl
within (suc fuel) (suc a) (suc b) h = ⊎_elim
    (λ l. by_difference (suc a) (suc b) l (within fuel (suc a - suc b) (suc b) (omega arith)))
    (λ l. swapped (by_difference (suc b) (suc a) (omega arith) (within fuel (suc b - suc a) (suc a) (omega arith)))) (le_or_less (suc a) (suc b))

pub gcd_of_two : (a b : ℕ) → HasGcd a b
gcd_of_two a b = within (a + b) a b (omega arith)

pub record HasDivisor (x y z w : ℕ) : Type 0 where
  pub divisor : ℕ
  pub divides : DividesFour divisor x y z w

pub divisor_of_four : (x y z w : ℕ) → HasDivisor x y z w
divisor_of_four x y z w =
    let a = gcd_of_two x y in let b = gcd_of_two a.divisor z in let g = gcd_of_two b.divisor w in
    record { divisor = g.divisor; divides = divides_four x y z w a.divisor b.divisor g.divisor a.is b.is g.is }
