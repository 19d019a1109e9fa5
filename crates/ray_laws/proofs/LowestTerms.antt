-- Equal fractions in lowest terms have the same numbers.
use Rattle.std.proofs.Common.{◌≡◌, ℕ, zero, suc, ◌+◌, ◌*◌, ◌/◌, ◌%◌, ◌<◌, ◌≤◌, sym, ap, subst, ◌∙◌, arith, mul_comm, ℤ, pos, negsuc, ◌*ℤ◌, ◌<ℤ◌, ◌≤ℤ◌, unsigned_abs}
use Rattle.std.specs.Int.{◌∣◌, IsGcd}
use Rattle.std.proofs.lemmas.Int.{ints}
use Rattle.std.proofs.lemmas.Nat.{mod-mul-add}
use Rattle.std.proofs.lemmas.Nat.Gcd.{IsGcd-from_zero, IsGcd-from_mod, dvd_antisymm}
use Rattle.std.proofs.Math.Nat.{mod-lt, div-add-mod, mul-lt-mul_of_pos_left, dvd-mul_left, mul-div_cancel', eq_of_mul-eq-mul_right}
use Rattle.uv_lock.specs.Fractions.{Fraction, gcd, gcd_by}
use Rattle.uv_lock.proofs.Divisors.{gcd_is}
use Rattle.fixed_num.specs.Fraction.{IsReduced}

parts : (c m q r : ℕ) → c * (m * q + r) ≡ q * (c * m) + c * r
parts c m q r = grind arith

-- A remainder of multiples is the multiple of the remainder.
remainder : (c a m : ℕ) → 0 < c → 0 < m → (c * a) % (c * m) ≡ c * (a % m)
remainder c a m some more =
    ap (λ n. (c * n) % (c * m)) (sym (div-add-mod a m)) ∙ ap (λ n. n % (c * m)) (parts c m (a / m) (a % m))
    ∙ mod-mul-add (a / m) (c * m) (c * (a % m)) (mul-lt-mul_of_pos_left (mod-lt a more) some)

none : (c : ℕ) → c * 0 ≡ 0
none c = omega arith

-- And so is the greatest common divisor.
divisor_of_multiples : (k a b c : ℕ) → b < k → 0 < c → IsGcd (c * a) (c * b) (c * gcd_by k a b)
divisor_of_multiples zero a b c l some = absurd (omega arith)
divisor_of_multiples (suc k) a zero c l some = IsGcd-from_zero (c * a) (c * 0) (none c)
divisor_of_multiples (suc k) a (suc b) c l some =
    IsGcd-from_mod (c * a) (c * suc b) (c * gcd_by k (suc b) (a % suc b))
    (subst (λ r. IsGcd (c * suc b) r (c * gcd_by k (suc b) (a % suc b))) (sym (remainder c a (suc b) some (omega arith)))
    (divisor_of_multiples k (suc b) (a % suc b) c (omega (arith, l, mod-lt a {m = suc b} (omega arith))) some))

abbrev HasNoDivisor : ℕ → ℕ → Type 0
HasNoDivisor p q = (divisor a b : ℕ) → divisor * a ≡ p → divisor * b ≡ q → divisor ≡ 1

once : (y : ℕ) → y * 1 ≡ y
once y = omega arith

module _ (p q x y : ℕ) (reduced : HasNoDivisor p q) (more : 0 < y) (equal : p * y ≡ x * q) where
  is_one : gcd p q ≡ 1
  is_one = let d = gcd_is p q in reduced (gcd p q) (p / gcd p q) (q / gcd p q) (mul-div_cancel' (gcd p q) d.0) (mul-div_cancel' (gcd p q) d.1)

  divides : q ∣ y
  divides =
      let d = divisor_of_multiples (suc q) p q y (omega arith) more in
      subst (λ n. q ∣ n) (ap (λ g. y * g) is_one ∙ once y) (d.2 q (subst (λ n. q ∣ n) (sym equal ∙ mul_comm p y) (dvd-mul_left q x)) (dvd-mul_left q y))

same_naturals : (p q x y : ℕ) → HasNoDivisor p q → HasNoDivisor x y → 0 < q → 0 < y → p * y ≡ x * q → (p ≡ x) × (q ≡ y)
same_naturals p q x y h k some more e =
    let same : q ≡ y = dvd_antisymm (divides p q x y h more e) (divides x y p q k some (sym e)) in
    (eq_of_mul-eq-mul_right y more p x (e ∙ ap (λ n. x * n) same), same)

same_wholes : (p q x y : ℤ) → IsReduced p q → IsReduced x y → pos 0 ≤ℤ p → pos 0 <ℤ q → pos 0 ≤ℤ x → pos 0 <ℤ y → p *ℤ y ≡ x *ℤ q → (p ≡ x) × (q ≡ y)
same_wholes (pos p) (pos q) (pos x) (pos y) h k np pq nx py e =
    let s = same_naturals p q x y h k (omega (arith, ints)) (omega (arith, ints)) (ap unsigned_abs e) in (ap pos s.0, ap pos s.1)
same_wholes (negsuc p) q x y h k np pq nx py e = absurd (omega (arith, ints))
same_wholes (pos p) (negsuc q) x y h k np pq nx py e = absurd (omega (arith, ints))
same_wholes (pos p) (pos q) (negsuc x) y h k np pq nx py e = absurd (omega (arith, ints))
same_wholes (pos p) (pos q) (pos x) (negsuc y) h k np pq nx py e = absurd (omega (arith, ints))

-- A fraction of at least 0 in lowest terms.
pub record IsPlain (t : Fraction) : Type 0 where
  pub nonneg : pos 0 ≤ℤ t.num
  pub positive : pos 0 <ℤ t.den
  pub reduced : IsReduced t.num t.den

pub same_fraction : (t u : Fraction) → IsPlain t → IsPlain u → t.num *ℤ u.den ≡ u.num *ℤ t.den → t ≡ u
same_fraction t u h k e =
    let s = same_wholes t.num t.den u.num u.den h.reduced k.reduced h.nonneg h.positive k.nonneg k.positive e in
    λ i. record { num = s.0 i; den = s.1 i }
