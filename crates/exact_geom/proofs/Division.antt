-- Divisors of the four numbers of a point, and what is left when they are divided by it.
use Rattle.std.proofs.Common.{◌≡◌, ◌≢◌, ℕ, zero, suc, ◌*◌, ◌<◌, ◌≤◌, ◌^◌, arith, refl, sym, ap, subst, ◌∙◌, ℤ, pos, negsuc, ◌*ℤ◌, neg_ℤ, ◌<ℤ◌, ◌≤ℤ◌, FitsSigned, to_z, of_z, unsigned_abs, [], ◌∷◌, ⊎_elim, lit<, mul_comm, one-mul}
use Rattle.std.specs.Int.{◌∣◌, IsGcd, w128}
use Rattle.std.specs.Prelude.{int_div, int_rem}
use Rattle.std.proofs.lemmas.Int.{ints, quot-rem, quot_is, unsigned_abs-mul, fits_signed_from_abs}
use Rattle.std.proofs.lemmas.Nat.Gcd.{dvd_trans, le_of_dvd, mod-eq-zero_of_dvd}
use Rattle.std.proofs.Math.IntN.{*ℤ_comm, zero-*ℤ}
use Rattle.std.proofs.Math.Nat.{eq-zero_of_zero-dvd, mul-dvd-mul_right, dvd_of_mul-dvd-mul_right, le-mul_of_pos_right}
use Rattle.algebra.proofs.Expr.{read}
use Rattle.algebra.proofs.Ring.{ring}
use Rattle.algebra.proofs.Orders.{positive_of_product, positive_product}
use Rattle.algebra.specs.Space.{Homogeneous}
use Rattle.exact_geom.specs.Limits.{coordinate_limit}
use Rattle.exact_geom.specs.Machine.{IsMultiple, IsSignedDivisor}
use Rattle.exact_geom.specs.Vertices.{homogeneous, IsBounded, IsReducedVertex}

-- ---- the divisor
pub record DividesFour (g x y z w : ℕ) : Type 0 where
  pub first : g ∣ x
  pub second : g ∣ y
  pub third : g ∣ z
  pub fourth : g ∣ w
  pub greatest : (k : ℕ) → k ∣ x → k ∣ y → k ∣ z → k ∣ w → k ∣ g

pub divides_four : (x y z w a b g : ℕ) → IsGcd x y a → IsGcd a z b → IsGcd b w g → DividesFour g x y z w
divides_four x y z w a b g e f h = record {
  first = dvd_trans g (dvd_trans g h.0 f.0) e.0;
  second = dvd_trans g (dvd_trans g h.0 f.0) e.1;
  third = dvd_trans g h.0 f.1;
  fourth = h.1;
  greatest = λ k i j l m. h.2 k (f.2 k (e.2 k i j) l) m;
}

pub divisor_positive : (g n : ℕ) → g ∣ n → 0 < n → 0 < g
divisor_positive zero n h k = let e = eq-zero_of_zero-dvd h in absurd (omega arith)
divisor_positive (suc g) n h k = omega arith

pub size_positive : (z : ℤ) → z ≢ pos 0 → 0 < unsigned_abs z
size_positive (pos zero) h = absurd (h refl)
size_positive (pos (suc n)) h = omega arith
size_positive (negsuc n) h = omega arith

positive_times : (m n : ℕ) → 0 < m → 0 < n → 0 < m * n
positive_times m n h k = grind arith

-- the product of two numbers of one sign is above 0
both_negative : (d w : ℤ) → d <ℤ pos 0 → w <ℤ pos 0 → pos 0 <ℤ (d *ℤ w)
both_negative (negsuc m) (negsuc n) h k = omega (arith, ints)
both_negative (pos m) w h k = absurd (omega (arith, ints))
both_negative (negsuc m) (pos n) h k = absurd (omega (arith, ints))

both_positive : (d w : ℤ) → pos 0 <ℤ d → pos 0 <ℤ w → pos 0 <ℤ (d *ℤ w)
both_positive (pos m) (pos n) h k = let e = positive_times m n (omega (arith, ints)) (omega (arith, ints)) in omega (arith, ints)
both_positive (pos m) (negsuc n) h k = absurd (omega (arith, ints))
both_positive (negsuc m) w h k = absurd (omega (arith, ints))

signed : (p : Homogeneous) (d : ℤ) (g : ℕ) → unsigned_abs d ≡ g → DividesFour g (unsigned_abs p.vector.x) (unsigned_abs p.vector.y) (unsigned_abs p.vector.z) (unsigned_abs p.weight) → pos 0 <ℤ (d *ℤ p.weight) → IsSignedDivisor p d
signed p d g e f s = record {
  x = subst (λ n. n ∣ unsigned_abs p.vector.x) (sym e) f.first;
  y = subst (λ n. n ∣ unsigned_abs p.vector.y) (sym e) f.second;
  z = subst (λ n. n ∣ unsigned_abs p.vector.z) (sym e) f.third;
  weight = subst (λ n. n ∣ unsigned_abs p.weight) (sym e) f.fourth;
  greatest = λ k i j l m. subst (λ n. k ∣ n) (sym e) (f.greatest k i j l m);
  same_sign = s;
}

pub upright_divisor : (p : Homogeneous) (d : ℤ) (g : ℕ) → d ≡ pos g → 0 < g → pos 0 <ℤ p.weight → DividesFour g (unsigned_abs p.vector.x) (unsigned_abs p.vector.y) (unsigned_abs p.vector.z) (unsigned_abs p.weight) → IsSignedDivisor p d
upright_divisor p d g e h k f = signed p d g (ap unsigned_abs e) f (both_positive d p.weight (omega (arith, ints)) k)

pub turned_divisor : (p : Homogeneous) (d : ℤ) (g : ℕ) → d ≡ neg_ℤ (pos g) → 0 < g → p.weight <ℤ pos 0 → DividesFour g (unsigned_abs p.vector.x) (unsigned_abs p.vector.y) (unsigned_abs p.vector.z) (unsigned_abs p.weight) → IsSignedDivisor p d
turned_divisor p d g e h k f = signed p d g (ap unsigned_abs e ∙ omega (arith, ints)) f (both_negative d p.weight (omega (arith, ints)) k)

-- ---- the quotients
rem_zero : (x d : ℤ) → unsigned_abs d ∣ unsigned_abs x → int_rem x d ≡ pos 0
rem_zero (pos a) d h = ap pos (mod-eq-zero_of_dvd (unsigned_abs d) h)
rem_zero (negsuc a) d h = ap (λ n. neg_ℤ (pos n)) (mod-eq-zero_of_dvd (unsigned_abs d) h)

pub exact : (x d : ℤ) → unsigned_abs d ∣ unsigned_abs x → x ≡ d *ℤ int_div x d
exact x d h = let e = quot-rem x d in let z = rem_zero x d h in let k = turn (int_div x d) d in omega (arith, ints)
  where
    turn : (a b : ℤ) → a *ℤ b ≡ b *ℤ a
    turn a b = *ℤ_comm a b

pub size_of_quotient : (x d q : ℤ) → x ≡ d *ℤ q → unsigned_abs x ≡ unsigned_abs d * unsigned_abs q
size_of_quotient x d q e = ap unsigned_abs e ∙ unsigned_abs-mul d q

smaller : (m n q : ℕ) → m ≡ n * q → 0 < n → q ≤ m
smaller m n q e h = let l = le-mul_of_pos_right q h in let t = mul_comm q n in omega arith

pub quotient_size : (x d : ℤ) → unsigned_abs d ∣ unsigned_abs x → 0 < unsigned_abs d → unsigned_abs (int_div x d) ≤ unsigned_abs x
quotient_size x d h k = smaller (unsigned_abs x) (unsigned_abs d) (unsigned_abs (int_div x d)) (size_of_quotient x d (int_div x d) (exact x d h)) k

-- what the machine's division gives
pub quotient_kept : (x d : ℤ) → FitsSigned w128 x → FitsSigned w128 d → unsigned_abs d ∣ unsigned_abs x → 0 < unsigned_abs d → unsigned_abs x < 2 ^ 127
    → to_z w128 (of_z w128 (int_div (to_z w128 (of_z w128 x)) (to_z w128 (of_z w128 d)))) ≡ int_div x d
quotient_kept x d fx fd h k l = let s = quotient_size x d h k in quot_is w128 x d fx fd (fits_signed_from_abs w128 (int_div x d) (omega arith))

-- ---- the four quotients
pub common_divisor : (x y z w : ℤ) (rx ry rz rw a b g : ℕ) → rx ≡ unsigned_abs x → ry ≡ unsigned_abs y → rz ≡ unsigned_abs z → rw ≡ unsigned_abs w → IsGcd rx ry a → IsGcd a rz b → IsGcd b rw g
    → DividesFour g (unsigned_abs x) (unsigned_abs y) (unsigned_abs z) (unsigned_abs w)
common_divisor x y z w rx ry rz rw a b g ex ey ez ew e f h =
    let d = divides_four rx ry rz rw a b g e f h in
    record {
      first = subst (λ n. g ∣ n) ex d.first;
      second = subst (λ n. g ∣ n) ey d.second;
      third = subst (λ n. g ∣ n) ez d.third;
      fourth = subst (λ n. g ∣ n) ew d.fourth;
      greatest = λ k i j l m. d.greatest k (subst (λ n. k ∣ n) (sym ex) i) (subst (λ n. k ∣ n) (sym ey) j) (subst (λ n. k ∣ n) (sym ez) l) (subst (λ n. k ∣ n) (sym ew) m);
    }

-- q has the quotients of p by d
pub record Quotients (p : Homogeneous) (d : ℤ) (q : Homogeneous) : Type 0 where
  pub x : q.vector.x ≡ int_div p.vector.x d
  pub y : q.vector.y ≡ int_div p.vector.y d
  pub z : q.vector.z ≡ int_div p.vector.z d
  pub weight : q.weight ≡ int_div p.weight d

not_zero : (d w : ℤ) → pos 0 <ℤ (d *ℤ w) → d ≡ pos 0 → ⊥
not_zero d w h e = let z : d *ℤ w ≡ pos 0 = ap (λ t. t *ℤ w) e ∙ zero-*ℤ w in let no : pos 0 <ℤ pos 0 = subst (λ t. pos 0 <ℤ t) z h in absurd (omega (arith, ints))

times_quotient : (x d q : ℤ) → unsigned_abs d ∣ unsigned_abs x → q ≡ int_div x d → x ≡ d *ℤ q
times_quotient x d q h e = exact x d h ∙ ap (λ t. d *ℤ t) (sym e)

pub multiple_of : (p q : Homogeneous) (d : ℤ) → IsSignedDivisor p d → Quotients p d q → IsMultiple p q
multiple_of p q d s k = record {
  factor = d;
  nonzero = λ e. not_zero d p.weight s.same_sign e;
  x = times_quotient p.vector.x d q.vector.x s.x k.x;
  y = times_quotient p.vector.y d q.vector.y s.y k.y;
  z = times_quotient p.vector.z d q.vector.z s.z k.z;
  weight = times_quotient p.weight d q.weight s.weight k.weight;
}

one_only : (k : ℕ) → k ∣ 1 → k ≡ 1
one_only zero h = let e = eq-zero_of_zero-dvd h in absurd (omega arith)
one_only (suc k) h = let l : suc k ≤ 1 = le_of_dvd (lit< tt) h in omega arith

-- a divisor of the quotient, times d, divides the number
carried : (k : ℕ) (x d q : ℤ) → x ≡ d *ℤ q → k ∣ unsigned_abs q → (k * unsigned_abs d) ∣ unsigned_abs x
carried k x d q e h =
    let size : unsigned_abs q * unsigned_abs d ≡ unsigned_abs x = mul_comm (unsigned_abs q) (unsigned_abs d) ∙ sym (size_of_quotient x d q e) in
    subst (λ n. (k * unsigned_abs d) ∣ n) size (mul-dvd-mul_right k h (unsigned_abs d))

positive_weight : (d w q : ℤ) → w ≡ d *ℤ q → pos 0 <ℤ (d *ℤ w) → pos 1 ≤ℤ q
positive_weight d w q e h = ⊎_elim
    (λ p. let l : pos 0 <ℤ q = positive_of_product d p.0 (subst (λ t. pos 0 <ℤ t) e p.1) in omega (arith, ints))
    (λ p.
    let turned : neg_ℤ d *ℤ q ≡ neg_ℤ (d *ℤ q) = ring (d ∷ q ∷ []) (search read depth 20) tt in
    let below : (d *ℤ q) <ℤ pos 0 = subst (λ t. t <ℤ pos 0) e p.1 in
    let low : d <ℤ pos 0 = p.0 in
    let l : pos 0 <ℤ q = positive_of_product (neg_ℤ d) (omega (arith, ints)) (omega (arith, ints)) in omega (arith, ints))
    (positive_product d w h)

below : (m n b : ℕ) → m ≤ n → n ≤ b → m ≤ b
below m n b h k = omega arith

pub reduced_vertex : (p q : Homogeneous) (d : ℤ) → IsBounded p → IsSignedDivisor p d → Quotients p d q → IsReducedVertex q
unfolding multiple_of
reduced_vertex p q d b s k =
    let m = multiple_of p q d s k in
    let g = unsigned_abs d in
    let some : 0 < g = size_positive d (λ e. not_zero d p.weight s.same_sign e) in
    let small = λ (x t : ℤ) (h : g ∣ unsigned_abs x) (e : t ≡ int_div x d). subst (λ z. unsigned_abs z ≤ unsigned_abs x) (sym e) (quotient_size x d h some) in
    record {
      positive = positive_weight d p.weight q.weight m.weight s.same_sign;
      reduced = λ n i j l o. one_only n (dvd_of_mul-dvd-mul_right n some (subst (λ t. (n * g) ∣ t) (sym (one-mul g))
          (s.greatest (n * g) (carried n p.vector.x d q.vector.x m.x i) (carried n p.vector.y d q.vector.y m.y j) (carried n p.vector.z d q.vector.z m.z l) (carried n p.weight d q.weight m.weight o))));
      bounded = record {
        x = below _ _ _ (small p.vector.x q.vector.x s.x k.x) b.x;
        y = below _ _ _ (small p.vector.y q.vector.y s.y k.y) b.y;
        z = below _ _ _ (small p.vector.z q.vector.z s.z k.z) b.z;
        weight = below _ _ _ (small p.weight q.weight s.weight k.weight) b.weight;
      };
    }

-- ---- what the machine's divisions give
divided : (x d : ℤ) → FitsSigned w128 d → unsigned_abs d ∣ unsigned_abs x → 0 < unsigned_abs d → unsigned_abs x ≤ coordinate_limit
    → to_z w128 (of_z w128 (int_div (to_z w128 (of_z w128 x)) (to_z w128 (of_z w128 d)))) ≡ int_div x d
divided x d f h k l = quotient_kept x d (fits_signed_from_abs w128 x (omega arith)) f h k (omega arith)

pub quotients : (p : Homogeneous) (d : ℤ) → IsBounded p → p.weight ≢ pos 0 → IsSignedDivisor p d
    → Quotients p d (homogeneous (to_z w128 (of_z w128 (int_div (to_z w128 (of_z w128 p.vector.x)) (to_z w128 (of_z w128 d))))) (to_z w128 (of_z w128 (int_div (to_z w128 (of_z w128 p.vector.y)) (to_z w128 (of_z w128 d)))))
    (to_z w128 (of_z w128 (int_div (to_z w128 (of_z w128 p.vector.z)) (to_z w128 (of_z w128 d))))) (to_z w128 (of_z w128 (int_div (to_z w128 (of_z w128 p.weight)) (to_z w128 (of_z w128 d))))))
quotients p d b n s =
    let some : 0 < unsigned_abs d = size_positive d (λ e. not_zero d p.weight s.same_sign e) in
    let heavy = size_positive p.weight n in
    let least = le_of_dvd heavy s.weight in
    let bound = b.weight in
    let f : FitsSigned w128 d = fits_signed_from_abs w128 d (omega arith) in
    record {
      x = divided p.vector.x d f s.x some b.x;
      y = divided p.vector.y d f s.y some b.y;
      z = divided p.vector.z d f s.z some b.z;
      weight = divided p.weight d f s.weight some (omega arith);
    }
