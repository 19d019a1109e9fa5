-- A point has one reduced form: two vertices at one place have the same numbers.
use Rattle.std.proofs.Common.{◌≡◌, ℕ, zero, suc, ◌+◌, ◌-◌, ◌*◌, ◌<◌, ◌≤◌, ◌⊎◌, ⊎_elim, arith, refl, sym, ap, subst, ◌∙◌, one-mul, ℤ, pos, ◌*ℤ◌, ◌<ℤ◌, unsigned_abs}
use Rattle.std.specs.Int.{◌∣◌, IsGcd}
use Rattle.std.proofs.lemmas.Int.{ints, unsigned_abs-mul}
use Rattle.std.proofs.lemmas.Nat.Gcd.{IsGcd-from_zero, IsGcd-from_sub, IsGcd-swap, dvd_antisymm, dvd_trans}
use Rattle.std.proofs.Math.IntN.{*ℤ_comm}
use Rattle.std.proofs.Math.Nat.{dvd-mul_left, mul-le-mul_right}
use Rattle.algebra.specs.Space.{Homogeneous, SamePoint}
use Rattle.algebra.proofs.Identities.{vector_by}
use Rattle.algebra.proofs.Orders.{cancel-eq_left}
use Rattle.algebra.proofs.Points.{same_point_sym}
use Rattle.exact_geom.specs.Vertices.{IsReduced}
use Rattle.exact_geom.proofs.Meeting.{point_by}

-- a greatest common divisor that grows with its numbers
record Scaling (a b : ℕ) : Type 0 where
  divisor : ℕ
  is : (m : ℕ) → IsGcd (a * m) (b * m) (divisor * m)

swapped : (a b : ℕ) → Scaling a b → Scaling b a
swapped a b s = record { divisor = s.divisor; is = λ m. IsGcd-swap (a * m) (b * m) (s.divisor * m) (s.is m) }

with_zero : (a b : ℕ) → b ≡ 0 → Scaling a b
with_zero a b e = record { divisor = a; is = λ m. IsGcd-from_zero (a * m) (b * m) (ap (λ n. n * m) e ∙ omega arith) }

less_times : (a b m : ℕ) → b ≤ a → (a - b) * m ≡ a * m - b * m
less_times a b m h = let e : ((a - b) + b) * m ≡ (a - b) * m + b * m = grind arith in let f : (a - b) + b ≡ a = omega arith in let g = ap (λ n. n * m) f in omega arith

by_difference : (a b : ℕ) → b ≤ a → Scaling (a - b) b → Scaling a b
by_difference a b h s = record {
  divisor = s.divisor;
  is = λ m. IsGcd-from_sub (a * m) (b * m) (s.divisor * m) (mul-le-mul_right m h) (subst (λ n. IsGcd n (b * m) (s.divisor * m)) (less_times a b m h) (s.is m));
}

le_or_less : (a b : ℕ) → (b ≤ a) ⊎ (a < b)
le_or_less a b = grind arith

scaling_within : (fuel a b : ℕ) → a + b ≤ fuel → Scaling a b
scaling_within zero a b h = with_zero a b (omega arith)
scaling_within (suc fuel) zero b h = swapped b 0 (with_zero b 0 refl)
scaling_within (suc fuel) (suc a) zero h = with_zero (suc a) 0 refl
scaling_within (suc fuel) (suc a) (suc b) h =
    ⊎_elim (λ l. by_difference (suc a) (suc b) l (scaling_within fuel (suc a - suc b) (suc b) (omega arith)))
    (λ l. swapped (suc b) (suc a) (by_difference (suc b) (suc a) (omega arith) (scaling_within fuel (suc b - suc a) (suc a) (omega arith)))) (le_or_less (suc a) (suc b))

scaling : (a b : ℕ) → Scaling a b
scaling a b = scaling_within (a + b) a b (omega arith)

plain : (a b : ℕ) (s : Scaling a b) → IsGcd a b s.divisor
plain a b s = subst (λ n. IsGcd n b s.divisor) (times_one a) (subst (λ n. IsGcd (a * 1) n s.divisor) (times_one b) (subst (λ n. IsGcd (a * 1) (b * 1) n) (times_one s.divisor) (s.is 1)))
  where
    times_one : (n : ℕ) → n * 1 ≡ n
    times_one n = omega arith

-- what divides m times each of four numbers that only 1 divides, divides m
pub divides_factor : (x y z w k m : ℕ) → ((d : ℕ) → d ∣ x → d ∣ y → d ∣ z → d ∣ w → d ≡ 1) → k ∣ (x * m) → k ∣ (y * m) → k ∣ (z * m) → k ∣ (w * m) → k ∣ m
divides_factor x y z w k m h i j l n =
    let s = scaling x y in
    let t = scaling s.divisor z in
    let u = scaling t.divisor w in
    let e = plain x y s in
    let f = plain s.divisor z t in
    let g = plain t.divisor w u in
    let one : u.divisor ≡ 1 = h u.divisor (dvd_trans u.divisor (dvd_trans u.divisor g.0 f.0) e.0) (dvd_trans u.divisor (dvd_trans u.divisor g.0 f.0) e.1) (dvd_trans u.divisor g.0 f.1) g.1 in
    let last : k ∣ (u.divisor * m) = (u.is m).2 k ((t.is m).2 k ((s.is m).2 k i j) l) n in
    subst (λ t. k ∣ t) (ap (λ t. t * m) one ∙ one-mul m) last

-- ---- two reduced points at one place
carries : (a b c d : ℤ) → a *ℤ b ≡ c *ℤ d → unsigned_abs d ∣ (unsigned_abs a * unsigned_abs b)
carries a b c d e =
    let f : unsigned_abs c * unsigned_abs d ≡ unsigned_abs a * unsigned_abs b = sym (unsigned_abs-mul c d) ∙ ap unsigned_abs (sym e) ∙ unsigned_abs-mul a b in
    subst (λ t. unsigned_abs d ∣ t) f (dvd-mul_left (unsigned_abs d) (unsigned_abs c))

weight_divides : (p q : Homogeneous) → IsReduced p → SamePoint p q → unsigned_abs p.weight ∣ unsigned_abs q.weight
weight_divides p q r s =
    divides_factor (unsigned_abs p.vector.x) (unsigned_abs p.vector.y) (unsigned_abs p.vector.z) (unsigned_abs p.weight) (unsigned_abs p.weight) (unsigned_abs q.weight) r
    (carries p.vector.x q.weight q.vector.x p.weight s.x) (carries p.vector.y q.weight q.vector.y p.weight s.y) (carries p.vector.z q.weight q.vector.z p.weight s.z)
    (carries p.weight q.weight q.weight p.weight (*ℤ_comm p.weight q.weight))

same_weight : (a b : ℤ) → pos 0 <ℤ a → pos 0 <ℤ b → unsigned_abs a ≡ unsigned_abs b → a ≡ b
same_weight a b h k e = omega (arith, ints)

cancelled : (a b v w : ℤ) → pos 0 <ℤ v → v ≡ w → a *ℤ w ≡ b *ℤ v → a ≡ b
cancelled a b v w h e f = cancel-eq_left v h (*ℤ_comm v a ∙ ap (λ t. a *ℤ t) e ∙ f ∙ *ℤ_comm b v)

pub one_form : (p q : Homogeneous) → pos 0 <ℤ p.weight → pos 0 <ℤ q.weight → IsReduced p → IsReduced q → SamePoint p q → p ≡ q
one_form p q v w r t s =
    let e = same_weight p.weight q.weight v w (dvd_antisymm (weight_divides p q r s) (weight_divides q p t (same_point_sym s))) in
    point_by (vector_by (cancelled p.vector.x q.vector.x p.weight q.weight v e s.x) (cancelled p.vector.y q.vector.y p.weight q.weight v e s.y)
    (cancelled p.vector.z q.vector.z p.weight q.weight v e s.z)) e
