-- Each point has a reduced form.
use Rattle.std.proofs.Common.{◌≡◌, ℕ, zero, suc, ◌*◌, ◌<◌, ◌≤◌, [], ◌∷◌, arith, sym, subst, ◌∙◌, mul_comm, one-mul, lit<, ℤ, pos, neg_ℤ, ◌*ℤ◌, ◌<ℤ◌, unsigned_abs}
use Rattle.std.specs.Int.{◌∣◌}
use Rattle.std.specs.Prelude.{int_div}
use Rattle.std.proofs.lemmas.Int.{ints}
use Rattle.std.proofs.lemmas.Nat.Gcd.{le_of_dvd}
use Rattle.std.proofs.Math.Nat.{eq-zero_of_zero-dvd, mul-dvd-mul_right, dvd_of_mul-dvd-mul_right}
use Rattle.algebra.specs.Space.{Homogeneous, SamePoint}
use Rattle.algebra.proofs.Expr.{read}
use Rattle.algebra.proofs.Ring.{ring}
use Rattle.algebra.proofs.Orders.{eq_by_2, positive_of_product}
use Rattle.exact_geom.specs.Vertices.{homogeneous, IsReduced}
use Rattle.exact_geom.proofs.Division.{DividesFour, divisor_positive, exact, size_of_quotient}
use Rattle.solid_laws.specs.Laws.{ReducedFormLaw}
use Rattle.solid_laws.proofs.Divisor.{divisor_of_four}

-- ---- the numbers of p, divided by their greatest common divisor
record IsPart (g : ℕ) (p q : Homogeneous) : Type 0 where
  x : p.vector.x ≡ pos g *ℤ q.vector.x
  y : p.vector.y ≡ pos g *ℤ q.vector.y
  z : p.vector.z ≡ pos g *ℤ q.vector.z
  weight : p.weight ≡ pos g *ℤ q.weight

one_only : (k : ℕ) → k ∣ 1 → k ≡ 1
one_only zero h = let e = eq-zero_of_zero-dvd h in absurd (omega arith)
one_only (suc k) h = let l : suc k ≤ 1 = le_of_dvd (lit< tt) h in omega arith

-- A divisor of the quotient, times g, divides the number.
carried : (k g : ℕ) (x q : ℤ) → x ≡ pos g *ℤ q → k ∣ unsigned_abs q → (k * g) ∣ unsigned_abs x
carried k g x q e h =
    let size : unsigned_abs q * g ≡ unsigned_abs x = mul_comm (unsigned_abs q) g ∙ sym (size_of_quotient x (pos g) q e) in
    subst (λ n. (k * g) ∣ n) size (mul-dvd-mul_right k h g)

part_reduced : (g : ℕ) (p q : Homogeneous) → IsPart g p q → 0 < g →
    DividesFour g (unsigned_abs p.vector.x) (unsigned_abs p.vector.y) (unsigned_abs p.vector.z) (unsigned_abs p.weight) → IsReduced q
part_reduced g p q m some f = λ n i j l o. one_only n (dvd_of_mul-dvd-mul_right n some (subst (λ t. (n * g) ∣ t) (sym (one-mul g))
    (f.greatest (n * g) (carried n g p.vector.x q.vector.x m.x i) (carried n g p.vector.y q.vector.y m.y j) (carried n g p.vector.z q.vector.z m.z l) (carried n g p.weight q.weight m.weight o))))

same_plain : (g a b v w : ℤ) → a ≡ g *ℤ b → v ≡ g *ℤ w → a *ℤ w ≡ b *ℤ v
same_plain g a b v w e f = eq_by_2 w (neg_ℤ b) e f (ring (g ∷ a ∷ b ∷ v ∷ w ∷ []) (search read depth 20) tt)

part_same : (g : ℕ) (p q : Homogeneous) → IsPart g p q → SamePoint p q
part_same g p q m = record {
  x = same_plain (pos g) p.vector.x q.vector.x p.weight q.weight m.x m.weight;
  y = same_plain (pos g) p.vector.y q.vector.y p.weight q.weight m.y m.weight;
  z = same_plain (pos g) p.vector.z q.vector.z p.weight q.weight m.z m.weight;
}

quotients : Homogeneous → ℕ → Homogeneous
quotients p g = homogeneous (int_div p.vector.x (pos g)) (int_div p.vector.y (pos g)) (int_div p.vector.z (pos g)) (int_div p.weight (pos g))

is_part : (p : Homogeneous) (g : ℕ) → DividesFour g (unsigned_abs p.vector.x) (unsigned_abs p.vector.y) (unsigned_abs p.vector.z) (unsigned_abs p.weight) → IsPart g p (quotients p g)
unfolding quotients
is_part p g f = record {
  x = exact p.vector.x (pos g) f.first;
  y = exact p.vector.y (pos g) f.second;
  z = exact p.vector.z (pos g) f.third;
  weight = exact p.weight (pos g) f.fourth;
}

positive_size : (w : ℤ) → pos 0 <ℤ w → 0 < unsigned_abs w
positive_size w h = omega (arith, ints)

positive_number : (g : ℕ) → 0 < g → pos 0 <ℤ pos g
positive_number g h = omega (arith, ints)

pub reduced_form : ReducedFormLaw
reduced_form p w =
    let d = divisor_of_four (unsigned_abs p.vector.x) (unsigned_abs p.vector.y) (unsigned_abs p.vector.z) (unsigned_abs p.weight) in
    let some = divisor_positive d.divisor (unsigned_abs p.weight) d.divides.fourth (positive_size p.weight w) in
    let m = is_part p d.divisor d.divides in record {
      form = quotients p d.divisor;
      positive = positive_of_product (pos d.divisor) (positive_number d.divisor some) (subst (λ t. pos 0 <ℤ t) m.weight w);
      reduced = part_reduced d.divisor p (quotients p d.divisor) m some d.divides;
      same = part_same d.divisor p (quotients p d.divisor) m;
    }
