-- Vectors that are zero, and vectors that are not: that a is not zero is said as 0 < a . a.
use Rattle.std.proofs.Common.{◌≡◌, [], ◌∷◌, arith, ℤ, pos, negsuc, ◌+ℤ◌, ◌-ℤ◌, ◌*ℤ◌, neg_ℤ, ◌<ℤ◌, ◌≤ℤ◌}
use Rattle.std.proofs.lemmas.Int.{ints, by_lt_z}
use Rattle.algebra.specs.Space.{Vector, dot, cross, scale, det}
use Rattle.algebra.specs.Laws.{Cauchy}
use Rattle.algebra.proofs.Expr.{read}
use Rattle.algebra.proofs.Ring.{ring}
use Rattle.algebra.proofs.Orders.{signs, le_by, lt_by, eq_by, eq_by_3, square_nonneg, squares_zero, squares_zero_3, positive-mul, zero_of_product}
use Rattle.algebra.proofs.Identities.{with_vector, binet_cauchy, dot-neg, norm-neg, cramer-x, cramer-y, cramer-z}

pub cauchy : Cauchy
unfolding dot cross
cauchy a b = le_by (dot (cross a b) (cross a b)) (search signs) (ring (with_vector a (with_vector b [])) (search read depth 20) tt)

pub norm_nonneg : (a : Vector) → pos 0 ≤ℤ dot a a
unfolding dot
norm_nonneg a = search signs

-- ---- zero
pub record IsZero (a : Vector) : Type 0 where
  pub x : a.x ≡ pos 0
  pub y : a.y ≡ pos 0
  pub z : a.z ≡ pos 0

pub is_zero : (a : Vector) → dot a a ≤ℤ pos 0 → IsZero a
unfolding dot
is_zero a h = let s = squares_zero_3 a.x a.y a.z h in record { x = s.0; y = s.1; z = s.2 }

pub dot-zero_left : (a b : Vector) → IsZero a → dot a b ≡ pos 0
unfolding dot
dot-zero_left a b h = eq_by_3 b.x b.y b.z h.x h.y h.z (ring (with_vector a (with_vector b [])) (search read depth 20) tt)

pub dot-zero_right : (a b : Vector) → IsZero b → dot a b ≡ pos 0
unfolding dot
dot-zero_right a b h = eq_by_3 a.x a.y a.z h.x h.y h.z (ring (with_vector a (with_vector b [])) (search read depth 20) tt)

-- A vector that is flat to three independent ones is zero.
pub zero_by_3 : (a b c d : Vector) → pos 0 <ℤ det a b c → dot a d ≡ pos 0 → dot b d ≡ pos 0 → dot c d ≡ pos 0 → IsZero d
zero_by_3 a b c d p h k l = record {
  x = zero_of_product (det a b c) p (eq_by_3 (cross b c).x (cross c a).x (cross a b).x h k l (at_3 (det a b c *ℤ d.x) (dot a d) (dot b d) (dot c d) (cross b c).x (cross c a).x (cross a b).x (cramer-x a b c d)));
  y = zero_of_product (det a b c) p (eq_by_3 (cross b c).y (cross c a).y (cross a b).y h k l (at_3 (det a b c *ℤ d.y) (dot a d) (dot b d) (dot c d) (cross b c).y (cross c a).y (cross a b).y (cramer-y a b c d)));
  z = zero_of_product (det a b c) p (eq_by_3 (cross b c).z (cross c a).z (cross a b).z h k l (at_3 (det a b c *ℤ d.z) (dot a d) (dot b d) (dot c d) (cross b c).z (cross c a).z (cross a b).z (cramer-z a b c d)));
}
  where
    at_3 : (v x y z k l m : ℤ) → v ≡ x *ℤ k +ℤ y *ℤ l +ℤ z *ℤ m → v -ℤ pos 0 ≡ k *ℤ (x -ℤ pos 0) +ℤ l *ℤ (y -ℤ pos 0) +ℤ m *ℤ (z -ℤ pos 0)
    at_3 v x y z k l m e = eq_by (pos 1) e (ring (v ∷ x ∷ y ∷ z ∷ k ∷ l ∷ m ∷ []) (search read depth 20) tt)

-- ---- not zero
positive_by : (s a b : ℤ) → pos 0 <ℤ s → pos 0 ≤ℤ a → (s *ℤ s) ≤ℤ (a *ℤ b) → pos 0 <ℤ a
positive_by s a b p q h = by_lt_z (pos 0) a (λ l. l) (λ l.
    let z : a ≡ pos 0 = omega (arith, ints) in
    let e : a *ℤ b ≡ pos 0 = eq_by b z (ring (a ∷ b ∷ []) (search read depth 20) tt) in
    let r = positive-mul p p in absurd (omega (arith, ints)))

pub nonzero : (a b : Vector) → pos 0 <ℤ dot a b → pos 0 <ℤ dot a a
nonzero a b h = positive_by (dot a b) (dot a a) (dot b b) h (norm_nonneg a) (cauchy a b)

cross_plain : (l a b c d : ℤ) → l ≡ a *ℤ b -ℤ c *ℤ d → c ≡ pos 0 → pos 0 <ℤ a → pos 0 <ℤ b → pos 0 <ℤ l
cross_plain l a b c d e z p q = let r = positive-mul p q in let y : c *ℤ d ≡ pos 0 = eq_by d z (ring (c ∷ d ∷ []) (search read depth 20) tt) in omega (arith, ints)

-- Where m is flat to a and not to b, a and b are independent.
pub cross_nonzero : (a b m : Vector) → dot a m ≡ pos 0 → pos 0 <ℤ dot a a → pos 0 <ℤ dot b m → pos 0 <ℤ dot (cross a b) (cross a b)
cross_nonzero a b m z p q = nonzero (cross a b) (cross a m) (cross_plain (dot (cross a b) (cross a m)) (dot a a) (dot b m) (dot a m) (dot b a) (binet_cauchy a b a m) z p q)

-- ---- a direction across a, down on k
pub record Across (a k : Vector) : Type 0 where
  pub way : Vector
  pub some : pos 0 <ℤ dot way way
  pub flat : dot a way ≡ pos 0
  pub down : dot k way ≤ℤ pos 0

across_some : (a : Vector) → (m : Vector) × (pos 0 <ℤ dot m m) × (dot a m ≡ pos 0)
unfolding dot
across_some a = by_lt_z (pos 0) (a.x *ℤ a.x +ℤ a.y *ℤ a.y)
    (λ l. (
      record { x = a.y; y = neg_ℤ a.x; z = pos 0 },
      lt_by (a.x *ℤ a.x +ℤ a.y *ℤ a.y) l (ring (with_vector a []) (search read depth 20) tt),
      ring (with_vector a []) (search read depth 20) tt,
    ))
    (λ l. let p = square_nonneg a.x in let q = square_nonneg a.y in
    let e : a.x *ℤ a.x +ℤ a.y *ℤ a.y ≡ pos 0 = omega (arith, ints) in
    let z = (squares_zero a.x a.y e).0 in
    (record { x = pos 1; y = pos 0; z = pos 0 }, omega (arith, ints), eq_by (pos 1) z (ring (with_vector a []) (search read depth 20) tt)))

neg_zero : {a : ℤ} → a ≡ pos 0 → neg_ℤ a ≡ pos 0
neg_zero {a} h = omega (arith, ints)

neg_le : {a : ℤ} → pos 0 <ℤ a → neg_ℤ a ≤ℤ pos 0
neg_le {a} h = omega (arith, ints)

down_by : (a k m : Vector) → pos 0 <ℤ dot m m → dot a m ≡ pos 0 → Across a k
down_by a k m s z = by_lt_z (pos 0) (dot k m)
    (λ l. record { way = scale (negsuc 0) m; some = rw norm-neg s; flat = rw dot-neg (neg_zero z); down = rw dot-neg (neg_le l) })
    (λ l. record { way = m; some = s; flat = z; down = l })

pub across : (a k : Vector) → Across a k
across a k = let m = across_some a in down_by a k m.0 m.1 m.2
