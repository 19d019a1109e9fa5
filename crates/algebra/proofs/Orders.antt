-- The order of ℤ with products.
use Rattle.std.proofs.Common.{◌≡◌, ℕ, ◌*◌, ◌<◌, [], ◌∷◌, ap, ◌∙◌, ◌⊎◌, inl, inr, arith, ℤ, pos, negsuc, ◌+ℤ◌, ◌-ℤ◌, ◌*ℤ◌, neg_ℤ, ◌<ℤ◌, ◌≤ℤ◌}
use Rattle.std.proofs.lemmas.Int.{ints, by_lt_z}
use mathlib.Core.Logic.{⊎_elim}
use Rattle.algebra.specs.Fractions.{Fraction≤}
use Rattle.algebra.proofs.Expr.{read}
use Rattle.algebra.proofs.Ring.{ring}

-- ---- signs of sums and products
pub nonneg-mul : {a b : ℤ} → pos 0 ≤ℤ a → pos 0 ≤ℤ b → pos 0 ≤ℤ (a *ℤ b)
nonneg-mul {a = pos m} {b = pos n} h k = omega (arith, ints)
nonneg-mul {a = pos m} {b = negsuc n} h k = absurd k.le
nonneg-mul {a = negsuc m} {b} h k = absurd h.le

positive_times : (m n : ℕ) → 0 < m → 0 < n → 0 < m * n
positive_times m n h k = grind arith

pub positive-mul : {a b : ℤ} → pos 0 <ℤ a → pos 0 <ℤ b → pos 0 <ℤ (a *ℤ b)
positive-mul {a = pos m} {b = pos n} h k = let e = positive_times m n (omega (arith, ints)) (omega (arith, ints)) in omega (arith, ints)
positive-mul {a = pos m} {b = negsuc n} h k = absurd k.lt
positive-mul {a = negsuc m} {b} h k = absurd h.lt

pub nonneg-add : {a b : ℤ} → pos 0 ≤ℤ a → pos 0 ≤ℤ b → pos 0 ≤ℤ (a +ℤ b)
nonneg-add {a} {b} h k = omega (arith, ints)

pub positive-add : {a b : ℤ} → pos 0 <ℤ a → pos 0 ≤ℤ b → pos 0 <ℤ (a +ℤ b)
positive-add {a} {b} h k = omega (arith, ints)

pub positive-add_right : {a b : ℤ} → pos 0 ≤ℤ a → pos 0 <ℤ b → pos 0 <ℤ (a +ℤ b)
positive-add_right {a} {b} h k = omega (arith, ints)

pub nonneg_of_positive : {a : ℤ} → pos 0 <ℤ a → pos 0 ≤ℤ a
nonneg_of_positive {a} h = omega (arith, ints)

pub square_nonneg : (a : ℤ) → pos 0 ≤ℤ (a *ℤ a)
square_nonneg (pos n) = omega (arith, ints)
square_nonneg (negsuc n) = omega (arith, ints)

pub nonneg-neg : {a : ℤ} → a ≤ℤ pos 0 → pos 0 ≤ℤ neg_ℤ a
nonneg-neg {a} h = omega (arith, ints)

pub positive-neg : {a : ℤ} → a <ℤ pos 0 → pos 0 <ℤ neg_ℤ a
positive-neg {a} h = omega (arith, ints)

pub gap-le : {a b : ℤ} → a ≤ℤ b → pos 0 ≤ℤ (b +ℤ neg_ℤ a)
gap-le {a} {b} h = omega (arith, ints)

pub gap-lt : {a b : ℤ} → a <ℤ b → pos 0 <ℤ (b +ℤ neg_ℤ a)
gap-lt {a} {b} h = omega (arith, ints)

-- `search signs` proves that a sum of products is at least 0, or above 0, from hypotheses on what it is made of.
pub ruleset signs = (nonneg-mul, positive-mul, nonneg-add, positive-add, positive-add_right, nonneg-neg, positive-neg, gap-le, gap-lt, square_nonneg, nonneg_of_positive)

-- ---- an order or an equation by a certificate
pub le_by : {a b : ℤ} (r : ℤ) → pos 0 ≤ℤ r → b -ℤ a ≡ r → a ≤ℤ b
le_by {a} {b} r h e = omega (arith, ints)

pub lt_by : {a b : ℤ} (r : ℤ) → pos 0 <ℤ r → b -ℤ a ≡ r → a <ℤ b
lt_by {a} {b} r h e = omega (arith, ints)

pub le_gap : {a b : ℤ} → a ≤ℤ b → pos 0 ≤ℤ (b -ℤ a)
le_gap {a} {b} h = omega (arith, ints)

pub lt_gap : {a b : ℤ} → a <ℤ b → pos 0 <ℤ (b -ℤ a)
lt_gap {a} {b} h = omega (arith, ints)

times_equal : {c d : ℤ} (k : ℤ) → c ≡ d → k *ℤ (c -ℤ d) ≡ pos 0
times_equal {c} {d} k h = ap (λ x. k *ℤ (x -ℤ d)) h ∙ ring (k ∷ d ∷ []) (search read depth 20) tt

-- From one, two or three equations, each times a factor.
pub eq_by : {a b c d : ℤ} (k : ℤ) → c ≡ d → a -ℤ b ≡ k *ℤ (c -ℤ d) → a ≡ b
eq_by {a} {b} k h r = let m = times_equal k h in omega (arith, ints)

pub eq_by_2 : {a b c d e f : ℤ} (k l : ℤ) → c ≡ d → e ≡ f → a -ℤ b ≡ k *ℤ (c -ℤ d) +ℤ l *ℤ (e -ℤ f) → a ≡ b
eq_by_2 {a} {b} k l h i r = let m = times_equal k h in let n = times_equal l i in omega (arith, ints)

pub eq_by_3 : {a b c d e f g h : ℤ} (k l m : ℤ) → c ≡ d → e ≡ f → g ≡ h → a -ℤ b ≡ k *ℤ (c -ℤ d) +ℤ l *ℤ (e -ℤ f) +ℤ m *ℤ (g -ℤ h) → a ≡ b
eq_by_3 {a} {b} k l m h i j r = let u = times_equal k h in let v = times_equal l i in let w = times_equal m j in omega (arith, ints)

-- ---- times a factor, and a positive factor cancelled
pub mul-le_left : (c : ℤ) {a b : ℤ} → pos 0 ≤ℤ c → a ≤ℤ b → (c *ℤ a) ≤ℤ (c *ℤ b)
mul-le_left c {a} {b} p h = le_by (c *ℤ (b -ℤ a)) (nonneg-mul p (le_gap h)) (ring (a ∷ b ∷ c ∷ []) (search read depth 20) tt)

pub mul-lt_left : (c : ℤ) {a b : ℤ} → pos 0 <ℤ c → a <ℤ b → (c *ℤ a) <ℤ (c *ℤ b)
mul-lt_left c {a} {b} p h = lt_by (c *ℤ (b -ℤ a)) (positive-mul p (lt_gap h)) (ring (a ∷ b ∷ c ∷ []) (search read depth 20) tt)

pub cancel-le_left : (c : ℤ) {a b : ℤ} → pos 0 <ℤ c → (c *ℤ a) ≤ℤ (c *ℤ b) → a ≤ℤ b
cancel-le_left c {a} {b} p h = by_lt_z b a (λ l. let s = mul-lt_left c p l in absurd (omega (arith, ints))) (λ l. l)

pub cancel-lt_left : (c : ℤ) {a b : ℤ} → pos 0 <ℤ c → (c *ℤ a) <ℤ (c *ℤ b) → a <ℤ b
cancel-lt_left c {a} {b} p h = by_lt_z a b (λ l. l) (λ l. let s = mul-le_left c (nonneg_of_positive p) l in absurd (omega (arith, ints)))

pub cancel-eq_left : (c : ℤ) {a b : ℤ} → pos 0 <ℤ c → c *ℤ a ≡ c *ℤ b → a ≡ b
cancel-eq_left c {a} {b} p h =
    let l : a ≤ℤ b = cancel-le_left c p (omega (arith, ints)) in
    let m : b ≤ℤ a = cancel-le_left c p (omega (arith, ints)) in
    omega (arith, ints)

times_zero : (c : ℤ) → c *ℤ pos 0 ≡ pos 0
times_zero c = ring (c ∷ []) (search read depth 20) tt

pub positive_of_product : (c : ℤ) {a : ℤ} → pos 0 <ℤ c → pos 0 <ℤ (c *ℤ a) → pos 0 <ℤ a
positive_of_product c {a} p h = let e = times_zero c in cancel-lt_left c p (omega (arith, ints))

pub nonneg_of_product : (c : ℤ) {a : ℤ} → pos 0 <ℤ c → pos 0 ≤ℤ (c *ℤ a) → pos 0 ≤ℤ a
nonneg_of_product c {a} p h = let e = times_zero c in cancel-le_left c p (omega (arith, ints))

pub negative_of_product : (c : ℤ) {a : ℤ} → pos 0 <ℤ c → (c *ℤ a) <ℤ pos 0 → a <ℤ pos 0
negative_of_product c {a} p h = let e = times_zero c in cancel-lt_left c p (omega (arith, ints))

pub nonpos_of_product : (c : ℤ) {a : ℤ} → pos 0 <ℤ c → (c *ℤ a) ≤ℤ pos 0 → a ≤ℤ pos 0
nonpos_of_product c {a} p h = let e = times_zero c in cancel-le_left c p (omega (arith, ints))

pub zero_of_product : (c : ℤ) {a : ℤ} → pos 0 <ℤ c → c *ℤ a ≡ pos 0 → a ≡ pos 0
zero_of_product c {a} p h = let e = times_zero c in cancel-eq_left c p (omega (arith, ints))

pub negative-mul : (c : ℤ) {a : ℤ} → pos 0 <ℤ c → a <ℤ pos 0 → (c *ℤ a) <ℤ pos 0
negative-mul c {a} p h = let e = times_zero c in let l = mul-lt_left c p h in omega (arith, ints)

pub nonpos-mul : (c : ℤ) {a : ℤ} → pos 0 ≤ℤ c → a ≤ℤ pos 0 → (c *ℤ a) ≤ℤ pos 0
nonpos-mul c {a} p h = let e = times_zero c in let l = mul-le_left c p h in omega (arith, ints)

pub zero-mul : (c : ℤ) {a : ℤ} → a ≡ pos 0 → c *ℤ a ≡ pos 0
zero-mul c h = ap (λ x. c *ℤ x) h ∙ times_zero c

-- ---- cases
pub le_or_lt : (a b : ℤ) → (a ≤ℤ b) ⊎ (b <ℤ a)
le_or_lt a b = by_lt_z b a (λ l. inr l) (λ l. inl l)

pub by_sign : {P : Type 0} (a : ℤ) → (a <ℤ pos 0 → P) → (a ≡ pos 0 → P) → (pos 0 <ℤ a → P) → P
by_sign a f g h = by_lt_z a (pos 0) f (λ l. by_lt_z (pos 0) a h (λ m. g (omega (arith, ints))))

pub by_order : {P : Type 0} (a b : ℤ) → (a <ℤ b → P) → (a ≡ b → P) → (b <ℤ a → P) → P
by_order a b f g h = by_lt_z a b f (λ l. by_lt_z b a h (λ m. g (omega (arith, ints))))

-- ---- products and squares that are zero
pub zero_product : (a b : ℤ) → a *ℤ b ≡ pos 0 → (a ≡ pos 0) ⊎ (b ≡ pos 0)
zero_product a b h = by_sign a
    (λ l. let e : neg_ℤ a *ℤ b ≡ pos 0 = eq_by (negsuc 0) h (ring (a ∷ b ∷ []) (search read depth 20) tt) in inr (zero_of_product (neg_ℤ a) (positive-neg l) e))
    (λ e. inl e)
    (λ l. inr (zero_of_product a l h))

-- A factor of a positive product has the sign of the other.
pub positive_product : (a b : ℤ) → pos 0 <ℤ (a *ℤ b) → ((pos 0 <ℤ a) × (pos 0 <ℤ b)) ⊎ ((a <ℤ pos 0) × (b <ℤ pos 0))
positive_product a b h = by_sign a
    (λ l. let e : neg_ℤ a *ℤ b ≡ neg_ℤ (a *ℤ b) = ring (a ∷ b ∷ []) (search read depth 20) tt in
    inr (l, negative_of_product (neg_ℤ a) (positive-neg l) (omega (arith, ints))))
    (λ z. let e : a *ℤ b ≡ pos 0 = eq_by b z (ring (a ∷ b ∷ []) (search read depth 20) tt) in absurd (omega (arith, ints)))
    (λ l. inl (l, positive_of_product a l h))

pub square_zero : (a : ℤ) → a *ℤ a ≡ pos 0 → a ≡ pos 0
square_zero a h = ⊎_elim (λ e. e) (λ e. e) (zero_product a a h)

pub squares_zero : (a b : ℤ) → a *ℤ a +ℤ b *ℤ b ≡ pos 0 → (a ≡ pos 0) × (b ≡ pos 0)
squares_zero a b h = let p = square_nonneg a in let q = square_nonneg b in (square_zero a (omega (arith, ints)), square_zero b (omega (arith, ints)))

pub squares_zero_3 : (a b c : ℤ) → (a *ℤ a +ℤ b *ℤ b +ℤ c *ℤ c) ≤ℤ pos 0 → (a ≡ pos 0) × (b ≡ pos 0) × (c ≡ pos 0)
squares_zero_3 a b c h = let p = square_nonneg a in let q = square_nonneg b in let r = square_nonneg c in
    (square_zero a (omega (arith, ints)), square_zero b (omega (arith, ints)), square_zero c (omega (arith, ints)))

-- ---- fractions
pub fraction_refl : (a p : ℤ) → Fraction≤ a p a p
fraction_refl a p = record { le = omega (arith, ints) }

pub fraction_trans : {a p b q c r : ℤ} → pos 0 <ℤ p → pos 0 <ℤ q → pos 0 <ℤ r → Fraction≤ a p b q → Fraction≤ b q c r → Fraction≤ a p c r
fraction_trans {a} {p} {b} {q} {c} {r} hp hq hr f g = record {
  le = cancel-le_left q hq
      (le_by (r *ℤ (b *ℤ p -ℤ a *ℤ q) +ℤ p *ℤ (c *ℤ q -ℤ b *ℤ r))
      (nonneg-add (nonneg-mul (nonneg_of_positive hr) (le_gap f.le)) (nonneg-mul (nonneg_of_positive hp) (le_gap g.le)))
      (ring (a ∷ p ∷ b ∷ q ∷ c ∷ r ∷ []) (search read depth 20) tt));
}

pub fraction_or : {P : Type 0} (a p b q : ℤ) → (Fraction≤ a p b q → P) → (Fraction≤ b q a p → P) → P
fraction_or a p b q f g = by_lt_z (b *ℤ p) (a *ℤ q) (λ l. g (record { le = omega (arith, ints) })) (λ l. f (record { le = l }))

pub fraction_neg : {a p b q : ℤ} → Fraction≤ (neg_ℤ a) p (neg_ℤ b) q → Fraction≤ b q a p
fraction_neg {a} {p} {b} {q} f = record { le = le_by (neg_ℤ b *ℤ p -ℤ neg_ℤ a *ℤ q) (le_gap f.le) (ring (a ∷ p ∷ b ∷ q ∷ []) (search read depth 20) tt) }

-- ---- numbers in proportion: k s = l t, as a record, so that its arguments are found
pub record Scaled (k s l t : ℤ) : Type 0 where
  pub is : k *ℤ s ≡ l *ℤ t

pub scaled_nonpos : {k s l t : ℤ} → Scaled k s l t → pos 0 <ℤ k → pos 0 <ℤ l → s ≤ℤ pos 0 → t ≤ℤ pos 0
scaled_nonpos {k} {s} {l} {t} e p q h = nonpos_of_product l q (let m = nonpos-mul k (nonneg_of_positive p) h in let i = e.is in omega (arith, ints))

pub scaled_negative : {k s l t : ℤ} → Scaled k s l t → pos 0 <ℤ k → pos 0 <ℤ l → s <ℤ pos 0 → t <ℤ pos 0
scaled_negative {k} {s} {l} {t} e p q h = negative_of_product l q (let m = negative-mul k p h in let i = e.is in omega (arith, ints))

pub scaled_zero : {k s l t : ℤ} → Scaled k s l t → pos 0 <ℤ l → s ≡ pos 0 → t ≡ pos 0
scaled_zero {k} {s} {l} {t} e q h = zero_of_product l q (let m = zero-mul k h in let i = e.is in omega (arith, ints))

pub scaled_positive : {k s l t : ℤ} → Scaled k s l t → pos 0 <ℤ k → pos 0 <ℤ l → pos 0 <ℤ s → pos 0 <ℤ t
scaled_positive {k} {s} {l} {t} e p q h = positive_of_product l q (let m = positive-mul p h in let i = e.is in omega (arith, ints))
