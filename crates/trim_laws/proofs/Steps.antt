-- Short steps: so short that what was below 0 stays so.
use Rattle.std.proofs.Common.{◌≡◌, List, [], ◌∷◌, arith, ℤ, pos, negsuc, ◌+ℤ◌, ◌-ℤ◌, ◌*ℤ◌, neg_ℤ, ◌<ℤ◌, ◌≤ℤ◌}
use Rattle.std.proofs.lemmas.Int.{ints, by_lt_z}
use Rattle.algebra.specs.Members.{◌∈◌}
use Rattle.algebra.proofs.Expr.{read}
use Rattle.algebra.proofs.Ring.{ring}
use Rattle.algebra.proofs.Orders.{signs, lt_by, eq_by_2, square_nonneg, zero-mul}
use Rattle.algebra.proofs.Members.{each_of_more}

-- ---- a factor n that keeps the sign of s, whatever g is added
pub record Small {A : Type 0} (s g : A → ℤ) (xs : List A) : Type 0 where
  pub n : ℤ
  pub positive : pos 0 <ℤ n
  pub below : (x : A) → x ∈ xs → s x <ℤ pos 0 → (n *ℤ s x +ℤ g x) <ℤ pos 0

more_plain : (n k s g : ℤ) → pos 0 ≤ℤ k → s <ℤ pos 0 → (n *ℤ s +ℤ g) <ℤ pos 0 → ((n +ℤ k) *ℤ s +ℤ g) <ℤ pos 0
more_plain n k s g h l m = lt_by ((pos 0 -ℤ (n *ℤ s +ℤ g)) +ℤ k *ℤ (pos 0 -ℤ s)) (search signs) (ring (n ∷ k ∷ s ∷ g ∷ []) (search read depth 20) tt)

enough_plain : (n s g : ℤ) → pos 0 <ℤ n → s <ℤ pos 0 → ((n +ℤ g *ℤ g) *ℤ s +ℤ g) <ℤ pos 0
enough_plain n s g h l = by_lt_z g (pos 1)
    (λ m. lt_by (n *ℤ (pos 0 -ℤ s) +ℤ ((g *ℤ g) *ℤ (pos 0 -ℤ s) +ℤ (pos 0 -ℤ g))) (let z : g ≤ℤ pos 0 = omega (arith, ints) in search signs) (ring (n ∷ s ∷ g ∷ []) (search read depth 20) tt))
    (λ m. lt_by (n *ℤ (pos 0 -ℤ s) +ℤ ((g *ℤ g) *ℤ ((pos 0 -ℤ s) -ℤ pos 1) +ℤ g *ℤ (g -ℤ pos 1)))
    (let z : s ≤ℤ negsuc 0 = omega (arith, ints) in let y : pos 0 ≤ℤ ((pos 0 -ℤ s) -ℤ pos 1) = omega (arith, ints) in let x : pos 0 ≤ℤ g = omega (arith, ints) in search signs) (ring (n ∷ s ∷ g ∷ []) (search read depth 20) tt))

pub small : {A : Type 0} (s g : A → ℤ) (xs : List A) → Small s g xs
small s g [] = record { n = pos 1; positive = omega (arith, ints); below = λ x i. elim i [ ] }
small s g (y ∷ ys) = let r = small s g ys in record {
  n = r.n +ℤ g y *ℤ g y;
  positive = let p = r.positive in search signs;
  below = each_of_more (λ x. s x <ℤ pos 0 → ((r.n +ℤ g y *ℤ g y) *ℤ s x +ℤ g x) <ℤ pos 0) y ys
      (λ l. enough_plain r.n (s y) (g y) r.positive l)
      (λ x i l. more_plain r.n (g y *ℤ g y) (s x) (g x) (square_nonneg (g y)) l (r.below x i l));
}

-- ---- a step over plain numbers: a is the side before it, b the slope
once : (b : ℤ) → pos 1 *ℤ b ≡ b
once b = ring (b ∷ []) (search read depth 20) tt

pub step_flat : (n a b : ℤ) → a ≡ pos 0 → b ≡ pos 0 → n *ℤ a +ℤ pos 1 *ℤ b ≡ pos 0
step_flat n a b h k = eq_by_2 n (pos 1) h k (ring (n ∷ a ∷ b ∷ []) (search read depth 20) tt)

pub step_behind : (n a b : ℤ) → a ≡ pos 0 → b <ℤ pos 0 → (n *ℤ a +ℤ pos 1 *ℤ b) <ℤ pos 0
step_behind n a b h k = let e = zero-mul n h in let d = once b in omega (arith, ints)

pub step_front : (n a b : ℤ) → a ≡ pos 0 → pos 0 <ℤ b → pos 0 <ℤ (n *ℤ a +ℤ pos 1 *ℤ b)
step_front n a b h k = let e = zero-mul n h in let d = once b in omega (arith, ints)

pub step_short : (n a b : ℤ) → (n *ℤ a +ℤ b) <ℤ pos 0 → (n *ℤ a +ℤ pos 1 *ℤ b) <ℤ pos 0
step_short n a b h = let d = once b in omega (arith, ints)

-- Towards a point on whose side a it is, from one on whose side b it is, until the step is behind.
pub square_and_1 : (b : ℤ) → pos 0 <ℤ (b *ℤ b +ℤ pos 1)
square_and_1 b = let y = square_nonneg b in omega (arith, ints)

pub toward_plain : (a b : ℤ) → a <ℤ pos 0 → ((b *ℤ b +ℤ pos 1) *ℤ a +ℤ neg_ℤ a *ℤ b) <ℤ pos 0
toward_plain a b h = by_lt_z b (pos 1)
    (λ m. let z : b ≤ℤ pos 0 = omega (arith, ints) in lt_by ((pos 0 -ℤ a) *ℤ (b *ℤ b +ℤ (pos 1 -ℤ b))) (let y = square_nonneg b in let x : pos 0 <ℤ (b *ℤ b +ℤ (pos 1 -ℤ b)) = omega (arith, ints) in search signs) (ring (a ∷ b ∷ []) (search read depth 20) tt))
    (λ m. let y : pos 0 ≤ℤ (b -ℤ pos 1) = omega (arith, ints) in let x : pos 0 ≤ℤ b = omega (arith, ints) in lt_by ((pos 0 -ℤ a) *ℤ (b *ℤ (b -ℤ pos 1) +ℤ pos 1)) (let z : pos 0 <ℤ pos 1 = omega (arith, ints) in search signs) (ring (a ∷ b ∷ []) (search read depth 20) tt))

-- ---- signs
pub below_le : {a : ℤ} → a <ℤ pos 0 → a ≤ℤ pos 0
below_le {a} h = omega (arith, ints)

pub zero_le : {a : ℤ} → a ≡ pos 0 → a ≤ℤ pos 0
zero_le {a} h = omega (arith, ints)

pub neg_below : {a : ℤ} → pos 0 <ℤ a → neg_ℤ a <ℤ pos 0
neg_below {a} h = omega (arith, ints)

pub neg_le : {a : ℤ} → pos 0 <ℤ a → neg_ℤ a ≤ℤ pos 0
neg_le {a} h = omega (arith, ints)
