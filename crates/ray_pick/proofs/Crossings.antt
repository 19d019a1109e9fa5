-- Sides along a ray, and which of its points come first.
use Rattle.std.proofs.Common.{◌≡◌, ℤ, pos, ◌*ℤ◌, ◌-ℤ◌, ◌+ℤ◌, ◌<ℤ◌, ◌≤ℤ◌, [], ◌∷◌, arith, sym, subst, neg_ℤ, inl, inr}
use Rattle.std.proofs.lemmas.Int.{ints}
use Rattle.algebra.specs.Space.{Vector, HalfSpace, dot, side, plus, minus, scale, whole_point}
use Rattle.algebra.proofs.Expr.{read}
use Rattle.algebra.proofs.Ring.{ring}
use Rattle.algebra.proofs.Orders.{signs, le_by, lt_by, eq_by, le_gap, lt_gap, le_or_lt, positive-mul, nonpos_of_product, positive_of_product}
use Rattle.algebra.proofs.Identities.{with_vector, with_half_space}
use Rattle.ray_pick.specs.Rays.{Fraction, point_at}

-- ---- the side of a point of the ray
pub side_at : (f : HalfSpace) (a b : Vector) (t : Fraction) →
    side f (point_at a b t) ≡ t.den *ℤ side f (whole_point a) -ℤ t.num *ℤ (side f (whole_point a) -ℤ side f (whole_point b))
unfolding side dot plus minus scale whole_point
side_at f a b t = ring (t.num ∷ t.den ∷ with_half_space f (with_vector a (with_vector b []))) (search read depth 60 fits 20000) tt

-- ---- over plain numbers: a plane has the side s at the ray's first point, and s - d at the second

-- Past the place s / d of a plane that is passed inward: no earlier point is behind it.
pub not_before : (s d a b : ℤ) → (b *ℤ s -ℤ a *ℤ d) ≤ℤ pos 0 → (a *ℤ d) <ℤ (s *ℤ b) → ⊥
not_before s d a b h k = omega (arith, ints)

-- At its own place the ray is on the plane.
pub at_place : (s d : ℤ) → (d *ℤ s -ℤ s *ℤ d) ≤ℤ pos 0
at_place s d = le_by (pos 0) (omega (arith, ints)) (ring (s ∷ d ∷ []) (search read depth 20) tt)

-- A plane whose place isn't later than p / q is passed there.
pub passed_by : (s d p q : ℤ) → ((p *ℤ d) <ℤ (s *ℤ q) → ⊥) → (q *ℤ s -ℤ p *ℤ d) ≤ℤ pos 0
passed_by s d p q h = elim (le_or_lt (s *ℤ q) (p *ℤ d)) [
  | inl l ↦ le_by (p *ℤ d -ℤ s *ℤ q) (le_gap l) (ring (s ∷ d ∷ p ∷ q ∷ []) (search read depth 30) tt)
  | inr k ↦ absurd (h k)
]

-- What was passed at p / q is passed at the later place s / d too.
pub passed_later : (x y p q s d : ℤ) → pos 0 <ℤ y → pos 0 <ℤ q → pos 0 <ℤ d → (q *ℤ x -ℤ p *ℤ y) ≤ℤ pos 0 → (p *ℤ d) <ℤ (s *ℤ q) → (d *ℤ x -ℤ s *ℤ y) ≤ℤ pos 0
passed_later x y p q s d hy hq hd h k =
    nonpos_of_product q hq (le_by (d *ℤ (pos 0 -ℤ (q *ℤ x -ℤ p *ℤ y)) +ℤ y *ℤ (s *ℤ q -ℤ p *ℤ d)) (search signs) (ring (x ∷ y ∷ p ∷ q ∷ s ∷ d ∷ []) (search read depth 40) tt))

-- Where the ray is in front of a plane that it doesn't pass inward, it is at all later points.
pub stays_in_front : (s d p q a b : ℤ) → d ≤ℤ pos 0 → pos 0 <ℤ q → pos 0 <ℤ b → (p *ℤ b) ≤ℤ (a *ℤ q) → pos 0 <ℤ (q *ℤ s -ℤ p *ℤ d) → pos 0 <ℤ (b *ℤ s -ℤ a *ℤ d)
stays_in_front s d p q a b hd hq hb h k =
    positive_of_product q hq (lt_by (b *ℤ (q *ℤ s -ℤ p *ℤ d) +ℤ (pos 0 -ℤ d) *ℤ (a *ℤ q -ℤ p *ℤ b)) (search signs) (ring (s ∷ d ∷ p ∷ q ∷ a ∷ b ∷ []) (search read depth 40) tt))

-- ---- the same fraction by other numbers: x / y is p / q

pub same_side : (s d x y p q : ℤ) → x *ℤ q ≡ p *ℤ y → q *ℤ (y *ℤ s -ℤ x *ℤ d) ≡ y *ℤ (q *ℤ s -ℤ p *ℤ d)
same_side s d x y p q e = eq_by (neg_ℤ d) e (ring (s ∷ d ∷ x ∷ y ∷ p ∷ q ∷ []) (search read depth 40) tt)

pub same_nonpos : (s d x y p q : ℤ) → pos 0 <ℤ y → pos 0 <ℤ q → x *ℤ q ≡ p *ℤ y → (y *ℤ s -ℤ x *ℤ d) ≤ℤ pos 0 → (q *ℤ s -ℤ p *ℤ d) ≤ℤ pos 0
same_nonpos s d x y p q hy hq e h =
    nonpos_of_product y hy (subst (λ z. z ≤ℤ pos 0) (same_side s d x y p q e) (le_by (q *ℤ (pos 0 -ℤ (y *ℤ s -ℤ x *ℤ d))) (search signs) (ring (s ∷ d ∷ x ∷ y ∷ q ∷ []) (search read depth 40) tt)))

-- What is earlier than p / q is earlier than x / y.
pub same_earlier : (a b x y p q : ℤ) → pos 0 <ℤ y → pos 0 <ℤ q → x *ℤ q ≡ p *ℤ y → (a *ℤ q) <ℤ (p *ℤ b) → (a *ℤ y) <ℤ (x *ℤ b)
same_earlier a b x y p q hy hq e h =
    let ahead : pos 0 <ℤ (q *ℤ (x *ℤ b -ℤ a *ℤ y)) =
    subst (λ z. pos 0 <ℤ z) (sym (eq_by b e (ring (a ∷ b ∷ x ∷ y ∷ p ∷ q ∷ []) (search read depth 40) tt))) (positive-mul hy (lt_gap h)) in
    lt_by (x *ℤ b -ℤ a *ℤ y) (positive_of_product q hq ahead) (ring (a ∷ b ∷ x ∷ y ∷ []) (search read depth 30) tt)
