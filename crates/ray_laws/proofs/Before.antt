-- Directly before a point of a ray that is in a solid are further points of the ray in it, unless a plane is crossed there.
use Rattle.std.proofs.Common.{◌≡◌, ◌≢◌, ℕ, suc, ◌+◌, ◌<◌, ◌≤◌, List, [], ◌∷◌, ℤ, pos, ◌*ℤ◌, ◌-ℤ◌, ◌+ℤ◌, ◌<ℤ◌, ◌≤ℤ◌, unsigned_abs, arith, sym, subst, ◌∙◌, ◌⊎◌, inl, inr}
use Rattle.std.proofs.lemmas.Int.{ints}
use Rattle.algebra.specs.Members.{◌∈◌, here, there, Every}
use Rattle.algebra.specs.Space.{Vector, HalfSpace, side, whole_point}
use Rattle.algebra.proofs.Members.{each_of_none, each_of_more}
use Rattle.algebra.proofs.Expr.{read}
use Rattle.algebra.proofs.Ring.{ring}
use Rattle.algebra.proofs.Orders.{le_by, lt_by, by_sign, nonneg-mul, nonneg-add, nonneg_of_positive, positive-mul}
use Rattle.ray_pick.specs.Rays.{Fraction, point_at, IsOnRay, IsEarlier}
use Rattle.ray_pick.proofs.Crossings.{side_at}

-- A fraction that is less than t by as little as n says.
abbrev pub before : Fraction → ℕ → Fraction
before t n = record { num = t.num *ℤ pos (suc n) -ℤ pos 1; den = t.den *ℤ pos (suc n) }

at_least_one : (n : ℕ) → pos 0 <ℤ pos (suc n)
at_least_one n = omega (arith, ints)

above_zero : (x : ℤ) → pos 0 <ℤ x → pos 0 ≤ℤ (x -ℤ pos 1)
above_zero x h = omega (arith, ints)

pub before_on_ray : (t : Fraction) (n : ℕ) → pos 0 <ℤ t.num → pos 0 <ℤ t.den → IsOnRay (before t n)
before_on_ray t n h k = record { nonneg = above_zero (t.num *ℤ pos (suc n)) (positive-mul h (at_least_one n)); positive = positive-mul k (at_least_one n) }

pub before_earlier : (t : Fraction) (n : ℕ) → pos 0 <ℤ t.den → IsEarlier (before t n) t
before_earlier t n k = lt_by t.den k (ring (t.num ∷ t.den ∷ pos (suc n) ∷ []) (search read depth 30) tt)

-- Over plain numbers: a plane has the side s at the ray's first point, and s - d at the second.
gap : (x : ℤ) → x <ℤ pos 0 → pos 0 ≤ℤ (pos 0 -ℤ x -ℤ pos 1)
gap x h = omega (arith, ints)

enough : (d : ℤ) (n : ℕ) → unsigned_abs d ≤ n → pos 0 ≤ℤ (pos (suc n) -ℤ d)
enough d n h = omega (arith, ints)

still_behind : (s d p q : ℤ) (n : ℕ) → unsigned_abs d ≤ n → (q *ℤ s -ℤ p *ℤ d) <ℤ pos 0 → ((q *ℤ pos (suc n)) *ℤ s -ℤ (p *ℤ pos (suc n) -ℤ pos 1) *ℤ d) ≤ℤ pos 0
still_behind s d p q n h k =
    le_by (pos (suc n) *ℤ (pos 0 -ℤ (q *ℤ s -ℤ p *ℤ d) -ℤ pos 1) +ℤ (pos (suc n) -ℤ d))
    (nonneg-add (nonneg-mul (nonneg_of_positive (at_least_one n)) (gap (q *ℤ s -ℤ p *ℤ d) k)) (enough d n h))
    (ring (s ∷ d ∷ p ∷ q ∷ pos (suc n) ∷ []) (search read depth 40) tt)

still_on : (s d p q : ℤ) (n : ℕ) → d ≡ pos 0 → q *ℤ s -ℤ p *ℤ d ≡ pos 0 → ((q *ℤ pos (suc n)) *ℤ s -ℤ (p *ℤ pos (suc n) -ℤ pos 1) *ℤ d) ≤ℤ pos 0
still_on s d p q n z e =
    let same : (q *ℤ pos (suc n)) *ℤ s -ℤ (p *ℤ pos (suc n) -ℤ pos 1) *ℤ d ≡ pos (suc n) *ℤ (q *ℤ s -ℤ p *ℤ d) +ℤ d =
    ring (s ∷ d ∷ p ∷ q ∷ pos (suc n) ∷ []) (search read depth 40) tt in
    let none : pos (suc n) *ℤ (q *ℤ s -ℤ p *ℤ d) +ℤ d ≡ pos (suc n) *ℤ pos 0 +ℤ pos 0 = λ i. pos (suc n) *ℤ e i +ℤ z i in
    subst (λ x. x ≤ℤ pos 0) (sym (same ∙ none)) (omega (arith, ints))

module _ (a b : Vector) (t : Fraction) where
  abbrev pub fall : HalfSpace → ℤ
  fall f = side f (whole_point a) -ℤ side f (whole_point b)

  -- The ray crosses a plane at t.
  pub record Crosses (F : List HalfSpace) : Type 0 where
    pub face : HalfSpace
    pub member : face ∈ F
    pub on : side face (point_at a b t) ≡ pos 0
    pub falls : fall face ≢ pos 0

  -- All points from there back, near enough, are behind or on each plane.
  pub record IsInBefore (F : List HalfSpace) : Type 0 where
    pub least : ℕ
    pub is_in : (n : ℕ) → least ≤ n → Every (λ f. side f (point_at a b (before t n)) ≤ℤ pos 0) F

  behind_one : (f : HalfSpace) (n : ℕ) → unsigned_abs (fall f) ≤ n → side f (point_at a b t) <ℤ pos 0 → side f (point_at a b (before t n)) ≤ℤ pos 0
  behind_one f n h k =
      subst (λ z. z ≤ℤ pos 0) (sym (side_at f a b (before t n)))
      (still_behind (side f (whole_point a)) (fall f) t.num t.den n h (subst (λ z. z <ℤ pos 0) (side_at f a b t) k))

  on_one : (f : HalfSpace) (n : ℕ) → fall f ≡ pos 0 → side f (point_at a b t) ≡ pos 0 → side f (point_at a b (before t n)) ≤ℤ pos 0
  on_one f n h k =
      subst (λ z. z ≤ℤ pos 0) (sym (side_at f a b (before t n))) (still_on (side f (whole_point a)) (fall f) t.num t.den n h (sym (side_at f a b t) ∙ k))

  later_crossed : (f : HalfSpace) (F : List HalfSpace) → Crosses F → Crosses (f ∷ F)
  later_crossed f F c = record { face = c.face; member = there c.member; on = c.on; falls = c.falls }

  one_more : (f : HalfSpace) (F : List HalfSpace) (m : ℕ) → ((n : ℕ) → m ≤ n → side f (point_at a b (before t n)) ≤ℤ pos 0) → IsInBefore F → IsInBefore (f ∷ F)
  one_more f F m h k = record {
    least = m + k.least;
    is_in = λ n l. each_of_more (λ g. side g (point_at a b (before t n)) ≤ℤ pos 0) f F (h n (omega arith)) (k.is_in n (omega arith));
  }

  with_one : (f : HalfSpace) (F : List HalfSpace) → side f (point_at a b t) ≤ℤ pos 0 → Crosses F ⊎ IsInBefore F → Crosses (f ∷ F) ⊎ IsInBefore (f ∷ F)
  with_one f F h (inl c) = inl (later_crossed f F c)
  with_one f F h (inr k) =
      by_sign (side f (point_at a b t))
      (λ l. inr (one_more f F (unsigned_abs (fall f)) (λ n m. behind_one f n m l) k))
      (λ on. by_sign (fall f)
      (λ l. inl (record { face = f; member = here; on = on; falls = λ z. not_zero (fall f) l z }))
      (λ z. inr (one_more f F 0 (λ n m. on_one f n z on) k))
      (λ l. inl (record { face = f; member = here; on = on; falls = λ z. not_zero_above (fall f) l z })))
      (λ l. absurd (both (side f (point_at a b t)) h l))
    where
      not_zero : (x : ℤ) → x <ℤ pos 0 → x ≡ pos 0 → ⊥
      not_zero x l z = omega (arith, ints)

      not_zero_above : (x : ℤ) → pos 0 <ℤ x → x ≡ pos 0 → ⊥
      not_zero_above x l z = omega (arith, ints)

      both : (x : ℤ) → x ≤ℤ pos 0 → pos 0 <ℤ x → ⊥
      both x l m = omega (arith, ints)

  pub crossed_or_in : (F : List HalfSpace) → Every (λ f. side f (point_at a b t) ≤ℤ pos 0) F → Crosses F ⊎ IsInBefore F
  crossed_or_in [] h = inr (record { least = 0; is_in = λ n l. each_of_none (λ g. side g (point_at a b (before t n)) ≤ℤ pos 0) })
  crossed_or_in (f ∷ F) h = with_one f F (h f here) (crossed_or_in F (λ g i. h g (there i)))
