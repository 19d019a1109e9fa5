-- Points of a ray, and the first of them that is in a solid.
use Rattle.std.specs.Prelude.{◌≡◌, ◌≢◌, ℕ, ◌*◌, ◌^◌, ◌<◌, List, ◌∷◌, ◌++◌, length, Option, Some, None, ℤ, pos, ◌*ℤ◌, ◌<ℤ◌, ◌≤ℤ◌, unsigned_abs}
use Rattle.algebra.specs.Members.{Every}
use Rattle.algebra.specs.Space.{Vector, HalfSpace, Homogeneous, minus, plus, scale, side}
use Rattle.trim_laws.specs.Solid.{IsIn, IsInside}

-- The fraction num / den of the way of a ray.
pub record Fraction : Type 0 where
  pub num : ℤ
  pub den : ℤ

-- The point at this fraction of the way from one point to another, and on beyond it.
abbrev pub point_at : (from to : Vector) → Fraction → Homogeneous
point_at from to t = record { vector = plus (scale t.den from) (scale t.num (minus to from)); weight = t.den }

-- The fraction is at least 0.
pub record IsOnRay (t : Fraction) : Type 0 where
  pub nonneg : pos 0 ≤ℤ t.num
  pub positive : pos 0 <ℤ t.den

-- t is less than u.
abbrev pub IsEarlier : Fraction → Fraction → Type 0
IsEarlier t u = (t.num *ℤ u.den) <ℤ (u.num *ℤ t.den)

-- In lowest terms: 1 alone divides both numbers.
abbrev pub IsReduced : ℤ → ℤ → Type 0
IsReduced num den = (divisor a b : ℕ) → divisor * a ≡ unsigned_abs num → divisor * b ≡ unsigned_abs den → divisor ≡ 1

-- A fraction in lowest terms, of at least 0, with numbers below 2^42.
pub record IsRatio (t : Fraction) : Type 0 where
  pub on_ray : IsOnRay t
  pub reduced : IsReduced t.num t.den
  pub num_size : unsigned_abs t.num < 2 ^ 42
  pub den_size : unsigned_abs t.den < 2 ^ 42

-- The ray is in the solid at t, and not earlier.
pub record Reaches (F : List HalfSpace) (from to : Vector) (t : Fraction) : Type 0 where
  pub is_in : IsIn F (point_at from to t)
  pub not_earlier : (u : Fraction) → IsOnRay u → IsEarlier u t → ¬ (IsIn F (point_at from to u))

-- No point of the ray is in the solid.
abbrev pub Misses : List HalfSpace → (from to : Vector) → Type 0
Misses F from to = (u : Fraction) → IsOnRay u → ¬ (IsIn F (point_at from to u))

-- The point is on the plane of the face at place k, and on that of no earlier one.
pub record IsFirstOn (F : List HalfSpace) (p : Homogeneous) (k : ℕ) : Type 0 where
  pub before : List HalfSpace
  pub face : HalfSpace
  pub after : List HalfSpace
  pub parts : F ≡ before ++ face ∷ after
  pub place : length before ≡ k
  pub on : side face p ≡ pos 0
  pub off : Every (λ f. side f p ≢ pos 0) before

-- The face of a hit: the first one whose plane the point is on, and none where the point is inside.
abbrev pub IsFaceAt : List HalfSpace → Homogeneous → Option ℕ → Type 0
IsFaceAt F p None = IsInside F p
IsFaceAt F p (Some k) = IsFirstOn F p k
