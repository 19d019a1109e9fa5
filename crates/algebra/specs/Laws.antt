-- The laws that tell most.
use Rattle.std.specs.Prelude.{◌≡◌, ◌⊎◌, List, ℤ, pos, ◌+ℤ◌, ◌*ℤ◌, ◌<ℤ◌, ◌≤ℤ◌}
use Rattle.algebra.specs.Members.{◌∈◌, Every}
use Rattle.algebra.specs.Fractions.{Fraction≤, Greatest, Least, NoneAhead}
use Rattle.algebra.specs.Space.{Vector, Homogeneous, HalfSpace, SamePoint, dot, side, reverse, through, whole_point, mix, meet}
use Rattle.algebra.specs.Ratio.{Hit}

-- Fractions are in order: it is transitive, and of any two one is at most the other.
pub record FractionOrder : Type 0 where
  pub transitive : (a p b q c r : ℤ) → pos 0 <ℤ p → pos 0 <ℤ q → pos 0 <ℤ r → Fraction≤ a p b q → Fraction≤ b q c r → Fraction≤ a p c r
  pub total : (a p b q : ℤ) → Fraction≤ a p b q ⊎ Fraction≤ b q a p

-- Of the fractions s / g of a list one is the greatest and one is the least, unless no g is above 0.
abbrev pub GreatestAndLeast : Type 0 → Type 0
GreatestAndLeast A = (s g : A → ℤ) (xs : List A) → NoneAhead g xs ⊎ (Greatest s g xs × Least s g xs)

-- A point of some half-spaces goes along m until it is on the plane of one, if one lies ahead.
abbrev pub RatioTest : Type 0
RatioTest = (F : List HalfSpace) (p : Homogeneous) (m : Vector) → Every (λ f. side f p ≤ℤ pos 0) F →
    (e : HalfSpace) → e ∈ F → pos 0 <ℤ dot e.normal m → Hit F p m

-- The side of a mix is the mix of the sides.
abbrev pub SideOfMix : Type 0
SideOfMix = (s : ℤ) (p : Homogeneous) (t : ℤ) (q : Homogeneous) (f : HalfSpace) → side f (mix s p t q) ≡ s *ℤ side f p +ℤ t *ℤ side f q

-- A point is on each of three planes, and it is the only one where its weight isn't 0, that is where the normals are independent.
pub record IsCommonPoint (f g h : HalfSpace) (c : Homogeneous) : Type 0 where
  pub on_f : side f c ≡ pos 0
  pub on_g : side g c ≡ pos 0
  pub on_h : side h c ≡ pos 0
  pub only : (p : Homogeneous) → side f p ≡ pos 0 → side g p ≡ pos 0 → side h p ≡ pos 0 → SamePoint p c

abbrev pub CommonPoint : Type 0
CommonPoint = (f g h : HalfSpace) → IsCommonPoint f g h (meet f g h)

-- The three points lie on their plane; with the first and the last swapped it is the other half-space.
pub record IsPlaneThrough (a b c : Vector) : Type 0 where
  pub first : side (through a b c) (whole_point a) ≡ pos 0
  pub second : side (through a b c) (whole_point b) ≡ pos 0
  pub third : side (through a b c) (whole_point c) ≡ pos 0
  pub swapped : through c b a ≡ reverse (through a b c)

abbrev pub PlaneThrough : Type 0
PlaneThrough = (a b c : Vector) → IsPlaneThrough a b c

-- The product of two vectors is at most that of their lengths.
abbrev pub Cauchy : Type 0
Cauchy = (a b : Vector) → (dot a b *ℤ dot a b) ≤ℤ (dot a a *ℤ dot b b)
