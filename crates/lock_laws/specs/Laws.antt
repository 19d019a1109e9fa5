-- What is asserted of faces that are carried with lock, and of the numbers that are computed for them.
use Rattle.std.specs.Prelude.{◌≡◌, ◌≢◌, ◌↔◌, ℕ, ◌<◌, true, IsTrue, ◌∷◌, [], Some, ℤ, pos, ◌*ℤ◌, ◌≤ℤ◌, unsigned_abs}
use Rattle.algebra.specs.Space.{Vector, Homogeneous}
use Rattle.exact_geom.specs.Planes.{parts}
use Rattle.orient48.specs.Motions.{Motion, is_signed_permutation, after, back, moved_at}
use Rattle.uv_lock.specs.declared.face.Face.{Face}
use Rattle.uv_lock.specs.declared.texture.Tex.{Tex}
use Rattle.uv_lock.specs.declared.texture.Tex.TheVariants.{Standard, Valve}
use Rattle.uv_lock.specs.declared.texture.ValveTex.{ValveTex}
use Rattle.fixed_num.specs.Fraction.{IsReduced}
use Rattle.uv_lock.specs.Carry.{carry, exact_quotient, offset_limit}
use Rattle.uv_lock.specs.Coordinates.{coordinates}
use Rattle.uv_lock.specs.Fractions.{Fraction, fraction}

-- The motion's matrix is one of the 48.
abbrev pub Turns : Motion → Type 0
Turns r = IsTrue (is_signed_permutation r.matrix)

-- Two axes of three parts each, and two offsets below the limit, as the fields of a face have them.
pub record HasLimits (t : ValveTex) : Type 0 where
  pub u_axis : Vector
  pub v_axis : Vector
  pub axes : t.axis ≡ parts u_axis ∷ parts v_axis ∷ []
  pub u : ℤ
  pub v : ℤ
  pub offsets : t.off ≡ u ∷ v ∷ []
  pub u_small : unsigned_abs u < offset_limit
  pub v_small : unsigned_abs v < offset_limit

abbrev pub IsInLimits : Tex → Type 0
IsInLimits (Standard t) = Unit {0}
IsInLimits (Valve t) = HasLimits t

pub record Locks : Type 0 where
  -- Where a point of a Valve face goes, the face has there the coordinates that it had at the point.
  pub kept : (r : Motion) (f g : Face) (t : ValveTex) (p : Homogeneous) → Turns r → f.tex ≡ Valve t → carry true r f ≡ Some g → coordinates g (moved_at r p) ≡ coordinates f p
  -- What is carried by r and then by s is carried by both at once.
  pub composed : (r s : Motion) (f g : Face) → Turns r → Turns s → carry true r f ≡ Some g → carry true s g ≡ carry true (after s r) f
  -- The way back leads to the face of before.
  pub undone : (r : Motion) (f g : Face) → Turns r → IsInLimits f.tex → carry true r f ≡ Some g → carry true (back r) g ≡ Some f

-- The fraction is n / d, in lowest terms and with a denominator of at least 1.
pub record IsLowest (n d : ℤ) (f : Fraction) : Type 0 where
  pub value : f.num *ℤ d ≡ n *ℤ f.den
  pub positive : pos 1 ≤ℤ f.den
  pub reduced : IsReduced f.num f.den

pub record Divides : Type 0 where
  -- The fraction of two numbers is theirs.
  pub fractions : (n d : ℤ) → d ≢ pos 0 → IsLowest n d (fraction n d)
  -- A quotient is found exactly where there is one.
  pub quotients : (n d k : ℤ) (limit : ℕ) → d ≢ pos 0 → (exact_quotient n d limit ≡ Some k) ↔ ((k *ℤ d ≡ n) × (unsigned_abs k < limit))
