-- Arithmetic of 8 to 128 bits: what takes the conversions off sums and products whose bounds say that they fit.
use Rattle.std.proofs.Common.{◌≡◌, ℕ, ◌+◌, ◌*◌, ◌^◌, ◌<◌, ◌≤◌, Bool, true, T, ltb, leb, ltb→lt, leb→le, refl, ap, sym, subst, ◌∙◌, arith, ℤ, pos, negsuc, suc, ◌+ℤ◌, ◌*ℤ◌, neg_ℤ, unsigned_abs, FitsSigned, Fits, to_z, of_z}
use Rattle.std.proofs.lemmas.Int.{ints, to_z-of_z, fits_signed_from_abs, unsigned_abs-mul}
use mir.Syntax.{Width}
use mir.Val.{bits, hbits}
use Rattle.algebra.proofs.Ring.{both, left_of, right_of}

-- A number r of a machine: what it is without conversions, a bound of that, and a test by computing whether the bounds fit.
pub record Sized (r : ℤ) : Type 0 where
  pub plain : ℤ
  pub bound : ℕ
  pub fits : Bool
  pub is : T fits → r ≡ plain
  pub within : T fits → unsigned_abs plain ≤ bound

-- ---- over plain numbers
pub cast_is : (w : Width) (r x : ℤ) (n : ℕ) → r ≡ x → unsigned_abs x ≤ n → n < 2 ^ hbits w → to_z w (of_z w r) ≡ x
cast_is w r x n e h k = ap (λ i. to_z w (of_z w i)) e ∙ to_z-of_z w x (fits_signed_from_abs w x (omega arith))

pub add_within : (x y : ℤ) (m n : ℕ) → unsigned_abs x ≤ m → unsigned_abs y ≤ n → unsigned_abs (x +ℤ y) ≤ m + n
add_within x y m n h k = omega (arith, ints)

pub neg_within : (x : ℤ) (m : ℕ) → unsigned_abs x ≤ m → unsigned_abs (neg_ℤ x) ≤ m
neg_within x m h = omega (arith, ints)

times_le : (a b m n : ℕ) → a ≤ m → b ≤ n → a * b ≤ m * n
times_le a b m n h k = grind arith

pub mul_within : (x y : ℤ) (m n : ℕ) → unsigned_abs x ≤ m → unsigned_abs y ≤ n → unsigned_abs (x *ℤ y) ≤ m * n
mul_within x y m n h k = let e = unsigned_abs-mul x y in let l = times_le (unsigned_abs x) (unsigned_abs y) m n h k in omega arith

-- ---- the rules
abbrev pub sized-cast : (w : Width) {r : ℤ} → Sized r → Sized (to_z w (of_z w r))
sized-cast w {r} p = record {
  plain = p.plain;
  bound = p.bound;
  fits = both p.fits (ltb p.bound (2 ^ hbits w));
  is = λ t. cast_is w r p.plain p.bound (p.is (left_of p.fits _ t)) (p.within (left_of p.fits _ t)) (ltb→lt p.bound (2 ^ hbits w) (right_of p.fits _ t));
  within = λ t. p.within (left_of p.fits _ t);
}

abbrev pub sized-add : {r s : ℤ} → Sized r → Sized s → Sized (r +ℤ s)
sized-add {r} {s} p q = record {
  plain = p.plain +ℤ q.plain;
  bound = p.bound + q.bound;
  fits = both p.fits q.fits;
  is = λ t. ap (λ x. x +ℤ s) (p.is (left_of p.fits q.fits t)) ∙ ap (λ x. p.plain +ℤ x) (q.is (right_of p.fits q.fits t));
  within = λ t. add_within p.plain q.plain p.bound q.bound (p.within (left_of p.fits q.fits t)) (q.within (right_of p.fits q.fits t));
}

abbrev pub sized-neg : {r : ℤ} → Sized r → Sized (neg_ℤ r)
sized-neg p = record {
  plain = neg_ℤ p.plain;
  bound = p.bound;
  fits = p.fits;
  is = λ t. ap neg_ℤ (p.is t);
  within = λ t. neg_within p.plain p.bound (p.within t);
}

abbrev pub sized-mul : {r s : ℤ} → Sized r → Sized s → Sized (r *ℤ s)
sized-mul {r} {s} p q = record {
  plain = p.plain *ℤ q.plain;
  bound = p.bound * q.bound;
  fits = both p.fits q.fits;
  is = λ t. ap (λ x. x *ℤ s) (p.is (left_of p.fits q.fits t)) ∙ ap (λ x. p.plain *ℤ x) (q.is (right_of p.fits q.fits t));
  within = λ t. mul_within p.plain q.plain p.bound q.bound (p.within (left_of p.fits q.fits t)) (q.within (right_of p.fits q.fits t));
}

pub pos_within : (n : ℕ) → unsigned_abs (pos n) ≤ n
pos_within n = omega (arith, ints)

pub negsuc_within : (n : ℕ) → unsigned_abs (negsuc n) ≤ suc n
negsuc_within n = omega (arith, ints)

abbrev pub sized-pos : (n : ℕ) → Sized (pos n)
sized-pos n = record { plain = pos n; bound = n; fits = true; is = λ t. refl; within = λ t. pos_within n }

abbrev pub sized-negsuc : (n : ℕ) → Sized (negsuc n)
sized-negsuc n = record { plain = negsuc n; bound = suc n; fits = true; is = λ t. refl; within = λ t. negsuc_within n }

pub ruleset sizes = (sized-cast, sized-add, sized-neg, sized-mul, sized-pos, sized-negsuc)

-- ---- the operands: a number that is known to be x, and a bound of x
abbrev pub known : {r x : ℤ} (n : ℕ) → r ≡ x → unsigned_abs x ≤ n → Sized r
known {r} {x} n e h = record { plain = x; bound = n; fits = true; is = λ t. e; within = λ t. h }

-- An argument itself.
abbrev pub argument : (x : ℤ) (n : ℕ) → unsigned_abs x ≤ n → Sized x
argument x n h = known n refl h

pub range_within : (w : Width) (x : ℤ) → FitsSigned w x → unsigned_abs x ≤ 2 ^ hbits w
range_within w x h = omega (arith, ints)

-- The result of `from`, of a number in the whole range of its type, or within a bound.
abbrev pub widened : {w : Width} {r x : ℤ} → r ≡ to_z w (of_z w x) → FitsSigned w x → Sized r
widened {w} {r} {x} e h = known (2 ^ hbits w) (e ∙ to_z-of_z w x h) (range_within w x h)

abbrev pub widened_within : {w : Width} {r x : ℤ} (n : ℕ) → r ≡ to_z w (of_z w x) → FitsSigned w x → unsigned_abs x ≤ n → Sized r
widened_within {w} {r} {x} n e h k = known n (e ∙ to_z-of_z w x h) k

pub unsigned_within : (w : Width) (n : ℕ) → Fits w n → unsigned_abs (pos n) ≤ 2 ^ bits w
unsigned_within w n h = let k = h.fits in omega (arith, ints)

-- The same of an unsigned number.
abbrev pub from_unsigned : {w : Width} {r : ℤ} {n : ℕ} → r ≡ pos n → Fits w n → Sized r
from_unsigned {w} {r} {n} e h = known (2 ^ bits w) e (unsigned_within w n h)

-- A number that is another, which is read further.
abbrev pub equal_to : {r s : ℤ} → r ≡ s → Sized s → Sized r
equal_to e p = record { plain = p.plain; bound = p.bound; fits = p.fits; is = λ t. e ∙ p.is t; within = p.within }

-- The result of a function whose contract says its value and a bound.
abbrev pub called : {r x : ℤ} (n : ℕ) → r ≡ x → unsigned_abs r ≤ n → Sized r
called {r} {x} n e h = known n e (subst (λ i. unsigned_abs i ≤ n) e h)

-- ---- what follows: `exactly (search (sizes, widened) depth 20 fits 20000) tt`, and likewise the others
pub exactly : {r : ℤ} (p : Sized r) → T p.fits → r ≡ p.plain
exactly p t = p.is t

pub no_overflow : {w : Width} {r : ℤ} (p : Sized r) → T (both p.fits (ltb p.bound (2 ^ hbits w))) → FitsSigned w r
no_overflow {w} {r} p t = subst (λ x. FitsSigned w x) (sym (p.is (left_of p.fits _ t)))
    (fits_signed_from_abs w p.plain (let h = p.within (left_of p.fits _ t) in let k = ltb→lt p.bound (2 ^ hbits w) (right_of p.fits _ t) in omega arith))

-- The first argument says which number is meant: mostly the proof of the clause on its value.
pub at_most : {r x : ℤ} {n : ℕ} → r ≡ x → (p : Sized r) → T (both p.fits (leb p.bound n)) → unsigned_abs r ≤ n
at_most {r} {x} {n} e p t = subst (λ i. unsigned_abs i ≤ n) (sym (p.is (left_of p.fits _ t)))
    (let h = p.within (left_of p.fits _ t) in let k = leb→le p.bound n (right_of p.fits _ t) in omega arith)
