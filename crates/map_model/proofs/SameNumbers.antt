-- The test of two points by their numbers.
use Rattle.std.proofs.Common.{◌≡◌, Bool, true, false, ◌&&◌, refl, ℤ}
use Rattle.std.specs.Ordering.{int_eq}
use Rattle.std.proofs.lemmas.Bool.{false≢true}
use Rattle.std.proofs.lemmas.Bool.Decides.{Decides-int_eq}
use Rattle.algebra.specs.Space.{Homogeneous}
use Rattle.algebra.proofs.Identities.{vector_by}
use Rattle.exact_geom.proofs.Meeting.{point_by}

all_pass : (a b c d : Bool) → (a && (b && (c && d))) ≡ true → (a ≡ true) × (b ≡ true) × (c ≡ true) × (d ≡ true)
all_pass true true true true e = (refl, refl, refl, refl)
all_pass true true true false e = absurd (false≢true e)
all_pass true true false d e = absurd (false≢true e)
all_pass true false c d e = absurd (false≢true e)
all_pass false b c d e = absurd (false≢true e)

pass_all : (a b c d : Bool) → a ≡ true → b ≡ true → c ≡ true → d ≡ true → (a && (b && (c && d))) ≡ true
pass_all true b c d p q r s = pass b c d q r s
  where
    pass : (b c d : Bool) → b ≡ true → c ≡ true → d ≡ true → (b && (c && d)) ≡ true
    pass true true d q r s = s
    pass true false d q r s = r
    pass false c d q r s = q
pass_all false b c d p q r s = p

abbrev pub same_numbers : Homogeneous → Homogeneous → Bool
same_numbers p q = int_eq p.vector.x q.vector.x && (int_eq p.vector.y q.vector.y && (int_eq p.vector.z q.vector.z && int_eq p.weight q.weight))

pub equal_numbers : (p q : Homogeneous) → same_numbers p q ≡ true → p ≡ q
equal_numbers p q e =
    let k = all_pass (int_eq p.vector.x q.vector.x) (int_eq p.vector.y q.vector.y) (int_eq p.vector.z q.vector.z) (int_eq p.weight q.weight) e in
    point_by (vector_by (same p.vector.x q.vector.x k.0) (same p.vector.y q.vector.y k.1) (same p.vector.z q.vector.z k.2)) (same p.weight q.weight k.3)
  where
    same : (a b : ℤ) → int_eq a b ≡ true → a ≡ b
    same a b e = (Decides-int_eq a b).0 e

pub own_numbers : (p : Homogeneous) → same_numbers p p ≡ true
own_numbers p =
    pass_all (int_eq p.vector.x p.vector.x) (int_eq p.vector.y p.vector.y) (int_eq p.vector.z p.vector.z) (int_eq p.weight p.weight)
    (own p.vector.x) (own p.vector.y) (own p.vector.z) (own p.weight)
  where
    own : (a : ℤ) → int_eq a a ≡ true
    own a = (Decides-int_eq a a).1 refl
