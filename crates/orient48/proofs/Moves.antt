-- Points, planes and shifts that a motion of machine numbers moves.
use Rattle.std.proofs.Common.{◌≡◌, ℕ, ◌≤◌, true, false, cond, IsTrue, sym, ap, ◌∙◌, arith, ℤ, pos, negsuc, ◌*ℤ◌, unsigned_abs}
use Rattle.std.proofs.lemmas.Int.{ints}
use Rattle.algebra.specs.Space.{Vector, plus, scale}
use Rattle.algebra.proofs.Identities.{vector_by}
use Rattle.exact_geom.specs.declared.point.Point.{Point}
use Rattle.exact_geom.specs.Planes.{ThreePoints, vector, is_in_range}
use Rattle.exact_geom.proofs.PlaneLaws.{in_range}
use Rattle.exact_geom.proofs.Sizes.{IsWithin_more}
use Rattle.orient48.specs.Motions.{Matrix, Motion, turned, is_flip, is_short, is_signed_permutation, vector_at, moved_point, moved_plane}
use Rattle.orient48.proofs.Parts.{within_short, short_within}
use Rattle.orient48.proofs.Units.{turned_size}

-- a vector with three numbers that are 0 is added
pub plus_zero : (v : Vector) → plus v (vector_at (pos 0) (pos 0) (pos 0)) ≡ v
unfolding plus
plus_zero v = vector_by (omega (arith, ints)) (omega (arith, ints)) (omega (arith, ints))

pub minus_size : (a : ℤ) (n : ℕ) → unsigned_abs a ≤ n → unsigned_abs (negsuc 0 *ℤ a) ≤ n
minus_size a n h = omega (arith, ints)

pub minus_short : (v : Vector) → is_short v ≡ true → is_short (scale (negsuc 0) v) ≡ true
unfolding scale
minus_short v h =
    let w = within_short v h in
    short_within (scale (negsuc 0) v) (record { x = minus_size v.x 1000000 w.x; y = minus_size v.y 1000000 w.y; z = minus_size v.z 1000000 w.z })

pub turned_short : (m : Matrix) (v : Vector) → is_signed_permutation m ≡ true → is_short v ≡ true → is_short (turned m v) ≡ true
turned_short m v s h = short_within (turned m v) (turned_size m v 1000000 s (within_short v h))

pub point_short : (p : Point) → IsTrue (is_in_range p) → is_short (vector p) ≡ true
point_short p h = short_within (vector p) (IsWithin_more 1000000 (in_range p h) (omega arith))

-- three points that are moved, in the order that the flip asks for
pub flipped_points : (m : Motion) (t : ThreePoints) (a b c : Point) → is_flip m.matrix ≡ true → a ≡ moved_point m t.p0 → b ≡ moved_point m t.p1 → c ≡ moved_point m t.p2 →
    record { p0 = c; p1 = b; p2 = a } ≡ moved_plane m t
flipped_points m t a b c f h k l =
    (λ i. record { p0 = l i; p1 = k i; p2 = h i })
    ∙ sym (ap (λ s. cond s (record { p0 = moved_point m t.p2; p1 = moved_point m t.p1; p2 = moved_point m t.p0 }) (record { p0 = moved_point m t.p0; p1 = moved_point m t.p1; p2 = moved_point m t.p2 })) f)

pub kept_points : (m : Motion) (t : ThreePoints) (a b c : Point) → is_flip m.matrix ≡ false → a ≡ moved_point m t.p0 → b ≡ moved_point m t.p1 → c ≡ moved_point m t.p2 →
    record { p0 = a; p1 = b; p2 = c } ≡ moved_plane m t
kept_points m t a b c f h k l =
    (λ i. record { p0 = h i; p1 = k i; p2 = l i })
    ∙ sym (ap (λ s. cond s (record { p0 = moved_point m t.p2; p1 = moved_point m t.p1; p2 = moved_point m t.p0 }) (record { p0 = moved_point m t.p0; p1 = moved_point m t.p1; p2 = moved_point m t.p2 })) f)
