-- Points on a line, the point of a plane between two others, and points that are equal.
use Rattle.std.proofs.Common.{◌≡◌, [], ◌∷◌, sym, ◌∙◌, arith, ℤ, pos, ◌+ℤ◌, ◌-ℤ◌, ◌*ℤ◌, neg_ℤ, ◌<ℤ◌, ◌≤ℤ◌}
use Rattle.std.proofs.lemmas.Int.{ints, by_lt_z}
use Rattle.algebra.specs.Space.{Vector, Homogeneous, HalfSpace, SamePoint, dot, cross, det, scale, plus, minus, side, mix, go, way, meet}
use Rattle.algebra.specs.Laws.{SideOfMix, CommonPoint, PlaneThrough}
use Rattle.algebra.proofs.Expr.{read}
use Rattle.algebra.proofs.Ring.{ring}
use Rattle.algebra.proofs.Orders.{signs, le_by, lt_by, eq_by_2, eq_by_3, Scaled, positive-mul, negative-mul, zero-mul, cancel-eq_left, positive_of_product, negative_of_product, scaled_nonpos, scaled_negative, scaled_zero, scaled_positive}
use Rattle.algebra.proofs.Identities.{with_half_space, with_point, side-mix, side-same, dot-way, along_cross, meet-first, meet-second, meet-third, through-first, through-second, through-third, through-swap}
use Rattle.algebra.proofs.Vectors.{IsZero, is_zero, zero_by_3}

-- ---- a mix, by the sides of its ends
pub mix_plain : (s a t b : ℤ) → pos 0 ≤ℤ s → pos 0 ≤ℤ t → a ≤ℤ pos 0 → b ≤ℤ pos 0 → (s *ℤ a +ℤ t *ℤ b) ≤ℤ pos 0
mix_plain s a t b h k l m = le_by (s *ℤ (pos 0 -ℤ a) +ℤ t *ℤ (pos 0 -ℤ b)) (search signs) (ring (s ∷ a ∷ t ∷ b ∷ []) (search read depth 20) tt)

pub mix_plain_left : (s a t b : ℤ) → pos 0 <ℤ s → pos 0 ≤ℤ t → a <ℤ pos 0 → b ≤ℤ pos 0 → (s *ℤ a +ℤ t *ℤ b) <ℤ pos 0
mix_plain_left s a t b h k l m = lt_by (s *ℤ (pos 0 -ℤ a) +ℤ t *ℤ (pos 0 -ℤ b)) (search signs) (ring (s ∷ a ∷ t ∷ b ∷ []) (search read depth 20) tt)

pub mix_plain_right : (s a t b : ℤ) → pos 0 ≤ℤ s → pos 0 <ℤ t → a ≤ℤ pos 0 → b <ℤ pos 0 → (s *ℤ a +ℤ t *ℤ b) <ℤ pos 0
mix_plain_right s a t b h k l m = lt_by (s *ℤ (pos 0 -ℤ a) +ℤ t *ℤ (pos 0 -ℤ b)) (search signs) (ring (s ∷ a ∷ t ∷ b ∷ []) (search read depth 20) tt)

pub zero_mix : (s a t b : ℤ) → a ≡ pos 0 → b ≡ pos 0 → s *ℤ a +ℤ t *ℤ b ≡ pos 0
zero_mix s a t b h k = eq_by_2 s t h k (ring (s ∷ a ∷ t ∷ b ∷ []) (search read depth 20) tt)

pub mix-on : (s : ℤ) (p : Homogeneous) (t : ℤ) (q : Homogeneous) (f : HalfSpace) → side f p ≡ pos 0 → side f q ≡ pos 0 → side f (mix s p t q) ≡ pos 0
mix-on s p t q f h k = side-mix s p t q f ∙ zero_mix s (side f p) t (side f q) h k

pub mix-in : (s : ℤ) (p : Homogeneous) (t : ℤ) (q : Homogeneous) (f : HalfSpace) → pos 0 ≤ℤ s → pos 0 ≤ℤ t → side f p ≤ℤ pos 0 → side f q ≤ℤ pos 0 → side f (mix s p t q) ≤ℤ pos 0
mix-in s p t q f h k l m = rw side-mix (mix_plain s (side f p) t (side f q) h k l m)

pub mix-behind_left : (s : ℤ) (p : Homogeneous) (t : ℤ) (q : Homogeneous) (f : HalfSpace) → pos 0 <ℤ s → pos 0 ≤ℤ t → side f p <ℤ pos 0 → side f q ≤ℤ pos 0 → side f (mix s p t q) <ℤ pos 0
mix-behind_left s p t q f h k l m = rw side-mix (mix_plain_left s (side f p) t (side f q) h k l m)

pub mix-behind_right : (s : ℤ) (p : Homogeneous) (t : ℤ) (q : Homogeneous) (f : HalfSpace) → pos 0 ≤ℤ s → pos 0 <ℤ t → side f p ≤ℤ pos 0 → side f q <ℤ pos 0 → side f (mix s p t q) <ℤ pos 0
mix-behind_right s p t q f h k l m = rw side-mix (mix_plain_right s (side f p) t (side f q) h k l m)

pub weight-mix : (s : ℤ) (p : Homogeneous) (t : ℤ) (q : Homogeneous) → pos 0 <ℤ s → pos 0 ≤ℤ t → pos 0 <ℤ p.weight → pos 0 <ℤ q.weight → pos 0 <ℤ (mix s p t q).weight
unfolding mix
weight-mix s p t q h k l m = search signs

pub weight-mix_right : (s : ℤ) (p : Homogeneous) (t : ℤ) (q : Homogeneous) → pos 0 ≤ℤ s → pos 0 <ℤ t → pos 0 <ℤ p.weight → pos 0 <ℤ q.weight → pos 0 <ℤ (mix s p t q).weight
unfolding mix
weight-mix_right s p t q h k l m = search signs

pub weight-go : (q t : ℤ) (p : Homogeneous) (m : Vector) → pos 0 <ℤ q → pos 0 <ℤ p.weight → pos 0 <ℤ (go q t p m).weight
unfolding go
weight-go q t p m h k = positive-mul h k

-- ---- the point of the plane between two points on its two sides
abbrev pub between : HalfSpace → Homogeneous → Homogeneous → Homogeneous
between f p q = mix (side f q) p (neg_ℤ (side f p)) q

between_plain : (a b : ℤ) → b *ℤ a +ℤ neg_ℤ a *ℤ b ≡ pos 0
between_plain a b = ring (a ∷ b ∷ []) (search read depth 20) tt

pub between-on : (f : HalfSpace) (p q : Homogeneous) → side f (between f p q) ≡ pos 0
between-on f p q = side-mix (side f q) p (neg_ℤ (side f p)) q f ∙ between_plain (side f p) (side f q)

pub side-between : (f g : HalfSpace) (p q : Homogeneous) → side g (between f p q) ≡ side f q *ℤ side g p -ℤ side f p *ℤ side g q
side-between f g p q = side-mix (side f q) p (neg_ℤ (side f p)) q g ∙ ring (side f p ∷ side f q ∷ side g p ∷ side g q ∷ []) (search read depth 20) tt

-- ---- ways along planes
way_plain : (v w a b : ℤ) → a ≡ pos 0 → b ≡ pos 0 → v *ℤ b -ℤ w *ℤ a ≡ pos 0
way_plain v w a b h k = eq_by_2 v (neg_ℤ w) k h (ring (v ∷ w ∷ a ∷ b ∷ []) (search read depth 20) tt)

pub way-on : (f : HalfSpace) (p q : Homogeneous) → side f p ≡ pos 0 → side f q ≡ pos 0 → dot f.normal (way p q) ≡ pos 0
way-on f p q h k = dot-way f p q ∙ way_plain p.weight q.weight (side f p) (side f q) h k

along_plain : (x y a b u v : ℤ) → a ≡ pos 0 → b ≡ pos 0 → x ≡ y +ℤ (a *ℤ u +ℤ b *ℤ v) → x ≡ y
along_plain x y a b u v h k e = e ∙ eq_by_2 u v h k (ring (y ∷ a ∷ b ∷ u ∷ v ∷ []) (search read depth 20) tt)

-- A direction in two planes is along their line.
pub along : (a b k d : Vector) → dot a d ≡ pos 0 → dot b d ≡ pos 0 → dot (cross a b) (cross a b) *ℤ dot k d ≡ dot k (cross a b) *ℤ dot (cross a b) d
along a b k d h l = along_plain _ _ (dot a d) (dot b d) _ _ h l (along_cross a b k d)

-- ---- equal points
pub same_point_refl : (p : Homogeneous) → SamePoint p p
same_point_refl p = record { x = omega (arith, ints); y = omega (arith, ints); z = omega (arith, ints) }

pub same_point_sym : {p q : Homogeneous} → SamePoint p q → SamePoint q p
same_point_sym s = record { x = sym s.x; y = sym s.y; z = sym s.z }

trans_plain : (p v q w r x : ℤ) → pos 0 <ℤ w → p *ℤ w ≡ q *ℤ v → q *ℤ x ≡ r *ℤ w → p *ℤ x ≡ r *ℤ v
trans_plain p v q w r x h e f = cancel-eq_left w h (eq_by_2 x v e f (ring (p ∷ v ∷ q ∷ w ∷ r ∷ x ∷ []) (search read depth 20) tt))

pub same_point_trans : {p q r : Homogeneous} → pos 0 <ℤ q.weight → SamePoint p q → SamePoint q r → SamePoint p r
same_point_trans {p} {q} {r} h s t = record {
  x = trans_plain p.vector.x p.weight q.vector.x q.weight r.vector.x r.weight h s.x t.x;
  y = trans_plain p.vector.y p.weight q.vector.y q.weight r.vector.y r.weight h s.y t.y;
  z = trans_plain p.vector.z p.weight q.vector.z q.weight r.vector.z r.weight h s.z t.z;
}

-- The sides of equal points, as a proportion.
scaled_plain : (a b v w : ℤ) → a *ℤ w ≡ b *ℤ v → w *ℤ a ≡ v *ℤ b
scaled_plain a b v w e = omega (arith, ints)

pub scaled_sides : (f : HalfSpace) (p q : Homogeneous) → SamePoint p q → Scaled q.weight (side f p) p.weight (side f q)
scaled_sides f p q s = record { is = scaled_plain (side f p) (side f q) p.weight q.weight (side-same f p q s) }

pub same-on : (f : HalfSpace) (p q : Homogeneous) → pos 0 <ℤ p.weight → SamePoint p q → side f p ≡ pos 0 → side f q ≡ pos 0
same-on f p q w s h = scaled_zero (scaled_sides f p q s) w h

pub same-in : (f : HalfSpace) (p q : Homogeneous) → pos 0 <ℤ p.weight → pos 0 <ℤ q.weight → SamePoint p q → side f p ≤ℤ pos 0 → side f q ≤ℤ pos 0
same-in f p q v w s h = scaled_nonpos (scaled_sides f p q s) w v h

pub same-behind : (f : HalfSpace) (p q : Homogeneous) → pos 0 <ℤ p.weight → pos 0 <ℤ q.weight → SamePoint p q → side f p <ℤ pos 0 → side f q <ℤ pos 0
same-behind f p q v w s h = scaled_negative (scaled_sides f p q s) w v h

pub same-front : (f : HalfSpace) (p q : Homogeneous) → pos 0 <ℤ p.weight → pos 0 <ℤ q.weight → SamePoint p q → pos 0 <ℤ side f p → pos 0 <ℤ side f q
same-front f p q v w s h = scaled_positive (scaled_sides f p q s) w v h

-- Points of which a plane has one in front or behind, and the other not.
pub apart_by_front : (f : HalfSpace) (p q : Homogeneous) → pos 0 <ℤ p.weight → pos 0 <ℤ q.weight → side f p ≤ℤ pos 0 → pos 0 <ℤ side f q → ¬ (SamePoint p q)
apart_by_front f p q v w h k s = let m = same-in f p q v w s h in absurd (omega (arith, ints))

pub apart_by_behind : (f : HalfSpace) (p q : Homogeneous) → pos 0 <ℤ p.weight → pos 0 <ℤ q.weight → side f p <ℤ pos 0 → pos 0 ≤ℤ side f q → ¬ (SamePoint p q)
apart_by_behind f p q v w h k s = let m = same-behind f p q v w s h in absurd (omega (arith, ints))

pub same_by_way : (p q : Homogeneous) → IsZero (way p q) → SamePoint p q
unfolding way minus scale
same_by_way p q h = record { x = plain p.vector.x p.weight q.vector.x q.weight h.x; y = plain p.vector.y p.weight q.vector.y q.weight h.y; z = plain p.vector.z p.weight q.vector.z q.weight h.z }
  where
    plain : (a v b w : ℤ) → v *ℤ b -ℤ w *ℤ a ≡ pos 0 → a *ℤ w ≡ b *ℤ v
    plain a v b w e = omega (arith, ints)

pub apart_way : (p q : Homogeneous) → ¬ (SamePoint p q) → pos 0 <ℤ dot (way p q) (way p q)
apart_way p q n = by_lt_z (pos 0) (dot (way p q) (way p q)) (λ l. l) (λ l. absurd (n (same_by_way p q (is_zero (way p q) l))))

-- Two points on three planes with independent normals.
pub same_of_three : (f g h : HalfSpace) (p q : Homogeneous) → pos 0 <ℤ det f.normal g.normal h.normal →
    side f p ≡ pos 0 → side g p ≡ pos 0 → side h p ≡ pos 0 → side f q ≡ pos 0 → side g q ≡ pos 0 → side h q ≡ pos 0 → SamePoint p q
same_of_three f g h p q d a b c x y z =
    same_by_way p q (zero_by_3 f.normal g.normal h.normal (way p q) d (way-on f p q a x) (way-on g p q b y) (way-on h p q c z))

-- ---- the sides of two points, by the way between them
from_plain : (v w a b : ℤ) → pos 0 <ℤ v → a ≡ pos 0 → pos 0 <ℤ (v *ℤ b -ℤ w *ℤ a) → pos 0 <ℤ b
from_plain v w a b h e l = let z = zero-mul w e in positive_of_product v h (omega (arith, ints))

from_plain_down : (v w a b : ℤ) → pos 0 <ℤ v → a ≡ pos 0 → (v *ℤ b -ℤ w *ℤ a) <ℤ pos 0 → b <ℤ pos 0
from_plain_down v w a b h e l = let z = zero-mul w e in negative_of_product v h (omega (arith, ints))

to_plain : (v w a b : ℤ) → pos 0 <ℤ w → b ≡ pos 0 → pos 0 <ℤ (v *ℤ b -ℤ w *ℤ a) → a <ℤ pos 0
to_plain v w a b h e l = let z = zero-mul v e in negative_of_product w h (omega (arith, ints))

to_plain_down : (v w a b : ℤ) → pos 0 <ℤ w → b ≡ pos 0 → (v *ℤ b -ℤ w *ℤ a) <ℤ pos 0 → pos 0 <ℤ a
to_plain_down v w a b h e l = let z = zero-mul v e in positive_of_product w h (omega (arith, ints))

across_plain : (v w a b : ℤ) → pos 0 <ℤ v → pos 0 <ℤ w → a <ℤ pos 0 → pos 0 <ℤ b → pos 0 <ℤ (v *ℤ b -ℤ w *ℤ a)
across_plain v w a b h k l m = let y = positive-mul h m in let z = negative-mul w k l in omega (arith, ints)

pub way-from : (f : HalfSpace) (p q : Homogeneous) → pos 0 <ℤ p.weight → side f p ≡ pos 0 → pos 0 <ℤ dot f.normal (way p q) → pos 0 <ℤ side f q
way-from f p q w h l = from_plain p.weight q.weight (side f p) (side f q) w h (rw dot-way at l)

pub way-from_down : (f : HalfSpace) (p q : Homogeneous) → pos 0 <ℤ p.weight → side f p ≡ pos 0 → dot f.normal (way p q) <ℤ pos 0 → side f q <ℤ pos 0
way-from_down f p q w h l = from_plain_down p.weight q.weight (side f p) (side f q) w h (rw dot-way at l)

pub way-to : (f : HalfSpace) (p q : Homogeneous) → pos 0 <ℤ q.weight → side f q ≡ pos 0 → pos 0 <ℤ dot f.normal (way p q) → side f p <ℤ pos 0
way-to f p q w h l = to_plain p.weight q.weight (side f p) (side f q) w h (rw dot-way at l)

pub way-to_down : (f : HalfSpace) (p q : Homogeneous) → pos 0 <ℤ q.weight → side f q ≡ pos 0 → dot f.normal (way p q) <ℤ pos 0 → pos 0 <ℤ side f p
way-to_down f p q w h l = to_plain_down p.weight q.weight (side f p) (side f q) w h (rw dot-way at l)

pub way-across : (f : HalfSpace) (p q : Homogeneous) → pos 0 <ℤ p.weight → pos 0 <ℤ q.weight → side f p <ℤ pos 0 → pos 0 <ℤ side f q → pos 0 <ℤ dot f.normal (way p q)
way-across f p q v w h k = rw dot-way (across_plain p.weight q.weight (side f p) (side f q) v w h k)

-- ---- the laws
pub side_of_mix : SideOfMix
side_of_mix s p t q f = side-mix s p t q f

same_meet : (f g h : HalfSpace) (p : Homogeneous) → side f p ≡ pos 0 → side g p ≡ pos 0 → side h p ≡ pos 0 → SamePoint p (meet f g h)
unfolding side meet det dot cross plus scale
same_meet f g h p a b c = record {
  x = eq_by_3 (cross g.normal h.normal).x (cross h.normal f.normal).x (cross f.normal g.normal).x a b c (ring (with_point p (with_half_space f (with_half_space g (with_half_space h [])))) (search read depth 20) tt);
  y = eq_by_3 (cross g.normal h.normal).y (cross h.normal f.normal).y (cross f.normal g.normal).y a b c (ring (with_point p (with_half_space f (with_half_space g (with_half_space h [])))) (search read depth 20) tt);
  z = eq_by_3 (cross g.normal h.normal).z (cross h.normal f.normal).z (cross f.normal g.normal).z a b c (ring (with_point p (with_half_space f (with_half_space g (with_half_space h [])))) (search read depth 20) tt);
}

pub common_point : CommonPoint
common_point f g h = record { on_f = meet-first f g h; on_g = meet-second f g h; on_h = meet-third f g h; only = λ p a b c. same_meet f g h p a b c }

pub plane_through : PlaneThrough
plane_through a b c = record { first = through-first a b c; second = through-second a b c; third = through-third a b c; swapped = through-swap a b c }
