-- Half-spaces that are one, and the test for it by numbers.
use Rattle.std.proofs.Common.{◌≡◌, [], ◌∷◌, ap, sym, ◌∙◌, arith, ◌⊎◌, inl, inr, ℤ, pos, negsuc, ◌+ℤ◌, ◌-ℤ◌, ◌*ℤ◌, neg_ℤ, ◌<ℤ◌, ◌≤ℤ◌}
use Rattle.std.proofs.lemmas.Int.{ints, by_lt_z}
use Rattle.algebra.specs.Members.{here}
use Rattle.algebra.specs.Space.{Vector, Homogeneous, HalfSpace, dot, cross, scale, plus, side, go, way, SameHalfSpace}
use Rattle.algebra.proofs.Expr.{read}
use Rattle.algebra.proofs.Ring.{ring}
use Rattle.algebra.proofs.Orders.{signs, le_by, eq_by, eq_by_2, by_sign, positive-mul, positive-neg, cancel-le_left, cancel-eq_left, zero-mul}
use Rattle.algebra.proofs.Identities.{with_vector, with_half_space, with_point, vector_by, dot_comm, dot-cross_left, binet_cauchy, lagrange, side-go, dot-way}
use Rattle.algebra.proofs.Vectors.{IsZero, is_zero, dot-zero_left, norm_nonneg}
use Rattle.algebra.proofs.Points.{weight-go}
use Rattle.trim_laws.specs.SameHalfSpace.{InProportion, SameByNumbers}
use Rattle.trim_laws.specs.Laws.{SameLaw, SameByNumbersLaw}
use Rattle.trim_laws.proofs.Steps.{small, step_short, step_front, step_flat, below_le, zero_le, neg_le}

pub same_refl : (f : HalfSpace) → SameHalfSpace f f
same_refl f = record { onto = λ p w l. l; back = λ p w l. l }

pub same_sym : {f g : HalfSpace} → SameHalfSpace f g → SameHalfSpace g f
same_sym s = record { onto = s.back; back = s.onto }

pub same_trans : {f g h : HalfSpace} → SameHalfSpace f g → SameHalfSpace g h → SameHalfSpace f h
same_trans s t = record { onto = λ p w l. t.onto p w (s.onto p w l); back = λ p w l. s.back p w (t.back p w l) }

-- ---- half-spaces whose sides are in proportion
pub record Times (f g : HalfSpace) : Type 0 where
  pub a : ℤ
  pub b : ℤ
  pub a_positive : pos 0 <ℤ a
  pub b_positive : pos 0 <ℤ b
  pub equal : (p : Homogeneous) → a *ℤ side f p ≡ b *ℤ side g p

times_below : (a b x y : ℤ) → pos 0 <ℤ a → pos 0 <ℤ b → a *ℤ x ≡ b *ℤ y → x ≤ℤ pos 0 → y ≤ℤ pos 0
times_below a b x y h k e l = cancel-le_left b k (le_by (a *ℤ (pos 0 -ℤ x)) (search signs) (eq_by (pos 1) e (ring (a ∷ b ∷ x ∷ y ∷ []) (search read depth 20) tt)))

pub same_of_times : (f g : HalfSpace) → Times f g → SameHalfSpace f g
same_of_times f g t = record {
  onto = λ p w l. times_below t.a t.b (side f p) (side g p) t.a_positive t.b_positive (t.equal p) l;
  back = λ p w l. times_below t.b t.a (side g p) (side f p) t.b_positive t.a_positive (sym (t.equal p)) l;
}

-- Two planes through q with dependent normals, with o behind both.
way_at : (w x s z : ℤ) → z ≡ pos 0 → w *ℤ s -ℤ x *ℤ z ≡ w *ℤ s
way_at w x s z h = eq_by (neg_ℤ x) h (ring (w ∷ x ∷ s ∷ z ∷ []) (search read depth 20) tt)

pub dot-way_on : (f : HalfSpace) (q p : Homogeneous) → side f q ≡ pos 0 → dot f.normal (way q p) ≡ q.weight *ℤ side f p
dot-way_on f q p h = dot-way f q p ∙ way_at q.weight p.weight (side f p) (side f q) h

ratio_plain : (w a b c d : ℤ) → pos 0 <ℤ w → (w *ℤ a) *ℤ (w *ℤ d) -ℤ (w *ℤ b) *ℤ (w *ℤ c) ≡ pos 0 → neg_ℤ c *ℤ b ≡ neg_ℤ a *ℤ d
ratio_plain w a b c d h e = cancel-eq_left (w *ℤ w) (search signs) (eq_by (pos 1) e (ring (w ∷ a ∷ b ∷ c ∷ d ∷ []) (search read depth 20) tt))

proportion : (f g : HalfSpace) (o q p : Homogeneous) → pos 0 <ℤ q.weight → side f q ≡ pos 0 → side g q ≡ pos 0 → IsZero (cross f.normal g.normal) →
    neg_ℤ (side g o) *ℤ side f p ≡ neg_ℤ (side f o) *ℤ side g p
proportion f g o q p w h k n = ratio_plain q.weight (side f o) (side f p) (side g o) (side g p) w
    (rw (← dot-way_on f q o h, ← dot-way_on g q p k, ← dot-way_on f q p h, ← dot-way_on g q o k)
    (sym (binet_cauchy f.normal g.normal (way q o) (way q p)) ∙ dot-zero_left (cross f.normal g.normal) (cross (way q o) (way q p)) n))

pub times_of_parallel : (f g : HalfSpace) (o q : Homogeneous) → pos 0 <ℤ q.weight → side f q ≡ pos 0 → side g q ≡ pos 0 → side f o <ℤ pos 0 →
    side g o <ℤ pos 0 → IsZero (cross f.normal g.normal) → Times f g
times_of_parallel f g o q w h k l m n = record {
  a = neg_ℤ (side g o);
  b = neg_ℤ (side f o);
  a_positive = positive-neg m;
  b_positive = positive-neg l;
  equal = λ p. proportion f g o q p w h k n;
}

-- ---- from the numbers
scaled-side : (k : ℤ) (f : HalfSpace) (p : Homogeneous) → k *ℤ side f p ≡ dot (scale k f.normal) p.vector -ℤ (k *ℤ f.distance) *ℤ p.weight
unfolding side dot scale
scaled-side k f p = ring (k ∷ with_half_space f (with_point p [])) (search read depth 20) tt

pub times_of_proportion : (f g : HalfSpace) → InProportion f g → Times f g
times_of_proportion f g r = record {
  a = r.a;
  b = r.b;
  a_positive = r.a_positive;
  b_positive = r.b_positive;
  equal = λ p. scaled-side r.a f p ∙ ap (λ n. dot n p.vector -ℤ (r.a *ℤ f.distance) *ℤ p.weight) r.normal
      ∙ ap (λ d. dot (scale r.b g.normal) p.vector -ℤ d *ℤ p.weight) r.distance ∙ sym (scaled-side r.b g p);
}

same_direction : (a b : Vector) → IsZero (cross a b) → scale (dot b b) a ≡ scale (dot a b) b
unfolding scale dot cross
same_direction a b z = vector_by
    (eq_by_2 b.y (neg_ℤ b.z) z.z z.y (ring (with_vector a (with_vector b [])) (search read depth 20) tt))
    (eq_by_2 b.z (neg_ℤ b.x) z.x z.z (ring (with_vector a (with_vector b [])) (search read depth 20) tt))
    (eq_by_2 b.x (neg_ℤ b.y) z.y z.x (ring (with_vector a (with_vector b [])) (search read depth 20) tt))

crossed : (d n e k : ℤ) → d *ℤ n ≡ e *ℤ k → n *ℤ d ≡ k *ℤ e
crossed d n e k h = omega (arith, ints)

proportion_of_numbers : (f g : HalfSpace) → pos 0 <ℤ dot g.normal g.normal → SameByNumbers f g → InProportion f g
proportion_of_numbers f g r n = record {
  a = dot g.normal g.normal;
  b = dot f.normal g.normal;
  a_positive = r;
  b_positive = n.along;
  normal = same_direction f.normal g.normal (is_zero (cross f.normal g.normal) (zero_le n.parallel));
  distance = crossed f.distance (dot g.normal g.normal) g.distance (dot f.normal g.normal) n.distance;
}

pub same_of_numbers : (f g : HalfSpace) → pos 0 <ℤ dot g.normal g.normal → SameByNumbers f g → SameHalfSpace f g
same_of_numbers f g r n = same_of_times f g (times_of_proportion f g (proportion_of_numbers f g r n))

-- ---- to the numbers
-- A point on a plane is on each plane of the same half-space.
pub same_on : (f g : HalfSpace) (q : Homogeneous) → SameHalfSpace f g → pos 0 <ℤ dot f.normal f.normal → pos 0 <ℤ q.weight → side f q ≡ pos 0 → side g q ≡ pos 0
same_on f g q s p w h = let k = s.onto q w (omega (arith, ints)) in by_lt_z (side g q) (pos 0)
    (λ l.
    let r = small (λ (x : HalfSpace). side x q) (λ x. dot x.normal f.normal) (g ∷ []) in
    let b : side g (go r.n (pos 1) q f.normal) <ℤ pos 0 = rw side-go (step_short r.n (side g q) (dot g.normal f.normal) (r.below g here l)) in
    let c = s.back (go r.n (pos 1) q f.normal) (weight-go r.n (pos 1) q f.normal r.positive w) (below_le b) in
    let d : pos 0 <ℤ side f (go r.n (pos 1) q f.normal) = rw side-go (step_front r.n (side f q) (dot f.normal f.normal) h p) in
    absurd (omega (arith, ints)))
    (λ l. omega (arith, ints))

-- A direction along the plane is along each plane of the same half-space.
pub same_flat : (f g : HalfSpace) (q : Homogeneous) (m : Vector) → SameHalfSpace f g → pos 0 <ℤ dot f.normal f.normal → pos 0 <ℤ q.weight → side f q ≡ pos 0 →
    dot f.normal m ≡ pos 0 → dot g.normal m ≡ pos 0
same_flat f g q m s r w h z =
    let p = go (pos 1) (pos 1) q m in
    let a : side f p ≡ pos 0 = side-go (pos 1) (pos 1) q m f ∙ step_flat (pos 1) (side f q) (dot f.normal m) h z in
    let b = same_on f g p s r (weight-go (pos 1) (pos 1) q m (omega (arith, ints)) w) a in
    let c : pos 1 *ℤ side g q +ℤ pos 1 *ℤ dot g.normal m ≡ pos 0 = sym (side-go (pos 1) (pos 1) q m g) ∙ b in
    slope (side g q) (dot g.normal m) (same_on f g q s r w h) c
  where
    slope : (x y : ℤ) → x ≡ pos 0 → pos 1 *ℤ x +ℤ pos 1 *ℤ y ≡ pos 0 → y ≡ pos 0
    slope x y e k = eq_by_2 (pos 1) (negsuc 0) k e (ring (x ∷ y ∷ []) (search read depth 20) tt)

-- The plane's point that is nearest to the origin.
foot : HalfSpace → Homogeneous
foot f = record { vector = scale f.distance f.normal; weight = dot f.normal f.normal }

foot-on : (f : HalfSpace) → side f (foot f) ≡ pos 0
unfolding side foot dot scale
foot-on f = ring (with_half_space f []) (search read depth 20) tt

foot-weight : (f : HalfSpace) → pos 0 <ℤ dot f.normal f.normal → pos 0 <ℤ (foot f).weight
unfolding foot
foot-weight f h = h

-- A direction in the plane of g that goes behind f.
pub dot-aside : (f g : Vector) → dot f (cross g (cross g f)) ≡ neg_ℤ (dot (cross g f) (cross g f))
unfolding dot cross
dot-aside f g = ring (with_vector f (with_vector g [])) (search read depth 20) tt

pub parallel_of_same : (f g : HalfSpace) → SameHalfSpace f g → pos 0 <ℤ dot f.normal f.normal → dot (cross f.normal g.normal) (cross f.normal g.normal) ≡ pos 0
parallel_of_same f g s r =
    let m = cross f.normal (cross f.normal g.normal) in
    let z = same_flat f g (foot f) m s r (foot-weight f r) (foot-on f) (dot-cross_left f.normal (cross f.normal g.normal)) in
    let y = dot-aside g.normal f.normal in omega (arith, ints)

-- The point behind f under its foot is not in front of g.
side-under : (f : HalfSpace) → side f (go (pos 1) (negsuc 0) (foot f) f.normal) ≡ neg_ℤ (dot f.normal f.normal)
unfolding side go foot dot scale plus
side-under f = ring (with_half_space f []) (search read depth 20) tt

along_plain : (a b c k s : ℤ) → pos 0 <ℤ a → pos 0 <ℤ b → a *ℤ b ≡ k *ℤ k +ℤ c → c ≡ pos 0 → s ≡ pos 0 → (pos 1 *ℤ s +ℤ negsuc 0 *ℤ k) ≤ℤ pos 0 → pos 0 <ℤ k
along_plain a b c k s p q e z y l =
    let d : negsuc 0 *ℤ k ≡ neg_ℤ k = ring (k ∷ []) (search read depth 20) tt in
    let f : pos 1 *ℤ s ≡ s = ring (s ∷ []) (search read depth 20) tt in by_sign k
    (λ m. absurd (omega (arith, ints)))
    (λ m. let x = positive-mul p q in let w = zero-mul k m in absurd (omega (arith, ints)))
    (λ m. m)

side-foot : (f g : HalfSpace) → side g (foot f) ≡ f.distance *ℤ dot f.normal g.normal -ℤ g.distance *ℤ dot f.normal f.normal
unfolding side foot dot scale
side-foot f g = ring (with_half_space f (with_half_space g [])) (search read depth 20) tt

distance_plain : (n g k c d e : ℤ) → n *ℤ g ≡ k *ℤ k +ℤ c → c ≡ pos 0 → d *ℤ k -ℤ e *ℤ n ≡ pos 0 → n *ℤ (d *ℤ g) ≡ n *ℤ (e *ℤ k)
distance_plain n g k c d e h z y = let x : n *ℤ g ≡ k *ℤ k = omega (arith, ints) in eq_by_2 d k x y (ring (n ∷ g ∷ k ∷ d ∷ e ∷ []) (search read depth 20) tt)

pub numbers_of_same : (f g : HalfSpace) → pos 0 <ℤ dot f.normal f.normal → pos 0 <ℤ dot g.normal g.normal → SameHalfSpace f g → SameByNumbers f g
numbers_of_same f g r t s =
    let z = parallel_of_same f g s r in
    let p = foot f in
    let q = go (pos 1) (negsuc 0) p f.normal in
    let w = foot-weight f r in
    let y = same_on f g p s r w (foot-on f) in
    let l : side g q ≤ℤ pos 0 = s.onto q (weight-go (pos 1) (negsuc 0) p f.normal (omega (arith, ints)) w) (rw side-under (neg_le r)) in
    let a : pos 0 <ℤ dot g.normal f.normal = along_plain (dot f.normal f.normal) (dot g.normal g.normal) (dot (cross f.normal g.normal) (cross f.normal g.normal)) (dot g.normal f.normal) (side g p) r t
    (rw (dot_comm g.normal f.normal) (lagrange f.normal g.normal)) z y (rw side-go at l) in record {
      parallel = z;
      along = rw dot_comm a;
      distance = cancel-eq_left (dot f.normal f.normal) r
          (distance_plain (dot f.normal f.normal) (dot g.normal g.normal) (dot f.normal g.normal) (dot (cross f.normal g.normal) (cross f.normal g.normal)) f.distance g.distance (lagrange f.normal g.normal) z (sym (side-foot f g) ∙ y));
    }

-- ---- the laws
pub same : SameLaw
same f g r t = (λ s. proportion_of_numbers f g t (numbers_of_same f g r t s), λ n. same_of_times f g (times_of_proportion f g n))

pub same_by_numbers : SameByNumbersLaw
same_by_numbers f g r t = (numbers_of_same f g r t, same_of_numbers f g t)

-- So it can be decided.
pub same_or_not : (f g : HalfSpace) → pos 0 <ℤ dot f.normal f.normal → pos 0 <ℤ dot g.normal g.normal → SameHalfSpace f g ⊎ ¬ (SameHalfSpace f g)
same_or_not f g r t = by_lt_z (pos 0) (dot (cross f.normal g.normal) (cross f.normal g.normal))
    (λ l. inr (λ s. let n = (numbers_of_same f g r t s).parallel in absurd (omega (arith, ints))))
    (λ l. let k = norm_nonneg (cross f.normal g.normal) in let z : dot (cross f.normal g.normal) (cross f.normal g.normal) ≡ pos 0 = omega (arith, ints) in by_lt_z (pos 0) (dot f.normal g.normal)
    (λ a. by_sign (f.distance *ℤ dot g.normal g.normal -ℤ g.distance *ℤ dot f.normal g.normal)
    (λ d. inr (λ s. let n = (numbers_of_same f g r t s).distance in absurd (omega (arith, ints))))
    (λ d. inl (same_of_numbers f g t (record { parallel = z; along = a; distance = omega (arith, ints) })))
    (λ d. inr (λ s. let n = (numbers_of_same f g r t s).distance in absurd (omega (arith, ints)))))
    (λ a. inr (λ s. let n = (numbers_of_same f g r t s).along in absurd (omega (arith, ints)))))
