-- The words of space, opened once: what they are in terms of one another.
use Rattle.std.proofs.Common.{◌≡◌, List, [], ◌∷◌, ap, ◌∙◌, ℤ, pos, negsuc, ◌+ℤ◌, ◌-ℤ◌, ◌*ℤ◌, neg_ℤ}
use Rattle.algebra.specs.Space.{Vector, Homogeneous, HalfSpace, dot, cross, scale, plus, minus, det, side, reverse, through, whole_point, mix, go, way, meet, SamePoint}
use Rattle.algebra.proofs.Expr.{read}
use Rattle.algebra.proofs.Ring.{ring}
use Rattle.algebra.proofs.Orders.{eq_by_3}

-- ---- what a vector, a half-space and a point are made of, for the list of `ring`
abbrev pub with_vector : Vector → List ℤ → List ℤ
with_vector a rest = a.x ∷ a.y ∷ a.z ∷ rest

abbrev pub with_half_space : HalfSpace → List ℤ → List ℤ
with_half_space f rest = f.distance ∷ with_vector f.normal rest

abbrev pub with_point : Homogeneous → List ℤ → List ℤ
with_point p rest = p.weight ∷ with_vector p.vector rest

-- ---- equal by their parts
pub vector_by : {a b : Vector} → a.x ≡ b.x → a.y ≡ b.y → a.z ≡ b.z → a ≡ b
vector_by {a} {b} h k l =
    ap (λ i. record { x = i; y = a.y; z = a.z }) h ∙ ap (λ i. record { x = b.x; y = i; z = a.z }) k ∙ ap (λ i. record { x = b.x; y = b.y; z = i }) l

pub half_space_by : {f g : HalfSpace} → f.normal ≡ g.normal → f.distance ≡ g.distance → f ≡ g
half_space_by {f} {g} h k = ap (λ i. record { normal = i; distance = f.distance }) h ∙ ap (λ i. record { normal = g.normal; distance = i }) k

-- ---- dot products
pub dot_comm : (a b : Vector) → dot a b ≡ dot b a
unfolding dot
dot_comm a b = ring (with_vector a (with_vector b [])) (search read depth 20) tt

pub dot-plus_left : (a b c : Vector) → dot (plus a b) c ≡ dot a c +ℤ dot b c
unfolding dot plus
dot-plus_left a b c = ring (with_vector a (with_vector b (with_vector c []))) (search read depth 20) tt

pub dot-plus_right : (a b c : Vector) → dot a (plus b c) ≡ dot a b +ℤ dot a c
unfolding dot plus
dot-plus_right a b c = ring (with_vector a (with_vector b (with_vector c []))) (search read depth 20) tt

pub dot-minus_left : (a b c : Vector) → dot (minus a b) c ≡ dot a c -ℤ dot b c
unfolding dot minus
dot-minus_left a b c = ring (with_vector a (with_vector b (with_vector c []))) (search read depth 20) tt

pub dot-minus_right : (a b c : Vector) → dot a (minus b c) ≡ dot a b -ℤ dot a c
unfolding dot minus
dot-minus_right a b c = ring (with_vector a (with_vector b (with_vector c []))) (search read depth 20) tt

pub dot-scale_left : (k : ℤ) (a b : Vector) → dot (scale k a) b ≡ k *ℤ dot a b
unfolding dot scale
dot-scale_left k a b = ring (k ∷ with_vector a (with_vector b [])) (search read depth 20) tt

pub dot-scale_right : (k : ℤ) (a b : Vector) → dot a (scale k b) ≡ k *ℤ dot a b
unfolding dot scale
dot-scale_right k a b = ring (k ∷ with_vector a (with_vector b [])) (search read depth 20) tt

pub dot-neg : (a b : Vector) → dot a (scale (negsuc 0) b) ≡ neg_ℤ (dot a b)
unfolding dot scale
dot-neg a b = ring (with_vector a (with_vector b [])) (search read depth 20) tt

pub norm-neg : (a : Vector) → dot (scale (negsuc 0) a) (scale (negsuc 0) a) ≡ dot a a
unfolding dot scale
norm-neg a = ring (with_vector a []) (search read depth 20) tt

pub norm-minus : (a b : Vector) → dot (minus a b) (minus a b) ≡ dot (minus b a) (minus b a)
unfolding dot minus
norm-minus a b = ring (with_vector a (with_vector b [])) (search read depth 20) tt

-- ---- cross products
pub dot-cross_left : (a b : Vector) → dot a (cross a b) ≡ pos 0
unfolding dot cross
dot-cross_left a b = ring (with_vector a (with_vector b [])) (search read depth 20) tt

pub dot-cross_right : (a b : Vector) → dot b (cross a b) ≡ pos 0
unfolding dot cross
dot-cross_right a b = ring (with_vector a (with_vector b [])) (search read depth 20) tt

pub dot-cross_swap : (k a b : Vector) → dot k (cross b a) ≡ neg_ℤ (dot k (cross a b))
unfolding dot cross
dot-cross_swap k a b = ring (with_vector k (with_vector a (with_vector b []))) (search read depth 20) tt

pub dot-cross_swap_left : (a b k : Vector) → dot (cross b a) k ≡ neg_ℤ (dot (cross a b) k)
unfolding dot cross
dot-cross_swap_left a b k = ring (with_vector k (with_vector a (with_vector b []))) (search read depth 20) tt

pub norm-cross_swap : (a b : Vector) → dot (cross b a) (cross b a) ≡ dot (cross a b) (cross a b)
unfolding dot cross
norm-cross_swap a b = ring (with_vector a (with_vector b [])) (search read depth 20) tt

pub norm-cross_self : (a : Vector) → dot (cross a a) (cross a a) ≡ pos 0
unfolding dot cross
norm-cross_self a = ring (with_vector a []) (search read depth 20) tt

-- k . (a x (b x c))
pub dot-cross_cross : (k a b c : Vector) → dot k (cross a (cross b c)) ≡ dot a c *ℤ dot k b -ℤ dot a b *ℤ dot k c
unfolding dot cross
dot-cross_cross k a b c = ring (with_vector k (with_vector a (with_vector b (with_vector c [])))) (search read depth 20) tt

pub binet_cauchy : (a b c d : Vector) → dot (cross a b) (cross c d) ≡ dot a c *ℤ dot b d -ℤ dot a d *ℤ dot b c
unfolding dot cross
binet_cauchy a b c d = ring (with_vector a (with_vector b (with_vector c (with_vector d [])))) (search read depth 20) tt

pub lagrange : (a b : Vector) → dot a a *ℤ dot b b ≡ dot a b *ℤ dot a b +ℤ dot (cross a b) (cross a b)
unfolding dot cross
lagrange a b = ring (with_vector a (with_vector b [])) (search read depth 20) tt

-- A vector d by its products with a, b and a x b, seen by k.
pub along_cross : (a b k d : Vector) →
    dot (cross a b) (cross a b) *ℤ dot k d ≡ dot k (cross a b) *ℤ dot (cross a b) d +ℤ
    (dot a d *ℤ (dot b b *ℤ dot k a -ℤ dot a b *ℤ dot k b) +ℤ dot b d *ℤ (dot a a *ℤ dot k b -ℤ dot a b *ℤ dot k a))
unfolding dot cross
along_cross a b k d = ring (with_vector a (with_vector b (with_vector k (with_vector d [])))) (search read depth 20) tt

-- ---- determinants
pub det-turn : (a b c : Vector) → det b c a ≡ det a b c
unfolding det dot cross
det-turn a b c = ring (with_vector a (with_vector b (with_vector c []))) (search read depth 20) tt

pub det-turn_back : (a b c : Vector) → det c a b ≡ det a b c
unfolding det dot cross
det-turn_back a b c = ring (with_vector a (with_vector b (with_vector c []))) (search read depth 20) tt

pub det-cross : (a b c : Vector) → dot (cross a b) c ≡ det a b c
unfolding det dot cross
det-cross a b c = ring (with_vector a (with_vector b (with_vector c []))) (search read depth 20) tt

pub det-swap_12 : (a b c : Vector) → det b a c ≡ neg_ℤ (det a b c)
unfolding det dot cross
det-swap_12 a b c = ring (with_vector a (with_vector b (with_vector c []))) (search read depth 20) tt

pub det-swap_13 : (a b c : Vector) → det c b a ≡ neg_ℤ (det a b c)
unfolding det dot cross
det-swap_13 a b c = ring (with_vector a (with_vector b (with_vector c []))) (search read depth 20) tt

pub det-swap_23 : (a b c : Vector) → det a c b ≡ neg_ℤ (det a b c)
unfolding det dot cross
det-swap_23 a b c = ring (with_vector a (with_vector b (with_vector c []))) (search read depth 20) tt

pub det-equal_12 : (a b : Vector) → det a a b ≡ pos 0
unfolding det dot cross
det-equal_12 a b = ring (with_vector a (with_vector b [])) (search read depth 20) tt

pub det-equal_13 : (a b : Vector) → det a b a ≡ pos 0
unfolding det dot cross
det-equal_13 a b = ring (with_vector a (with_vector b [])) (search read depth 20) tt

pub det-equal_23 : (a b : Vector) → det a b b ≡ pos 0
unfolding det dot cross
det-equal_23 a b = ring (with_vector a (with_vector b [])) (search read depth 20) tt

-- Cramer's rule: a vector d by its products with a, b and c, seen by k.
pub cramer : (a b c k d : Vector) → det a b c *ℤ dot k d ≡ det b c k *ℤ dot a d +ℤ (det c a k *ℤ dot b d +ℤ det a b k *ℤ dot c d)
unfolding det dot cross
cramer a b c k d = ring (with_vector a (with_vector b (with_vector c (with_vector k (with_vector d []))))) (search read depth 20) tt

pub cramer-x : (a b c d : Vector) → det a b c *ℤ d.x ≡ dot a d *ℤ (cross b c).x +ℤ dot b d *ℤ (cross c a).x +ℤ dot c d *ℤ (cross a b).x
unfolding det dot cross
cramer-x a b c d = ring (with_vector a (with_vector b (with_vector c (with_vector d [])))) (search read depth 20) tt

pub cramer-y : (a b c d : Vector) → det a b c *ℤ d.y ≡ dot a d *ℤ (cross b c).y +ℤ dot b d *ℤ (cross c a).y +ℤ dot c d *ℤ (cross a b).y
unfolding det dot cross
cramer-y a b c d = ring (with_vector a (with_vector b (with_vector c (with_vector d [])))) (search read depth 20) tt

pub cramer-z : (a b c d : Vector) → det a b c *ℤ d.z ≡ dot a d *ℤ (cross b c).z +ℤ dot b d *ℤ (cross c a).z +ℤ dot c d *ℤ (cross a b).z
unfolding det dot cross
cramer-z a b c d = ring (with_vector a (with_vector b (with_vector c (with_vector d [])))) (search read depth 20) tt

-- ---- sides of points that are made from others
pub side-whole_point : (f : HalfSpace) (a : Vector) → side f (whole_point a) ≡ dot f.normal a -ℤ f.distance
unfolding side dot whole_point
side-whole_point f a = ring (with_half_space f (with_vector a [])) (search read depth 20) tt

pub side-mix : (s : ℤ) (p : Homogeneous) (t : ℤ) (q : Homogeneous) (f : HalfSpace) → side f (mix s p t q) ≡ s *ℤ side f p +ℤ t *ℤ side f q
unfolding side mix dot plus scale
side-mix s p t q f = ring (s ∷ t ∷ with_point p (with_point q (with_half_space f []))) (search read depth 20) tt

pub side-go : (q t : ℤ) (p : Homogeneous) (m : Vector) (f : HalfSpace) → side f (go q t p m) ≡ q *ℤ side f p +ℤ t *ℤ dot f.normal m
unfolding side go dot plus scale
side-go q t p m f = ring (q ∷ t ∷ with_point p (with_vector m (with_half_space f []))) (search read depth 20) tt

pub dot-way : (f : HalfSpace) (p q : Homogeneous) → dot f.normal (way p q) ≡ p.weight *ℤ side f q -ℤ q.weight *ℤ side f p
unfolding side dot way minus scale
dot-way f p q = ring (with_point p (with_point q (with_half_space f []))) (search read depth 20) tt

pub dot-way_turn : (c : Vector) (p q : Homogeneous) → dot c (way q p) ≡ neg_ℤ (dot c (way p q))
unfolding dot way minus scale
dot-way_turn c p q = ring (with_vector c (with_point p (with_point q []))) (search read depth 20) tt

pub dot-way_mix : (c : Vector) (s : ℤ) (p : Homogeneous) (t : ℤ) (q : Homogeneous) → dot c (way p (mix s p t q)) ≡ t *ℤ dot c (way p q)
unfolding dot way minus scale mix plus
dot-way_mix c s p t q = ring (s ∷ t ∷ with_vector c (with_point p (with_point q []))) (search read depth 20) tt

pub dot-way_go : (c : Vector) (q t : ℤ) (p : Homogeneous) (m : Vector) → dot c (way p (go q t p m)) ≡ p.weight *ℤ t *ℤ dot c m
unfolding dot way minus scale go plus
dot-way_go c q t p m = ring (q ∷ t ∷ with_vector c (with_point p (with_vector m []))) (search read depth 20) tt

-- The ways from b to a and to c, seen along n.
pub det-ways : (n : Vector) (a b c : Homogeneous) →
    dot n (cross (way b a) (way b c)) ≡ b.weight *ℤ
    (b.weight *ℤ det n a.vector c.vector -ℤ c.weight *ℤ det n a.vector b.vector -ℤ a.weight *ℤ det n b.vector c.vector)
unfolding det dot cross way minus scale
det-ways n a b c = ring (with_vector n (with_point a (with_point b (with_point c [])))) (search read depth 20) tt

-- The sides of equal points are in proportion.
pub side-same : (f : HalfSpace) (p q : Homogeneous) → SamePoint p q → side f p *ℤ q.weight ≡ side f q *ℤ p.weight
unfolding side dot
side-same f p q s = eq_by_3 f.normal.x f.normal.y f.normal.z s.x s.y s.z (ring (with_point p (with_point q (with_half_space f []))) (search read depth 20) tt)

-- ---- the other half-space of a plane
pub side-reverse : (f : HalfSpace) (p : Homogeneous) → side (reverse f) p ≡ neg_ℤ (side f p)
unfolding side reverse dot scale
side-reverse f p = ring (with_point p (with_half_space f [])) (search read depth 20) tt

pub dot-reverse : (f : HalfSpace) (m : Vector) → dot (reverse f).normal m ≡ neg_ℤ (dot f.normal m)
unfolding reverse dot scale
dot-reverse f m = ring (with_vector m (with_half_space f [])) (search read depth 20) tt

minus_minus : (a : ℤ) → neg_ℤ (pos 1) *ℤ (neg_ℤ (pos 1) *ℤ a) ≡ a
minus_minus a = ring (a ∷ []) (search read depth 20) tt

neg_neg : (a : ℤ) → neg_ℤ (neg_ℤ a) ≡ a
neg_neg a = ring (a ∷ []) (search read depth 20) tt

pub reverse-reverse : (f : HalfSpace) → reverse (reverse f) ≡ f
unfolding reverse scale
reverse-reverse f = half_space_by (vector_by (minus_minus f.normal.x) (minus_minus f.normal.y) (minus_minus f.normal.z)) (neg_neg f.distance)

-- ---- the half-space of three points
pub through-swap : (a b c : Vector) → through c b a ≡ reverse (through a b c)
unfolding through reverse dot cross minus scale
through-swap a b c = half_space_by
    (vector_by (ring (with_vector a (with_vector b (with_vector c []))) (search read depth 20) tt) (ring (with_vector a (with_vector b (with_vector c []))) (search read depth 20) tt) (ring (with_vector a (with_vector b (with_vector c []))) (search read depth 20) tt))
    (ring (with_vector a (with_vector b (with_vector c []))) (search read depth 20) tt)

pub through-turn : (a b c : Vector) → through b c a ≡ through a b c
unfolding through dot cross minus
through-turn a b c = half_space_by
    (vector_by (ring (with_vector a (with_vector b (with_vector c []))) (search read depth 20) tt) (ring (with_vector a (with_vector b (with_vector c []))) (search read depth 20) tt) (ring (with_vector a (with_vector b (with_vector c []))) (search read depth 20) tt))
    (ring (with_vector a (with_vector b (with_vector c []))) (search read depth 20) tt)

pub through-first : (a b c : Vector) → side (through a b c) (whole_point a) ≡ pos 0
unfolding side through dot cross minus whole_point
through-first a b c = ring (with_vector a (with_vector b (with_vector c []))) (search read depth 20) tt

pub through-second : (a b c : Vector) → side (through a b c) (whole_point b) ≡ pos 0
unfolding side through dot cross minus whole_point
through-second a b c = ring (with_vector a (with_vector b (with_vector c []))) (search read depth 20) tt

pub through-third : (a b c : Vector) → side (through a b c) (whole_point c) ≡ pos 0
unfolding side through dot cross minus whole_point
through-third a b c = ring (with_vector a (with_vector b (with_vector c []))) (search read depth 20) tt

pub side-through : (a b c : Vector) (p : Homogeneous) → side (through a b c) p ≡ det (minus p.vector (scale p.weight b)) (minus a b) (minus c b)
unfolding side through det dot cross minus scale
side-through a b c p = ring (with_vector a (with_vector b (with_vector c (with_point p [])))) (search read depth 20) tt

pub side-through_swap : (a b c : Vector) (p : Homogeneous) → side (through c b a) p ≡ neg_ℤ (side (through a b c) p)
side-through_swap a b c p = ap (λ f. side f p) (through-swap a b c) ∙ side-reverse (through a b c) p

-- ---- the common point of three planes
pub side-meet : (f g h k : HalfSpace) →
    side k (meet f g h) ≡ f.distance *ℤ det g.normal h.normal k.normal -ℤ g.distance *ℤ det f.normal h.normal k.normal
    +ℤ h.distance *ℤ det f.normal g.normal k.normal -ℤ k.distance *ℤ det f.normal g.normal h.normal
unfolding side meet det dot cross plus scale
side-meet f g h k = ring (with_half_space f (with_half_space g (with_half_space h (with_half_space k [])))) (search read depth 20) tt

pub meet-first : (f g h : HalfSpace) → side f (meet f g h) ≡ pos 0
unfolding side meet det dot cross plus scale
meet-first f g h = ring (with_half_space f (with_half_space g (with_half_space h []))) (search read depth 20) tt

pub meet-second : (f g h : HalfSpace) → side g (meet f g h) ≡ pos 0
unfolding side meet det dot cross plus scale
meet-second f g h = ring (with_half_space f (with_half_space g (with_half_space h []))) (search read depth 20) tt

pub meet-third : (f g h : HalfSpace) → side h (meet f g h) ≡ pos 0
unfolding side meet det dot cross plus scale
meet-third f g h = ring (with_half_space f (with_half_space g (with_half_space h []))) (search read depth 20) tt

-- The side of a point on a plane k, from its sides on three planes and the side of their common point.
pub three_planes : (f g h k : HalfSpace) (p : Homogeneous) →
    det f.normal g.normal h.normal *ℤ side k p ≡ p.weight *ℤ side k (meet f g h) +ℤ
    (side f p *ℤ dot k.normal (cross g.normal h.normal) +ℤ side g p *ℤ dot k.normal (cross h.normal f.normal) +ℤ side h p *ℤ dot k.normal (cross f.normal g.normal))
unfolding side meet det dot cross plus scale
three_planes f g h k p = ring (with_point p (with_half_space f (with_half_space g (with_half_space h (with_half_space k []))))) (search read depth 20) tt

-- ---- the side on any plane, by its sides at points
-- By three points and their own plane.
pub three_points : (h : HalfSpace) (a b c : Vector) (p : Homogeneous) →
    dot (through a b c).normal (through a b c).normal *ℤ side h p ≡ dot h.normal (through a b c).normal *ℤ side (through a b c) p +ℤ
    (det (minus p.vector (scale p.weight b)) (minus c b) (through a b c).normal *ℤ side h (whole_point a)
    +ℤ det (minus a b) (minus p.vector (scale p.weight b)) (through a b c).normal *ℤ side h (whole_point c)
    +ℤ (p.weight *ℤ dot (through a b c).normal (through a b c).normal -ℤ det (minus p.vector (scale p.weight b)) (minus c b) (through a b c).normal -ℤ det (minus a b) (minus p.vector (scale p.weight b)) (through a b c).normal) *ℤ side h (whole_point b))
unfolding side det dot cross minus scale through whole_point
three_points h a b c p = ring (with_half_space h (with_vector a (with_vector b (with_vector c (with_point p []))))) (search read depth 60 fits 20000) tt

-- By four points.
pub four_points : (h : HalfSpace) (a b c d : Vector) (p : Homogeneous) →
    det (minus b a) (minus c a) (minus d a) *ℤ side h p ≡
    det (minus p.vector (scale p.weight a)) (minus c a) (minus d a) *ℤ side h (whole_point b)
    +ℤ det (minus b a) (minus p.vector (scale p.weight a)) (minus d a) *ℤ side h (whole_point c)
    +ℤ det (minus b a) (minus c a) (minus p.vector (scale p.weight a)) *ℤ side h (whole_point d)
    +ℤ (p.weight *ℤ det (minus b a) (minus c a) (minus d a) -ℤ det (minus p.vector (scale p.weight a)) (minus c a) (minus d a)
    -ℤ det (minus b a) (minus p.vector (scale p.weight a)) (minus d a) -ℤ det (minus b a) (minus c a) (minus p.vector (scale p.weight a))) *ℤ side h (whole_point a)
unfolding side det dot cross minus scale whole_point
four_points h a b c d p = ring (with_half_space h (with_vector a (with_vector b (with_vector c (with_vector d (with_point p [])))))) (search read depth 60 fits 20000) tt
