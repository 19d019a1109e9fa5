-- Two planes bound one half-space where their numbers are in one positive ratio.
use Rattle.std.proofs.Common.{◌≡◌, [], ◌∷◌, ap, sym, ◌∙◌, arith, Bool, true, false, ◌&&◌, refl, IsTrue, ℤ, pos, negsuc, ◌+ℤ◌, ◌-ℤ◌, ◌*ℤ◌, neg_ℤ, ◌<ℤ◌, ◌≤ℤ◌}
use Rattle.std.specs.Prelude.{int_lt}
use Rattle.std.proofs.lemmas.Int.{ints, by_lt_z}
use Rattle.std.proofs.lemmas.Bool.Decides.{Decides-int_eq}
use Rattle.algebra.specs.Space.{Vector, HalfSpace, Homogeneous, dot, cross, scale, plus, side, go, SameHalfSpace}
use Rattle.algebra.proofs.Expr.{read}
use Rattle.algebra.proofs.Ring.{ring}
use Rattle.algebra.proofs.Orders.{signs, le_by, lt_by, eq_by, eq_by_2, by_sign, positive-mul, cancel-le_left, cancel-eq_left, square_nonneg}
use Rattle.algebra.proofs.Identities.{with_vector, with_half_space, with_point, side-go, dot_comm, lagrange}
use Rattle.algebra.proofs.Vectors.{IsZero, dot-zero_left, is_zero as zero_of_norm}
use Rattle.algebra.proofs.Points.{weight-go}
use Rattle.exact_geom.specs.Machine.{is_along, is_level, is_parallel}
use Rattle.exact_geom.proofs.PlaneLaws.{zero_vector, is_zero_of}

-- the normals are parallel, don't point away from one another, and the distances are in their ratio
pub record InRatio (f g : HalfSpace) : Type 0 where
  pub parallel : IsZero (cross f.normal g.normal)
  pub along : pos 0 <ℤ dot f.normal g.normal
  pub level : f.distance *ℤ dot g.normal g.normal ≡ g.distance *ℤ dot f.normal g.normal

-- ---- from the numbers
sides-parallel : (f g : HalfSpace) (p : Homogeneous) → dot g.normal g.normal *ℤ side f p -ℤ dot f.normal g.normal *ℤ side g p ≡ dot (cross f.normal g.normal) (cross p.vector g.normal) -ℤ p.weight *ℤ (f.distance *ℤ dot g.normal g.normal -ℤ g.distance *ℤ dot f.normal g.normal)
unfolding side dot cross
sides-parallel f g p = ring (with_half_space f (with_half_space g (with_point p []))) (search read depth 20) tt

times_plain : (a s b t c w x y : ℤ) → a *ℤ s -ℤ b *ℤ t ≡ c -ℤ w *ℤ (x -ℤ y) → c ≡ pos 0 → x ≡ y → a *ℤ s ≡ b *ℤ t
times_plain a s b t c w x y e z h = let k : w *ℤ (x -ℤ y) ≡ pos 0 = eq_by w h (ring (w ∷ x ∷ y ∷ []) (search read depth 20) tt) in omega (arith, ints)

times_below : (a b x y : ℤ) → pos 0 <ℤ a → pos 0 <ℤ b → a *ℤ x ≡ b *ℤ y → x ≤ℤ pos 0 → y ≤ℤ pos 0
times_below a b x y h k e l = cancel-le_left b k (le_by (a *ℤ (pos 0 -ℤ x)) (search signs) (eq_by (pos 1) e (ring (a ∷ b ∷ x ∷ y ∷ []) (search read depth 20) tt)))

proportion : (f g : HalfSpace) → InRatio f g → (p : Homogeneous) → dot g.normal g.normal *ℤ side f p ≡ dot f.normal g.normal *ℤ side g p
proportion f g n p =
    times_plain (dot g.normal g.normal) (side f p) (dot f.normal g.normal) (side g p) (dot (cross f.normal g.normal) (cross p.vector g.normal)) p.weight
    (f.distance *ℤ dot g.normal g.normal) (g.distance *ℤ dot f.normal g.normal) (sides-parallel f g p) (dot-zero_left (cross f.normal g.normal) (cross p.vector g.normal) n.parallel) n.level

pub same_of_ratio : (f g : HalfSpace) → pos 0 <ℤ dot g.normal g.normal → InRatio f g → SameHalfSpace f g
same_of_ratio f g r n = record {
  onto = λ p w l. times_below (dot g.normal g.normal) (dot f.normal g.normal) (side f p) (side g p) r n.along (proportion f g n p) l;
  back = λ p w l. times_below (dot f.normal g.normal) (dot g.normal g.normal) (side g p) (side f p) n.along r (sym (proportion f g n p)) l;
}

-- ---- a point on f is on g
enough_plain : (s g : ℤ) → s <ℤ pos 0 → ((pos 1 +ℤ g *ℤ g) *ℤ s +ℤ g) <ℤ pos 0
enough_plain s g l = by_lt_z g (pos 1)
    (λ m. let z : g ≤ℤ pos 0 = omega (arith, ints) in
    lt_by ((pos 0 -ℤ s) +ℤ ((g *ℤ g) *ℤ (pos 0 -ℤ s) +ℤ (pos 0 -ℤ g))) (search signs) (ring (s ∷ g ∷ []) (search read depth 20) tt))
    (λ m.
    let y : pos 0 ≤ℤ ((pos 0 -ℤ s) -ℤ pos 1) = omega (arith, ints) in
    let x : pos 0 ≤ℤ g = omega (arith, ints) in
    lt_by ((pos 0 -ℤ s) +ℤ ((g *ℤ g) *ℤ ((pos 0 -ℤ s) -ℤ pos 1) +ℤ g *ℤ (g -ℤ pos 1))) (search signs) (ring (s ∷ g ∷ []) (search read depth 20) tt))

step_plain : (n s g : ℤ) → (n *ℤ s +ℤ g) <ℤ pos 0 → (n *ℤ s +ℤ pos 1 *ℤ g) <ℤ pos 0
step_plain n s g h = let e : pos 1 *ℤ g ≡ g = ring (g ∷ []) (search read depth 20) tt in omega (arith, ints)

front_plain : (n s k : ℤ) → s ≡ pos 0 → pos 0 <ℤ k → pos 0 <ℤ (n *ℤ s +ℤ pos 1 *ℤ k)
front_plain n s k h p =
    let z : n *ℤ s ≡ pos 0 = eq_by n h (ring (n ∷ s ∷ []) (search read depth 20) tt) in
    let e : pos 1 *ℤ k ≡ k = ring (k ∷ []) (search read depth 20) tt in omega (arith, ints)

below_le : {a : ℤ} → a <ℤ pos 0 → a ≤ℤ pos 0
below_le {a} h = omega (arith, ints)

one_more : (k : ℤ) → pos 0 <ℤ (pos 1 +ℤ k *ℤ k)
one_more k = let s = square_nonneg k in omega (arith, ints)

-- else the point goes along the normal of f, so far that it stays behind g
pub same-on : (f g : HalfSpace) (q : Homogeneous) → SameHalfSpace f g → pos 0 <ℤ dot f.normal f.normal → pos 0 <ℤ q.weight → side f q ≡ pos 0 → side g q ≡ pos 0
same-on f g q s p w h = let k = s.onto q w (omega (arith, ints)) in by_lt_z (side g q) (pos 0)
    (λ l.
    let d = dot g.normal f.normal in
    let n = pos 1 +ℤ d *ℤ d in
    let b : side g (go n (pos 1) q f.normal) <ℤ pos 0 = rw side-go (step_plain n (side g q) d (enough_plain (side g q) d l)) in
    let c = s.back (go n (pos 1) q f.normal) (weight-go n (pos 1) q f.normal (one_more d) w) (below_le b) in
    let e : pos 0 <ℤ side f (go n (pos 1) q f.normal) = rw side-go (front_plain n (side f q) (dot f.normal f.normal) h p) in
    absurd (omega (arith, ints)))
    (λ l. omega (arith, ints))

-- ---- to the numbers
-- the plane's point under the origin
foot : HalfSpace → Homogeneous
foot f = record { vector = scale f.distance f.normal; weight = dot f.normal f.normal }

foot-on : (f : HalfSpace) → side f (foot f) ≡ pos 0
unfolding side foot dot scale
foot-on f = ring (with_half_space f []) (search read depth 20) tt

foot-weight : (f : HalfSpace) → pos 0 <ℤ dot f.normal f.normal → pos 0 <ℤ (foot f).weight
unfolding foot
foot-weight f h = h

-- a flat direction of f is flat in g
flat_both : (f g : HalfSpace) (m : Vector) → SameHalfSpace f g → pos 0 <ℤ dot f.normal f.normal → dot f.normal m ≡ pos 0 → dot g.normal m ≡ pos 0
flat_both f g m s r z =
    let p = foot f in
    let w = foot-weight f r in
    let y = same-on f g p s r w (foot-on f) in
    let a : side f (go (pos 1) (pos 1) p m) ≡ pos 0 = side-go (pos 1) (pos 1) p m f ∙ ap (λ x. pos 1 *ℤ x +ℤ pos 1 *ℤ dot f.normal m) (foot-on f) ∙ ap (λ x. pos 1 *ℤ pos 0 +ℤ pos 1 *ℤ x) z in
    let b = same-on f g (go (pos 1) (pos 1) p m) s r (weight-go (pos 1) (pos 1) p m (omega (arith, ints)) w) a in
    let c : pos 1 *ℤ side g p +ℤ pos 1 *ℤ dot g.normal m ≡ pos 0 = sym (side-go (pos 1) (pos 1) p m g) ∙ b in
    let d : pos 1 *ℤ side g p ≡ pos 0 = eq_by (pos 1) y (ring (side g p ∷ []) (search read depth 20) tt) in
    let e : pos 1 *ℤ dot g.normal m ≡ dot g.normal m = ring (dot g.normal m ∷ []) (search read depth 20) tt in omega (arith, ints)

norm-cross : (f g : Vector) → dot (cross f g) (cross f g) ≡ neg_ℤ (dot g (cross f (cross f g)))
unfolding dot cross
norm-cross f g = ring (with_vector f (with_vector g [])) (search read depth 20) tt

flat-cross : (f g : Vector) → dot f (cross f (cross f g)) ≡ pos 0
unfolding dot cross
flat-cross f g = ring (with_vector f (with_vector g [])) (search read depth 20) tt

neg_zero : {a : ℤ} → a ≡ pos 0 → neg_ℤ a ≡ pos 0
neg_zero {a} h = omega (arith, ints)

parallel_of_same : (f g : HalfSpace) → SameHalfSpace f g → pos 0 <ℤ dot f.normal f.normal → dot (cross f.normal g.normal) (cross f.normal g.normal) ≡ pos 0
parallel_of_same f g s r = norm-cross f.normal g.normal ∙ neg_zero (flat_both f g (cross f.normal (cross f.normal g.normal)) s r (flat-cross f.normal g.normal))

-- the point behind f under its foot is not in front of g
side-under : (f : HalfSpace) → side f (go (pos 1) (negsuc 0) (foot f) f.normal) ≡ neg_ℤ (dot f.normal f.normal)
unfolding side go foot dot scale plus
side-under f = ring (with_half_space f []) (search read depth 20) tt

neg_le : {a : ℤ} → pos 0 <ℤ a → neg_ℤ a ≤ℤ pos 0
neg_le {a} h = omega (arith, ints)

along_plain : (a b c k s : ℤ) → pos 0 <ℤ a → pos 0 <ℤ b → a *ℤ b ≡ k *ℤ k +ℤ c → c ≡ pos 0 → s ≡ pos 0 → (pos 1 *ℤ s +ℤ negsuc 0 *ℤ k) ≤ℤ pos 0 → pos 0 <ℤ k
along_plain a b c k s p q e z y l =
    let d : negsuc 0 *ℤ k ≡ neg_ℤ k = ring (k ∷ []) (search read depth 20) tt in
    let f : pos 1 *ℤ s ≡ s = ring (s ∷ []) (search read depth 20) tt in by_sign k
    (λ m. absurd (omega (arith, ints)))
    (λ m. let x = positive-mul p q in let w : k *ℤ k ≡ pos 0 = eq_by k m (ring (k ∷ []) (search read depth 20) tt) in absurd (omega (arith, ints)))
    (λ m. m)

side-foot : (f g : HalfSpace) → side g (foot f) ≡ f.distance *ℤ dot f.normal g.normal -ℤ g.distance *ℤ dot f.normal f.normal
unfolding side foot dot scale
side-foot f g = ring (with_half_space f (with_half_space g [])) (search read depth 20) tt

level_plain : (n g k c d e : ℤ) → n *ℤ g ≡ k *ℤ k +ℤ c → c ≡ pos 0 → d *ℤ k -ℤ e *ℤ n ≡ pos 0 → n *ℤ (d *ℤ g) ≡ n *ℤ (e *ℤ k)
level_plain n g k c d e h z y = let x : n *ℤ g ≡ k *ℤ k = omega (arith, ints) in eq_by_2 d k x y (ring (n ∷ g ∷ k ∷ d ∷ e ∷ []) (search read depth 20) tt)

zero_le : {a : ℤ} → a ≡ pos 0 → a ≤ℤ pos 0
zero_le {a} h = omega (arith, ints)

pub ratio_of_same : (f g : HalfSpace) → pos 0 <ℤ dot f.normal f.normal → pos 0 <ℤ dot g.normal g.normal → SameHalfSpace f g → InRatio f g
ratio_of_same f g r t s =
    let z = parallel_of_same f g s r in
    let p = foot f in
    let q = go (pos 1) (negsuc 0) p f.normal in
    let w = foot-weight f r in
    let y = same-on f g p s r w (foot-on f) in
    let l : side g q ≤ℤ pos 0 = s.onto q (weight-go (pos 1) (negsuc 0) p f.normal (omega (arith, ints)) w) (rw side-under (neg_le r)) in
    let a : pos 0 <ℤ dot g.normal f.normal = along_plain (dot f.normal f.normal) (dot g.normal g.normal) (dot (cross f.normal g.normal) (cross f.normal g.normal)) (dot g.normal f.normal) (side g p) r t (rw (dot_comm g.normal f.normal) (lagrange f.normal g.normal)) z y (rw side-go at l) in
    record {
      parallel = zero_of_norm (cross f.normal g.normal) (zero_le z);
      along = rw dot_comm a;
      level = cancel-eq_left (dot f.normal f.normal) r (level_plain (dot f.normal f.normal) (dot g.normal g.normal) (dot f.normal g.normal) (dot (cross f.normal g.normal) (cross f.normal g.normal)) f.distance g.distance (lagrange f.normal g.normal) z (sym (side-foot f g) ∙ y));
    }

-- ---- as tests
all_true : (a b c : Bool) → (a && b && c) ≡ true → (a ≡ true) × (b ≡ true) × (c ≡ true)
all_true true true true h = (refl, refl, refl)
all_true true true false h = cc
all_true true false c h = cc
all_true false b c h = cc

true_all : (a b c : Bool) → a ≡ true → b ≡ true → c ≡ true → (a && b && c) ≡ true
true_all true true true p q r = refl
true_all true true false p q r = cc
true_all true false c p q r = cc
true_all false b c p q r = cc

pub ratio_test : (f g : HalfSpace) → (is_parallel f g && is_along f g && is_level f g) ≡ true → InRatio f g
ratio_test f g h =
    let k = all_true (is_parallel f g) (is_along f g) (is_level f g) h in
    let z = zero_vector (cross f.normal g.normal) k.0 in
    let along : int_lt (pos 0) (dot f.normal g.normal) ≡ true = k.1 in
    record {
      parallel = record { x = z.0; y = z.1; z = z.2 };
      along = omega (arith, ints);
      level = (Decides-int_eq (f.distance *ℤ dot g.normal g.normal) (g.distance *ℤ dot f.normal g.normal)).0 k.2;
    }

ahead : (z : ℤ) → pos 0 <ℤ z → int_lt (pos 0) z ≡ true
ahead z h = grind (arith, ints)

pub test_ratio : (f g : HalfSpace) → InRatio f g → (is_parallel f g && is_along f g && is_level f g) ≡ true
test_ratio f g n =
    true_all (is_parallel f g) (is_along f g) (is_level f g) (is_zero_of (cross f.normal g.normal) n.parallel.x n.parallel.y n.parallel.z)
    (ahead (dot f.normal g.normal) n.along)
    ((Decides-int_eq (f.distance *ℤ dot g.normal g.normal) (g.distance *ℤ dot f.normal g.normal)).1 n.level)

-- the answer of `same_halfspace`
pub same_test : (f g : HalfSpace) (r : Bool) → pos 0 <ℤ dot f.normal f.normal → pos 0 <ℤ dot g.normal g.normal → r ≡ (is_parallel f g && is_along f g && is_level f g) → (IsTrue r → SameHalfSpace f g) × (SameHalfSpace f g → IsTrue r)
same_test f g r p q e = (λ t. same_of_ratio f g q (ratio_test f g (sym e ∙ t)), λ s. e ∙ test_ratio f g (ratio_of_same f g p q s))
