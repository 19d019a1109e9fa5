-- Planes along the axes that are moved inward.
use Rattle.std.proofs.Common.{◌≡◌, ℕ, zero, suc, ◌≤◌, Bool, true, false, ◌&&◌, ◌||◌, ◌⊎◌, inl, inr, if◌then◌else◌, IsTrue, nat_le, Some, None, Result, Ok, Err, refl, ap, sym, subst, ◌∙◌, arith, [], ◌∷◌, ℤ, pos, negsuc, ◌+ℤ◌, ◌-ℤ◌, ◌*ℤ◌, neg_ℤ, ◌<ℤ◌, ◌≤ℤ◌, unsigned_abs, to_z, of_z, w32, w64, List, get_or}
use Rattle.std.proofs.lemmas.Bool.{false≢true}
use Rattle.std.proofs.lemmas.Bool.Decides.{nat_tests, Decides-int_eq}
use Rattle.std.proofs.lemmas.Int.{ints, by_lt_z}
use Rattle.std.specs.Option.{option_map_or}
use Rattle.std.specs.Ordering.{int_eq}
use Rattle.algebra.specs.Space.{Vector, Homogeneous, HalfSpace, dot, cross, minus, plus, side, through, whole_point}
use Rattle.algebra.specs.World.{InCube, world}
use Rattle.algebra.proofs.Expr.{read}
use Rattle.algebra.proofs.Ring.{ring}
use Rattle.algebra.proofs.Identities.{vector_by, with_vector, through-first, through-second, through-third}
use Rattle.algebra.proofs.Orders.{negative_of_product, nonpos-mul, nonneg-mul}
use Rattle.exact_geom.specs.declared.point.Point.{Point}
use Rattle.exact_geom.specs.declared.plane.PlaneFault.{PlaneFault}
use Rattle.exact_geom.specs.declared.plane.PlaneFault.TheVariants.{PointRange, Flat}
use Rattle.exact_geom.specs.Planes.{ThreePoints, vector, half_space, is_in_range, is_zero, is_flat, plane_of, IsPlane, parts}
use Rattle.exact_geom.specs.Limits.{normal_limit}
use Rattle.exact_geom.specs.Machine.{IsWithin}
use Rattle.exact_geom.proofs.Exactly.{var, call}
use Rattle.exact_geom.proofs.PlaneLaws.{in_range, good_points, is_plane}
use Rattle.csg_ops.specs.Hollows.{is_along_axis, IsThickness, against, inward_point, inward_plane}

-- ---- one coordinate
pub against_front : (t n c : ℤ) → pos 0 <ℤ n → against t n c ≡ c -ℤ t
against_front t (pos zero) c h = absurd (omega (arith, ints))
against_front t (pos (suc n)) c h = refl
against_front t (negsuc n) c h = absurd (omega (arith, ints))

pub against_back : (t n c : ℤ) → n <ℤ pos 0 → against t n c ≡ c +ℤ t
against_back t (pos n) c h = absurd (omega (arith, ints))
against_back t (negsuc n) c h = refl

pub against_none : (t n c : ℤ) → n ≡ pos 0 → against t n c ≡ c
against_none t n c h = ap (λ m. against t m c) h

-- It is moved by the same for each point.
against_sum : (t n c : ℤ) → against t n c ≡ c +ℤ against t n (pos 0)
against_sum t (pos zero) c = omega (arith, ints)
against_sum t (pos (suc n)) c = omega (arith, ints)
against_sum t (negsuc n) c = omega (arith, ints)

-- The number k times w, below 4353 w where k is below -4352.
low : (k w : ℤ) → pos 0 <ℤ w → k <ℤ negsuc 4351 → (k *ℤ w) ≤ℤ (negsuc 4351 *ℤ w)
low k w h l =
    let m = nonpos-mul w {a = k -ℤ negsuc 4351} (omega (arith, ints)) (omega (arith, ints)) in
    let e : w *ℤ (k -ℤ negsuc 4351) ≡ k *ℤ w -ℤ negsuc 4351 *ℤ w = ring (k ∷ w ∷ []) (search read depth 20) tt in
    omega (arith, ints)

high : (k w : ℤ) → pos 0 <ℤ w → pos 4352 <ℤ k → (pos 4352 *ℤ w) ≤ℤ (k *ℤ w)
high k w h l =
    let m = nonneg-mul {a = w} {b = k -ℤ pos 4352} (omega (arith, ints)) (omega (arith, ints)) in
    let e : w *ℤ (k -ℤ pos 4352) ≡ k *ℤ w -ℤ pos 4352 *ℤ w = ring (k ∷ w ∷ []) (search read depth 20) tt in
    omega (arith, ints)

-- Where some place x / w of the world is behind a face along the axis, the face keeps its range.
kept_front : (t n c x w : ℤ) → IsThickness t → unsigned_abs c ≤ 4352 → pos 0 <ℤ n → pos 0 <ℤ w → neg_ℤ (pos 4096 *ℤ w) ≤ℤ x → (n *ℤ (x -ℤ (c -ℤ t) *ℤ w)) <ℤ pos 0 → unsigned_abs (c -ℤ t) ≤ 4352
kept_front t n c x w h r p q l b =
    let a = h.least in
    let k = negative_of_product n p b in
    by_lt_z (c -ℤ t) (negsuc 4351)
    (λ m. let s = low (c -ℤ t) w q m in absurd (omega (arith, ints)))
    (λ m. omega (arith, ints))

kept_back : (t n c x w : ℤ) → IsThickness t → unsigned_abs c ≤ 4352 → n <ℤ pos 0 → pos 0 <ℤ w → x ≤ℤ (pos 4096 *ℤ w) → (n *ℤ (x -ℤ (c +ℤ t) *ℤ w)) <ℤ pos 0 → unsigned_abs (c +ℤ t) ≤ 4352
kept_back t n c x w h r p q l b =
    let a = h.least in
    let e : neg_ℤ n *ℤ ((c +ℤ t) *ℤ w -ℤ x) ≡ n *ℤ (x -ℤ (c +ℤ t) *ℤ w) = ring (n ∷ x ∷ c ∷ t ∷ w ∷ []) (search read depth 20) tt in
    let k = negative_of_product (neg_ℤ n) {a = (c +ℤ t) *ℤ w -ℤ x} (omega (arith, ints)) (omega (arith, ints)) in
    by_lt_z (pos 4352) (c +ℤ t)
    (λ m. let s = high (c +ℤ t) w q m in absurd (omega (arith, ints)))
    (λ m. omega (arith, ints))

kept : (t n c x w : ℤ) → IsThickness t → unsigned_abs c ≤ 4352 → pos 0 <ℤ w → neg_ℤ (pos 4096 *ℤ w) ≤ℤ x → x ≤ℤ (pos 4096 *ℤ w) → (n *ℤ (x -ℤ against t n c *ℤ w)) <ℤ pos 0 → unsigned_abs (against t n c) ≤ 4352
kept t (pos zero) c x w h r q l m b = r
kept t (pos (suc n)) c x w h r q l m b = kept_front t (pos (suc n)) c x w h r (omega (arith, ints)) q l b
kept t (negsuc n) c x w h r q l m b = kept_back t (negsuc n) c x w h r (omega (arith, ints)) q m b

still : (t n c : ℤ) → n ≡ pos 0 → unsigned_abs c ≤ 4352 → unsigned_abs (against t n c) ≤ 4352
still t n c e r = subst (λ k. unsigned_abs k ≤ 4352) (sym (against_none t n c e)) r

-- ---- a normal along an axis
pub data Axis (n : Vector) : Type 0 where
  along_x : n.y ≡ pos 0 → n.z ≡ pos 0 → Axis n
  along_y : n.z ≡ pos 0 → n.x ≡ pos 0 → Axis n
  along_z : n.x ≡ pos 0 → n.y ≡ pos 0 → Axis n

axis_by : (n : Vector) (p q r : Bool) → int_eq n.x (pos 0) ≡ p → int_eq n.y (pos 0) ≡ q → int_eq n.z (pos 0) ≡ r → ((q && r) || (r && p) || (p && q)) ≡ true → Axis n
axis_by n p true true e f g h = along_x ((Decides-int_eq n.y (pos 0)).0 f) ((Decides-int_eq n.z (pos 0)).0 g)
axis_by n true false true e f g h = along_y ((Decides-int_eq n.z (pos 0)).0 g) ((Decides-int_eq n.x (pos 0)).0 e)
axis_by n true true false e f g h = along_z ((Decides-int_eq n.x (pos 0)).0 e) ((Decides-int_eq n.y (pos 0)).0 f)
axis_by n false false true e f g h = absurd (false≢true h)
axis_by n false false false e f g h = absurd (false≢true h)
axis_by n false true false e f g h = absurd (false≢true h)
axis_by n true false false e f g h = absurd (false≢true h)

pub axis_of : (n : Vector) → is_along_axis n ≡ true → Axis n
axis_of n h = axis_by n (int_eq n.x (pos 0)) (int_eq n.y (pos 0)) (int_eq n.z (pos 0)) refl refl refl h

-- ---- the side of a plane along an axis, by a point on it
-- a u + b v + c w - d e, where a x + b y + c z - d is 0, and two of a, b, c are 0
pub alone : (a b c d u v w e x y z : ℤ) → b ≡ pos 0 → c ≡ pos 0 → (a *ℤ x +ℤ b *ℤ y +ℤ c *ℤ z -ℤ d *ℤ pos 1) ≡ pos 0 → a *ℤ u +ℤ b *ℤ v +ℤ c *ℤ w -ℤ d *ℤ e ≡ a *ℤ (u -ℤ x *ℤ e)
alone a b c d u v w e x y z p q h =
    let k : (a *ℤ x +ℤ pos 0 *ℤ y +ℤ pos 0 *ℤ z -ℤ d *ℤ pos 1) ≡ pos 0 = ap (λ m. a *ℤ x +ℤ m *ℤ y +ℤ pos 0 *ℤ z -ℤ d *ℤ pos 1) (sym p) ∙ ap (λ m. a *ℤ x +ℤ b *ℤ y +ℤ m *ℤ z -ℤ d *ℤ pos 1) (sym q) ∙ h in
    let j : a *ℤ x ≡ d = (let r : (a *ℤ x +ℤ pos 0 *ℤ y +ℤ pos 0 *ℤ z -ℤ d *ℤ pos 1) ≡ a *ℤ x -ℤ d = ring (a ∷ d ∷ x ∷ y ∷ z ∷ []) (search read depth 20) tt in omega (arith, ints)) in
    ap (λ m. a *ℤ u +ℤ m *ℤ v +ℤ c *ℤ w -ℤ d *ℤ e) p ∙ ap (λ m. a *ℤ u +ℤ pos 0 *ℤ v +ℤ m *ℤ w -ℤ d *ℤ e) q
    ∙ ap (λ m. a *ℤ u +ℤ pos 0 *ℤ v +ℤ pos 0 *ℤ w -ℤ m *ℤ e) (sym j) ∙ ring (a ∷ u ∷ v ∷ w ∷ e ∷ x ∷ []) (search read depth 20) tt

pub turn : (a b c d : ℤ) (u v w e : ℤ) → a *ℤ u +ℤ b *ℤ v +ℤ c *ℤ w -ℤ d *ℤ e ≡ b *ℤ v +ℤ c *ℤ w +ℤ a *ℤ u -ℤ d *ℤ e
turn a b c d u v w e = ring (a ∷ b ∷ c ∷ d ∷ u ∷ v ∷ w ∷ e ∷ []) (search read depth 20) tt

range_of : (a b c : ℕ) → a ≤ 4352 → b ≤ 4352 → c ≤ 4352 → (nat_le a 4352 && nat_le b 4352 && nat_le c 4352) ≡ true
range_of a b c p q r = grind (arith, nat_tests)

-- ---- a point of the moved plane stays in range
module _ (t : ℤ) (f : HalfSpace) (q : Point) (p : Homogeneous) (thick : IsThickness t) (range : IsTrue (is_in_range q))
    (on : side f (whole_point (vector (inward_point t f.normal q))) ≡ pos 0) (weight : pos 0 <ℤ p.weight) (within : InCube world p) (behind : side f p <ℤ pos 0) where
  plain_on : f.normal.x *ℤ against t f.normal.x q.x +ℤ f.normal.y *ℤ against t f.normal.y q.y +ℤ f.normal.z *ℤ against t f.normal.z q.z -ℤ f.distance *ℤ pos 1 ≡ pos 0
  unfolding side dot whole_point
  plain_on = on

  plain_behind : (f.normal.x *ℤ p.vector.x +ℤ f.normal.y *ℤ p.vector.y +ℤ f.normal.z *ℤ p.vector.z -ℤ f.distance *ℤ p.weight) <ℤ pos 0
  unfolding side dot
  plain_behind = behind

  in_range_by : Axis f.normal → IsTrue (is_in_range (inward_point t f.normal q))
  in_range_by (along_x y z) =
      let r = in_range q range in
      let e = alone f.normal.x f.normal.y f.normal.z f.distance p.vector.x p.vector.y p.vector.z p.weight (against t f.normal.x q.x) (against t f.normal.y q.y) (against t f.normal.z q.z) y z plain_on in
      range_of (unsigned_abs (against t f.normal.x q.x)) (unsigned_abs (against t f.normal.y q.y)) (unsigned_abs (against t f.normal.z q.z))
      (kept t f.normal.x q.x p.vector.x p.weight thick r.x weight within.left within.right (subst (λ s. s <ℤ pos 0) e plain_behind))
      (still t f.normal.y q.y y r.y) (still t f.normal.z q.z z r.z)
  in_range_by (along_y z x) =
      let r = in_range q range in
      let i = turn f.normal.x f.normal.y f.normal.z f.distance (against t f.normal.x q.x) (against t f.normal.y q.y) (against t f.normal.z q.z) (pos 1) in
      let j = turn f.normal.x f.normal.y f.normal.z f.distance p.vector.x p.vector.y p.vector.z p.weight in
      let e = alone f.normal.y f.normal.z f.normal.x f.distance p.vector.y p.vector.z p.vector.x p.weight (against t f.normal.y q.y) (against t f.normal.z q.z) (against t f.normal.x q.x) z x (sym i ∙ plain_on) in
      range_of (unsigned_abs (against t f.normal.x q.x)) (unsigned_abs (against t f.normal.y q.y)) (unsigned_abs (against t f.normal.z q.z))
      (still t f.normal.x q.x x r.x)
      (kept t f.normal.y q.y p.vector.y p.weight thick r.y weight within.near within.far (subst (λ s. s <ℤ pos 0) (j ∙ e) plain_behind))
      (still t f.normal.z q.z z r.z)
  in_range_by (along_z x y) =
      let r = in_range q range in
      let i = turn f.normal.x f.normal.y f.normal.z f.distance (against t f.normal.x q.x) (against t f.normal.y q.y) (against t f.normal.z q.z) (pos 1)
      ∙ turn f.normal.y f.normal.z f.normal.x f.distance (against t f.normal.y q.y) (against t f.normal.z q.z) (against t f.normal.x q.x) (pos 1) in
      let j = turn f.normal.x f.normal.y f.normal.z f.distance p.vector.x p.vector.y p.vector.z p.weight ∙ turn f.normal.y f.normal.z f.normal.x f.distance p.vector.y p.vector.z p.vector.x p.weight in
      let e = alone f.normal.z f.normal.x f.normal.y f.distance p.vector.z p.vector.x p.vector.y p.weight (against t f.normal.z q.z) (against t f.normal.x q.x) (against t f.normal.y q.y) x y (sym i ∙ plain_on) in
      range_of (unsigned_abs (against t f.normal.x q.x)) (unsigned_abs (against t f.normal.y q.y)) (unsigned_abs (against t f.normal.z q.z))
      (still t f.normal.x q.x x r.x) (still t f.normal.y q.y y r.y)
      (kept t f.normal.z q.z p.vector.z p.weight thick r.z weight within.bottom within.top (subst (λ s. s <ℤ pos 0) (j ∙ e) plain_behind))

-- ---- the moved plane
-- How far each point is moved.
abbrev step : ℤ → Vector → Vector
step t n = record { x = against t n.x (pos 0); y = against t n.y (pos 0); z = against t n.z (pos 0) }

moved_is : (t : ℤ) (n : Vector) (p : Point) → vector (inward_point t n p) ≡ plus (vector p) (step t n)
unfolding plus
moved_is t n p = vector_by (against_sum t n.x p.x) (against_sum t n.y p.y) (against_sum t n.z p.z)

normal_of : (a b c v : Vector) → (through (plus a v) (plus b v) (plus c v)).normal ≡ (through a b c).normal
unfolding through cross minus plus
normal_of a b c v = vector_by
    (ring (with_vector a (with_vector b (with_vector c (with_vector v [])))) (search read depth 20) tt)
    (ring (with_vector a (with_vector b (with_vector c (with_vector v [])))) (search read depth 20) tt)
    (ring (with_vector a (with_vector b (with_vector c (with_vector v [])))) (search read depth 20) tt)

-- Its normal is the same.
pub normal_kept : (t : ℤ) (f : ThreePoints) → (half_space (inward_plane t f)).normal ≡ (half_space f).normal
normal_kept t f =
    let n = (half_space f).normal in
    (λ i. (through (moved_is t n f.p0 i) (moved_is t n f.p1 i) (moved_is t n f.p2 i)).normal) ∙ normal_of (vector f.p0) (vector f.p1) (vector f.p2) (step t n)

-- Where some point of the world is behind it, its points are in range.
pub moved_plane : (t : ℤ) (f : ThreePoints) (p : Homogeneous) → IsThickness t → IsPlane f → is_along_axis (half_space f).normal ≡ true → pos 0 <ℤ p.weight → InCube world p → side (half_space (inward_plane t f)) p <ℤ pos 0 → IsPlane (inward_plane t f)
moved_plane t f p thick h along weight within behind =
    let g = good_points f h in
    let m = inward_plane t f in
    let e = normal_kept t f in
    let axis = axis_of (half_space m).normal (subst (λ n. is_along_axis n ≡ true) (sym e) along) in
    let stays = λ (q : Point) (r : IsTrue (is_in_range q)) (on : side (half_space m) (whole_point (vector (inward_point t (half_space f).normal q))) ≡ pos 0).
    subst (λ n. IsTrue (is_in_range (inward_point t n q))) e
    (in_range_by t (half_space m) q p thick r (subst (λ n. side (half_space m) (whole_point (vector (inward_point t n q))) ≡ pos 0) (sym e) on) weight within behind axis) in
    is_plane m (record {
      first = stays f.p0 g.first (through-first (vector m.p0) (vector m.p1) (vector m.p2));
      second = stays f.p1 g.second (through-second (vector m.p0) (vector m.p1) (vector m.p2));
      third = stays f.p2 g.third (through-third (vector m.p0) (vector m.p1) (vector m.p2));
      apart = ap is_zero e ∙ g.apart;
    })

-- ---- the plane of points
of_verdict : (a b c f : Bool) (t u : ThreePoints) → option_map_or (λ k. Err (PointRange k)) (if a then if b then if c then None else Some 2 else Some 1 else Some 0) (if f then Err Flat else Ok t) ≡ Ok u → u ≡ t
of_verdict true true true false t u h = cc
of_verdict true true true true t u h = cc
of_verdict true true false f t u h = cc
of_verdict true false c f t u h = cc
of_verdict false b c f t u h = cc

pub plane_is : (t u : ThreePoints) → plane_of t ≡ Ok u → u ≡ t
plane_is t u h = of_verdict (is_in_range t.p0) (is_in_range t.p1) (is_in_range t.p2) (is_flat t) t u h

ok_no_err : {e : PlaneFault} {t : ThreePoints} {r : Result ThreePoints PlaneFault} → r ≡ Err e → r ≡ Ok t → ⊥
ok_no_err p q = cc

-- Where there is no moved plane, no point of the world is behind it.
pub none_behind : (t : ℤ) (f : ThreePoints) (e : PlaneFault) → IsThickness t → IsPlane f → is_along_axis (half_space f).normal ≡ true → plane_of (inward_plane t f) ≡ Err e →
    (p : Homogeneous) → pos 0 <ℤ p.weight → InCube world p → ¬ (side (half_space (inward_plane t f)) p <ℤ pos 0)
none_behind t f e thick h along is p weight within behind = ok_no_err is (moved_plane t f p thick h along weight within behind)

-- ---- the moved point in machine numbers
moved_size : (t n c : ℤ) → IsThickness t → unsigned_abs c ≤ 4352 → unsigned_abs (against t n c) ≤ 8448
moved_size t (pos zero) c h r = omega (arith, ints)
moved_size t (pos (suc n)) c h r = let a = h.least in let b = h.most in omega (arith, ints)
moved_size t (negsuc n) c h r = let a = h.least in let b = h.most in omega (arith, ints)

pub coordinate_kept : (c : ℤ) → unsigned_abs c ≤ 4352 → to_z w32 (of_z w32 c) ≡ c
coordinate_kept c r = (var w32 c r tt).is

pub thickness_kept : (t : ℤ) → IsThickness t → to_z w32 (of_z w32 t) ≡ t
thickness_kept t h = (var w32 t {n = 4096} (let a = h.least in let b = h.most in omega (arith, ints)) tt).is

pub moved_kept : (t n c s m d r : ℤ) → IsThickness t → unsigned_abs c ≤ 4352 → r ≡ against s m d → s ≡ t → m ≡ n → d ≡ c → to_z w32 (of_z w32 r) ≡ against t n c
moved_kept t n c s m d r h k e o p q =
    let f : r ≡ against t n c = e ∙ ap (λ u. against u m d) o ∙ ap (λ a. against t a d) p ∙ ap (λ a. against t n a) q in
    ap (λ a. to_z w32 (of_z w32 a)) f ∙ (var w32 (against t n c) (moved_size t n c h k) tt).is

pub part_kept : (l : List ℤ) (n : Vector) → l ≡ parts n → IsWithin normal_limit n → (to_z w64 (of_z w64 (get_or l 0 (pos 0))) ≡ n.x) × (to_z w64 (of_z w64 (get_or l 1 (pos 0))) ≡ n.y) × (to_z w64 (of_z w64 (get_or l 2 (pos 0))) ≡ n.z)
part_kept l n e s = (
  (call w64 (get_or l 0 (pos 0)) n.x (ap (λ k. get_or k 0 (pos 0)) e) s.x tt).is,
  (call w64 (get_or l 1 (pos 0)) n.y (ap (λ k. get_or k 1 (pos 0)) e) s.y tt).is,
  (call w64 (get_or l 2 (pos 0)) n.z (ap (λ k. get_or k 2 (pos 0)) e) s.z tt).is,
)

pub point_by : {a b : Point} → a.x ≡ b.x → a.y ≡ b.y → a.z ≡ b.z → a ≡ b
point_by {a} {b} p q r = λ i. record { x = p i; y = q i; z = r i }

abbrev pub zero_point : Point
zero_point = record { x = pos 0; y = pos 0; z = pos 0 }

-- The moved points as the moved plane's.
pub points_are : (t s : ℤ) (f : ThreePoints) (l : List Point) (a b c : Point) → s ≡ t → l ≡ f.p0 ∷ f.p1 ∷ f.p2 ∷ [] → a ≡ inward_point s (half_space f).normal (get_or l 0 zero_point) → b ≡ inward_point s (half_space f).normal (get_or l 1 zero_point) →
    c ≡ inward_point s (half_space f).normal (get_or l 2 zero_point) → {A : ThreePoints} → A ≡ record { p0 = a; p1 = b; p2 = c } → A ≡ inward_plane t f
points_are t s f l a b c o e p q r w =
    let n = (half_space f).normal in
    w ∙ (λ i. record { p0 = p i; p1 = q i; p2 = r i })
    ∙ (λ i. record { p0 = inward_point (o i) n (get_or (e i) 0 zero_point); p1 = inward_point (o i) n (get_or (e i) 1 zero_point); p2 = inward_point (o i) n (get_or (e i) 2 zero_point) })

pub listed_in_range : (f : ThreePoints) (l : List Point) → l ≡ f.p0 ∷ f.p1 ∷ f.p2 ∷ [] → IsPlane f → (IsTrue (is_in_range (get_or l 0 zero_point))) × (IsTrue (is_in_range (get_or l 1 zero_point))) × (IsTrue (is_in_range (get_or l 2 zero_point)))
listed_in_range f l e h =
    let g = good_points f h in (
      subst (λ k. IsTrue (is_in_range (get_or k 0 zero_point))) (sym e) g.first,
      subst (λ k. IsTrue (is_in_range (get_or k 1 zero_point))) (sym e) g.second,
      subst (λ k. IsTrue (is_in_range (get_or k 2 zero_point))) (sym e) g.third,
    )
