-- A wall of a box that is moved inward by less than half of each side stays in range.
use Rattle.std.proofs.Common.{◌≡◌, ◌≤◌, Bool, true, false, cond, refl, ap, sym, ◌∙◌, subst, arith, [], ◌∷◌, ℤ, pos, negsuc, neg_ℤ, ◌+ℤ◌, ◌-ℤ◌, ◌*ℤ◌, ◌<ℤ◌, ◌≤ℤ◌, unsigned_abs}
use Rattle.std.specs.Prelude.{int_lt}
use Rattle.std.proofs.lemmas.Int.{ints}
use Rattle.algebra.specs.Space.{Vector, HalfSpace, dot, cross, minus, through, side, whole_point}
use Rattle.algebra.proofs.Expr.{read}
use Rattle.algebra.proofs.Ring.{ring}
use Rattle.algebra.proofs.Orders.{eq_by_3, by_sign, cancel-le_left}
use Rattle.algebra.proofs.Identities.{with_vector, vector_by, through-first, through-second, through-third}
use Rattle.exact_geom.specs.declared.point.Point.{Point}
use Rattle.exact_geom.specs.Machine.{IsWithin}
use Rattle.exact_geom.specs.Planes.{ThreePoints, half_space, vector, is_zero, IsPlane}
use Rattle.exact_geom.proofs.PlaneLaws.{good_points, is_plane, in_range}
use Rattle.map_model.specs.Faces.{Face}
use Rattle.map_model.specs.Brushes.{moved_by, sign_of, inward}
use Rattle.map_model.proofs.Members.{decides_less}
use Rattle.map_laws.proofs.Boxes.{IsNear, within_reach}
use Rattle.map_laws.proofs.Clipping.{in_range as near_in_range}
use Rattle.map_laws.proofs.BoxWalls.{Along, along_x, along_y, along_z}

-- Signs. -----------------------------------------------------------------------------------------------------------------------------

not_less : (x y : ℤ) → y ≤ℤ x → int_lt x y ≡ false
not_less x y h = by (int_lt x y) (decides_less x y).0
  where
    by : (t : Bool) → (t ≡ true → x <ℤ y) → t ≡ false
    by false f = refl
    by true f = let l = f refl in absurd (omega (arith, ints))

sign_front : (n : ℤ) → pos 0 <ℤ n → sign_of n ≡ pos 1
sign_front n h =
    ap (λ t. cond t (neg_ℤ (pos 1)) (cond (int_lt (pos 0) n) (pos 1) (pos 0))) (not_less n (pos 0) (omega (arith, ints)))
    ∙ ap (λ t. cond t (pos 1) (pos 0)) ((decides_less (pos 0) n).1 h)

sign_back : (n : ℤ) → n <ℤ pos 0 → sign_of n ≡ neg_ℤ (pos 1)
sign_back n h = ap (λ t. cond t (neg_ℤ (pos 1)) (cond (int_lt (pos 0) n) (pos 1) (pos 0))) ((decides_less n (pos 0)).1 h)

-- One coordinate. --------------------------------------------------------------------------------------------------------------------

abbrev moved : ℤ → ℤ → ℤ → ℤ
moved t n c = c +ℤ neg_ℤ (t *ℤ sign_of n)

size_by : (z : ℤ) → negsuc 4351 ≤ℤ z → z ≤ℤ pos 4352 → unsigned_abs z ≤ 4352
size_by (pos n) l h = omega (arith, ints)
size_by (negsuc n) l h = omega (arith, ints)

kept : (t n c : ℤ) → n ≡ pos 0 → unsigned_abs c ≤ 4352 → unsigned_abs (moved t n c) ≤ 4352
kept t n c e h = subst (λ z. unsigned_abs z ≤ 4352) (sym (ap (λ k. c +ℤ neg_ℤ (t *ℤ sign_of k)) e ∙ same t c)) h
  where
    same : (t c : ℤ) → c +ℤ neg_ℤ (t *ℤ pos 0) ≡ c
    same t c = omega (arith, ints)

-- u and v are behind a wall with the part n of its normal and the coordinate c, and further apart than twice t.
moved_in : (t n c u v : ℤ) → pos 0 ≤ℤ t → (n *ℤ u) ≤ℤ (n *ℤ c) → (n *ℤ v) ≤ℤ (n *ℤ c) → (t +ℤ t) <ℤ (u -ℤ v) → negsuc 4095 ≤ℤ v → u ≤ℤ pos 4096 → unsigned_abs c ≤ 4352 → ¬ (n ≡ pos 0) →
    unsigned_abs (moved t n c) ≤ 4352
moved_in t n c u v some behind_u behind_v far low high size ne = by_sign n
    (λ l.
    let m : c ≤ℤ v = cancel-le_left (neg_ℤ n) (omega (arith, ints)) (turned n c v behind_v) in
    subst (λ s. unsigned_abs (c +ℤ neg_ℤ (t *ℤ s)) ≤ 4352) (sym (sign_back n l)) (size_by (c +ℤ neg_ℤ (t *ℤ neg_ℤ (pos 1))) (omega (arith, ints, (within_reach c size).0)) (omega (arith, ints))))
    (λ e. absurd (ne e))
    (λ l.
    let m : u ≤ℤ c = cancel-le_left n l behind_u in
    subst (λ s. unsigned_abs (c +ℤ neg_ℤ (t *ℤ s)) ≤ 4352) (sym (sign_front n l)) (size_by (c +ℤ neg_ℤ (t *ℤ pos 1)) (omega (arith, ints)) (omega (arith, ints, (within_reach c size).1))))
  where
    turned : (n c v : ℤ) → (n *ℤ v) ≤ℤ (n *ℤ c) → (neg_ℤ n *ℤ c) ≤ℤ (neg_ℤ n *ℤ v)
    turned n c v h =
        let e : neg_ℤ n *ℤ c ≡ neg_ℤ (n *ℤ c) = ring (n ∷ c ∷ []) (search read depth 20) tt in
        let f : neg_ℤ n *ℤ v ≡ neg_ℤ (n *ℤ v) = ring (n ∷ v ∷ []) (search read depth 20) tt in
        omega (arith, ints)

-- Points behind a wall. --------------------------------------------------------------------------------------------------------------

-- A whole point of the world that isn't in front of the half-space.
pub record Corner (h : HalfSpace) (u : Vector) : Type 0 where
  pub behind : (h.normal.x *ℤ u.x +ℤ h.normal.y *ℤ u.y +ℤ h.normal.z *ℤ u.z -ℤ h.distance *ℤ pos 1) ≤ℤ pos 0
  pub left : negsuc 4095 ≤ℤ u.x
  pub right : u.x ≤ℤ pos 4096
  pub near : negsuc 4095 ≤ℤ u.y
  pub far : u.y ≤ℤ pos 4096
  pub bottom : negsuc 4095 ≤ℤ u.z
  pub top : u.z ≤ℤ pos 4096

-- A normal n with the distance d, the point p on the plane and the corner u.
module _ (n u p : Vector) (d : ℤ) (on : (n.x *ℤ p.x +ℤ n.y *ℤ p.y +ℤ n.z *ℤ p.z -ℤ d *ℤ pos 1) ≡ pos 0) (behind : (n.x *ℤ u.x +ℤ n.y *ℤ u.y +ℤ n.z *ℤ u.z -ℤ d *ℤ pos 1) ≤ℤ pos 0) where
  behind_x : n.y ≡ pos 0 → n.z ≡ pos 0 → (n.x *ℤ u.x) ≤ℤ (n.x *ℤ p.x)
  behind_x e f =
      let g : n.x *ℤ p.x -ℤ n.x *ℤ u.x ≡ pos 0 -ℤ (n.x *ℤ u.x +ℤ n.y *ℤ u.y +ℤ n.z *ℤ u.z -ℤ d *ℤ pos 1) =
      eq_by_3 (pos 1) (u.y -ℤ p.y) (u.z -ℤ p.z) on e f (ring (d ∷ with_vector n (with_vector u (with_vector p []))) (search read depth 20) tt) in
      omega (arith, ints)

  behind_y : n.x ≡ pos 0 → n.z ≡ pos 0 → (n.y *ℤ u.y) ≤ℤ (n.y *ℤ p.y)
  behind_y e f =
      let g : n.y *ℤ p.y -ℤ n.y *ℤ u.y ≡ pos 0 -ℤ (n.x *ℤ u.x +ℤ n.y *ℤ u.y +ℤ n.z *ℤ u.z -ℤ d *ℤ pos 1) =
      eq_by_3 (pos 1) (u.x -ℤ p.x) (u.z -ℤ p.z) on e f (ring (d ∷ with_vector n (with_vector u (with_vector p []))) (search read depth 20) tt) in
      omega (arith, ints)

  behind_z : n.x ≡ pos 0 → n.y ≡ pos 0 → (n.z *ℤ u.z) ≤ℤ (n.z *ℤ p.z)
  behind_z e f =
      let g : n.z *ℤ p.z -ℤ n.z *ℤ u.z ≡ pos 0 -ℤ (n.x *ℤ u.x +ℤ n.y *ℤ u.y +ℤ n.z *ℤ u.z -ℤ d *ℤ pos 1) =
      eq_by_3 (pos 1) (u.x -ℤ p.x) (u.y -ℤ p.y) on e f (ring (d ∷ with_vector n (with_vector u (with_vector p []))) (search read depth 20) tt) in
      omega (arith, ints)

-- Two corners that are further apart along a coordinate than a length.
pub record Spread (h : HalfSpace) (coordinate : Vector → ℤ) (length : ℤ) : Type 0 where
  pub u : Vector
  pub v : Vector
  pub u_corner : Corner h u
  pub v_corner : Corner h v
  pub far : length <ℤ (coordinate u -ℤ coordinate v)

pub record Thin (h : HalfSpace) (length : ℤ) : Type 0 where
  pub x : Spread h (λ u. u.x) length
  pub y : Spread h (λ u. u.y) length
  pub z : Spread h (λ u. u.z) length

module _ (t : ℤ) (some : pos 0 ≤ℤ t) (h : HalfSpace) (thin : Thin h (t +ℤ t)) where
  abbrev inner : Point → Point
  inner p = moved_by (neg_ℤ (t *ℤ sign_of h.normal.x)) (neg_ℤ (t *ℤ sign_of h.normal.y)) (neg_ℤ (t *ℤ sign_of h.normal.z)) p

  stays_near : Along h.normal → (p : Point) → IsWithin 4352 (vector p) → side h (whole_point (vector p)) ≡ pos 0 → IsNear (inner p)
  unfolding side dot whole_point
  stays_near (along_x x y z) p w on = record {
    x = moved_in t h.normal.x p.x thin.x.u.x thin.x.v.x some (behind_x h.normal thin.x.u (vector p) h.distance on thin.x.u_corner.behind y z) (behind_x h.normal thin.x.v (vector p) h.distance on thin.x.v_corner.behind y z)
        thin.x.far thin.x.v_corner.left thin.x.u_corner.right w.x x;
    y = kept t h.normal.y p.y y w.y;
    z = kept t h.normal.z p.z z w.z;
  }
  stays_near (along_y x y z) p w on = record {
    x = kept t h.normal.x p.x x w.x;
    y = moved_in t h.normal.y p.y thin.y.u.y thin.y.v.y some (behind_y h.normal thin.y.u (vector p) h.distance on thin.y.u_corner.behind x z) (behind_y h.normal thin.y.v (vector p) h.distance on thin.y.v_corner.behind x z)
        thin.y.far thin.y.v_corner.near thin.y.u_corner.far w.y y;
    z = kept t h.normal.z p.z z w.z;
  }
  stays_near (along_z x y z) p w on = record {
    x = kept t h.normal.x p.x x w.x;
    y = kept t h.normal.y p.y y w.y;
    z = moved_in t h.normal.z p.z thin.z.u.z thin.z.v.z some (behind_z h.normal thin.z.u (vector p) h.distance on thin.z.u_corner.behind x y) (behind_z h.normal thin.z.v (vector p) h.distance on thin.z.v_corner.behind x y)
        thin.z.far thin.z.v_corner.bottom thin.z.u_corner.top w.z z;
  }

-- Three points that are moved alike have the same normal.
moved_normal : (x y z : ℤ) (t : ThreePoints) → (half_space (record { p0 = moved_by x y z t.p0; p1 = moved_by x y z t.p1; p2 = moved_by x y z t.p2 })).normal ≡ (half_space t).normal
unfolding through minus
moved_normal x y z t = λ i. cross (way t.p0 t.p1 i) (way t.p2 t.p1 i)
  where
    way : (p q : Point) → minus (vector (moved_by x y z p)) (vector (moved_by x y z q)) ≡ minus (vector p) (vector q)
    way p q = vector_by (omega (arith, ints)) (omega (arith, ints)) (omega (arith, ints))

pub inward_plane : (t : ℤ) (f : Face) → pos 0 ≤ℤ t → IsPlane f.plane → Along (half_space f.plane).normal → Thin (half_space f.plane) (t +ℤ t) → IsPlane (inward t f).plane
inward_plane t f some is along thin =
    let h = half_space f.plane in
    let g = good_points f.plane is in
    let near = stays_near t some h thin along in
    is_plane (inward t f).plane (record {
      first = near_in_range _ (near f.plane.p0 (in_range f.plane.p0 g.first) (through-first (vector f.plane.p0) (vector f.plane.p1) (vector f.plane.p2)));
      second = near_in_range _ (near f.plane.p1 (in_range f.plane.p1 g.second) (through-second (vector f.plane.p0) (vector f.plane.p1) (vector f.plane.p2)));
      third = near_in_range _ (near f.plane.p2 (in_range f.plane.p2 g.third) (through-third (vector f.plane.p0) (vector f.plane.p1) (vector f.plane.p2)));
      apart = ap is_zero (moved_normal (neg_ℤ (t *ℤ sign_of h.normal.x)) (neg_ℤ (t *ℤ sign_of h.normal.y)) (neg_ℤ (t *ℤ sign_of h.normal.z)) f.plane) ∙ g.apart;
    })
