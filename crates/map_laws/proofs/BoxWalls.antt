-- Boxes along the axes: their vertices are whole, and each wall that is moved inward stays in range, where the box is thick enough.
use Rattle.std.proofs.Common.{◌≡◌, List, [], ◌∷◌, Bool, true, false, not, ◌&&◌, ◌||◌, ⊎_elim, refl, ap, sym, ◌∙◌, subst, true≢false, arith, ℤ, pos, ◌+ℤ◌, ◌-ℤ◌, ◌*ℤ◌, ◌<ℤ◌, unsigned_abs}
use Rattle.std.specs.Int.{◌∣◌}
use Rattle.std.specs.Ordering.{int_eq}
use Rattle.std.proofs.Math.Nat.{dvd-mul_left}
use Rattle.std.proofs.lemmas.Nat.Gcd.{dvd_refl}
use Rattle.std.proofs.lemmas.Int.{ints, unsigned_abs-mul}
use Rattle.std.proofs.lemmas.Bool.Decides.{Decides-int_eq}
use Rattle.algebra.specs.Members.{◌∈◌, here, there}
use Rattle.algebra.specs.Space.{Vector, Homogeneous, HalfSpace, dot, cross, det, side, through}
use Rattle.algebra.proofs.Expr.{read}
use Rattle.algebra.proofs.Ring.{ring}
use Rattle.algebra.proofs.Orders.{eq_by_3, by_sign, zero_product}
use Rattle.algebra.proofs.Identities.{with_vector}
use Rattle.exact_geom.specs.Planes.{half_space, vector}
use Rattle.exact_geom.specs.Vertices.{IsReduced}
use Rattle.vertex_laws.specs.Vertex.{IsVertex}
use Rattle.map_model.specs.Faces.{Face}
use Rattle.map_model.specs.Shape.{half_spaces}
use Rattle.map_model.specs.Brushes.{is_along_axis}

-- Normals along an axis. ---------------------------------------------------------------------------------------------------------------

pub data Along (n : Vector) : Type 0 where
  along_x : ¬ (n.x ≡ pos 0) → n.y ≡ pos 0 → n.z ≡ pos 0 → Along n
  along_y : n.x ≡ pos 0 → ¬ (n.y ≡ pos 0) → n.z ≡ pos 0 → Along n
  along_z : n.x ≡ pos 0 → n.y ≡ pos 0 → ¬ (n.z ≡ pos 0) → Along n

zero_by : (a : ℤ) → int_eq a (pos 0) ≡ true → a ≡ pos 0
zero_by a e = (Decides-int_eq a (pos 0)).0 e

some_by : (a : ℤ) → int_eq a (pos 0) ≡ false → ¬ (a ≡ pos 0)
some_by a e s = true≢false (sym ((Decides-int_eq a (pos 0)).1 s) ∙ e)

pub along_axis : (n : Vector) → is_along_axis n ≡ true → Along n
along_axis n e = by (int_eq n.x (pos 0)) (int_eq n.y (pos 0)) (int_eq n.z (pos 0)) refl refl refl e
  where
    by : (x y z : Bool) → int_eq n.x (pos 0) ≡ x → int_eq n.y (pos 0) ≡ y → int_eq n.z (pos 0) ≡ z → ((not x && (y && z)) || ((x && (not y && z)) || (x && (y && not z)))) ≡ true → Along n
    by false true true p q r e = along_x (some_by n.x p) (zero_by n.y q) (zero_by n.z r)
    by true false true p q r e = along_y (zero_by n.x p) (some_by n.y q) (zero_by n.z r)
    by true true false p q r e = along_z (zero_by n.x p) (zero_by n.y q) (some_by n.z r)
    by false false false p q r e = absurd (cc)
    by false false true p q r e = absurd (cc)
    by false true false p q r e = absurd (cc)
    by true false false p q r e = absurd (cc)
    by true true true p q r e = absurd (cc)

-- Vertices are whole. ------------------------------------------------------------------------------------------------------------------

-- One of three planes with independent normals has a part of its normal that isn't 0.
some_part : {P : Type 0} (f g h : ℤ) → ¬ ((f ≡ pos 0) × (g ≡ pos 0) × (h ≡ pos 0)) → (¬ (f ≡ pos 0) → P) → (¬ (g ≡ pos 0) → P) → (¬ (h ≡ pos 0) → P) → P
some_part f g h n p q r = by_sign f (λ l. p (λ e. absurd (omega (arith, ints))))
    (λ e. by_sign g (λ l. q (λ k. absurd (omega (arith, ints))))
    (λ k. by_sign h (λ l. r (λ z. absurd (omega (arith, ints)))) (λ z. absurd (n (e, k, z))) (λ l. r (λ z. absurd (omega (arith, ints)))))
    (λ l. q (λ k. absurd (omega (arith, ints)))))
    (λ l. p (λ e. absurd (omega (arith, ints))))

module _ (f g h : Vector) (l : pos 0 <ℤ det f g h) where
  flat_x : ¬ ((f.x ≡ pos 0) × (g.x ≡ pos 0) × (h.x ≡ pos 0))
  unfolding det dot cross
  flat_x e = let z : f.x *ℤ (g.y *ℤ h.z -ℤ g.z *ℤ h.y) +ℤ f.y *ℤ (g.z *ℤ h.x -ℤ g.x *ℤ h.z) +ℤ f.z *ℤ (g.x *ℤ h.y -ℤ g.y *ℤ h.x) ≡ pos 0 =
      eq_by_3 (g.y *ℤ h.z -ℤ g.z *ℤ h.y) (f.z *ℤ h.y -ℤ f.y *ℤ h.z) (f.y *ℤ g.z -ℤ f.z *ℤ g.y) e.0 e.1 e.2 (ring (with_vector f (with_vector g (with_vector h []))) (search read depth 20) tt) in absurd (omega (arith, ints))

  flat_y : ¬ ((f.y ≡ pos 0) × (g.y ≡ pos 0) × (h.y ≡ pos 0))
  unfolding det dot cross
  flat_y e = let z : f.x *ℤ (g.y *ℤ h.z -ℤ g.z *ℤ h.y) +ℤ f.y *ℤ (g.z *ℤ h.x -ℤ g.x *ℤ h.z) +ℤ f.z *ℤ (g.x *ℤ h.y -ℤ g.y *ℤ h.x) ≡ pos 0 =
      eq_by_3 (g.z *ℤ h.x -ℤ g.x *ℤ h.z) (f.x *ℤ h.z -ℤ f.z *ℤ h.x) (f.z *ℤ g.x -ℤ f.x *ℤ g.z) e.0 e.1 e.2 (ring (with_vector f (with_vector g (with_vector h []))) (search read depth 20) tt) in absurd (omega (arith, ints))

  flat_z : ¬ ((f.z ≡ pos 0) × (g.z ≡ pos 0) × (h.z ≡ pos 0))
  unfolding det dot cross
  flat_z e = let z : f.x *ℤ (g.y *ℤ h.z -ℤ g.z *ℤ h.y) +ℤ f.y *ℤ (g.z *ℤ h.x -ℤ g.x *ℤ h.z) +ℤ f.z *ℤ (g.x *ℤ h.y -ℤ g.y *ℤ h.x) ≡ pos 0 =
      eq_by_3 (g.x *ℤ h.y -ℤ g.y *ℤ h.x) (f.y *ℤ h.x -ℤ f.x *ℤ h.y) (f.x *ℤ g.y -ℤ f.y *ℤ g.x) e.0 e.1 e.2 (ring (with_vector f (with_vector g (with_vector h []))) (search read depth 20) tt) in absurd (omega (arith, ints))

-- A coordinate is whole: the weight divides it.
record IsPlace (u w : ℤ) : Type 0 where
  place : ℤ
  is : u ≡ place *ℤ w

place_plain : (n u c w : ℤ) → ¬ (n ≡ pos 0) → n *ℤ (u -ℤ c *ℤ w) ≡ pos 0 → u ≡ c *ℤ w
place_plain n u c w h z = ⊎_elim (λ k. absurd (h k)) (λ k. omega (arith, ints)) (zero_product n (u -ℤ c *ℤ w) z)

divides_place : (u w : ℤ) → IsPlace u w → unsigned_abs w ∣ unsigned_abs u
divides_place u w p = subst (λ n. unsigned_abs w ∣ n) (sym (ap unsigned_abs p.is ∙ unsigned_abs-mul p.place w)) (dvd-mul_left (unsigned_abs w) (unsigned_abs p.place))

one_is : (w : ℤ) → pos 0 <ℤ w → unsigned_abs w ≡ 1 → w ≡ pos 1
one_is w h e = omega (arith, ints)

-- A plane along an axis, with the numbers of its normal n, of a point v of weight w and of a point p on it.
module _ (n v p : Vector) (w : ℤ) (on : (n.x *ℤ v.x +ℤ n.y *ℤ v.y +ℤ n.z *ℤ v.z -ℤ (n.x *ℤ p.x +ℤ n.y *ℤ p.y +ℤ n.z *ℤ p.z) *ℤ w) ≡ pos 0) where
  place_x : n.y ≡ pos 0 → n.z ≡ pos 0 → n.x *ℤ (v.x -ℤ p.x *ℤ w) ≡ pos 0
  place_x e f = eq_by_3 (pos 1) (p.y *ℤ w -ℤ v.y) (p.z *ℤ w -ℤ v.z) on e f (ring (w ∷ with_vector n (with_vector v (with_vector p []))) (search read depth 20) tt)

  place_y : n.x ≡ pos 0 → n.z ≡ pos 0 → n.y *ℤ (v.y -ℤ p.y *ℤ w) ≡ pos 0
  place_y e f = eq_by_3 (pos 1) (p.x *ℤ w -ℤ v.x) (p.z *ℤ w -ℤ v.z) on e f (ring (w ∷ with_vector n (with_vector v (with_vector p []))) (search read depth 20) tt)

  place_z : n.x ≡ pos 0 → n.y ≡ pos 0 → n.z *ℤ (v.z -ℤ p.z *ℤ w) ≡ pos 0
  place_z e f = eq_by_3 (pos 1) (p.x *ℤ w -ℤ v.x) (p.y *ℤ w -ℤ v.y) on e f (ring (w ∷ with_vector n (with_vector v (with_vector p []))) (search read depth 20) tt)

-- A face of the list by its half-space.
record Source (fs : List Face) (h : HalfSpace) : Type 0 where
  face : Face
  among : face ∈ fs
  is : half_space face.plane ≡ h

source : (fs : List Face) (h : HalfSpace) → h ∈ half_spaces fs → Source fs h
source [] h i = elim i [ ]
source (f ∷ fs) h here = record { face = f; among = here; is = refl }
source (f ∷ fs) h (there i) = let s = source fs h i in record { face = s.face; among = there s.among; is = s.is }

module _ (fs : List Face) (along : (f : Face) → f ∈ fs → Along (half_space f.plane).normal) (v : Homogeneous) (is : IsVertex (half_spaces fs) v) where
  on_x : (h : HalfSpace) → h ∈ half_spaces fs → side h v ≡ pos 0 → ¬ (h.normal.x ≡ pos 0) → IsPlace v.vector.x v.weight
  unfolding side dot through
  on_x h i on some =
      let s = source fs h i in
      elim (along s.face s.among) [
        | along_x x y z ↦
            record { place = s.face.plane.p1.x; is = place_plain (half_space s.face.plane).normal.x v.vector.x s.face.plane.p1.x v.weight x (place_x (half_space s.face.plane).normal v.vector (vector s.face.plane.p1) v.weight (ap (λ g. side g v) s.is ∙ on) y z) }
        | along_y x y z ↦ absurd (some (ap (λ g. g.normal.x) (sym s.is) ∙ x))
        | along_z x y z ↦ absurd (some (ap (λ g. g.normal.x) (sym s.is) ∙ x))
      ]

  on_y : (h : HalfSpace) → h ∈ half_spaces fs → side h v ≡ pos 0 → ¬ (h.normal.y ≡ pos 0) → IsPlace v.vector.y v.weight
  unfolding side dot through
  on_y h i on some =
      let s = source fs h i in
      elim (along s.face s.among) [
        | along_x x y z ↦ absurd (some (ap (λ g. g.normal.y) (sym s.is) ∙ y))
        | along_y x y z ↦
            record { place = s.face.plane.p1.y; is = place_plain (half_space s.face.plane).normal.y v.vector.y s.face.plane.p1.y v.weight y (place_y (half_space s.face.plane).normal v.vector (vector s.face.plane.p1) v.weight (ap (λ g. side g v) s.is ∙ on) x z) }
        | along_z x y z ↦ absurd (some (ap (λ g. g.normal.y) (sym s.is) ∙ y))
      ]

  on_z : (h : HalfSpace) → h ∈ half_spaces fs → side h v ≡ pos 0 → ¬ (h.normal.z ≡ pos 0) → IsPlace v.vector.z v.weight
  unfolding side dot through
  on_z h i on some =
      let s = source fs h i in
      elim (along s.face s.among) [
        | along_x x y z ↦ absurd (some (ap (λ g. g.normal.z) (sym s.is) ∙ z))
        | along_y x y z ↦ absurd (some (ap (λ g. g.normal.z) (sym s.is) ∙ z))
        | along_z x y z ↦
            record { place = s.face.plane.p1.z; is = place_plain (half_space s.face.plane).normal.z v.vector.z s.face.plane.p1.z v.weight z (place_z (half_space s.face.plane).normal v.vector (vector s.face.plane.p1) v.weight (ap (λ g. side g v) s.is ∙ on) x y) }
      ]

  pub is_whole : IsReduced v → v.weight ≡ pos 1
  is_whole reduced = one_is v.weight is.inside.weight (reduced (unsigned_abs v.weight)
      (divides_place v.vector.x v.weight (some_part is.f.normal.x is.g.normal.x is.h.normal.x (flat_x is.f.normal is.g.normal is.h.normal is.independent) (on_x is.f is.f_in is.on_f) (on_x is.g is.g_in is.on_g) (on_x is.h is.h_in is.on_h)))
      (divides_place v.vector.y v.weight (some_part is.f.normal.y is.g.normal.y is.h.normal.y (flat_y is.f.normal is.g.normal is.h.normal is.independent) (on_y is.f is.f_in is.on_f) (on_y is.g is.g_in is.on_g) (on_y is.h is.h_in is.on_h)))
      (divides_place v.vector.z v.weight (some_part is.f.normal.z is.g.normal.z is.h.normal.z (flat_z is.f.normal is.g.normal is.h.normal is.independent) (on_z is.f is.f_in is.on_f) (on_z is.g is.g_in is.on_g) (on_z is.h is.h_in is.on_h)))
      (dvd_refl (unsigned_abs v.weight)))
