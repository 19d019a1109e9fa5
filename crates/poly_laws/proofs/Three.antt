-- The normals of three faces of a trimmed list that meet in a point are independent.
use Rattle.std.proofs.Common.{◌≡◌, sym, ◌∙◌, ap, List, [], ◌∷◌, arith, ⊎_elim, ℤ, pos, neg_ℤ, ◌+ℤ◌, ◌-ℤ◌, ◌*ℤ◌, ◌<ℤ◌, ◌≤ℤ◌}
use Rattle.std.proofs.lemmas.Int.{ints, by_lt_z}
use Rattle.algebra.specs.Members.{◌∈◌}
use Rattle.algebra.specs.Space.{Vector, Homogeneous, HalfSpace, dot, cross, det, side, way}
use Rattle.algebra.proofs.Expr.{read}
use Rattle.algebra.proofs.Ring.{ring}
use Rattle.algebra.proofs.Orders.{negative-mul, nonpos-mul, positive-neg}
use Rattle.algebra.proofs.Identities.{dot-way, cramer, det-cross}
use Rattle.trim_laws.specs.Solid.{IsInside}
use Rattle.trim_laws.proofs.SameHalfSpace.{same_of_times, times_of_parallel}
use Rattle.vertex_laws.proofs.TrimVertex.{parallel_or_crosses}
use Rattle.poly_laws.specs.Stands.{Neat}
use Rattle.poly_laws.specs.Three.{ThreeFacesLaw}

-- ---- signs
-- Two terms cancel: where one factor is above 0, the other is below.
opposite : (a x b y : ℤ) → pos 0 <ℤ a → x <ℤ pos 0 → y <ℤ pos 0 → a *ℤ x +ℤ b *ℤ y ≡ pos 0 → b <ℤ pos 0
opposite a x b y p l m z = by_lt_z b (pos 0) (λ k. k) (λ k.
    let s = negative-mul a p l in let t = nonpos-mul b k (below m) in
    absurd (omega (arith, ints)))
  where
    below : y <ℤ pos 0 → y ≤ℤ pos 0
    below k = omega (arith, ints)

-- Two terms of like signs don't.
alike : (a x b y : ℤ) → a <ℤ pos 0 → x <ℤ pos 0 → b <ℤ pos 0 → y <ℤ pos 0 → ¬ (a *ℤ x +ℤ b *ℤ y ≡ pos 0)
alike a x b y l p m q z =
    let s = negative-mul (neg_ℤ a) (positive-neg l) p in let t = negative-mul (neg_ℤ b) (positive-neg m) q in
    let u : neg_ℤ a *ℤ x ≡ neg_ℤ (a *ℤ x) = ring (a ∷ x ∷ []) (search read depth 20) tt in
    let w : neg_ℤ b *ℤ y ≡ neg_ℤ (b *ℤ y) = ring (b ∷ y ∷ []) (search read depth 20) tt in
    absurd (omega (arith, ints))

-- ---- the way from the point to one where the face bears
record Way (f g h : Vector) : Type 0 where
  d : Vector
  flat : dot f d ≡ pos 0
  second : dot g d <ℤ pos 0
  third : dot h d <ℤ pos 0

module _ (F : List HalfSpace) (v o : Homogeneous) (n : Neat F) (i : IsInside F o) (w : pos 0 <ℤ v.weight) where
  way_flat : (f : HalfSpace) (e : Homogeneous) → side f v ≡ pos 0 → side f e ≡ pos 0 → dot f.normal (way v e) ≡ pos 0
  way_flat f e z y = dot-way f v e ∙ ap (λ x. v.weight *ℤ x -ℤ e.weight *ℤ side f v) y ∙ ap (λ x. v.weight *ℤ pos 0 -ℤ e.weight *ℤ x) z ∙ ring (v.weight ∷ e.weight ∷ []) (search read depth 20) tt

  way_behind : (f : HalfSpace) (e : Homogeneous) → side f v ≡ pos 0 → side f e <ℤ pos 0 → dot f.normal (way v e) <ℤ pos 0
  way_behind f e z l =
      let q : dot f.normal (way v e) ≡ v.weight *ℤ side f e = dot-way f v e ∙ ap (λ x. v.weight *ℤ side f e -ℤ e.weight *ℤ x) z ∙ ring (v.weight ∷ e.weight ∷ side f e ∷ []) (search read depth 20) tt in
      rw q (negative-mul v.weight w l)

  way_of : (f g h : HalfSpace) → f ∈ F → g ∈ F → h ∈ F → side f v ≡ pos 0 → side g v ≡ pos 0 → side h v ≡ pos 0 → ¬ (f ≡ g) → ¬ (f ≡ h) → Way f.normal g.normal h.normal
  way_of f g h a b c x y z p q =
      let e = n.bears f a in record {
        d = way v e.at;
        flat = way_flat f e.at x e.on;
        second = way_behind g e.at y (e.others g b (λ s. p (n.once f g a b s)));
        third = way_behind h e.at z (e.others h c (λ s. q (n.once f h a c s)));
      }

  -- Two of them aren't parallel.
  crosses : (g h : HalfSpace) → g ∈ F → h ∈ F → side g v ≡ pos 0 → side h v ≡ pos 0 → ¬ (g ≡ h) → pos 0 <ℤ dot (cross g.normal h.normal) (cross g.normal h.normal)
  crosses g h a b x y p = ⊎_elim (λ c. c)
      (λ z. absurd (p (n.once g h a b (same_of_times g h (times_of_parallel g h o v w x y (i.all g a) (i.all h b) z)))))
      (parallel_or_crosses g.normal h.normal)

drop_first : (a b c : ℤ) (x y z t : ℤ) → pos 0 ≡ a *ℤ x +ℤ (b *ℤ y +ℤ c *ℤ z) → x ≡ pos 0 → b *ℤ y +ℤ c *ℤ z ≡ pos 0
drop_first a b c x y z t q r = ring_of (b *ℤ y +ℤ c *ℤ z) (a *ℤ x) q (ap (λ k. a *ℤ k) r ∙ ring (a ∷ []) (search read depth 20) tt)
  where
    ring_of : (m k : ℤ) → pos 0 ≡ k +ℤ m → k ≡ pos 0 → m ≡ pos 0
    ring_of m k u l = omega (arith, ints)

drop_second : (a b c : ℤ) (x y z t : ℤ) → pos 0 ≡ a *ℤ x +ℤ (b *ℤ y +ℤ c *ℤ z) → y ≡ pos 0 → a *ℤ x +ℤ c *ℤ z ≡ pos 0
drop_second a b c x y z t q r = ring_of (a *ℤ x) (b *ℤ y) (c *ℤ z) q (ap (λ k. b *ℤ k) r ∙ ring (b ∷ []) (search read depth 20) tt)
  where
    ring_of : (k m l : ℤ) → pos 0 ≡ k +ℤ (m +ℤ l) → m ≡ pos 0 → k +ℤ l ≡ pos 0
    ring_of k m l u s = omega (arith, ints)

drop_third : (a b c : ℤ) (x y z t : ℤ) → pos 0 ≡ a *ℤ x +ℤ (b *ℤ y +ℤ c *ℤ z) → z ≡ pos 0 → a *ℤ x +ℤ b *ℤ y ≡ pos 0
drop_third a b c x y z t q r = ring_of (a *ℤ x) (b *ℤ y) (c *ℤ z) q (ap (λ k. c *ℤ k) r ∙ ring (c ∷ []) (search read depth 20) tt)
  where
    ring_of : (k m l : ℤ) → pos 0 ≡ k +ℤ (m +ℤ l) → l ≡ pos 0 → k +ℤ m ≡ pos 0
    ring_of k m l u s = omega (arith, ints)

never : (f g h : Vector) → Way f g h → Way g f h → Way h f g → pos 0 <ℤ dot (cross g h) (cross g h) → ¬ (det f g h ≡ pos 0)
never f g h df dg dh p z =
    let k = cross g h in
    let A = det g h k in let B = det h f k in let C = det f g k in
    let a : pos 0 <ℤ A = rw (det-cross g h k) at p in
    let at_f = drop_first A B C (dot f df.d) (dot g df.d) (dot h df.d) (pos 0) (zero (dot k df.d) ∙ cramer f g h k df.d) df.flat in
    let at_g = drop_second A B C (dot f dg.d) (dot g dg.d) (dot h dg.d) (pos 0) (zero (dot k dg.d) ∙ cramer f g h k dg.d) dg.flat in
    let at_h = drop_third A B C (dot f dh.d) (dot g dh.d) (dot h dh.d) (pos 0) (zero (dot k dh.d) ∙ cramer f g h k dh.d) dh.flat in
    let c = opposite A (dot f dg.d) C (dot h dg.d) a dg.second dg.third at_g in
    let b = opposite A (dot f dh.d) B (dot g dh.d) a dh.second dh.third at_h in
    alike B (dot g df.d) C (dot h df.d) b df.second c df.third at_f
  where
    zero : (x : ℤ) → pos 0 ≡ det f g h *ℤ x
    zero x = sym (ap (λ y. y *ℤ x) z ∙ ring (x ∷ []) (search read depth 20) tt)

pub three_faces : ThreeFacesLaw
three_faces F f g h v o n i w a b c x y z p q r =
    never f.normal g.normal h.normal
    (way_of F v o n i w f g h a b c x y z p (λ e. r (sym e)))
    (way_of F v o n i w g f h b a c y x z (λ e. p (sym e)) q)
    (way_of F v o n i w h f g c a b z x y r (λ e. q (sym e)))
    (crosses F v o n i w g h b c y z q)
