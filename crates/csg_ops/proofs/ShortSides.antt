-- A box has a side at most twice as long as its walls are thick exactly where no point is inside it and its inner box.
use Rattle.std.proofs.Common.{◌≡◌, List, [], ◌∷◌, ◌++◌, ap, sym, subst, ◌∙◌, arith, ◌⊎◌, inl, inr, ⊎_elim, true, refl, ℤ, pos, neg_ℤ, ◌+ℤ◌, ◌-ℤ◌, ◌*ℤ◌, ◌<ℤ◌, ◌≤ℤ◌}
use Rattle.std.proofs.lemmas.Int.{ints, by_lt_z}
use Rattle.algebra.specs.Members.{◌∈◌, here, there, Every}
use Rattle.algebra.specs.Space.{Vector, Homogeneous, HalfSpace, side}
use Rattle.algebra.proofs.Expr.{read}
use Rattle.algebra.proofs.Ring.{ring}
use Rattle.algebra.proofs.Orders.{signs, le_by, lt_by, eq_by_2, negative-mul, cancel-le_left, positive_of_product}
use Rattle.trim_laws.specs.Solid.{IsInside}
use Rattle.trim_laws.specs.Valid.{HasInside}
use Rattle.half_poly.proofs.Listed.{source}
use Rattle.solid_brush.specs.declared.side.Side.{Side}
use Rattle.solid_brush.specs.Sides.{bounds, half_spaces, IsSolid}
use Rattle.solid_brush.specs.Blocks.{IsEmpty}
use Rattle.csg_ops.specs.Hollows.{is_along_axis, is_box, inward, inner_box, IsThickness, IsShortAlong, HasShortSide}
use Rattle.csg_ops.specs.Laws.{ThickLaw}
use Rattle.csg_ops.proofs.Facing.{Faces}
use Rattle.csg_ops.proofs.Extents.{Reach, below, below_inner, BoxReach, box_reach, each_way}
use Rattle.csg_ops.proofs.Hollows.{each_along, axes_of_box, right_in}

-- ---- how long the box is along a coordinate
-- u, v on the planes c w and d k, at most l apart
span_plain : (u v c d l w k : ℤ) → pos 0 <ℤ w → pos 0 <ℤ k → u ≡ c *ℤ w → neg_ℤ v ≡ d *ℤ k → (u *ℤ k -ℤ v *ℤ w) ≤ℤ (l *ℤ (w *ℤ k)) → (c +ℤ d) ≤ℤ l
span_plain u v c d l w k p q e f h = cancel-le_left (w *ℤ k) (search signs) (le_by (l *ℤ (w *ℤ k) -ℤ (u *ℤ k -ℤ v *ℤ w)) (search signs) (spread u v c d l w k e f))
  where
    spread : (u v c d l w k : ℤ) → u ≡ c *ℤ w → neg_ℤ v ≡ d *ℤ k → (w *ℤ k) *ℤ l -ℤ (w *ℤ k) *ℤ (c +ℤ d) ≡ l *ℤ (w *ℤ k) -ℤ (u *ℤ k -ℤ v *ℤ w)
    spread u v c d l w k e f = eq_by_2 k w e f (ring (u ∷ v ∷ c ∷ d ∷ l ∷ w ∷ k ∷ []) (search read depth 20) tt)

short_plain : (u v c d l w k : ℤ) → pos 0 <ℤ w → pos 0 <ℤ k → u ≤ℤ (c *ℤ w) → neg_ℤ v ≤ℤ (d *ℤ k) → (c +ℤ d) ≤ℤ l → (u *ℤ k -ℤ v *ℤ w) ≤ℤ (l *ℤ (w *ℤ k))
short_plain u v c d l w k p q e f h = le_by (k *ℤ (c *ℤ w -ℤ u) +ℤ w *ℤ (d *ℤ k -ℤ neg_ℤ v) +ℤ (w *ℤ k) *ℤ (l -ℤ (c +ℤ d))) (search signs) (ring (u ∷ v ∷ c ∷ d ∷ l ∷ w ∷ k ∷ []) (search read depth 20) tt)

module _ {coordinate : Vector → ℤ} {t : ℤ} {a : List Side} (r : Reach coordinate t a) (l : Reach (λ v. neg_ℤ (coordinate v)) t a) where
  abbrev pub span : ℤ
  span = r.faces.place +ℤ l.faces.place

  pub span_at_most : (length : ℤ) → IsShortAlong coordinate length (half_spaces a) → span ≤ℤ length
  span_at_most length h = span_plain (coordinate r.top.vector) (coordinate l.top.vector) r.faces.place l.faces.place length r.top.weight l.top.weight
      r.top_in.weight l.top_in.weight r.top_at l.top_at (h r.top l.top r.top_in l.top_in)

  pub short_along : (length : ℤ) → span ≤ℤ length → IsShortAlong coordinate length (half_spaces a)
  short_along length h p q i j = short_plain (coordinate p.vector) (coordinate q.vector) r.faces.place l.faces.place length p.weight q.weight i.weight j.weight (below r p i) (below l q j) h

  -- A point inside the inner box is between both faces, and as far from each as the walls are thick.
  room_plain : (u c d t w : ℤ) → pos 0 <ℤ w → u <ℤ ((c -ℤ t) *ℤ w) → neg_ℤ u <ℤ ((d -ℤ t) *ℤ w) → (t +ℤ t) <ℤ (c +ℤ d)
  room_plain u c d t w h k m = let p : pos 0 <ℤ (w *ℤ (c +ℤ d -ℤ (t +ℤ t))) = lt_by (((c -ℤ t) *ℤ w -ℤ u) +ℤ ((d -ℤ t) *ℤ w -ℤ neg_ℤ u)) (search signs) (ring (u ∷ c ∷ d ∷ t ∷ w ∷ []) (search read depth 20) tt) in
      let q = positive_of_product w h p in omega (arith, ints)

  pub room : (o : Homogeneous) → IsInside (half_spaces (inner_box t a)) o → (t +ℤ t) <ℤ span
  room o i = room_plain (coordinate o.vector) r.faces.place l.faces.place t o.weight i.weight (below_inner r o i) (below_inner l o i)

-- ---- the centre of the box
-- c is the place of the face, d that of the opposite one; the point lies in the middle, with weight 2
outer_plain : (n c d t e u w : ℤ) → pos 0 <ℤ n → pos 0 ≤ℤ t → (t +ℤ t) <ℤ (c +ℤ d) → e ≡ c → u ≡ c -ℤ d → w ≡ pos 2 → (n *ℤ (u -ℤ e *ℤ w)) <ℤ pos 0
outer_plain n c d t e u w h k m p q r = subst (λ x. (n *ℤ (u -ℤ e *ℤ x)) <ℤ pos 0) (sym r) (negative-mul n h (omega (arith, ints)))

inner_plain : (n c d t e u w : ℤ) → pos 0 <ℤ n → pos 0 ≤ℤ t → (t +ℤ t) <ℤ (c +ℤ d) → e ≡ c → u ≡ c -ℤ d → w ≡ pos 2 → (n *ℤ (u -ℤ (e -ℤ t) *ℤ w)) <ℤ pos 0
inner_plain n c d t e u w h k m p q r = subst (λ x. (n *ℤ (u -ℤ (e -ℤ t) *ℤ x)) <ℤ pos 0) (sym r) (negative-mul n h (omega (arith, ints)))

-- Behind a side, and behind it moved inward.
record Behind (t : ℤ) (s : Side) (o : Homogeneous) : Type 0 where
  outer : side (bounds s) o <ℤ pos 0
  inner : side (bounds (inward t s)) o <ℤ pos 0

behind_face : {way back : Vector → ℤ} {t : ℤ} {a : List Side} (r : Reach way t a) (l : Reach back t a) (o : Homogeneous) → pos 0 ≤ℤ t → (t +ℤ t) <ℤ (r.faces.place +ℤ l.faces.place) →
    way o.vector ≡ r.faces.place -ℤ l.faces.place → o.weight ≡ pos 2 → (s : Side) → s ∈ a → Faces way t s → Behind t s o
behind_face {way} {back} {t} r l o some room u w s m f = record {
  outer = subst (λ k. k <ℤ pos 0) (sym (f.outer o)) (outer_plain f.n r.faces.place l.faces.place t f.place (way o.vector) o.weight f.ahead some room (r.only s m f) u w);
  inner = subst (λ k. k <ℤ pos 0) (sym (f.inner o)) (inner_plain f.n r.faces.place l.faces.place t f.place (way o.vector) o.weight f.ahead some room (r.only s m f) u w);
}

turn_room : (t c d : ℤ) → (t +ℤ t) <ℤ (c +ℤ d) → (t +ℤ t) <ℤ (d +ℤ c)
turn_room t c d h = omega (arith, ints)

turn_place : (u c d : ℤ) → u ≡ c -ℤ d → neg_ℤ u ≡ d -ℤ c
turn_place u c d e = omega (arith, ints)

behind_back : {way : Vector → ℤ} {t : ℤ} {a : List Side} (r : Reach way t a) (l : Reach (λ v. neg_ℤ (way v)) t a) (o : Homogeneous) → pos 0 ≤ℤ t → (t +ℤ t) <ℤ (r.faces.place +ℤ l.faces.place) →
    way o.vector ≡ r.faces.place -ℤ l.faces.place → o.weight ≡ pos 2 → (s : Side) → s ∈ a → Faces (λ v. neg_ℤ (way v)) t s → Behind t s o
behind_back {way} {t} r l o some room u w =
    behind_face l r o some (turn_room t r.faces.place l.faces.place room) (turn_place (way o.vector) r.faces.place l.faces.place u) w

by_part : {P : Type 0} (xs ys : List Side) (f : HalfSpace) → f ∈ half_spaces (xs ++ ys) → (f ∈ half_spaces xs → P) → (f ∈ half_spaces ys → P) → P
by_part [] ys f m k l = l m
by_part (x ∷ xs) ys f here k l = k here
by_part (x ∷ xs) ys f (there m) k l = by_part xs ys f m (λ n. k (there n)) l

both_inside : (t : ℤ) (a : List Side) (o : Homogeneous) → pos 0 <ℤ o.weight → ((s : Side) → s ∈ a → Behind t s o) → IsInside (half_spaces (a ++ inner_box t a)) o
both_inside t a o w h = record { weight = w; all = each }
  where
    outer_behind : (f : HalfSpace) → f ∈ half_spaces a → side f o <ℤ pos 0
    outer_behind f m = let s = source bounds a f m in subst (λ g. side g o <ℤ pos 0) s.is (h s.it s.among).outer

    inner_behind : (f : HalfSpace) → f ∈ half_spaces (inner_box t a) → side f o <ℤ pos 0
    inner_behind f m = let i = source bounds (inner_box t a) f m in let s = source (inward t) a i.it i.among in
        subst (λ g. side g o <ℤ pos 0) (ap bounds s.is ∙ i.is) (h s.it s.among).inner

    each : (f : HalfSpace) → f ∈ half_spaces (a ++ inner_box t a) → side f o <ℤ pos 0
    each f m = by_part a (inner_box t a) f m (λ k. outer_behind f k) (λ k. inner_behind f k)

module _ (t : ℤ) (a : List Side) (some : pos 0 ≤ℤ t) (solid : IsSolid a) (along : Every (λ s. is_along_axis (bounds s).normal ≡ true) a) where
  b : BoxReach t a
  b = box_reach t a solid along

  abbrev middle : Homogeneous
  middle = record {
    vector = record {
      x = b.right_is.faces.place -ℤ b.left_is.faces.place;
      y = b.far_is.faces.place -ℤ b.near_is.faces.place;
      z = b.up_is.faces.place -ℤ b.down_is.faces.place;
    };
    weight = pos 2;
  }

  middle_inside : (t +ℤ t) <ℤ span b.right_is b.left_is → (t +ℤ t) <ℤ span b.far_is b.near_is → (t +ℤ t) <ℤ span b.up_is b.down_is → IsInside (half_spaces (a ++ inner_box t a)) middle
  middle_inside x y z = both_inside t a middle (omega (arith, ints)) (λ s m. each_way t a solid along s m
      (behind_face b.right_is b.left_is middle some x refl refl s m)
      (behind_back b.right_is b.left_is middle some x refl refl s m)
      (behind_face b.far_is b.near_is middle some y refl refl s m)
      (behind_back b.far_is b.near_is middle some y refl refl s m)
      (behind_face b.up_is b.down_is middle some z refl refl s m)
      (behind_back b.up_is b.down_is middle some z refl refl s m))

  pub short_of_empty : IsEmpty (a ++ inner_box t a) → HasShortSide (t +ℤ t) (half_spaces a)
  short_of_empty none =
      by_lt_z (t +ℤ t) (span b.right_is b.left_is) (λ x.
      by_lt_z (t +ℤ t) (span b.far_is b.near_is) (λ y.
      by_lt_z (t +ℤ t) (span b.up_is b.down_is) (λ z. absurd (none middle (middle_inside x y z)))
      (λ k. inr (inr (short_along b.up_is b.down_is (t +ℤ t) k))))
      (λ k. inr (inl (short_along b.far_is b.near_is (t +ℤ t) k))))
      (λ k. inl (short_along b.right_is b.left_is (t +ℤ t) k))

  not_both : (n m : ℤ) → n <ℤ m → m ≤ℤ n → ⊥
  not_both n m h k = absurd (omega (arith, ints))

  pub empty_of_short : HasShortSide (t +ℤ t) (half_spaces a) → IsEmpty (a ++ inner_box t a)
  empty_of_short h p i =
      let inside : IsInside (half_spaces (inner_box t a)) p = record { weight = i.weight; all = λ f m. i.all f (right_in a (inner_box t a) f m) } in
      ⊎_elim (λ x. not_both _ _ (room b.right_is b.left_is p inside) (span_at_most b.right_is b.left_is (t +ℤ t) x))
      (λ k. ⊎_elim (λ y. not_both _ _ (room b.far_is b.near_is p inside) (span_at_most b.far_is b.near_is (t +ℤ t) y))
      (λ z. not_both _ _ (room b.up_is b.down_is p inside) (span_at_most b.up_is b.down_is (t +ℤ t) z)) k) h

pub thick : ThickLaw
thick t a some solid box = let along = each_along a (axes_of_box a box) in (short_of_empty t a some solid along, empty_of_short t a some solid along)

some_thickness : (t : ℤ) → IsThickness t → pos 0 ≤ℤ t
some_thickness t h = let l = h.least in omega (arith, ints)

pub thick_short : (t : ℤ) (a : List Side) → IsThickness t → IsSolid a → is_box a ≡ true → IsEmpty (a ++ inner_box t a) → HasShortSide (t +ℤ t) (half_spaces a)
thick_short t a h solid box none = (thick t a (some_thickness t h) solid box).0 none

pub long_common : (t : ℤ) (a : List Side) → IsThickness t → IsSolid a → is_box a ≡ true → HasInside (half_spaces (a ++ inner_box t a)) → ¬ (HasShortSide (t +ℤ t) (half_spaces a))
long_common t a h solid box common short = (thick t a (some_thickness t h) solid box).1 short common.at common.inside
