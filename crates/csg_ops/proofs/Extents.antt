-- How far a box reaches each way, and its inner box.
use Rattle.std.proofs.Common.{◌≡◌, List, [], ◌∷◌, sym, subst, ◌∙◌, arith, true, ℤ, pos, negsuc, neg_ℤ, ◌+ℤ◌, ◌-ℤ◌, ◌*ℤ◌, ◌<ℤ◌, ◌≤ℤ◌}
use Rattle.std.proofs.lemmas.Int.{ints}
use Rattle.algebra.specs.Members.{◌∈◌, here, there, Every}
use Rattle.algebra.specs.Space.{Vector, Homogeneous, HalfSpace, dot, side}
use Rattle.algebra.proofs.Expr.{read}
use Rattle.algebra.proofs.Ring.{ring}
use Rattle.algebra.proofs.Orders.{negative_of_product, nonpos_of_product, zero_of_product, cancel-le_left}
use Rattle.trim_laws.specs.Solid.{IsIn, IsInside, Bounded}
use Rattle.trim_laws.specs.Trim.{Bears, Trims, ends, keeps, drops}
use Rattle.trim_laws.specs.Valid.{Valid}
use Rattle.trim_laws.proofs.Bearing.{bears_in, in_of_inside}
use Rattle.solid_laws.proofs.World.{world_bounded}
use Rattle.half_poly.proofs.Listed.{source, image}
use Rattle.solid_brush.specs.declared.side.Side.{Side}
use Rattle.solid_brush.specs.Sides.{bounds, half_spaces, IsSolid}
use Rattle.csg_ops.specs.Hollows.{is_along_axis, inward, inner_box}
use Rattle.csg_ops.proofs.MovedPlanes.{Axis, along_x, along_y, along_z, axis_of}
use Rattle.csg_ops.proofs.Facing.{Faces, forward, backward, both_ways, is_along_x, is_along_y, is_along_z, along_x_by, along_y_by, along_z_by}

-- ---- faces of a trimmed list bear
kept_bears : {F earlier rest kept : List HalfSpace} → Trims F earlier rest kept → (f : HalfSpace) → f ∈ kept → Bears F f
kept_bears ends f m = elim m [ ]
kept_bears (keeps k more) f here = k.bears
kept_bears (keeps k more) f (there m) = kept_bears more f m
kept_bears (drops k more) f m = kept_bears more f m

-- ---- how far the points of a solid go one way
pub record Reach (way : Vector → ℤ) (t : ℤ) (a : List Side) : Type 0 where
  pub side_is : Side
  pub among : side_is ∈ a
  pub faces : Faces way t side_is
  -- a point that goes as far
  pub top : Homogeneous
  pub top_in : IsIn (half_spaces a) top
  pub top_at : way top.vector ≡ faces.place *ℤ top.weight
  -- the other sides that face this way lie in the same plane
  pub only : (s : Side) → s ∈ a → (f : Faces way t s) → f.place ≡ faces.place

at_most_plain : (u c w : ℤ) → (u -ℤ c *ℤ w) ≤ℤ pos 0 → u ≤ℤ (c *ℤ w)
at_most_plain u c w h = omega (arith, ints)

below_plain : (u c w : ℤ) → (u -ℤ c *ℤ w) <ℤ pos 0 → u <ℤ (c *ℤ w)
below_plain u c w h = omega (arith, ints)

at_plain : (u c w : ℤ) → u -ℤ c *ℤ w ≡ pos 0 → u ≡ c *ℤ w
at_plain u c w h = omega (arith, ints)

-- One place is at most another, where it is reached.
reached : (c d u w : ℤ) → pos 0 <ℤ w → u ≡ c *ℤ w → u ≤ℤ (d *ℤ w) → c ≤ℤ d
reached c d u w h e l = cancel-le_left w h (let p : w *ℤ c ≡ c *ℤ w = ring (c ∷ w ∷ []) (search read depth 20) tt in let q : w *ℤ d ≡ d *ℤ w = ring (d ∷ w ∷ []) (search read depth 20) tt in omega (arith, ints))

module _ {way : Vector → ℤ} {t : ℤ} {a : List Side} where
  at_most : (s : Side) → s ∈ a → (f : Faces way t s) → (p : Homogeneous) → IsIn (half_spaces a) p → way p.vector ≤ℤ (f.place *ℤ p.weight)
  at_most s m f p i = at_most_plain (way p.vector) f.place p.weight
      (nonpos_of_product f.n f.ahead (subst (λ k. k ≤ℤ pos 0) (f.outer p) (i.all (bounds s) (image bounds a s m))))

  top_of : (s : Side) → s ∈ a → (f : Faces way t s) (b : Bears (half_spaces a) (bounds s)) → way b.at.vector ≡ f.place *ℤ b.at.weight
  top_of s m f b = at_plain (way b.at.vector) f.place b.at.weight (zero_of_product f.n f.ahead (sym (f.outer b.at) ∙ b.on))

  no_further : Valid (half_spaces a) → (s r : Side) → s ∈ a → r ∈ a → (f : Faces way t s) → (g : Faces way t r) → f.place ≤ℤ g.place
  no_further v s r m n f g =
      let b = kept_bears v.trimmed (bounds s) (image bounds a s m) in
      reached f.place g.place (way b.at.vector) b.at.weight b.weight (top_of s m f b) (at_most r n g b.at (bears_in b))

  pub reach_of : Valid (half_spaces a) → (s : Side) → s ∈ a → Faces way t s → Reach way t a
  reach_of v s m f =
      let b = kept_bears v.trimmed (bounds s) (image bounds a s m) in record {
        side_is = s;
        among = m;
        faces = f;
        top = b.at;
        top_in = bears_in b;
        top_at = top_of s m f b;
        only = λ r n g. let p = no_further v s r m n f g in let q = no_further v r s n m g f in omega (arith, ints);
      }

  pub below : (r : Reach way t a) (p : Homogeneous) → IsIn (half_spaces a) p → way p.vector ≤ℤ (r.faces.place *ℤ p.weight)
  below r p i = at_most r.side_is r.among r.faces p i

  -- A point inside the inner box is as far from the side as the walls are thick.
  pub below_inner : (r : Reach way t a) (p : Homogeneous) → IsInside (half_spaces (inner_box t a)) p → way p.vector <ℤ ((r.faces.place -ℤ t) *ℤ p.weight)
  below_inner r p i = below_plain (way p.vector) (r.faces.place -ℤ t) p.weight
      (negative_of_product r.faces.n r.faces.ahead (subst (λ k. k <ℤ pos 0) (r.faces.inner p) (i.all (bounds (inward t r.side_is)) (inner_in t a r.side_is r.among))))
    where
      inner_in : (t : ℤ) (sides : List Side) (s : Side) → s ∈ sides → bounds (inward t s) ∈ half_spaces (inner_box t sides)
      inner_in t sides s m = image bounds (inner_box t sides) (inward t s) (image (inward t) sides s m)

-- ---- the six ways
abbrev pub right : Vector → ℤ
right v = v.x

abbrev pub left : Vector → ℤ
left v = neg_ℤ v.x

abbrev pub far : Vector → ℤ
far v = v.y

abbrev pub near : Vector → ℤ
near v = neg_ℤ v.y

abbrev pub up : Vector → ℤ
up v = v.z

abbrev pub down : Vector → ℤ
down v = neg_ℤ v.z

pub record BoxReach (t : ℤ) (a : List Side) : Type 0 where
  pub right_is : Reach right t a
  pub left_is : Reach left t a
  pub far_is : Reach far t a
  pub near_is : Reach near t a
  pub up_is : Reach up t a
  pub down_is : Reach down t a

vector_of : ℤ → ℤ → ℤ → Vector
vector_of x y z = record { x = x; y = y; z = z }

module _ (t : ℤ) (a : List Side) (solid : IsSolid a) (along : Every (λ s. is_along_axis (bounds s).normal ≡ true) a) where
  abbrev F : List HalfSpace
  F = half_spaces a

  pub bounded : Bounded F
  bounded = let o = solid.brush.volume in world_bounded F o.at (in_of_inside o.inside) solid.brush.within

  right_face : (s : Side) → s ∈ a → pos 0 <ℤ (bounds s).normal.x → Reach right t a
  right_face s m h = reach_of solid.brush s m (forward t s (along_x_by t s (along s m) (λ e. absurd (omega (arith, ints)))) h)

  left_face : (s : Side) → s ∈ a → (bounds s).normal.x <ℤ pos 0 → Reach left t a
  left_face s m h = reach_of solid.brush s m (backward t s (along_x_by t s (along s m) (λ e. absurd (omega (arith, ints)))) h)

  far_face : (s : Side) → s ∈ a → pos 0 <ℤ (bounds s).normal.y → Reach far t a
  far_face s m h = reach_of solid.brush s m (forward t s (along_y_by t s (along s m) (λ e. absurd (omega (arith, ints)))) h)

  near_face : (s : Side) → s ∈ a → (bounds s).normal.y <ℤ pos 0 → Reach near t a
  near_face s m h = reach_of solid.brush s m (backward t s (along_y_by t s (along s m) (λ e. absurd (omega (arith, ints)))) h)

  up_face : (s : Side) → s ∈ a → pos 0 <ℤ (bounds s).normal.z → Reach up t a
  up_face s m h = reach_of solid.brush s m (forward t s (along_z_by t s (along s m) (λ e. absurd (omega (arith, ints)))) h)

  down_face : (s : Side) → s ∈ a → (bounds s).normal.z <ℤ pos 0 → Reach down t a
  down_face s m h = reach_of solid.brush s m (backward t s (along_z_by t s (along s m) (λ e. absurd (omega (arith, ints)))) h)

  -- Some side has its normal forward along m.
  ahead : {P : Type 0} (x y z : ℤ) → pos 0 <ℤ (x *ℤ x +ℤ y *ℤ y +ℤ z *ℤ z) → ((s : Side) → s ∈ a → pos 0 <ℤ ((bounds s).normal.x *ℤ x +ℤ (bounds s).normal.y *ℤ y +ℤ (bounds s).normal.z *ℤ z) → P) → P
  unfolding dot vector_of
  ahead x y z h then = let f = bounded (vector_of x y z) h in let s = source bounds a f.face f.among in
      then s.it s.among (subst (λ g. pos 0 <ℤ dot g.normal (vector_of x y z)) (sym s.is) f.ahead)

  pub box_reach : BoxReach t a
  box_reach = record {
    right_is = ahead (pos 1) (pos 0) (pos 0) (omega (arith, ints)) (λ s m h. right_face s m (omega (arith, ints)));
    left_is = ahead (negsuc 0) (pos 0) (pos 0) (omega (arith, ints)) (λ s m h. left_face s m (omega (arith, ints)));
    far_is = ahead (pos 0) (pos 1) (pos 0) (omega (arith, ints)) (λ s m h. far_face s m (omega (arith, ints)));
    near_is = ahead (pos 0) (negsuc 0) (pos 0) (omega (arith, ints)) (λ s m h. near_face s m (omega (arith, ints)));
    up_is = ahead (pos 0) (pos 0) (pos 1) (omega (arith, ints)) (λ s m h. up_face s m (omega (arith, ints)));
    down_is = ahead (pos 0) (pos 0) (negsuc 0) (omega (arith, ints)) (λ s m h. down_face s m (omega (arith, ints)));
  }

  -- Each side faces one of the six ways.
  pub each_way : {P : Type 0} (s : Side) → s ∈ a → (Faces right t s → P) → (Faces left t s → P) → (Faces far t s → P) → (Faces near t s → P) → (Faces up t s → P) → (Faces down t s → P) → P
  each_way {P} s m r l f n u d = by_axis (axis_of (bounds s).normal (along s m))
    where
      o : Homogeneous
      o = solid.brush.volume.at

      behind : side (bounds s) o <ℤ pos 0
      behind = solid.brush.volume.inside.all (bounds s) (image bounds a s m)

      by_axis : Axis (bounds s).normal → P
      by_axis (along_x y z) = both_ways t s o behind (is_along_x t s y z) r l
      by_axis (along_y z x) = both_ways t s o behind (is_along_y t s z x) f n
      by_axis (along_z x y) = both_ways t s o behind (is_along_z t s x y) u d
