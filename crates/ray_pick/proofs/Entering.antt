-- What the search for a ray's entry keeps, and what its end says.
use Rattle.std.proofs.Common.{◌≡◌, ℕ, ◌+◌, ◌<◌, ◌≤◌, ◌^◌, Bool, true, false, ℤ, pos, ◌*ℤ◌, ◌-ℤ◌, ◌<ℤ◌, ◌≤ℤ◌, List, [], length, get_or, take, unsigned_abs, to_z, of_z, sym, subst, ap, ◌∙◌, arith, inl, inr}
use Rattle.std.specs.Int.{w128}
use Rattle.std.specs.Prelude.{int_lt}
use Rattle.std.proofs.lemmas.Int.{ints}
use Rattle.algebra.specs.Members.{◌∈◌, Every}
use Rattle.algebra.specs.Space.{Vector, HalfSpace, side, whole_point}
use Rattle.algebra.proofs.Orders.{le_or_lt, lt_gap, negative-mul, nonneg-mul, nonneg_of_positive}
use Rattle.std.proofs.Math.IntN.{*ℤ_comm}
use Rattle.trim_laws.specs.Solid.{IsIn}
use Rattle.solid_brush.specs.declared.side.Side.{Side}
use Rattle.solid_brush.specs.Sides.{bounds, half_spaces}
use Rattle.ray_pick.specs.declared.passing.Passing.{Passing}
use Rattle.ray_pick.specs.Rays.{Fraction, point_at, IsOnRay, IsEarlier, Misses}
use Rattle.ray_pick.specs.Passings.{Passes, IsSmall, IsInward, IsEntry, place}
use Rattle.ray_pick.proofs.Crossings.{side_at, not_before, at_place, passed_by, passed_later, stays_in_front}
use Rattle.ray_pick.proofs.Members.{is_member, every_more, every_all}
use Rattle.ray_pick.proofs.Sizes.{small}

-- The planes of the sides before place i are passed at e, and no earlier point is in the solid.
pub record Entering (sides : List Side) (a b : Vector) (i : ℕ) (e : Passing) : Type 0 where
  pub on_ray : IsOnRay (place e)
  pub small : IsSmall e
  pub passed : Every (λ f. IsInward f a b → side f (point_at a b (place e)) ≤ℤ pos 0) (half_spaces (take i sides))
  pub first : (u : Fraction) → IsOnRay u → IsIn (half_spaces sides) (point_at a b u) → IsEarlier u (place e) → ⊥

-- The ray's first point.
none_before : (u : Fraction) → IsOnRay u → IsEarlier u (record { num = pos 0; den = pos 1 }) → ⊥
none_before u r e = let n = r.nonneg in omega (arith, ints)

pub begins : (sides : List Side) (a b : Vector) → Entering sides a b 0 (record { start = pos 0; fall = pos 1 })
begins sides a b = record {
  on_ray = record { nonneg = omega (arith, ints); positive = omega (arith, ints) };
  small = record { start = omega arith; fall = omega arith };
  passed = λ f i. elim i [ ];
  first = λ u r k e. none_before u r e;
}

pub side_passes : (f : HalfSpace) (a b : Vector) (p : Passing) → Passes f a b p → (t : Fraction) → side f (point_at a b t) ≡ t.den *ℤ p.start -ℤ t.num *ℤ p.fall
side_passes f a b p is t = side_at f a b t ∙ (λ i. t.den *ℤ sym is.start i -ℤ t.num *ℤ sym is.fall i)

inward_gap : (x y : ℤ) → y <ℤ x → pos 0 <ℤ (x -ℤ y)
inward_gap x y h = lt_gap h

module _ (sides : List Side) (a b : Vector) (i : ℕ) (e : Passing) (so_far : Entering sides a b i e)
    (s : Side) (lt : i < length sides) (is : s ≡ get_or sides i s) (p : Passing) (passes : Passes (bounds s) a b p) where
  -- The next plane is passed inward later: it is the new entry.
  module _ (p_small : IsSmall p) (ahead : pos 0 <ℤ p.fall) (later : (e.start *ℤ p.fall) <ℤ (p.start *ℤ e.fall)) where
    earlier_passed : (g : HalfSpace) → (IsInward g a b → side g (point_at a b (place e)) ≤ℤ pos 0) → IsInward g a b → side g (point_at a b (place p)) ≤ℤ pos 0
    earlier_passed g h inward =
        let x = side g (whole_point a) in
        let y = x -ℤ side g (whole_point b) in
        subst (λ z. z ≤ℤ pos 0) (sym (side_at g a b (place p)))
        (passed_later x y e.start e.fall p.start p.fall (inward_gap _ _ inward) so_far.on_ray.positive ahead (subst (λ z. z ≤ℤ pos 0) (side_at g a b (place e)) (h inward)) later)

    own_passed : IsInward (bounds s) a b → side (bounds s) (point_at a b (place p)) ≤ℤ pos 0
    own_passed inward = subst (λ z. z ≤ℤ pos 0) (sym (side_passes (bounds s) a b p passes (place p))) (at_place p.start p.fall)

    none_earlier : (u : Fraction) → IsOnRay u → IsIn (half_spaces sides) (point_at a b u) → IsEarlier u (place p) → ⊥
    none_earlier u r k h =
        not_before p.start p.fall u.num u.den
        (subst (λ z. z ≤ℤ pos 0) (side_passes (bounds s) a b p passes u) (k.all (bounds s) (is_member sides i s lt is))) h

    -- Nothing is before the ray's first point, so what is later is behind it.
    pub replaced : pos 0 ≤ℤ p.start → Entering sides a b (i + 1) p
    replaced nonneg = record {
      on_ray = record { nonneg = nonneg; positive = ahead };
      small = p_small;
      passed = every_more sides i s lt is (λ g. IsInward g a b → side g (point_at a b (place p)) ≤ℤ pos 0) (λ g j. earlier_passed g (so_far.passed g j)) own_passed;
      first = none_earlier;
    }

  -- Or the entry stays.
  pub stays : (IsInward (bounds s) a b → (e.start *ℤ p.fall) <ℤ (p.start *ℤ e.fall) → ⊥) → Entering sides a b (i + 1) e
  stays h = record {
    on_ray = so_far.on_ray;
    small = so_far.small;
    passed = every_more sides i s lt is (λ g. IsInward g a b → side g (point_at a b (place e)) ≤ℤ pos 0) so_far.passed
        (λ inward. subst (λ z. z ≤ℤ pos 0) (sym (side_passes (bounds s) a b p passes (place e))) (passed_by p.start p.fall e.start e.fall (h inward)));
    first = so_far.first;
  }

apart : (m n : ℤ) → m <ℤ pos 0 → pos 0 ≤ℤ n → n <ℤ m → ⊥
apart m n i j l = omega (arith, ints)

-- A place that is later than one of at least 0 is above 0.
pub later_nonneg : (x y p q : ℤ) → pos 0 ≤ℤ p → pos 0 <ℤ q → pos 0 <ℤ y → (p *ℤ y) <ℤ (x *ℤ q) → pos 0 ≤ℤ x
later_nonneg x y p q hp hq hy h = elim (le_or_lt (pos 0) x) [ inl l ↦ l | inr k ↦ absurd (no_product x y p q hp hq hy h k) ]
  where
    no_product : (x y p q : ℤ) → pos 0 ≤ℤ p → pos 0 <ℤ q → pos 0 <ℤ y → (p *ℤ y) <ℤ (x *ℤ q) → x <ℤ pos 0 → ⊥
    no_product x y p q hp hq hy h k =
        let below : (x *ℤ q) <ℤ pos 0 = subst (λ z. z <ℤ pos 0) (*ℤ_comm q x) (negative-mul q hq k) in
        let above : pos 0 ≤ℤ (p *ℤ y) = nonneg-mul hp (nonneg_of_positive hy) in
        apart (x *ℤ q) (p *ℤ y) below above h

-- The tests on the fall.
pub falls : (x : ℤ) → unsigned_abs x < 2 ^ 42 → int_lt (pos 0) (to_z w128 (of_z w128 x)) ≡ true → pos 0 <ℤ x
falls x h t = let e : int_lt (pos 0) x ≡ true = ap (λ z. int_lt (pos 0) z) (sym (small x h).is) ∙ t in omega (arith, ints)

pub no_fall : (x : ℤ) (f : HalfSpace) (a b : Vector) → unsigned_abs x < 2 ^ 42 → x ≡ side f (whole_point a) -ℤ side f (whole_point b) → int_lt (pos 0) (to_z w128 (of_z w128 x)) ≡ false → IsInward f a b → ⊥
no_fall x f a b h is t inward =
    let e : int_lt (pos 0) x ≡ false = ap (λ z. int_lt (pos 0) z) (sym (small x h).is) ∙ t in
    let g : pos 0 <ℤ x = subst (λ z. pos 0 <ℤ z) (sym is) (lt_gap inward) in
    omega (arith, ints)

-- At the end all planes are passed.
pub entered_all : (sides : List Side) (a b : Vector) (i : ℕ) (e : Passing) → length sides ≤ i → Entering sides a b i e → IsEntry (half_spaces sides) a b e
entered_all sides a b i e l k = record {
  on_ray = k.on_ray;
  small = k.small;
  passed = every_all sides i (λ g. IsInward g a b → side g (point_at a b (place e)) ≤ℤ pos 0) l k.passed;
  first = k.first;
}

-- Where some point of the ray is in the solid, the ray is in it at its entry.
module _ (F : List HalfSpace) (a b : Vector) (e : Passing) (k : IsEntry F a b e) (u : Fraction) (r : IsOnRay u) (h : IsIn F (point_at a b u)) where
  not_earlier : (e.start *ℤ u.den) ≤ℤ (u.num *ℤ e.fall)
  not_earlier = elim (le_or_lt (e.start *ℤ u.den) (u.num *ℤ e.fall)) [ inl l ↦ l | inr l ↦ absurd (k.first u r h l) ]

  not_in_front : (f : HalfSpace) → f ∈ F → side f (whole_point a) ≤ℤ side f (whole_point b) → pos 0 <ℤ side f (point_at a b (place e)) → ⊥
  not_in_front f i level front =
      let x = side f (whole_point a) in
      let y = x -ℤ side f (whole_point b) in
      let ahead : pos 0 <ℤ (u.den *ℤ x -ℤ u.num *ℤ y) =
      stays_in_front x y e.start e.fall u.num u.den (no_gap x (side f (whole_point b)) level) k.on_ray.positive r.positive not_earlier (subst (λ z. pos 0 <ℤ z) (side_at f a b (place e)) front) in
      let behind : side f (point_at a b u) ≤ℤ pos 0 = h.all f i in
      both_ways _ (subst (λ z. pos 0 <ℤ z) (sym (side_at f a b u)) ahead) behind
    where
      no_gap : (x y : ℤ) → x ≤ℤ y → (x -ℤ y) ≤ℤ pos 0
      no_gap x y l = omega (arith, ints)

      both_ways : (z : ℤ) → pos 0 <ℤ z → z ≤ℤ pos 0 → ⊥
      both_ways z p q = omega (arith, ints)

  pub in_at_entry : Every (λ f. side f (point_at a b (place e)) ≤ℤ pos 0) F
  in_at_entry f i = elim (le_or_lt (side f (point_at a b (place e))) (pos 0)) [
    | inl l ↦ l
    | inr front ↦ elim (le_or_lt (side f (whole_point a)) (side f (whole_point b))) [ inl level ↦ absurd (not_in_front f i level front) | inr inward ↦ k.passed f i inward ]
  ]
