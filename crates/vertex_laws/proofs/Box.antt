-- A list together with the faces of a cube: what it tells of the list alone.
use Rattle.std.proofs.Common.{◌≡◌, List, [], ◌∷◌, arith, ◌⊎◌, inl, inr, ⊎_elim, ℤ, pos, negsuc, ◌+ℤ◌, ◌-ℤ◌, ◌*ℤ◌, ◌<ℤ◌, ◌≤ℤ◌}
use Rattle.std.proofs.lemmas.Int.{ints, by_lt_z}
use Rattle.algebra.specs.Members.{◌∈◌, here, there, Every}
use Rattle.algebra.specs.Ratio.{Hit}
use Rattle.algebra.specs.Space.{Homogeneous, HalfSpace, dot, side, mix, go, way, SameHalfSpace}
use Rattle.algebra.specs.World.{InCube, world, reach}
use Rattle.algebra.proofs.Expr.{read}
use Rattle.algebra.proofs.Ring.{ring}
use Rattle.algebra.proofs.Orders.{signs, lt_by, le_by, eq_by, nonneg_of_positive}
use Rattle.algebra.proofs.Identities.{side-mix, side-go, dot-way}
use Rattle.algebra.proofs.Members.{each_of_more}
use Rattle.algebra.proofs.Points.{mix-behind_right, weight-mix, weight-go}
use Rattle.algebra.proofs.Ratio.{ratio_test}
use Rattle.trim_laws.specs.Solid.{IsIn, IsInside, Proper}
use Rattle.trim_laws.specs.Trim.{Bears, Trims, ends, keeps, drops}
use Rattle.trim_laws.specs.Valid.{HasInside, LeavesCube, NoVolume, OutOfWorld}
use Rattle.trim_laws.proofs.Steps.{small, step_short}
use Rattle.trim_laws.proofs.SameHalfSpace.{same_sym, same_on}
use Rattle.trim_laws.proofs.Bearing.{bears_in, in_of_inside}
use Rattle.trim_laws.proofs.Once.{bears_in_part}
use Rattle.vertex_laws.specs.Cube.{wall, cube, boxed}
use Rattle.vertex_laws.specs.Laws.{BoxVolumeLaw, BoxLeavesLaw, BoxTrimLaw}
use Rattle.vertex_laws.proofs.Choice.{some_or_all}
use Rattle.vertex_laws.proofs.Cube.{side-wall, each_wall, in_walls, of_walls}

-- ---- members
own : {c : ℤ} {F : List HalfSpace} (f : HalfSpace) → f ∈ F → f ∈ boxed c F
own f m = there (there (there (there (there (there m)))))

walls : (c : ℤ) (F : List HalfSpace) → Every (λ k. k ∈ boxed c F) (cube c)
walls c F = each_wall (λ k. k ∈ boxed c F) c here (there here) (there (there here)) (there (there (there here)))
    (there (there (there (there here)))) (there (there (there (there (there here)))))

each_boxed : (P : HalfSpace → Type 0) (c : ℤ) (F : List HalfSpace) → Every P (cube c) → Every P F → Every P (boxed c F)
each_boxed P c F w all = each_of_more P _ _ (w _ here) (each_of_more P _ _ (w _ (there here)) (each_of_more P _ _ (w _ (there (there here)))
    (each_of_more P _ _ (w _ (there (there (there here)))) (each_of_more P _ _ (w _ (there (there (there (there here)))))
    (each_of_more P _ _ (w _ (there (there (there (there (there here)))))) all)))))

in_own : (c : ℤ) (F : List HalfSpace) (p : Homogeneous) → IsIn (boxed c F) p → IsIn F p
in_own c F p i = record { weight = i.weight; all = λ f m. i.all f (own f m) }

-- ---- some point of the cube is inside exactly where some point is inside the list with the cube's faces
abbrev pub centre : Homogeneous
centre = record { vector = record { x = pos 0; y = pos 0; z = pos 0 }; weight = pos 1 }

pub centre_behind : (c : ℤ) → pos 0 <ℤ c → (k : HalfSpace) → k ∈ cube c → side k centre <ℤ pos 0
centre_behind c h = each_wall (λ k. side k centre <ℤ pos 0) c (rw side-wall (at_centre (pos 1) (pos 0) (pos 0))) (rw side-wall (at_centre (negsuc 0) (pos 0) (pos 0)))
    (rw side-wall (at_centre (pos 0) (pos 1) (pos 0))) (rw side-wall (at_centre (pos 0) (negsuc 0) (pos 0)))
    (rw side-wall (at_centre (pos 0) (pos 0) (pos 1))) (rw side-wall (at_centre (pos 0) (pos 0) (negsuc 0)))
  where
    at_centre : (x y z : ℤ) → ((x *ℤ pos 0 +ℤ y *ℤ pos 0 +ℤ z *ℤ pos 0) -ℤ c *ℤ pos 1) <ℤ pos 0
    at_centre x y z = lt_by c h (ring (x ∷ y ∷ z ∷ c ∷ []) (search read depth 20) tt)

inside_box : (c : ℤ) (F : List HalfSpace) (p : Homogeneous) → pos 0 <ℤ c → InCube c p → IsInside F p → HasInside (boxed c F)
inside_box c F p h i j =
    let s = small (λ f. side f p) (λ f. side f centre) F in
    let one : pos 0 <ℤ pos 1 = omega (arith, ints) in record {
      at = mix s.n p (pos 1) centre;
      inside = record {
        weight = weight-mix s.n p (pos 1) centre s.positive (nonneg_of_positive one) j.weight one;
        all = each_boxed (λ f. side f (mix s.n p (pos 1) centre) <ℤ pos 0) c F
            (λ k m. mix-behind_right s.n p (pos 1) centre k (nonneg_of_positive s.positive) one (in_walls c p i k m) (centre_behind c h k m))
            (λ f m. rw side-mix (step_short s.n (side f p) (side f centre) (s.below f m (j.all f m))));
      };
    }

no_inside : (F : List HalfSpace) → NoVolume F → ¬ (HasInside (boxed reach F))
no_inside F n e =
    let i = in_of_inside e.inside in
    n e.at (of_walls reach e.at (λ k m. i.all k (walls reach F k m))) (record { weight = i.weight; all = λ f m. e.inside.all f (own f m) })

pub box_volume : BoxVolumeLaw
box_volume F = (no_inside F, λ n p i j. n (inside_box reach F p (omega (arith, ints)) i j))

-- ---- a list that leaves the world leaves it within the larger cube
-- A point of the world is behind the faces of the larger cube.
world_behind : (p : Homogeneous) → pos 0 <ℤ p.weight → InCube world p → (k : HalfSpace) → k ∈ cube reach → side k p <ℤ pos 0
world_behind p w i = let l = i.left in let r = i.right in let n = i.near in let f = i.far in let b = i.bottom in let t = i.top in
    each_wall (λ k. side k p <ℤ pos 0) reach
    (rw side-wall (omega (arith, ints))) (rw side-wall (omega (arith, ints))) (rw side-wall (omega (arith, ints)))
    (rw side-wall (omega (arith, ints))) (rw side-wall (omega (arith, ints))) (rw side-wall (omega (arith, ints)))

side-along : (q t : ℤ) (a b : Homogeneous) (f : HalfSpace) → side f (go q t a (way a b)) ≡ q *ℤ side f a +ℤ t *ℤ (a.weight *ℤ side f b -ℤ b.weight *ℤ side f a)
side-along q t a b f = rw (← dot-way f a b) (side-go q t a (way a b) f)

ahead_plain : (v w a b : ℤ) → pos 0 <ℤ v → pos 0 <ℤ w → a ≤ℤ pos 0 → pos 0 <ℤ b → pos 0 <ℤ (v *ℤ b -ℤ w *ℤ a)
ahead_plain v w a b h k l m = lt_by (v *ℤ b +ℤ w *ℤ (pos 0 -ℤ a)) (search signs) (ring (v ∷ w ∷ a ∷ b ∷ []) (search read depth 20) tt)

-- The point is reached before b, where a plane that b is in front of is not passed.
before_plain : (q t v w a b : ℤ) → pos 0 <ℤ q → pos 0 ≤ℤ t → pos 0 <ℤ v → a ≤ℤ pos 0 → pos 0 <ℤ b → (q *ℤ a +ℤ t *ℤ (v *ℤ b -ℤ w *ℤ a)) ≤ℤ pos 0 → pos 0 ≤ℤ (q -ℤ t *ℤ w)
before_plain q t v w a b hq ht hv ha hb h = by_lt_z (q -ℤ t *ℤ w) (pos 0) (λ l. by_lt_z (pos 0) t
    (λ k.
    let m : pos 0 <ℤ (q *ℤ a +ℤ t *ℤ (v *ℤ b -ℤ w *ℤ a)) = lt_by ((pos 0 -ℤ (q -ℤ t *ℤ w)) *ℤ (pos 0 -ℤ a) +ℤ t *ℤ (v *ℤ b)) (search signs) (ring (q ∷ t ∷ v ∷ w ∷ a ∷ b ∷ []) (search read depth 20) tt) in
    absurd (omega (arith, ints)))
    (λ k. let z : t ≡ pos 0 = omega (arith, ints) in let y : t *ℤ w ≡ pos 0 = eq_by w z (ring (t ∷ w ∷ []) (search read depth 20) tt) in absurd (omega (arith, ints))))
    (λ l. l)

between_plain : (q t v w a b : ℤ) → pos 0 ≤ℤ t → pos 0 <ℤ v → a ≤ℤ pos 0 → b ≤ℤ pos 0 → pos 0 ≤ℤ (q -ℤ t *ℤ w) → (q *ℤ a +ℤ t *ℤ (v *ℤ b -ℤ w *ℤ a)) ≤ℤ pos 0
between_plain q t v w a b ht hv ha hb h = le_by ((q -ℤ t *ℤ w) *ℤ (pos 0 -ℤ a) +ℤ t *ℤ (v *ℤ (pos 0 -ℤ b))) (search signs) (ring (q ∷ t ∷ v ∷ w ∷ a ∷ b ∷ []) (search read depth 20) tt)

-- Where b lies outside the larger cube: the last point of that cube on the way from a to b.
stops : (F : List HalfSpace) (a b : Homogeneous) (k : HalfSpace) → IsIn (boxed reach F) a → IsIn F b → k ∈ cube reach → pos 0 <ℤ side k b →
    LeavesCube (boxed reach F) world
stops F a b k i j m l =
    let in_walls_a = λ (f : HalfSpace) (n : f ∈ cube reach). i.all f (walls reach F f n) in
    let h : Hit (cube reach) a (way a b) = ratio_test (cube reach) a (way a b) in_walls_a k m
    (rw dot-way (ahead_plain a.weight b.weight (side k a) (side k b) i.weight j.weight (in_walls_a k m) l)) in
    let r = before_plain h.q h.t a.weight b.weight (side k a) (side k b) h.q_positive h.t_nonneg i.weight (in_walls_a k m) l (rw side-along at (h.inside k m)) in
    let e = go h.q h.t a (way a b) in
    let w : pos 0 <ℤ e.weight = weight-go h.q h.t a (way a b) h.q_positive i.weight in record {
      at = e;
      is_in = record {
        weight = w;
        all = each_boxed (λ f. side f e ≤ℤ pos 0) reach F h.inside
            (λ f n. rw side-along (between_plain h.q h.t a.weight b.weight (side f a) (side f b) h.t_nonneg i.weight (i.all f (own f n)) (j.all f n) r));
      };
      outside = λ o. let d = world_behind e w o h.face h.among in let z = h.reached in absurd (omega (arith, ints));
    }

leaves_within : (F : List HalfSpace) (a : Homogeneous) → IsIn (boxed reach F) a → OutOfWorld F → LeavesCube (boxed reach F) world
leaves_within F a i e = ⊎_elim (λ s. stops F a e.at s.it i e.is_in s.among s.has)
    (λ all. record { at = e.at; is_in = record { weight = e.is_in.weight; all = each_boxed (λ f. side f e.at ≤ℤ pos 0) reach F all e.is_in.all }; outside = e.outside })
    (some_or_all (λ k. pos 0 <ℤ side k e.at) (λ k. side k e.at ≤ℤ pos 0) (cube reach) (λ k m. by_lt_z (pos 0) (side k e.at) (λ l. inl l) (λ l. inr l)))

pub box_leaves : BoxLeavesLaw
box_leaves F a i = (leaves_within F a i, λ e. record { at = e.at; is_in = in_own reach F e.at e.is_in; outside = e.outside })

-- ---- where no point lies outside the world, the cube's faces bear nothing
abbrev pub Within : List HalfSpace → Type 0
Within F = (p : Homogeneous) → IsIn F p → InCube world p

behind_walls : (F : List HalfSpace) → Within F → (p : Homogeneous) → IsIn F p → (k : HalfSpace) → k ∈ cube reach → side k p <ℤ pos 0
behind_walls F w p i = world_behind p i.weight (w p i)

pub wall_idles : (F : List HalfSpace) → Within F → (k : HalfSpace) → k ∈ cube reach → ¬ (Bears (boxed reach F) k)
wall_idles F w k m b = let z = b.on in let l = behind_walls F w b.at (in_own reach F b.at (bears_in b)) k m in absurd (omega (arith, ints))

pub box_bears : (F : List HalfSpace) (f : HalfSpace) → Within F → Bears F f → Bears (boxed reach F) f
box_bears F f w b = record {
  at = b.at;
  weight = b.weight;
  on = b.on;
  others = each_boxed (λ g. ¬ (SameHalfSpace f g) → side g b.at <ℤ pos 0) reach F (λ k m n. behind_walls F w b.at (bears_in b) k m) b.others;
}

pub no_wall : {A : Type 0} (F : List HalfSpace) (f k : HalfSpace) → Within F → pos 0 <ℤ dot f.normal f.normal → Bears F f → k ∈ cube reach → SameHalfSpace k f → A
no_wall {A} F f k w p b m s = let z = same_on f k b.at (same_sym s) p b.weight b.on in let l = behind_walls F w b.at (bears_in b) k m in absurd (omega (arith, ints))

skip_wall : {F earlier rest G : List HalfSpace} (k : HalfSpace) → ¬ (Bears F k) → Trims F earlier (k ∷ rest) G → Trims F (k ∷ earlier) rest G
skip_wall k n (keeps e t) = absurd (n e.bears)
skip_wall k n (drops e t) = t

-- The faces earlier in the boxed list are those earlier in the list, and faces of the cube.
pub record Over (earlier boxed : List HalfSpace) : Type 0 where
  pub under : (g : HalfSpace) → g ∈ earlier → g ∈ boxed
  pub over : (g : HalfSpace) → g ∈ boxed → g ∈ earlier ⊎ g ∈ cube reach

pub over_more : {earlier boxed : List HalfSpace} (f : HalfSpace) → Over earlier boxed → Over (f ∷ earlier) (f ∷ boxed)
over_more {earlier} {boxed} f o = record {
  under = each_of_more (λ g. g ∈ (f ∷ boxed)) f earlier here (λ g m. there (o.under g m));
  over = each_of_more (λ g. g ∈ (f ∷ earlier) ⊎ g ∈ cube reach) f boxed (inl here) (λ g m. ⊎_elim (λ i. inl (there i)) (λ i. inr i) (o.over g m));
}

unboxed : {F earlier box rest G : List HalfSpace} → Proper F → Within F → Over earlier box → ((g : HalfSpace) → g ∈ rest → g ∈ F) →
    Trims (boxed reach F) box rest G → Trims F earlier rest G
unboxed r w o sub ends = ends
unboxed {F} r w o sub (keeps {f = f} k t) = keeps
    (record { first = λ g m s. k.first g (o.under g m) s; bears = bears_in_part (boxed reach F) F f own k.bears })
    (unboxed r w (over_more f o) (λ g m. sub g (there m)) t)
unboxed {F} r w o sub (drops {f = f} n t) = drops
    (λ e. n (record { first = λ g m s. ⊎_elim (λ i. e.first g i s) (λ i. no_wall F f g w (r f (sub f here)) e.bears i s) (o.over g m); bears = box_bears F f w e.bears }))
    (unboxed r w (over_more f o) (λ g m. sub g (there m)) t)

pub box_trim : BoxTrimLaw
box_trim F G r w t =
    let idle = λ (k : HalfSpace) (m : k ∈ cube reach). wall_idles F w k m in
    unboxed r w (record { under = λ g m. elim m [ ]; over = λ g m. inr (turned_round g m) }) (λ g m. m)
    (skip_wall _ (idle _ (there (there (there (there (there here)))))) (skip_wall _ (idle _ (there (there (there (there here))))) (skip_wall _ (idle _ (there (there (there here))))
    (skip_wall _ (idle _ (there (there here))) (skip_wall _ (idle _ (there here)) (skip_wall _ (idle _ here) t))))))
  where
    turned_round : (g : HalfSpace) → g ∈ (wall (pos 0) (pos 0) (negsuc 0) reach ∷ wall (pos 0) (pos 0) (pos 1) reach ∷ wall (pos 0) (negsuc 0) (pos 0) reach ∷ wall (pos 0) (pos 1) (pos 0) reach ∷ wall (negsuc 0) (pos 0) (pos 0) reach ∷ wall (pos 1) (pos 0) (pos 0) reach ∷ []) → g ∈ cube reach
    turned_round g m = each_of_more (λ k. k ∈ cube reach) _ _ (there (there (there (there (there here))))) (each_of_more (λ k. k ∈ cube reach) _ _ (there (there (there (there here))))
        (each_of_more (λ k. k ∈ cube reach) _ _ (there (there (there here))) (each_of_more (λ k. k ∈ cube reach) _ _ (there (there here))
        (each_of_more (λ k. k ∈ cube reach) _ _ (there here) (each_of_more (λ k. k ∈ cube reach) _ _ here (λ h i. elim i [ ])))))) g m
