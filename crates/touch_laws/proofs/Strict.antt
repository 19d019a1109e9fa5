-- A point inside a solid lies strictly within its box, since it can go a little each way.
use Rattle.std.proofs.Common.{◌≡◌, List, [], ◌∷◌, arith, refl, subst, sym, ℤ, pos, negsuc, neg_ℤ, ◌+ℤ◌, ◌-ℤ◌, ◌*ℤ◌, ◌<ℤ◌, ◌≤ℤ◌}
use Rattle.std.proofs.lemmas.Int.{ints}
use Rattle.algebra.specs.Space.{Vector, Homogeneous, HalfSpace, dot, plus, scale, go, side}
use Rattle.algebra.proofs.Expr.{read}
use Rattle.algebra.proofs.Ring.{ring}
use Rattle.algebra.proofs.Orders.{cancel-lt_left}
use Rattle.algebra.proofs.Identities.{side-go}
use Rattle.algebra.proofs.Points.{weight-go}
use Rattle.trim_laws.specs.Solid.{IsIn, IsInside}
use Rattle.trim_laws.proofs.Steps.{Small, small, below_le}
use Rattle.touch_laws.specs.Boxes.{IsLow, IsHigh, IsBox, BoxesMeet, ShareInside, BoxesMeetLaw}

-- ---- a coordinate, with the step that raises it by 1
pub record Straight (coordinate : Vector → ℤ) : Type 0 where
  pub step : Vector
  pub is_dot : (v : Vector) → dot step v ≡ coordinate v
  pub stepped : (n t : ℤ) (v : Vector) → coordinate (plus (scale n v) (scale t step)) ≡ n *ℤ coordinate v +ℤ t

unfoldable pub unit : ℤ → ℤ → ℤ → Vector
unit x y z = record { x = x; y = y; z = z }

along_plain : (n t v : ℤ) → n *ℤ v +ℤ t *ℤ pos 1 ≡ n *ℤ v +ℤ t
along_plain n t v = ring (n ∷ t ∷ v ∷ []) (search read depth 20) tt

dot_x : (x y z : ℤ) → pos 1 *ℤ x +ℤ pos 0 *ℤ y +ℤ pos 0 *ℤ z ≡ x
dot_x x y z = ring (x ∷ y ∷ z ∷ []) (search read depth 20) tt

dot_y : (x y z : ℤ) → pos 0 *ℤ x +ℤ pos 1 *ℤ y +ℤ pos 0 *ℤ z ≡ y
dot_y x y z = ring (x ∷ y ∷ z ∷ []) (search read depth 20) tt

dot_z : (x y z : ℤ) → pos 0 *ℤ x +ℤ pos 0 *ℤ y +ℤ pos 1 *ℤ z ≡ z
dot_z x y z = ring (x ∷ y ∷ z ∷ []) (search read depth 20) tt

pub along_x : Straight (λ v. v.x)
unfolding unit dot plus scale
along_x = record { step = unit (pos 1) (pos 0) (pos 0); is_dot = λ v. dot_x v.x v.y v.z; stepped = λ n t v. along_plain n t v.x }

pub along_y : Straight (λ v. v.y)
unfolding unit dot plus scale
along_y = record { step = unit (pos 0) (pos 1) (pos 0); is_dot = λ v. dot_y v.x v.y v.z; stepped = λ n t v. along_plain n t v.y }

pub along_z : Straight (λ v. v.z)
unfolding unit dot plus scale
along_z = record { step = unit (pos 0) (pos 0) (pos 1); is_dot = λ v. dot_z v.x v.y v.z; stepped = λ n t v. along_plain n t v.z }

-- ---- a short step from a point inside stays in the solid
pub record Stepped (F : List HalfSpace) (p : Homogeneous) (t : ℤ) (m : Vector) : Type 0 where
  pub n : ℤ
  pub positive : pos 0 <ℤ n
  pub is_in : IsIn F (go n t p m)

pub stepped : (F : List HalfSpace) (p : Homogeneous) (t : ℤ) (m : Vector) → IsInside F p → Stepped F p t m
stepped F p t m i = let s = small (λ f. side f p) (λ f. t *ℤ dot f.normal m) F in record {
  n = s.n;
  positive = s.positive;
  is_in = record {
    weight = weight-go s.n t p m s.positive i.weight;
    all = λ f n. subst (λ k. k ≤ℤ pos 0) (sym (side-go s.n t p m f)) (below_le (s.below f n (i.all f n)));
  };
}

low_plain : (n low w v moved : ℤ) → moved ≡ n *ℤ v +ℤ negsuc 0 → (low *ℤ (n *ℤ w)) ≤ℤ moved → (n *ℤ (low *ℤ w)) <ℤ (n *ℤ v)
low_plain n low w v moved e h =
    let r : low *ℤ (n *ℤ w) ≡ n *ℤ (low *ℤ w) = ring (n ∷ low ∷ w ∷ []) (search read depth 20) tt in omega (arith, ints)

high_plain : (n high w v moved : ℤ) → moved ≡ n *ℤ v +ℤ pos 1 → moved ≤ℤ (high *ℤ (n *ℤ w)) → (n *ℤ v) <ℤ (n *ℤ (high *ℤ w))
high_plain n high w v moved e h =
    let r : high *ℤ (n *ℤ w) ≡ n *ℤ (high *ℤ w) = ring (n ∷ high ∷ w ∷ []) (search read depth 20) tt in omega (arith, ints)

module _ {coordinate : Vector → ℤ} (straight : Straight coordinate) (F : List HalfSpace) (p : Homogeneous) (i : IsInside F p) where
  pub above_low : (low : ℤ) → IsLow coordinate F low → (low *ℤ p.weight) <ℤ coordinate p.vector
  unfolding go
  above_low low l =
      let s = stepped F p (negsuc 0) straight.step i in
      cancel-lt_left s.n s.positive (low_plain s.n low p.weight (coordinate p.vector) (coordinate (plus (scale s.n p.vector) (scale (negsuc 0) straight.step)))
      (straight.stepped s.n (negsuc 0) p.vector) (l.below (go s.n (negsuc 0) p straight.step) s.is_in))

  pub below_high : (high : ℤ) → IsHigh coordinate F high → coordinate p.vector <ℤ (high *ℤ p.weight)
  unfolding go
  below_high high h =
      let s = stepped F p (pos 1) straight.step i in
      cancel-lt_left s.n s.positive (high_plain s.n high p.weight (coordinate p.vector) (coordinate (plus (scale s.n p.vector) (scale (pos 1) straight.step)))
      (straight.stepped s.n (pos 1) p.vector) (h.above (go s.n (pos 1) p straight.step) s.is_in))

-- ---- boxes that meet
between : (low high w v : ℤ) → pos 0 <ℤ w → (low *ℤ w) <ℤ v → v <ℤ (high *ℤ w) → low <ℤ high
between low high w v h l m = cancel-lt_left w h
    (let a : w *ℤ low ≡ low *ℤ w = ring (w ∷ low ∷ []) (search read depth 20) tt in let b : w *ℤ high ≡ high *ℤ w = ring (w ∷ high ∷ []) (search read depth 20) tt in omega (arith, ints))

crosses : {coordinate : Vector → ℤ} (straight : Straight coordinate) (F G : List HalfSpace) (s : ShareInside F G) (low high : ℤ) → IsLow coordinate F low → IsHigh coordinate G high → low <ℤ high
crosses {coordinate} straight F G s low high l h = between low high s.at.weight (coordinate s.at.vector) s.first.weight (above_low straight F s.at s.first low l) (below_high straight G s.at s.second high h)

turned : {F G : List HalfSpace} → ShareInside F G → ShareInside G F
turned s = record { at = s.at; first = s.second; second = s.first }

pub boxes_meet : BoxesMeetLaw
boxes_meet F G low_a high_a low_b high_b s a b = record {
  x_first = crosses along_x F G s low_a.x high_b.x a.left b.right;
  x_second = crosses along_x G F (turned s) low_b.x high_a.x b.left a.right;
  y_first = crosses along_y F G s low_a.y high_b.y a.near b.far;
  y_second = crosses along_y G F (turned s) low_b.y high_a.y b.near a.far;
  z_first = crosses along_z F G s low_a.z high_b.z a.bottom b.top;
  z_second = crosses along_z G F (turned s) low_b.z high_a.z b.bottom a.top;
}
