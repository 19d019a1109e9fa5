-- A point of a face at which it is alone, and ways from there within the face.
use Rattle.std.proofs.Common.{◌≡◌, List, [], ◌∷◌, ◌∙◌, arith, ◌⊎◌, inl, inr, ℤ, pos, ◌+ℤ◌, ◌*ℤ◌, neg_ℤ, ◌<ℤ◌, ◌≤ℤ◌}
use Rattle.std.proofs.lemmas.Int.{ints}
use Rattle.algebra.specs.Members.{◌∈◌, here, there}
use Rattle.algebra.specs.Space.{Vector, Homogeneous, HalfSpace, SamePoint, dot, cross, det, side, reverse, go}
use Rattle.algebra.proofs.Expr.{read}
use Rattle.algebra.proofs.Ring.{ring}
use Rattle.algebra.proofs.Orders.{positive-neg}
use Rattle.algebra.proofs.Identities.{with_vector, side-go, side-reverse, dot-cross_swap}
use Rattle.algebra.proofs.Members.{each_of_more}
use Rattle.algebra.proofs.Vectors.{IsZero}
use Rattle.algebra.proofs.Points.{weight-go, same_of_three}
use Rattle.trim_laws.specs.Solid.{IsIn, IsInside, Proper, Bounded}
use Rattle.trim_laws.proofs.Steps.{small, step_short, step_flat, step_behind, step_front, below_le, zero_le, neg_below}
use Rattle.trim_laws.proofs.SameHalfSpace.{same_of_times, times_of_parallel, same_on}
use Rattle.vertex_laws.specs.Vertex.{IsVertex, Crosses}
use Rattle.vertex_laws.proofs.Corner.{corner_on_face}
use Rattle.vertex_laws.proofs.Criterion.{lower_behind}
use Rattle.vertex_laws.proofs.Line.{OnLine}

pub zero_ge : {a : ℤ} → a ≡ pos 0 → pos 0 ≤ℤ a
zero_ge {a} h = omega (arith, ints)

-- ---- one point on a line and a plane
pub same_on_line : (f g P : HalfSpace) (p q : Homogeneous) → OnLine f g p → OnLine f g q → side P p ≡ pos 0 → side P q ≡ pos 0 → (pos 0 <ℤ dot P.normal (cross f.normal g.normal)) ⊎ (dot P.normal (cross f.normal g.normal) <ℤ pos 0) → SamePoint p q
unfolding det
same_on_line f g P p q a b x y (inl d) = same_of_three P f g p q d x a.on_f a.on_g y b.on_f b.on_g
same_on_line f g P p q a b x y (inr d) = same_of_three P g f p q (rw dot-cross_swap (positive-neg d)) x a.on_g a.on_f y b.on_g b.on_f

-- ---- a point of a face at which no other face bends away
pub data Alone (f : HalfSpace) (p : Homogeneous) (g : HalfSpace) : Type 0 where
  off : side g p <ℤ pos 0 → Alone f p g
  parallel : side g p ≡ pos 0 → IsZero (cross f.normal g.normal) → Alone f p g

-- from such a point along the face
pub record Nudged (F : List HalfSpace) (f P : HalfSpace) (p : Homogeneous) (m : Vector) : Type 0 where
  pub at : Homogeneous
  pub inside : IsIn F at
  pub on : side f at ≡ pos 0
  pub n : ℤ
  pub seen : side P at ≡ n *ℤ side P p +ℤ pos 1 *ℤ dot P.normal m

nudge_one : (f g : HalfSpace) (o p : Homogeneous) (n : ℤ) (m : Vector) → IsInside (f ∷ g ∷ []) o → pos 0 <ℤ dot f.normal f.normal → pos 0 <ℤ p.weight → pos 0 <ℤ (go n (pos 1) p m).weight → side f p ≡ pos 0 → side f (go n (pos 1) p m) ≡ pos 0 → (side g p <ℤ pos 0 → (n *ℤ side g p +ℤ dot g.normal m) <ℤ pos 0) → Alone f p g → side g (go n (pos 1) p m) ≤ℤ pos 0
nudge_one f g o p n m i r w x h k s (off l) = below_le (rw side-go (step_short n (side g p) (dot g.normal m) (s l)))
nudge_one f g o p n m i r w x h k s (parallel z d) = zero_le (same_on f g (go n (pos 1) p m) (same_of_times f g (times_of_parallel f g o p w h z (i.all f here) (i.all g (there here)) d)) r x k)

both_inside : {F : List HalfSpace} {o : Homogeneous} (f g : HalfSpace) → IsInside F o → f ∈ F → g ∈ F → IsInside (f ∷ g ∷ []) o
both_inside {F} {o} f g i m n = record { weight = i.weight; all = each_of_more (λ h. side h o <ℤ pos 0) f (g ∷ []) (i.all f m) (each_of_more (λ h. side h o <ℤ pos 0) g [] (i.all g n) (λ h l. elim l [ ])) }

pub nudge : (F : List HalfSpace) (f P : HalfSpace) (o p : Homogeneous) (m : Vector) → IsInside F o → Proper F → f ∈ F → IsIn F p → side f p ≡ pos 0 → ((g : HalfSpace) → g ∈ F → Alone f p g) → dot f.normal m ≡ pos 0 → Nudged F f P p m
nudge F f P o p m i r j k h all z =
    let s = small (λ (g : HalfSpace). side g p) (λ g. dot g.normal m) F in
    let w = weight-go s.n (pos 1) p m s.positive k.weight in
    let y : side f (go s.n (pos 1) p m) ≡ pos 0 = side-go s.n (pos 1) p m f ∙ step_flat s.n (side f p) (dot f.normal m) h z in record {
      at = go s.n (pos 1) p m;
      inside = record { weight = w; all = λ g l. nudge_one f g o p s.n m (both_inside f g i j l) (r f j) k.weight w h y (s.below g l) (all g l) };
      on = y;
      n = s.n;
      seen = side-go s.n (pos 1) p m P;
    }

-- the two directions in the plane of f, behind and in front of P
back-flat : (f g : Vector) → dot f (cross f (cross f g)) ≡ pos 0
unfolding dot cross
back-flat f g = ring (with_vector f (with_vector g [])) (search read depth 20) tt

back-goes : (f g : Vector) → dot g (cross f (cross f g)) ≡ neg_ℤ (dot (cross f g) (cross f g))
unfolding dot cross
back-goes f g = ring (with_vector f (with_vector g [])) (search read depth 20) tt

pub front-flat : (f g : Vector) → dot f (cross (cross f g) f) ≡ pos 0
unfolding dot cross
front-flat f g = ring (with_vector f (with_vector g [])) (search read depth 20) tt

pub front-goes : (f g : Vector) → dot g (cross (cross f g) f) ≡ dot (cross f g) (cross f g)
unfolding dot cross
front-goes f g = ring (with_vector f (with_vector g [])) (search read depth 20) tt

unreverse : {a : ℤ} → neg_ℤ a <ℤ pos 0 → pos 0 <ℤ a
unreverse {a} h = omega (arith, ints)

-- the plane goes through the face: a vertex on it is behind, and one is in front.
pub record CrossedFace (F : List HalfSpace) (P f : HalfSpace) : Type 0 where
  pub among : f ∈ F
  pub a : Homogeneous
  pub b : Homogeneous
  pub a_vertex : IsVertex F a
  pub b_vertex : IsVertex F b
  pub a_on : side f a ≡ pos 0
  pub b_on : side f b ≡ pos 0
  pub behind : side P a <ℤ pos 0
  pub ahead : pos 0 <ℤ side P b

-- a point on the plane at which f is alone: the plane goes through f
pub crossed_at : (F : List HalfSpace) (P f : HalfSpace) (o p : Homogeneous) → Bounded F → IsInside F o → Proper F → f ∈ F → IsIn F p → side f p ≡ pos 0 → side P p ≡ pos 0 → Crosses f P → ((g : HalfSpace) → g ∈ F → Alone f p g) → CrossedFace F P f
crossed_at F P f o p b i r j k h z c all =
    let x = nudge F f P o p (cross f.normal (cross f.normal P.normal)) i r j k h all (back-flat f.normal P.normal) in
    let y = nudge F f P o p (cross (cross f.normal P.normal) f.normal) i r j k h all (front-flat f.normal P.normal) in
    let l : side P x.at <ℤ pos 0 = rw (x.seen) (step_behind x.n (side P p) (dot P.normal (cross f.normal (cross f.normal P.normal))) z (rw back-goes (neg_below c))) in
    let m : pos 0 <ℤ side P y.at = rw (y.seen) (step_front y.n (side P p) (dot P.normal (cross (cross f.normal P.normal) f.normal)) z (rw front-goes c)) in
    let d = corner_on_face F P f x.at b x.inside j (r f j) x.on in
    let e = corner_on_face F (reverse P) f y.at b y.inside j (r f j) y.on in record {
      among = j;
      a = d.at;
      b = e.at;
      a_vertex = d.vertex;
      b_vertex = e.vertex;
      a_on = d.kept f here;
      b_on = e.kept f here;
      behind = lower_behind d.lower d.vertex.inside.weight x.inside.weight l;
      ahead = unreverse (rw side-reverse at (lower_behind e.lower e.vertex.inside.weight y.inside.weight (rw side-reverse (neg_below m))));
    }
