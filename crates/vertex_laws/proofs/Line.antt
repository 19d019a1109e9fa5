-- Points on the line of two planes, and the vertices on it: at most two.
use Rattle.std.proofs.Common.{◌≡◌, List, [], ◌∷◌, arith, ◌⊎◌, inl, inr, ⊎_elim, ℤ, pos, ◌-ℤ◌, ◌*ℤ◌, ◌<ℤ◌, ◌≤ℤ◌}
use Rattle.std.proofs.lemmas.Int.{ints, by_lt_z}
use Rattle.algebra.specs.Members.{◌∈◌}
use Rattle.algebra.specs.Space.{Vector, Homogeneous, HalfSpace, SamePoint, dot, cross, det, scale, minus, side, way}
use Rattle.algebra.proofs.Expr.{read}
use Rattle.algebra.proofs.Ring.{ring}
use Rattle.algebra.proofs.Orders.{signs, lt_by, by_sign, positive-mul, positive-neg, positive_of_product, negative_of_product, zero-mul}
use Rattle.algebra.proofs.Identities.{dot_comm, dot-cross_swap_left, dot-way_turn}
use Rattle.algebra.proofs.Vectors.{IsZero, is_zero, dot-zero_left, zero_by_3}
use Rattle.algebra.proofs.Points.{way-on, along, same_point_sym, same-on, same-in, same_by_way, apart_way, way-from, way-to_down}
use Rattle.trim_laws.specs.Solid.{IsIn}
use Rattle.vertex_laws.specs.Vertex.{IsVertex, Crosses}

-- ---- equal points are vertices together
pub same_vertex : (F : List HalfSpace) (p q : Homogeneous) → pos 0 <ℤ p.weight → SamePoint p q → IsVertex F q → IsVertex F p
same_vertex F p q w s u = let x = u.inside.weight in let t = same_point_sym s in record {
  inside = record { weight = w; all = λ f m. same-in f q p x w t (u.inside.all f m) };
  f = u.f;
  g = u.g;
  h = u.h;
  f_in = u.f_in;
  g_in = u.g_in;
  h_in = u.h_in;
  on_f = same-on u.f q p x t u.on_f;
  on_g = same-on u.g q p x t u.on_g;
  on_h = same-on u.h q p x t u.on_h;
  independent = u.independent;
}

-- ---- a vertex is on a face that a direction is not in
pub data Leans (k d : Vector) : Type 0 where
  up : pos 0 <ℤ dot k d → Leans k d
  down : dot k d <ℤ pos 0 → Leans k d

pub record Leaning (F : List HalfSpace) (p : Homogeneous) (d : Vector) : Type 0 where
  pub face : HalfSpace
  pub among : face ∈ F
  pub on : side face p ≡ pos 0
  pub leans : Leans face.normal d

not_flat : {P : Type 0} (f g h d : Vector) → pos 0 <ℤ dot d d → pos 0 <ℤ det f g h → dot f d ≡ pos 0 → dot g d ≡ pos 0 → dot h d ≡ pos 0 → P
not_flat {P} f g h d s p x y z = let e = dot-zero_left d d (zero_by_3 f g h d p x y z) in absurd (omega (arith, ints))

pub leaning : (F : List HalfSpace) (p : Homogeneous) (d : Vector) → IsVertex F p → pos 0 <ℤ dot d d → Leaning F p d
leaning F p d u s = by_sign (dot u.f.normal d) (λ l. record { face = u.f; among = u.f_in; on = u.on_f; leans = down l })
    (λ e. by_sign (dot u.g.normal d) (λ l. record { face = u.g; among = u.g_in; on = u.on_g; leans = down l })
    (λ i. by_sign (dot u.h.normal d) (λ l. record { face = u.h; among = u.h_in; on = u.on_h; leans = down l })
    (λ j. not_flat u.f.normal u.g.normal u.h.normal d s u.independent e i j)
    (λ l. record { face = u.h; among = u.h_in; on = u.on_h; leans = up l }))
    (λ l. record { face = u.g; among = u.g_in; on = u.on_g; leans = up l }))
    (λ l. record { face = u.f; among = u.f_in; on = u.on_f; leans = up l })

-- ---- on a line: signs of products with its direction
pub sign_up : (c x y z : ℤ) → pos 0 <ℤ c → pos 0 <ℤ z → c *ℤ x ≡ y *ℤ z → pos 0 <ℤ y → pos 0 <ℤ x
sign_up c x y z h k e l = positive_of_product c h (rw e (positive-mul l k))

neg_times : (y z : ℤ) → y <ℤ pos 0 → pos 0 <ℤ z → (y *ℤ z) <ℤ pos 0
neg_times y z h k = lt_by ((pos 0 -ℤ y) *ℤ z) (search signs) (ring (y ∷ z ∷ []) (search read depth 20) tt)

pub sign_down : (c x y z : ℤ) → pos 0 <ℤ c → pos 0 <ℤ z → c *ℤ x ≡ y *ℤ z → y <ℤ pos 0 → x <ℤ pos 0
sign_down c x y z h k e l = negative_of_product c h (rw e (neg_times y z l k))

-- The way between two points on two planes, seen by a third: in the direction of their line.
pub way-up : (f g k : HalfSpace) (p q : Homogeneous) → Crosses f g → side f p ≡ pos 0 → side g p ≡ pos 0 → side f q ≡ pos 0 → side g q ≡ pos 0 →
    pos 0 <ℤ dot (cross f.normal g.normal) (way p q) → pos 0 <ℤ dot k.normal (cross f.normal g.normal) → pos 0 <ℤ dot k.normal (way p q)
way-up f g k p q c a b x y h l = sign_up (dot (cross f.normal g.normal) (cross f.normal g.normal)) (dot k.normal (way p q)) (dot k.normal (cross f.normal g.normal)) (dot (cross f.normal g.normal) (way p q)) c h (along f.normal g.normal k.normal (way p q) (way-on f p q a x) (way-on g p q b y)) l

pub way-down : (f g k : HalfSpace) (p q : Homogeneous) → Crosses f g → side f p ≡ pos 0 → side g p ≡ pos 0 → side f q ≡ pos 0 → side g q ≡ pos 0 →
    pos 0 <ℤ dot (cross f.normal g.normal) (way p q) → dot k.normal (cross f.normal g.normal) <ℤ pos 0 → dot k.normal (way p q) <ℤ pos 0
way-down f g k p q c a b x y h l = sign_down (dot (cross f.normal g.normal) (cross f.normal g.normal)) (dot k.normal (way p q)) (dot k.normal (cross f.normal g.normal)) (dot (cross f.normal g.normal) (way p q)) c h (along f.normal g.normal k.normal (way p q) (way-on f p q a x) (way-on g p q b y)) l

clash : {P : Type 0} {a : ℤ} → pos 0 <ℤ a → a ≤ℤ pos 0 → P
clash {P} {a} h k = absurd (omega (arith, ints))

-- p is on the planes f and g.
pub record OnLine (f g : HalfSpace) (p : Homogeneous) : Type 0 where
  pub on_f : side f p ≡ pos 0
  pub on_g : side g p ≡ pos 0

-- q comes after p on their line.
pub record After (f g : HalfSpace) (p q : Homogeneous) : Type 0 where
  pub after : pos 0 <ℤ dot (cross f.normal g.normal) (way p q)

-- No vertex is between two points of the solid.
pub no_between : {A : Type 0} (F : List HalfSpace) (f g : HalfSpace) (p x q : Homogeneous) → Crosses f g → OnLine f g p → OnLine f g x → OnLine f g q →
    IsIn F p → IsVertex F x → IsIn F q → After f g p x → After f g x q → A
no_between {A} F f g p x q c a b d i u j h k = by l.leans
  where
    l : Leaning F x (cross f.normal g.normal)
    l = leaning F x (cross f.normal g.normal) u c

    by : Leans l.face.normal (cross f.normal g.normal) → A
    by (up s) = clash (way-from l.face x q u.inside.weight l.on (way-up f g l.face x q c b.on_f b.on_g d.on_f d.on_g k.after s)) (j.all l.face l.among)
    by (down s) = clash (way-to_down l.face p x u.inside.weight l.on (way-down f g l.face p x c a.on_f a.on_g b.on_f b.on_g h.after s)) (i.all l.face l.among)

-- Two distinct points of a line come one after the other.
ahead_plain : (c x y : ℤ) → pos 0 <ℤ c → pos 0 <ℤ x → c *ℤ x ≡ y *ℤ y → (y <ℤ pos 0) ⊎ (pos 0 <ℤ y)
ahead_plain c x y h k e = by_sign y (λ l. inl l) (λ z. let m = positive-mul h k in let w = zero-mul y z in absurd (omega (arith, ints))) (λ l. inr l)

pub after_or_before : (f g : HalfSpace) (p q : Homogeneous) → Crosses f g → OnLine f g p → OnLine f g q → ¬ (SamePoint p q) → After g f p q ⊎ After f g p q
after_or_before f g p q c a b n =
    let e = along f.normal g.normal (way p q) (way p q) (way-on f p q a.on_f b.on_f) (way-on g p q a.on_g b.on_g) in
    ⊎_elim (λ l. inl (record { after = rw dot-cross_swap_left (positive-neg l) })) (λ l. inr (record { after = l }))
    (ahead_plain (dot (cross f.normal g.normal) (cross f.normal g.normal)) (dot (way p q) (way p q)) (dot (cross f.normal g.normal) (way p q)) c (apart_way p q n)
    (rw (dot_comm (way p q) (cross f.normal g.normal)) at e))

-- ---- a line has at most two vertices
same_way : (p q : Homogeneous) → SamePoint p q → IsZero (way p q)
unfolding way minus scale
same_way p q s = record { x = plain p.vector.x p.weight q.vector.x q.weight s.x; y = plain p.vector.y p.weight q.vector.y q.weight s.y; z = plain p.vector.z p.weight q.vector.z q.weight s.z }
  where
    plain : (a v b w : ℤ) → a *ℤ w ≡ b *ℤ v → v *ℤ b -ℤ w *ℤ a ≡ pos 0
    plain a v b w e = omega (arith, ints)

pub same_norm : (p q : Homogeneous) → SamePoint p q → dot (way p q) (way p q) ≡ pos 0
same_norm p q s = dot-zero_left (way p q) (way p q) (same_way p q s)

pub same_or_apart : (p q : Homogeneous) → SamePoint p q ⊎ ¬ (SamePoint p q)
same_or_apart p q = by_lt_z (pos 0) (dot (way p q) (way p q))
    (λ l. inr (λ s. let z = same_norm p q s in absurd (omega (arith, ints))))
    (λ l. inl (same_by_way p q (is_zero (way p q) l)))

turn_after : (f g : HalfSpace) (p q : Homogeneous) → After g f p q → After f g q p
turn_after f g p q a = record { after = rw (dot-way_turn (cross f.normal g.normal) p q, ← dot-cross_swap_left f.normal g.normal (way p q)) a.after }

apart_order : (f g : HalfSpace) (p q : Homogeneous) → Crosses f g → OnLine f g p → OnLine f g q → ¬ (SamePoint p q) → After f g q p ⊎ After f g p q
apart_order f g p q c a b n = ⊎_elim (λ x. inl (turn_after f g p q x)) (λ x. inr x) (after_or_before f g p q c a b n)

pub third_end : (F : List HalfSpace) (f g : HalfSpace) (u v x : Homogeneous) → Crosses f g → OnLine f g u → OnLine f g v → OnLine f g x → IsVertex F u →
    IsVertex F v → IsVertex F x → ¬ (SamePoint u v) → SamePoint x u ⊎ SamePoint x v
third_end F f g u v x c a b d i j k n = ⊎_elim (λ s. inl s) (λ p. ⊎_elim (λ s. inr s) (λ q. absurd (⊎_elim
    (λ ux. ⊎_elim
    (λ vx. ⊎_elim
    (λ vu. no_between F f g v u x c b a d j.inside i k.inside vu ux)
    (λ uv. no_between F f g u v x c a b d i.inside j k.inside uv vx)
    (apart_order f g u v c a b n))
    (λ xv. no_between F f g u x v c a d b i.inside k j.inside ux xv)
    (apart_order f g x v c d b q))
    (λ xu. ⊎_elim
    (λ vx. no_between F f g v x u c b d a j.inside k i.inside vx xu)
    (λ xv. ⊎_elim
    (λ vu. no_between F f g x v u c d b a k.inside j i.inside xv vu)
    (λ uv. no_between F f g x u v c d a b k.inside i j.inside xu uv)
    (apart_order f g u v c a b n))
    (apart_order f g x v c d b q))
    (apart_order f g x u c d a p)))
    (same_or_apart x v)) (same_or_apart x u)
