-- What vertices decide: which faces bear, and whether some point is inside.
use Rattle.std.proofs.Common.{◌≡◌, List, [], ◌∷◌, arith, ◌⊎◌, inl, inr, ⊎_elim, ℤ, pos, ◌+ℤ◌, ◌-ℤ◌, ◌*ℤ◌, ◌<ℤ◌, ◌≤ℤ◌}
use Rattle.std.proofs.lemmas.Int.{ints}
use Rattle.algebra.specs.Members.{◌∈◌, here, there}
use Rattle.algebra.specs.Space.{Homogeneous, HalfSpace, side, mix, SameHalfSpace}
use Rattle.algebra.proofs.Expr.{read}
use Rattle.algebra.proofs.Ring.{ring}
use Rattle.algebra.proofs.Orders.{signs, lt_by, nonneg_of_positive, cancel-lt_left}
use Rattle.algebra.proofs.Members.{each_of_more}
use Rattle.algebra.proofs.Points.{mix-on, mix-in, mix-behind_left, mix-behind_right, weight-mix}
use Rattle.trim_laws.specs.Solid.{IsIn}
use Rattle.trim_laws.proofs.Bearing.{bears_in, in_of_inside}
use Rattle.vertex_laws.specs.Laws.{BearsLaw, IdlesLaw, NoVertexLaw, VolumeLaw, NoVolumeLaw}
use Rattle.vertex_laws.proofs.Corner.{Lower, corner, corner_on_face}

-- ---- points of the solid on the faces K, put together
pub record OnAll (F K : List HalfSpace) (p : Homogeneous) : Type 0 where
  pub inside : IsIn F p
  pub on : (f : HalfSpace) → f ∈ K → side f p ≡ pos 0

pub record OnAllBehind (F K : List HalfSpace) (g : HalfSpace) : Type 0 where
  pub at : Homogeneous
  pub on_all : OnAll F K at
  pub behind : side g at <ℤ pos 0

pub record Centre (F K : List HalfSpace) (A : HalfSpace → Type 0) (L : List HalfSpace) : Type 0 where
  pub at : Homogeneous
  pub on_all : OnAll F K at
  pub behind : (g : HalfSpace) → g ∈ L → ¬ (A g) → side g at <ℤ pos 0

one : pos 0 <ℤ pos 1
one = omega (arith, ints)

abbrev pub middle : Homogeneous → Homogeneous → Homogeneous
middle p q = mix (pos 1) p (pos 1) q

middle_on_all : {F K : List HalfSpace} (p q : Homogeneous) → OnAll F K p → OnAll F K q → OnAll F K (middle p q)
middle_on_all p q a b = record {
  inside = record { weight = weight-mix (pos 1) p (pos 1) q one (nonneg_of_positive one) a.inside.weight b.inside.weight; all = λ f m. mix-in (pos 1) p (pos 1) q f (nonneg_of_positive one) (nonneg_of_positive one) (a.inside.all f m) (b.inside.all f m) };
  on = λ f m. mix-on (pos 1) p (pos 1) q f (a.on f m) (b.on f m);
}

-- The behind faces L are all in F.
centre : (F K : List HalfSpace) (A : HalfSpace → Type 0) (L : List HalfSpace) (p : Homogeneous) → OnAll F K p → ((g : HalfSpace) → g ∈ L → g ∈ F) →
    ((g : HalfSpace) → g ∈ L → A g ⊎ OnAllBehind F K g) → Centre F K A L
centre F K A [] p a i h = record { at = p; on_all = a; behind = λ g m. elim m [ ] }
centre F K A (f ∷ L) p a i h =
    let r = centre F K A L p a (λ g m. i g (there m)) (λ g m. h g (there m)) in ⊎_elim
    (λ y. record { at = r.at; on_all = r.on_all; behind = each_of_more (λ g. ¬ (A g) → side g r.at <ℤ pos 0) f L (λ n. absurd (n y)) r.behind })
    (λ q. record {
      at = middle q.at r.at;
      on_all = middle_on_all q.at r.at q.on_all r.on_all;
      behind = each_of_more (λ g. ¬ (A g) → side g (middle q.at r.at) <ℤ pos 0) f L
          (λ n. mix-behind_left (pos 1) q.at (pos 1) r.at f one (nonneg_of_positive one) q.behind (r.on_all.inside.all f (i f here)))
          (λ g m n. mix-behind_right (pos 1) q.at (pos 1) r.at g (nonneg_of_positive one) one (q.on_all.inside.all g (i g (there m))) (r.behind g m n));
    })
    (h f here)

on_one : {F : List HalfSpace} {f : HalfSpace} {p : Homogeneous} → IsIn F p → side f p ≡ pos 0 → OnAll F (f ∷ []) p
on_one {F} {f} {p} i h = record { inside = i; on = each_of_more (λ g. side g p ≡ pos 0) f [] h (λ g m. elim m [ ]) }

pub bears : BearsLaw
bears F f v i h e =
    let c = centre F (f ∷ []) (SameHalfSpace f) F v (on_one i.inside h) (λ g m. m) (λ g m. ⊎_elim (λ s. inl s)
    (λ b. inr (record { at = b.at; on_all = on_one b.vertex.inside b.on; behind = b.behind })) (e g m)) in
    record { at = c.at; weight = c.on_all.inside.weight; on = c.on_all.on f here; others = c.behind }

on_none : {F : List HalfSpace} {p : Homogeneous} → IsIn F p → OnAll F [] p
on_none i = record { inside = i; on = λ g m. elim m [ ] }

pub volume : VolumeLaw
volume F v i e =
    let c = centre F [] (λ g. ⊥) F v (on_none i.inside) (λ g m. m) (λ g m. let b = e g m in
    inr (record { at = b.at; on_all = on_none b.vertex.inside; behind = b.behind })) in
    record { at = c.at; inside = record { weight = c.on_all.inside.weight; all = λ g m. c.behind g m (λ x. x) } }

-- ---- vertices behind
behind_plain : (a v b w : ℤ) → pos 0 <ℤ v → pos 0 <ℤ w → (a *ℤ w) ≤ℤ (b *ℤ v) → b <ℤ pos 0 → a <ℤ pos 0
behind_plain a v b w hv hw h k = cancel-lt_left w hw (lt_by ((b *ℤ v -ℤ a *ℤ w) +ℤ (pos 0 -ℤ b) *ℤ v) (search signs) (ring (a ∷ v ∷ b ∷ w ∷ []) (search read depth 20) tt))

pub lower_behind : {k : HalfSpace} {q p : Homogeneous} → Lower k q p → pos 0 <ℤ q.weight → pos 0 <ℤ p.weight → side k p <ℤ pos 0 → side k q <ℤ pos 0
lower_behind {k} {q} {p} l v w h = behind_plain (side k q) q.weight (side k p) p.weight v w l.le.le h

pub no_volume : NoVolumeLaw
no_volume F o b i g m =
    let c = corner F g o b (in_of_inside i) in
    record { at = c.at; vertex = c.vertex; behind = lower_behind c.lower c.vertex.inside.weight i.weight (i.all g m) }

pub idles : IdlesLaw
idles F f g b r m n s h e =
    let c = corner_on_face F g f e.at b (bears_in e) m (r f m) e.on in
    let z = h c.at c.vertex (c.kept f here) in
    let y = lower_behind c.lower c.vertex.inside.weight e.weight (e.others g n s) in absurd (omega (arith, ints))

pub no_vertex : NoVertexLaw
no_vertex F f b r m h e = let c = corner_on_face F f f e.at b (bears_in e) m (r f m) e.on in h c.at c.vertex (c.kept f here)
