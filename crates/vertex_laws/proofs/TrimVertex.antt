-- Trimming keeps the vertices, and an edge is a half-edge of one of its faces.
use Rattle.std.proofs.Common.{◌≡◌, List, [], ◌∷◌, sym, ◌∙◌, arith, ◌⊎◌, inl, inr, ⊎_elim, ℤ, pos, negsuc, ◌-ℤ◌, ◌*ℤ◌, neg_ℤ, ◌<ℤ◌}
use Rattle.std.proofs.lemmas.Int.{ints, by_lt_z}
use Rattle.algebra.specs.Members.{◌∈◌, here}
use Rattle.algebra.specs.Space.{Vector, Homogeneous, HalfSpace, dot, cross, det, scale, side, go}
use Rattle.algebra.proofs.Expr.{read}
use Rattle.algebra.proofs.Ring.{ring}
use Rattle.algebra.proofs.Orders.{eq_by_2, by_sign, positive-neg, cancel-eq_left}
use Rattle.algebra.proofs.Identities.{side-go, binet_cauchy, dot-neg, det-swap_12}
use Rattle.algebra.proofs.Vectors.{IsZero, is_zero, dot-zero_left, across}
use Rattle.algebra.proofs.Points.{weight-go}
use Rattle.trim_laws.specs.Solid.{IsIn, IsInside, Proper}
use Rattle.trim_laws.specs.Trim.{Trim}
use Rattle.trim_laws.proofs.Steps.{Small, small, step_short, step_flat, step_front, below_le, zero_le}
use Rattle.trim_laws.proofs.Trimmed.{trim, trim_back, trimmed_in}
use Rattle.vertex_laws.specs.Vertex.{Crosses}
use Rattle.vertex_laws.specs.Laws.{TrimVertexLaw, TrimVertexBackLaw, EdgeLaw}
use Rattle.vertex_laws.proofs.Corner.{turned}
use Rattle.vertex_laws.proofs.Choice.{some_or_all}
use Rattle.vertex_laws.proofs.Line.{leaning, Leans, up, down, after_or_before}
use Rattle.vertex_laws.proofs.Tight.{tight}

-- ---- three independent normals of a list, or a direction that is flat in all
pub record Three (T : List HalfSpace) : Type 0 where
  pub f : HalfSpace
  pub g : HalfSpace
  pub h : HalfSpace
  pub f_in : f ∈ T
  pub g_in : g ∈ T
  pub h_in : h ∈ T
  pub independent : pos 0 <ℤ det f.normal g.normal h.normal

pub record FlatWay (T : List HalfSpace) : Type 0 where
  pub m : Vector
  pub some : pos 0 <ℤ dot m m
  pub flat : (f : HalfSpace) → f ∈ T → dot f.normal m ≡ pos 0

-- A normal that is parallel to n has the flat directions of n.
parallel_plain : (a x z y : ℤ) → pos 0 <ℤ a → a *ℤ x -ℤ z *ℤ y ≡ pos 0 → z ≡ pos 0 → x ≡ pos 0
parallel_plain a x z y p e h = cancel-eq_left a p (eq_by_2 (pos 1) y e h (ring (a ∷ x ∷ z ∷ y ∷ []) (search read depth 20) tt))

parallel_flat : (n k m : Vector) → pos 0 <ℤ dot n n → IsZero (cross n k) → dot n m ≡ pos 0 → dot k m ≡ pos 0
parallel_flat n k m r z y =
    let e : dot n n *ℤ dot k m -ℤ dot n m *ℤ dot k n ≡ pos 0 = sym (binet_cauchy n k n m) ∙ dot-zero_left (cross n k) (cross n m) z in
    parallel_plain (dot n n) (dot k m) (dot n m) (dot k n) r e y

on_line : (F : List HalfSpace) (f g : HalfSpace) (T : List HalfSpace) → f ∈ T → g ∈ T → Crosses f g → Three T ⊎ FlatWay T
on_line F f g T m n c = ⊎_elim
    (λ s. ⊎_elim (λ l. inl (record { f = f; g = g; h = s.it; f_in = m; g_in = n; h_in = s.among; independent = l }))
    (λ l. inl (record { f = g; g = f; h = s.it; f_in = n; g_in = m; h_in = s.among; independent = rw det-swap_12 (positive-neg l) })) s.has)
    (λ all. inr (record { m = cross f.normal g.normal; some = c; flat = λ k i. turned f.normal g.normal k.normal ∙ all k i }))
    (some_or_all (λ k. (pos 0 <ℤ det f.normal g.normal k.normal) ⊎ (det f.normal g.normal k.normal <ℤ pos 0)) (λ k. det f.normal g.normal k.normal ≡ pos 0) T
    (λ k i. by_sign (det f.normal g.normal k.normal) (λ l. inl (inr l)) (λ e. inr e) (λ l. inl (inl l))))

pub parallel_or_crosses : (n k : Vector) → (pos 0 <ℤ dot (cross n k) (cross n k)) ⊎ IsZero (cross n k)
parallel_or_crosses n k = by_lt_z (pos 0) (dot (cross n k) (cross n k)) (λ l. inl l) (λ l. inr (is_zero (cross n k) l))

nowhere : Vector
nowhere = record { x = pos 0; y = pos 0; z = pos 0 }

pub rank : (T : List HalfSpace) → Proper T → Three T ⊎ FlatWay T
rank [] r = let a = across nowhere nowhere in inr (record { m = a.way; some = a.some; flat = λ f m. elim m [ ] })
rank (e ∷ T) r = ⊎_elim (λ s. on_line T e s.it (e ∷ T) here s.among s.has)
    (λ all. let a = across e.normal e.normal in inr (record { m = a.way; some = a.some; flat = λ k i. parallel_flat e.normal k.normal a.way (r e here) (all k i) a.flat }))
    (some_or_all (λ k. Crosses e k) (λ k. IsZero (cross e.normal k.normal)) (e ∷ T) (λ k i. parallel_or_crosses e.normal k.normal))

-- ---- a vertex of the list is one of the trimmed list
-- A short way that is flat in the tight faces stays in the solid.
slips : (G : List HalfSpace) (v : Homogeneous) (m : Vector) → IsIn G v → (s : Small (λ (g : HalfSpace). side g v) (λ g. dot g.normal m) G) →
    ((f : HalfSpace) → f ∈ G → side f v ≡ pos 0 → dot f.normal m ≡ pos 0) → IsIn G (go s.n (pos 1) v m)
slips G v m i s flat = record {
  weight = weight-go s.n (pos 1) v m s.positive i.weight;
  all = λ f n. by_lt_z (side f v) (pos 0)
      (λ l. below_le (rw side-go (step_short s.n (side f v) (dot f.normal m) (s.below f n l))))
      (λ l. let k = i.all f n in let z : side f v ≡ pos 0 = omega (arith, ints) in rw side-go (zero_le (step_flat s.n (side f v) (dot f.normal m) z (flat f n z))));
}

no_way_up : {A : Type 0} (F G : List HalfSpace) (o v : Homogeneous) (k : HalfSpace) (m : Vector) → Proper F → IsInside F o → Trim F G → IsIn G v →
    ((f : HalfSpace) → f ∈ G → side f v ≡ pos 0 → dot f.normal m ≡ pos 0) → k ∈ F → side k v ≡ pos 0 → pos 0 <ℤ dot k.normal m → A
no_way_up {A} F G o v k m r i t j flat n z l =
    let s = small (λ (g : HalfSpace). side g v) (λ g. dot g.normal m) G in
    let p = go s.n (pos 1) v m in
    let a = (trim F G o p r i t (slips G v m j s flat)).all k n in
    let b : pos 0 <ℤ side k p = rw side-go (step_front s.n (side k v) (dot k.normal m) z l) in absurd (omega (arith, ints))

negated : {a : ℤ} → a ≡ pos 0 → neg_ℤ a ≡ pos 0
negated {a} h = omega (arith, ints)

no_way : {A : Type 0} (F G : List HalfSpace) (o v : Homogeneous) (k : HalfSpace) (m : Vector) → Proper F → IsInside F o → Trim F G → IsIn G v →
    ((f : HalfSpace) → f ∈ G → side f v ≡ pos 0 → dot f.normal m ≡ pos 0) → k ∈ F → side k v ≡ pos 0 → Leans k.normal m → A
no_way F G o v k m r i t j flat n z (up l) = no_way_up F G o v k m r i t j flat n z l
no_way F G o v k m r i t j flat n z (down l) = no_way_up F G o v k (scale (negsuc 0) m) r i t j (λ f x y. rw dot-neg (negated (flat f x y))) n z (rw dot-neg (positive-neg l))

pub trim_vertex : TrimVertexLaw
trim_vertex F G o v r i t u =
    let j = trim_back F G v t u.inside in
    let g = tight G v j in ⊎_elim
    (λ s. let a = g.only s.f s.f_in in let b = g.only s.g s.g_in in let c = g.only s.h s.h_in in record {
      inside = j;
      f = s.f;
      g = s.g;
      h = s.h;
      f_in = a.0;
      g_in = b.0;
      h_in = c.0;
      on_f = a.1;
      on_g = b.1;
      on_h = c.1;
      independent = s.independent;
    })
    (λ w. let l = leaning F v w.m u w.some in no_way F G o v l.face w.m r i t j (λ f n z. w.flat f (g.all f n z)) l.among l.on l.leans)
    (rank g.faces (λ f n. r f (trimmed_in t f (g.only f n).0)))

pub trim_vertex_back : TrimVertexBackLaw
trim_vertex_back F G o v r i t u = record {
  inside = trim F G o v r i t u.inside;
  f = u.f;
  g = u.g;
  h = u.h;
  f_in = trimmed_in t u.f u.f_in;
  g_in = trimmed_in t u.g u.g_in;
  h_in = trimmed_in t u.h u.h_in;
  on_f = u.on_f;
  on_g = u.on_g;
  on_h = u.on_h;
  independent = u.independent;
}

-- ---- an edge is a half-edge of one of its two faces
pub edge : EdgeLaw
edge F a b e = ⊎_elim
    (λ o. inl (record {
      a_vertex = e.p_vertex;
      b_vertex = e.q_vertex;
      f_in = e.f_in;
      g_in = e.g_in;
      a_on_f = e.p_on_f;
      a_on_g = e.p_on_g;
      b_on_f = e.q_on_f;
      b_on_g = e.q_on_g;
      ahead = o.after;
    }))
    (λ o. inr (record {
      a_vertex = e.p_vertex;
      b_vertex = e.q_vertex;
      f_in = e.g_in;
      g_in = e.f_in;
      a_on_f = e.p_on_g;
      a_on_g = e.p_on_f;
      b_on_f = e.q_on_g;
      b_on_g = e.q_on_f;
      ahead = o.after;
    }))
    (after_or_before e.f e.g a b e.crossing (record { on_f = e.p_on_f; on_g = e.p_on_g }) (record { on_f = e.q_on_f; on_g = e.q_on_g }) e.distinct)
