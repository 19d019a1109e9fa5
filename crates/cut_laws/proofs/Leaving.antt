-- The half-edges behind a further plane.
use Rattle.std.proofs.Common.{◌≡◌, List, sym, ◌∙◌, arith, ⊎_elim, ℤ, pos, ◌+ℤ◌, ◌*ℤ◌, neg_ℤ, ◌<ℤ◌, ◌≤ℤ◌}
use Rattle.std.proofs.lemmas.Int.{ints, by_lt_z}
use Rattle.algebra.specs.Space.{Homogeneous, HalfSpace, SamePoint, dot, side, SameHalfSpace}
use Rattle.algebra.proofs.Orders.{positive-mul, positive-neg, nonneg_of_positive}
use Rattle.algebra.proofs.Identities.{side-mix, dot-way_mix}
use Rattle.algebra.proofs.Points.{mix-on, mix_plain_left, mix_plain_right, same_point_sym, apart_by_behind}
use Rattle.trim_laws.proofs.Steps.{below_le}
use Rattle.trim_laws.proofs.SameHalfSpace.{parallel_of_same}
use Rattle.vertex_laws.specs.Vertex.{IsVertex, Crosses}
use Rattle.vertex_laws.specs.HalfEdge.{IsHalfEdge}
use Rattle.vertex_laws.proofs.Line.{third_end}
use Rattle.vertex_laws.proofs.HalfEdge.{one_outgoing, edge_crosses, edge_distinct}
use Rattle.vertex_laws.proofs.TwoFaces.{twin}
use Rattle.vertex_laws.proofs.OneLoop.{one_incoming, same_half_edge}
use Rattle.cut_laws.specs.Cut.{back, Crossed}
use Rattle.cut_laws.specs.Laws.{KeptHalfEdgeLaw, LeavingHalfEdgeLaw, LeaveLaw, EnterLaw, NewCornerLaw}
use Rattle.cut_laws.proofs.Backs.{in_left}
use Rattle.cut_laws.proofs.CutVertex.{cut_vertex, old_vertex}
use Rattle.cut_laws.proofs.Alone.{zero_ge}

old : (F : List HalfSpace) (P : HalfSpace) (v : Homogeneous) → IsVertex F v → side P v ≤ℤ pos 0 → IsVertex (back F P) v
old F P v u h = old_vertex F P v (record { vertex = u; not_in_front = h })

pub kept_half_edge : KeptHalfEdgeLaw
kept_half_edge F P f g a b e h k = record {
  a_vertex = old F P a e.a_vertex h;
  b_vertex = old F P b e.b_vertex k;
  f_in = in_left F P f e.f_in;
  g_in = in_left F P g e.g_in;
  a_on_f = e.a_on_f;
  a_on_g = e.a_on_g;
  b_on_f = e.b_on_f;
  b_on_g = e.b_on_g;
  ahead = e.ahead;
}

pub crossed : {F : List HalfSpace} {f g : HalfSpace} {a b : Homogeneous} (P : HalfSpace) → IsHalfEdge F f g a b → side P a <ℤ pos 0 → pos 0 <ℤ side P b → Crossed F P a b
crossed {F} {f} {g} {a} {b} P e h k = record {
  edge = record {
    p_vertex = e.a_vertex;
    q_vertex = e.b_vertex;
    distinct = edge_distinct e;
    f = f;
    g = g;
    f_in = e.f_in;
    g_in = e.g_in;
    crossing = edge_crosses e;
    p_on_f = e.a_on_f;
    q_on_f = e.b_on_f;
    p_on_g = e.a_on_g;
    q_on_g = e.b_on_g;
  };
  behind = h;
  ahead = k;
}

pub leaving_half_edge : LeavingHalfEdgeLaw
leaving_half_edge F P f g a b e h k = record {
  a_vertex = old F P a e.a_vertex (below_le h);
  b_vertex = cut_vertex F P a b (crossed P e h k);
  f_in = in_left F P f e.f_in;
  g_in = in_left F P g e.g_in;
  a_on_f = e.a_on_f;
  a_on_g = e.a_on_g;
  b_on_f = mix-on (side P b) a (neg_ℤ (side P a)) b f e.a_on_f e.b_on_f;
  b_on_g = mix-on (side P b) a (neg_ℤ (side P a)) b g e.a_on_g e.b_on_g;
  ahead = rw dot-way_mix (positive-mul (positive-neg h) e.ahead);
}

-- ---- where they meet the half-edge on the plane
pub leave : LeaveLaw
leave G P f g u v a c r e d h z = ⊎_elim (λ s. s)
    (λ s.
    let i = one_incoming G f P g u a v r e (same_half_edge G f g a c v d e.b_vertex.inside.weight (same_point_sym s)) in
    absurd (apart_by_behind P a u d.a_vertex.inside.weight e.a_vertex.inside.weight h (zero_ge e.a_on_g) i))
    (third_end G f P u v c (edge_crosses e) (record { on_f = e.a_on_f; on_g = e.a_on_g }) (record { on_f = e.b_on_f; on_g = e.b_on_g }) (record { on_f = d.b_on_f; on_g = z }) e.a_vertex e.b_vertex d.b_vertex (edge_distinct e))

-- the other end of a half-edge moved to an equal point
pub same_start : (F : List HalfSpace) (f g : HalfSpace) (a b w : Homogeneous) → IsHalfEdge F f g a b → pos 0 <ℤ w.weight → SamePoint w a → IsHalfEdge F f g w b
same_start F f g a b w e x s = twin F g f b w (same_half_edge F g f b a w (twin F f g a b e) x s)

pub enter : EnterLaw
enter G P f g u v c b r e d h z = ⊎_elim
    (λ s.
    let i = one_outgoing G f P g u v b r e (same_start G f g c b u d e.a_vertex.inside.weight (same_point_sym s)) in
    absurd (apart_by_behind P b v d.b_vertex.inside.weight e.b_vertex.inside.weight h (zero_ge e.b_on_g) (same_point_sym i)))
    (λ s. s)
    (third_end G f P u v c (edge_crosses e) (record { on_f = e.a_on_f; on_g = e.a_on_g }) (record { on_f = e.b_on_f; on_g = e.b_on_g }) (record { on_f = d.a_on_f; on_g = z }) e.a_vertex e.b_vertex d.a_vertex (edge_distinct e))

pub crossing_apart : (f g : HalfSpace) → pos 0 <ℤ dot f.normal f.normal → Crosses f g → ¬ (SameHalfSpace f g)
crossing_apart f g r c s = let z = parallel_of_same f g s r in absurd (omega (arith, ints))

-- ---- the faces at a new vertex
part_plain : (s a t b : ℤ) → pos 0 <ℤ s → pos 0 <ℤ t → a ≤ℤ pos 0 → b ≤ℤ pos 0 → s *ℤ a +ℤ t *ℤ b ≡ pos 0 → (a ≡ pos 0) × (b ≡ pos 0)
part_plain s a t b h k l m e = (
  by_lt_z a (pos 0) (λ n. let x = mix_plain_left s a t b h (nonneg_of_positive k) n m in absurd (omega (arith, ints))) (λ n. omega (arith, ints)),
  by_lt_z b (pos 0) (λ n. let x = mix_plain_right s a t b (nonneg_of_positive h) k l n in absurd (omega (arith, ints))) (λ n. omega (arith, ints)),
)

pub new_corner : NewCornerLaw
new_corner F P h a b c m z = part_plain (side P b) (side h a) (neg_ℤ (side P a)) (side h b) c.ahead (positive-neg c.behind)
    (c.edge.p_vertex.inside.all h m) (c.edge.q_vertex.inside.all h m) (sym (side-mix (side P b) a (neg_ℤ (side P a)) b h) ∙ z)
