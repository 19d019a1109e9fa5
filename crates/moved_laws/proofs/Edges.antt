-- The half-edges of moved solids.
use Rattle.std.proofs.Common.{◌≡◌, List, [], ap, sym, ◌∙◌, subst, inl, inr, true, false, pos, negsuc, ◌*ℤ◌, ◌<ℤ◌}
use Rattle.std.specs.Ordering.{int_eq}
use Rattle.std.proofs.lemmas.Bool.{true≢false}
use Rattle.std.proofs.lemmas.Bool.Decides.{Decides-int_eq}
use Rattle.algebra.specs.Members.{◌∈◌}
use Rattle.algebra.specs.Space.{Vector, Homogeneous, HalfSpace, dot, cross, det, plus, minus, scale, way}
use Rattle.algebra.proofs.Expr.{read}
use Rattle.algebra.proofs.Ring.{ring}
use Rattle.algebra.proofs.Identities.{with_vector, with_point, vector_by, det-cross, dot-way_turn}
use Rattle.orient48.specs.Motions.{Matrix, Motion, turned, back, is_flip, moved_half, moved_at}
use Rattle.orient48.specs.Laws.{IsTurn}
use Rattle.orient48.proofs.Matrices.{with_matrix}
use Rattle.orient48.proofs.Signs.{Sign, sign_of}
use Rattle.vertex_laws.specs.HalfEdge.{IsHalfEdge}
use Rattle.moved_laws.specs.Moved.{moved_list}
use Rattle.moved_laws.specs.Laws.{HalfEdgesMovedLaw}
use Rattle.moved_laws.proofs.Halves.{side_moved, half_back, list_back}
use Rattle.moved_laws.proofs.Points.{among_moved}
use Rattle.moved_laws.proofs.Corners.{det_moved, once, minus_minus, vertex_onto, vertex_from}

pub way_moved : (r : Motion) (p q : Homogeneous) → way (moved_at r p) (moved_at r q) ≡ turned r.matrix (way p q)
unfolding way dot plus minus scale
way_moved r p q = vector_by (ring (with_matrix r.matrix (with_vector r.shift (with_point p (with_point q [])))) (search read depth 60 fits 40000) tt)
    (ring (with_matrix r.matrix (with_vector r.shift (with_point p (with_point q [])))) (search read depth 60 fits 40000) tt)
    (ring (with_matrix r.matrix (with_vector r.shift (with_point p (with_point q [])))) (search read depth 60 fits 40000) tt)

pub triple_moved : (m : Matrix) (a b c : Vector) → dot (cross (turned m a) (turned m b)) (turned m c) ≡ det m.x m.y m.z *ℤ dot (cross a b) c
triple_moved m a b c = det-cross (turned m a) (turned m b) (turned m c) ∙ det_moved m a b c ∙ ap (λ d. det m.x m.y m.z *ℤ d) (sym (det-cross a b c))

-- ---- flips
pub sign_flip : (m : Matrix) → is_flip m ≡ true → Sign m true
sign_flip m e = record { is = (Decides-int_eq (det m.x m.y m.z) (negsuc 0)).0 e }

pub sign_kept : (m : Matrix) → IsTurn m → is_flip m ≡ false → Sign m false
sign_kept m t e = elim (sign_of m t) [
  | inl s ↦ absurd (true≢false (sym (ap (λ d. int_eq d (negsuc 0)) s.is) ∙ e))
  | inr s ↦ s
]

-- ---- the way along
along_kept : (r : Motion) (f g : Vector) (a b : Homogeneous) → Sign r.matrix false → dot (cross (turned r.matrix g) (turned r.matrix f)) (way (moved_at r a) (moved_at r b)) ≡ dot (cross g f) (way a b)
along_kept r f g a b s = ap (dot (cross (turned r.matrix g) (turned r.matrix f))) (way_moved r a b) ∙ triple_moved r.matrix g f (way a b)
    ∙ ap (λ d. d *ℤ dot (cross g f) (way a b)) s.is ∙ once (dot (cross g f) (way a b))

along_flip : (r : Motion) (f g : Vector) (a b : Homogeneous) → Sign r.matrix true → dot (cross (turned r.matrix g) (turned r.matrix f)) (way (moved_at r b) (moved_at r a)) ≡ dot (cross g f) (way a b)
along_flip r f g a b s = ap (dot (cross (turned r.matrix g) (turned r.matrix f))) (way_moved r b a) ∙ triple_moved r.matrix g f (way b a)
    ∙ (λ i. s.is i *ℤ dot-way_turn (cross g f) a b i) ∙ minus_minus (dot (cross g f) (way a b))

pub among_from : (r : Motion) (f : HalfSpace) (F : List HalfSpace) → IsTurn r.matrix → moved_half r f ∈ moved_list r F → f ∈ F
among_from r f F t i = subst (λ x. x ∈ F) (half_back r f t)
    (subst (λ X. moved_half (back r) (moved_half r f) ∈ X) (list_back r F t) (among_moved (moved_half (back r)) (moved_half r f) (moved_list r F) i))

edge_onto : (r : Motion) (F : List HalfSpace) (f g : HalfSpace) (a b : Homogeneous) → IsTurn r.matrix → Sign r.matrix false → IsHalfEdge F f g a b →
    IsHalfEdge (moved_list r F) (moved_half r f) (moved_half r g) (moved_at r a) (moved_at r b)
edge_onto r F f g a b t s h = record {
  a_vertex = vertex_onto r F a t h.a_vertex;
  b_vertex = vertex_onto r F b t h.b_vertex;
  f_in = among_moved (moved_half r) f F h.f_in;
  g_in = among_moved (moved_half r) g F h.g_in;
  a_on_f = side_moved r f a t ∙ h.a_on_f;
  a_on_g = side_moved r g a t ∙ h.a_on_g;
  b_on_f = side_moved r f b t ∙ h.b_on_f;
  b_on_g = side_moved r g b t ∙ h.b_on_g;
  ahead = subst (λ d. pos 0 <ℤ d) (sym (along_kept r f.normal g.normal a b s)) h.ahead;
}

edge_from : (r : Motion) (F : List HalfSpace) (f g : HalfSpace) (a b : Homogeneous) → IsTurn r.matrix → Sign r.matrix false →
    IsHalfEdge (moved_list r F) (moved_half r f) (moved_half r g) (moved_at r a) (moved_at r b) → IsHalfEdge F f g a b
edge_from r F f g a b t s h = record {
  a_vertex = vertex_from r F a t h.a_vertex;
  b_vertex = vertex_from r F b t h.b_vertex;
  f_in = among_from r f F t h.f_in;
  g_in = among_from r g F t h.g_in;
  a_on_f = sym (side_moved r f a t) ∙ h.a_on_f;
  a_on_g = sym (side_moved r g a t) ∙ h.a_on_g;
  b_on_f = sym (side_moved r f b t) ∙ h.b_on_f;
  b_on_g = sym (side_moved r g b t) ∙ h.b_on_g;
  ahead = subst (λ d. pos 0 <ℤ d) (along_kept r f.normal g.normal a b s) h.ahead;
}

round_onto : (r : Motion) (F : List HalfSpace) (f g : HalfSpace) (a b : Homogeneous) → IsTurn r.matrix → Sign r.matrix true → IsHalfEdge F f g a b →
    IsHalfEdge (moved_list r F) (moved_half r f) (moved_half r g) (moved_at r b) (moved_at r a)
round_onto r F f g a b t s h = record {
  a_vertex = vertex_onto r F b t h.b_vertex;
  b_vertex = vertex_onto r F a t h.a_vertex;
  f_in = among_moved (moved_half r) f F h.f_in;
  g_in = among_moved (moved_half r) g F h.g_in;
  a_on_f = side_moved r f b t ∙ h.b_on_f;
  a_on_g = side_moved r g b t ∙ h.b_on_g;
  b_on_f = side_moved r f a t ∙ h.a_on_f;
  b_on_g = side_moved r g a t ∙ h.a_on_g;
  ahead = subst (λ d. pos 0 <ℤ d) (sym (along_flip r f.normal g.normal a b s)) h.ahead;
}

round_from : (r : Motion) (F : List HalfSpace) (f g : HalfSpace) (a b : Homogeneous) → IsTurn r.matrix → Sign r.matrix true →
    IsHalfEdge (moved_list r F) (moved_half r f) (moved_half r g) (moved_at r b) (moved_at r a) → IsHalfEdge F f g a b
round_from r F f g a b t s h = record {
  a_vertex = vertex_from r F a t h.b_vertex;
  b_vertex = vertex_from r F b t h.a_vertex;
  f_in = among_from r f F t h.f_in;
  g_in = among_from r g F t h.g_in;
  a_on_f = sym (side_moved r f a t) ∙ h.b_on_f;
  a_on_g = sym (side_moved r g a t) ∙ h.b_on_g;
  b_on_f = sym (side_moved r f b t) ∙ h.a_on_f;
  b_on_g = sym (side_moved r g b t) ∙ h.a_on_g;
  ahead = subst (λ d. pos 0 <ℤ d) (along_flip r f.normal g.normal a b s) h.ahead;
}

pub half_edges_is : HalfEdgesMovedLaw
half_edges_is r F t = record {
  kept = λ e f g a b. (edge_onto r F f g a b t (sign_kept r.matrix t e), edge_from r F f g a b t (sign_kept r.matrix t e));
  turned_round = λ e f g a b. (round_onto r F f g a b t (sign_flip r.matrix e), round_from r F f g a b t (sign_flip r.matrix e));
}
