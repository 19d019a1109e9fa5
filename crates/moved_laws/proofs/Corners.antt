-- The vertices of moved solids.
use Rattle.std.proofs.Common.{◌≡◌, List, [], ◌∷◌, ap, sym, ◌∙◌, subst, inl, inr, ℤ, pos, negsuc, neg_ℤ, ◌*ℤ◌, ◌<ℤ◌}
use Rattle.algebra.specs.Space.{Vector, Homogeneous, HalfSpace, dot, cross, det}
use Rattle.algebra.proofs.Expr.{read}
use Rattle.algebra.proofs.Ring.{ring}
use Rattle.algebra.proofs.Identities.{with_vector, det-swap_12}
use Rattle.orient48.specs.Motions.{Matrix, Motion, turned, back, moved_half, moved_at}
use Rattle.orient48.specs.Laws.{IsTurn}
use Rattle.orient48.proofs.Matrices.{with_matrix, turn_back}
use Rattle.orient48.proofs.Signs.{sign_of}
use Rattle.vertex_laws.specs.Vertex.{IsVertex}
use Rattle.moved_laws.specs.Moved.{moved_list}
use Rattle.moved_laws.proofs.Halves.{side_moved, point_back, list_back}
use Rattle.moved_laws.proofs.Points.{among_moved, in_onto}

pub det_moved : (m : Matrix) (a b c : Vector) → det (turned m a) (turned m b) (turned m c) ≡ det m.x m.y m.z *ℤ det a b c
unfolding det dot cross
det_moved m a b c = ring (with_matrix m (with_vector a (with_vector b (with_vector c [])))) (search read depth 60 fits 40000) tt

pub once : (d : ℤ) → pos 1 *ℤ d ≡ d
once d = ring (d ∷ []) (search read depth 20) tt

pub minus_minus : (d : ℤ) → negsuc 0 *ℤ neg_ℤ d ≡ d
minus_minus d = ring (d ∷ []) (search read depth 20) tt

pub vertex_onto : (r : Motion) (F : List HalfSpace) (v : Homogeneous) → IsTurn r.matrix → IsVertex F v → IsVertex (moved_list r F) (moved_at r v)
vertex_onto r F v t h = elim (sign_of r.matrix t) [
  | inl s ↦ record {
    inside = in_onto r F v t h.inside;
    f = moved_half r h.g;
    g = moved_half r h.f;
    h = moved_half r h.h;
    f_in = among_moved (moved_half r) h.g F h.g_in;
    g_in = among_moved (moved_half r) h.f F h.f_in;
    h_in = among_moved (moved_half r) h.h F h.h_in;
    on_f = side_moved r h.g v t ∙ h.on_g;
    on_g = side_moved r h.f v t ∙ h.on_f;
    on_h = side_moved r h.h v t ∙ h.on_h;
    independent = subst (λ d. pos 0 <ℤ d) (sym (det_moved r.matrix h.g.normal h.f.normal h.h.normal ∙ (λ i. s.is i *ℤ det-swap_12 h.f.normal h.g.normal h.h.normal i)
        ∙ minus_minus (det h.f.normal h.g.normal h.h.normal))) h.independent;
  }
  | inr s ↦ record {
    inside = in_onto r F v t h.inside;
    f = moved_half r h.f;
    g = moved_half r h.g;
    h = moved_half r h.h;
    f_in = among_moved (moved_half r) h.f F h.f_in;
    g_in = among_moved (moved_half r) h.g F h.g_in;
    h_in = among_moved (moved_half r) h.h F h.h_in;
    on_f = side_moved r h.f v t ∙ h.on_f;
    on_g = side_moved r h.g v t ∙ h.on_g;
    on_h = side_moved r h.h v t ∙ h.on_h;
    independent = subst (λ d. pos 0 <ℤ d) (sym (det_moved r.matrix h.f.normal h.g.normal h.h.normal ∙ ap (λ k. k *ℤ det h.f.normal h.g.normal h.h.normal) s.is
        ∙ once (det h.f.normal h.g.normal h.h.normal))) h.independent;
  }
]

pub vertex_was : (r : Motion) (F : List HalfSpace) (q : Homogeneous) → IsTurn r.matrix → IsVertex (moved_list r F) q → IsVertex F (moved_at (back r) q)
vertex_was r F q t h = subst (λ X. IsVertex X (moved_at (back r) q)) (list_back r F t) (vertex_onto (back r) (moved_list r F) q (turn_back r.matrix t) h)

pub vertex_from : (r : Motion) (F : List HalfSpace) (v : Homogeneous) → IsTurn r.matrix → IsVertex (moved_list r F) (moved_at r v) → IsVertex F v
vertex_from r F v t h = subst (IsVertex F) (point_back r v t) (vertex_was r F (moved_at r v) t h)
