-- What a motion keeps of a polyhedron, part by part.
use Rattle.std.proofs.Common.{◌≡◌, ◌∙◌, List, [], ◌∷◌, ap, sym, subst, ℤ, pos, ◌+ℤ◌, ◌*ℤ◌}
use Rattle.algebra.specs.Members.{◌∈◌}
use Rattle.algebra.specs.Space.{Vector, Homogeneous, HalfSpace, SamePoint, SameHalfSpace, dot, plus, scale, side}
use Rattle.algebra.proofs.Expr.{read}
use Rattle.algebra.proofs.Ring.{ring}
use Rattle.algebra.proofs.Orders.{eq_by_3}
use Rattle.algebra.proofs.Identities.{with_vector, with_point}
use Rattle.orient48.specs.Laws.{IsTurn}
use Rattle.orient48.specs.Motions.{Motion, back, moved_half, moved_at}
use Rattle.trim_laws.specs.Trim.{Bears}
use Rattle.vertex_laws.specs.Vertex.{IsVertex}
use Rattle.poly_laws.specs.Links.{Links, VertexSlot, FaceSlot}
use Rattle.poly_laws.specs.Stands.{Neat, StandsFor}
use Rattle.moved_laws.specs.Moved.{moved_list}
use Rattle.moved_laws.proofs.Corners.{vertex_was}
use Rattle.moved_laws.proofs.Halves.{each_point, half_back, point_back, side_moved}
use Rattle.moved_laws.proofs.Points.{each_moved, bounded_onto, proper_onto}
use Rattle.moved_laws.proofs.Trimming.{bears_onto, same_from}
use Rattle.moved_poly_laws.specs.Moved.{moved_links}

-- ---- the list
pub neat_moved : (r : Motion) (F : List HalfSpace) → IsTurn r.matrix → Neat F → Neat (moved_list r F)
neat_moved r F t n = record {
  proper = proper_onto r F t n.proper;
  bounded = bounded_onto r F t n.bounded;
  bears = each_moved (moved_half r) (Bears (moved_list r F)) F (λ f i. bears_onto r F f t (n.bears f i));
  once = λ f g i j. each_moved (moved_half r) (λ f. SameHalfSpace f g → f ≡ g) F
      (λ f i. each_moved (moved_half r) (λ g. SameHalfSpace (moved_half r f) g → moved_half r f ≡ g) F (λ g j s. ap (moved_half r) (n.once f g i j (same_from r f g t s))) g j) f i;
}

-- ---- points that are one
point_plain : (m : Vector) (s : ℤ) (p q : Homogeneous) → SamePoint p q → (dot m p.vector +ℤ p.weight *ℤ s) *ℤ q.weight ≡ (dot m q.vector +ℤ q.weight *ℤ s) *ℤ p.weight
unfolding dot
point_plain m s p q h = eq_by_3 m.x m.y m.z h.x h.y h.z (ring (s ∷ with_vector m (with_point p (with_point q []))) (search read depth 30 fits 20000) tt)

same_point_onto : (r : Motion) (p q : Homogeneous) → SamePoint p q → SamePoint (moved_at r p) (moved_at r q)
unfolding plus scale
same_point_onto r p q h =
    record { x = point_plain r.matrix.x r.shift.x p q h; y = point_plain r.matrix.y r.shift.y p q h; z = point_plain r.matrix.z r.shift.z p q h }

pub same_point_from : (r : Motion) (p q : Homogeneous) → IsTurn r.matrix → SamePoint (moved_at r p) (moved_at r q) → SamePoint p q
same_point_from r p q t h = subst (λ x. SamePoint x q) (point_back r p t)
    (subst (SamePoint (moved_at (back r) (moved_at r p))) (point_back r q t) (same_point_onto (back r) (moved_at r p) (moved_at r q) h))

-- ---- vertices and faces
pub vertex_slot : (r : Motion) (F : List HalfSpace) (L : Links) → IsTurn r.matrix → StandsFor F L → (v : Homogeneous) → IsVertex (moved_list r F) v → VertexSlot (moved_links r L) v
vertex_slot r F L t s v h =
    let w = s.vertex_all (moved_at (back r) v) (vertex_was r F v t h) in
    record { slot = w.slot; live = w.live; same = subst (λ p. SamePoint p (moved_at r (L.point w.slot))) (each_point r v t) (same_point_onto r (moved_at (back r) v) (L.point w.slot) w.same) }

pub face_slot : (r : Motion) (F : List HalfSpace) (L : Links) → IsTurn r.matrix → StandsFor F L → (f : HalfSpace) → f ∈ moved_list r F → FaceSlot (moved_links r L) f
face_slot r F L t s = each_moved (moved_half r) (FaceSlot (moved_links r L)) F
    (λ f i. let w = s.face_all f i in record { slot = w.slot; live = w.live; plane_is = ap (moved_half r) w.plane_is })

pub one_face : (r : Motion) (f g : HalfSpace) → IsTurn r.matrix → moved_half r f ≡ moved_half r g → f ≡ g
one_face r f g t e = sym (half_back r f t) ∙ ap (moved_half (back r)) e ∙ half_back r g t

pub on_plane : (r : Motion) (f : HalfSpace) (p : Homogeneous) → IsTurn r.matrix → side (moved_half r f) (moved_at r p) ≡ pos 0 → side f p ≡ pos 0
on_plane r f p t e = sym (side_moved r f p t) ∙ e
