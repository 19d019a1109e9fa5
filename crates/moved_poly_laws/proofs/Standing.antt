-- Polyhedra that a motion moves stand for the moved list.
use Rattle.std.proofs.Common.{◌≡◌, ◌∙◌, List, ℕ, true, false, ap, sym, subst, pos}
use Rattle.algebra.specs.Space.{HalfSpace, side}
use Rattle.orient48.specs.Laws.{IsTurn}
use Rattle.orient48.specs.Motions.{Motion, is_flip, moved_half, moved_at}
use Rattle.orient48.proofs.Matrices.{is_turn}
use Rattle.vertex_laws.specs.HalfEdge.{IsHalfEdge}
use Rattle.poly_laws.specs.Links.{Links, HasVertex, HasFace, HasEdge, EdgeSlot, from_point, to_point, own_plane, other_plane}
use Rattle.poly_laws.specs.Stands.{StandsFor}
use Rattle.moved_laws.specs.Moved.{moved_list}
use Rattle.moved_laws.proofs.Corners.{vertex_onto}
use Rattle.moved_laws.proofs.Edges.{half_edges_is}
use Rattle.moved_laws.proofs.Points.{among_moved}
use Rattle.moved_poly_laws.specs.Laws.{KeptLaw, TurnedRoundLaw}
use Rattle.moved_poly_laws.specs.Moved.{moved_links, turned_links, LeadsBack}
use Rattle.moved_poly_laws.proofs.Parts.{neat_moved, same_point_from, vertex_slot, face_slot, one_face, on_plane}

-- ---- where no half-edge is turned
stands_kept : (r : Motion) (F : List HalfSpace) (L : Links) → IsTurn r.matrix → is_flip r.matrix ≡ false → StandsFor F L → StandsFor (moved_list r F) (moved_links r L)
stands_kept r F L t n s = record {
  vertex = λ x h. vertex_onto r F (L.point x) t (s.vertex x h);
  vertex_once = λ x y h k e. s.vertex_once x y h k (same_point_from r (L.point x) (L.point y) t e);
  vertex_all = vertex_slot r F L t s;
  face_in = λ k h. among_moved (moved_half r) (L.plane k) F (s.face_in k h);
  face_once = λ k l h i e. s.face_once k l h i (one_face r (L.plane k) (L.plane l) t e);
  face_all = face_slot r F L t s;
  first_live = s.first_live;
  first_face = s.first_face;
  origin_live = s.origin_live;
  face_live = s.face_live;
  twin_live = s.twin_live;
  twin_twin = s.twin_twin;
  next_live = s.next_live;
  meets = s.meets;
  same_face = s.same_face;
  edge = λ e h. ((half_edges_is r F t).kept n (own_plane L e) (other_plane L e) (from_point L e) (to_point L e)).0 (s.edge e h);
  one_each = s.one_each;
  edge_all = λ x k h i e. let d = s.edge_all x k h i (on_plane r (L.plane k) (L.point x) t e) in record { slot = d.slot; live = d.live; origin_is = d.origin_is; face_is = d.face_is };
}

pub kept_is : KeptLaw
kept_is r F L h n neat s = let t = is_turn r.matrix h in record { neat = neat_moved r F t neat; stands = stands_kept r F L t n s }

-- ---- where each is turned round
-- a half-edge ends where the next one begins
ends : (F : List HalfSpace) (L : Links) (e d : ℕ) → StandsFor F L → HasEdge L e → HasEdge L d → L.origin (L.twin e) ≡ L.origin (L.twin d) → L.face e ≡ L.face d → L.next e ≡ L.next d
ends F L e d s h k o f = s.one_each (L.next e) (L.next d) (s.next_live e h) (s.next_live d k) (s.meets e h ∙ o ∙ sym (s.meets d k)) (s.same_face e h ∙ f ∙ sym (s.same_face d k))

turned_slot : (r : Motion) (F : List HalfSpace) (L : Links) (before : ℕ → ℕ) → IsTurn r.matrix → StandsFor F L → LeadsBack L before → (x k : ℕ) → HasVertex L x → HasFace L k →
    side (moved_half r (L.plane k)) (moved_at r (L.point x)) ≡ pos 0 → EdgeSlot (turned_links before (moved_links r L)) x k
turned_slot r F L before t s b x k h i e =
    let d = s.edge_all x k h i (on_plane r (L.plane k) (L.point x) t e) in
    let p = before d.slot in
    let live = b.live d.slot d.live in
    record {
      slot = p;
      live = live;
      origin_is = sym (s.meets p live) ∙ ap L.origin (b.onward d.slot d.live) ∙ d.origin_is;
      face_is = sym (s.same_face p live) ∙ ap L.face (b.onward d.slot d.live) ∙ d.face_is;
    }

turned_edge : (r : Motion) (F : List HalfSpace) (L : Links) → IsTurn r.matrix → is_flip r.matrix ≡ true → StandsFor F L → (e : ℕ) → HasEdge L e →
    IsHalfEdge (moved_list r F) (moved_half r (own_plane L e)) (moved_half r (other_plane L e)) (moved_at r (to_point L e)) (moved_at r (from_point L (L.twin (L.twin e))))
turned_edge r F L t n s e h =
    subst (λ x. IsHalfEdge (moved_list r F) (moved_half r (own_plane L e)) (moved_half r (other_plane L e)) (moved_at r (to_point L e)) (moved_at r (from_point L x))) (sym (s.twin_twin e h))
    (((half_edges_is r F t).turned_round n (own_plane L e) (other_plane L e) (from_point L e) (to_point L e)).0 (s.edge e h))

stands_turned : (r : Motion) (F : List HalfSpace) (L : Links) (before : ℕ → ℕ) → IsTurn r.matrix → is_flip r.matrix ≡ true → StandsFor F L → LeadsBack L before →
    StandsFor (moved_list r F) (turned_links before (moved_links r L))
stands_turned r F L before t n s b = record {
  vertex = λ x h. vertex_onto r F (L.point x) t (s.vertex x h);
  vertex_once = λ x y h k e. s.vertex_once x y h k (same_point_from r (L.point x) (L.point y) t e);
  vertex_all = λ v h. let w = vertex_slot r F L t s v h in record { slot = w.slot; live = w.live; same = w.same };
  face_in = λ k h. among_moved (moved_half r) (L.plane k) F (s.face_in k h);
  face_once = λ k l h i e. s.face_once k l h i (one_face r (L.plane k) (L.plane l) t e);
  face_all = λ f i. let w = face_slot r F L t s f i in record { slot = w.slot; live = w.live; plane_is = w.plane_is };
  first_live = s.first_live;
  first_face = s.first_face;
  origin_live = λ e h. s.origin_live (L.twin e) (s.twin_live e h);
  face_live = s.face_live;
  twin_live = s.twin_live;
  twin_twin = s.twin_twin;
  next_live = b.live;
  meets = λ e h. sym (s.meets (before e) (b.live e h)) ∙ ap L.origin (b.onward e h) ∙ ap L.origin (sym (s.twin_twin e h));
  same_face = λ e h. sym (s.same_face (before e) (b.live e h)) ∙ ap L.face (b.onward e h);
  edge = turned_edge r F L t n s;
  one_each = λ e d h k o f. sym (b.back e h) ∙ ap before (ends F L e d s h k o f) ∙ b.back d k;
  edge_all = turned_slot r F L before t s b;
}

pub turned_round_is : TurnedRoundLaw
turned_round_is r F L before h n neat s b = let t = is_turn r.matrix h in record { neat = neat_moved r F t neat; stands = stands_turned r F L before t n s b }
