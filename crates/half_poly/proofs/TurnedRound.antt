-- Half-edges that are turned round.
use Rattle.std.proofs.Common.{◌≡◌, ℕ, ◌<◌, List, length, Option, IsSome, is_some, unwrap_or, true, sym, ap, subst, ◌∙◌}
use Rattle.std.specs.Option.{option_map_or}
use Rattle.algebra.specs.Members.{◌∈◌, here}
use Rattle.algebra.specs.Space.{Homogeneous, HalfSpace}
use Rattle.half_arena.specs.declared.ids.EdgeId.{EdgeId}
use Rattle.vertex_laws.specs.HalfEdge.{IsHalfEdge}
use Rattle.vertex_laws.proofs.OneLoop.{one_incoming}
use Rattle.poly_laws.specs.Links.{Links, HasVertex, HasEdge, own_plane, other_plane, from_point, to_point}
use Rattle.poly_laws.specs.Loops.{Way, start, onward}
use Rattle.poly_laws.specs.Stands.{Neat, StandsFor}
use Rattle.poly_laws.proofs.Round.{goes_round}
use Rattle.moved_poly_laws.specs.Moved.{LeadsBack}
use Rattle.half_poly.specs.declared.links.HalfEdge.{HalfEdge}
use Rattle.half_poly.specs.declared.links.Face.{Face}
use Rattle.half_poly.specs.Arenas.{links}
use Rattle.half_poly.specs.Noted.{Table, entry}
use Rattle.half_poly.specs.Turned.{LeadsTo, AreBefore}
use Rattle.half_poly.proofs.ArenaReads.{There, there, read, live_is}
use Rattle.half_poly.proofs.Whole.{below, in_below}

-- ---- links that differ in slots that are not live
pub stands_like : (F : List HalfSpace) (L : Links) (o n : ℕ → ℕ) → ((e : ℕ) → HasEdge L e → o e ≡ L.origin e) → ((e : ℕ) → HasEdge L e → n e ≡ L.next e) → StandsFor F L → StandsFor F (record L { origin = o; next = n })
stands_like F L o n a b s = record {
  vertex = s.vertex;
  vertex_once = s.vertex_once;
  vertex_all = λ v h. let w = s.vertex_all v h in record { slot = w.slot; live = w.live; same = w.same };
  face_in = s.face_in;
  face_once = s.face_once;
  face_all = λ f i. let w = s.face_all f i in record { slot = w.slot; live = w.live; plane_is = w.plane_is };
  first_live = s.first_live;
  first_face = s.first_face;
  origin_live = λ e h. subst (λ x. HasVertex L x) (sym (a e h)) (s.origin_live e h);
  face_live = s.face_live;
  twin_live = s.twin_live;
  twin_twin = s.twin_twin;
  next_live = λ e h. subst (λ d. HasEdge L d) (sym (b e h)) (s.next_live e h);
  meets = λ e h. ap o (b e h) ∙ a (L.next e) (s.next_live e h) ∙ s.meets e h ∙ sym (a (L.twin e) (s.twin_live e h));
  same_face = λ e h. ap L.face (b e h) ∙ s.same_face e h;
  edge = λ e h. subst (λ x. IsHalfEdge F (own_plane L e) (other_plane L e) (L.point x) (L.point (o (L.twin e)))) (sym (a e h))
      (subst (λ x. IsHalfEdge F (own_plane L e) (other_plane L e) (from_point L e) (L.point x)) (sym (a (L.twin e) (s.twin_live e h))) (s.edge e h));
  one_each = λ e d h k p q. s.one_each e d h k (sym (a e h) ∙ p ∙ a d k) q;
  edge_all = λ x k h i z. let w = s.edge_all x k h i z in record { slot = w.slot; live = w.live; origin_is = a w.slot w.live ∙ w.origin_is; face_is = w.face_is };
}

-- ---- each half-edge has one before it
pub next_once : (F : List HalfSpace) (L : Links) → Neat F → StandsFor F L → (e d : ℕ) → HasEdge L e → HasEdge L d → L.next e ≡ L.next d → e ≡ d
next_once F L neat s e d h k q =
    let face : L.face d ≡ L.face e = sym (s.same_face d k) ∙ ap L.face (sym q) ∙ s.same_face e h in
    let end : L.origin (L.twin d) ≡ L.origin (L.twin e) = sym (s.meets d k) ∙ ap L.origin (sym q) ∙ s.meets e h in
    let i = s.edge e h in
    let j : IsHalfEdge F (own_plane L e) (other_plane L d) (from_point L d) (to_point L e) =
    subst (λ x. IsHalfEdge F (own_plane L e) (other_plane L d) (from_point L d) (L.point x)) end
    (subst (λ x. IsHalfEdge F (L.plane x) (other_plane L d) (from_point L d) (to_point L d)) face (s.edge d k)) in
    s.one_each e d h k (sym (s.vertex_once (L.origin d) (L.origin e) (s.origin_live d k) (s.origin_live e h)
    (one_incoming F (own_plane L e) (other_plane L e) (other_plane L d) (from_point L e) (from_point L d) (to_point L e) (neat.proper (own_plane L e) i.f_in) i j))) (sym face)

last_in : {next : ℕ → ℕ} {x y : ℕ} {V : List ℕ} → Way next x y V → y ∈ V
last_in start = here
last_in (onward w n) = here

module _ (V : ℕ → Option Homogeneous) (E : ℕ → Option HalfEdge) (Fc : ℕ → Option Face) (F : List HalfSpace) (neat : Neat F) (s : StandsFor F (links V E Fc)) (table : Table) (within : (e : ℕ) → IsSome (E e) → e < length table) (t : AreBefore E table) where
  abbrev L : Links
  L = links V E Fc

  pub before : ℕ → ℕ
  before e = option_map_or (λ (id : EdgeId). id.0) (entry table e) 0

  noted : (e : ℕ) → HasEdge L e → There (entry table e)
  noted e h =
      let r = goes_round F L (below (length table)) neat s (λ d k. in_below (length table) d (within d k)) e h in
      let p = there (E r.last) (r.live r.last (last_in r.way)) in
      let q : p.it.next.0 ≡ e = sym (read (λ (x : HalfEdge). x.next.0) 0 p.is) ∙ r.back in
      there (entry table e) (subst (λ d. is_some (entry table d) ≡ true) q (t.some r.last p.it p.is (subst (λ d. d < length table) (sym q) (within e h))))

  leads : (e : ℕ) (h : HasEdge L e) → LeadsTo E (noted e h).it e
  leads e h = t.leads e (noted e h).it (noted e h).is

  before_is : (e : ℕ) (h : HasEdge L e) → before e ≡ (noted e h).it.0
  unfolding before
  before_is e h = read (λ (id : EdgeId). id.0) 0 (noted e h).is

  live : (e : ℕ) → HasEdge L e → HasEdge L (before e)
  live e h = subst (λ d. HasEdge L d) (sym (before_is e h)) (live_is (leads e h).there)

  onward_to : (e : ℕ) → HasEdge L e → L.next (before e) ≡ e
  onward_to e h = ap L.next (before_is e h) ∙ read (λ (x : HalfEdge). x.next.0) 0 (leads e h).there ∙ (leads e h).next_is

  pub leads_back : LeadsBack L before
  leads_back = record {
    live = live;
    onward = onward_to;
    back = λ e h. next_once F L neat s (before (L.next e)) e (live (L.next e) (s.next_live e h)) h (onward_to (L.next e) (s.next_live e h));
  }

  -- what comes next to a half-edge that is turned round
  pub next_noted : (e : ℕ) → HasEdge L e → (d : EdgeId) → (unwrap_or (entry table e) d).0 ≡ before e
  next_noted e h d = ap (λ o. (unwrap_or o d).0) (noted e h).is ∙ sym (before_is e h)
