-- Where arenas are linked, all vertices and half-edges are there.
use Rattle.std.proofs.Common.{◌≡◌, ℕ, List, ap, sym, refl, ◌∙◌, pos}
use Rattle.algebra.specs.Members.{◌∈◌}
use Rattle.algebra.specs.Space.{Homogeneous, HalfSpace, side}
use Rattle.vertex_laws.specs.Vertex.{IsVertex}
use Rattle.poly_laws.specs.Links.{Links, HasVertex, HasEdge, HasFace, VertexSlot, EdgeSlot}
use Rattle.poly_laws.specs.Stands.{Neat, Linked, LinkedLaw}
use Rattle.poly_laws.specs.Loops.{GoesRound}
use Rattle.poly_laws.proofs.Round.{linked_round}

module _ (F : List HalfSpace) (L : Links) (S : List ℕ) (n : Neat F) (s : Linked F L) (cover : (e : ℕ) → HasEdge L e → e ∈ S) where
  on_plane : (k : ℕ) (f : HalfSpace) (v : Homogeneous) → HasFace L k → L.plane k ≡ f → side f v ≡ pos 0 → side (L.plane (L.face (L.first k))) v ≡ pos 0
  on_plane k f v i q z = rw (ap L.plane (s.first_face k i) ∙ q) z

  round : (k : ℕ) → HasFace L k → GoesRound F L (L.first k)
  round k i = linked_round F L S n s cover (L.first k) (s.first_live k i)

  vertex_at : (v : Homogeneous) (f : HalfSpace) → IsVertex F v → f ∈ F → side f v ≡ pos 0 → VertexSlot L v
  vertex_at v f u m z =
      let k = s.face_all f m in
      let r = round k.slot k.live in
      let o = r.passes v u (on_plane k.slot f v k.live k.plane_is z) in
      record { slot = L.origin o.slot; live = s.origin_live o.slot (r.live o.slot o.among); same = o.same }

  edge_from : (x k : ℕ) → HasVertex L x → HasFace L k → side (L.plane k) (L.point x) ≡ pos 0 → EdgeSlot L x k
  edge_from x k i j z =
      let r = round k j in
      let o = r.passes (L.point x) (s.vertex x i) (on_plane k (L.plane k) (L.point x) j refl z) in
      let d = r.live o.slot o.among in
      record { slot = o.slot; live = d; origin_is = sym (s.vertex_once x (L.origin o.slot) i (s.origin_live o.slot d) o.same); face_is = r.face_is o.slot o.among ∙ s.first_face k j }

pub linked : LinkedLaw
linked F L S n s cover = record {
  vertex = s.vertex;
  vertex_once = s.vertex_once;
  face_in = s.face_in;
  face_once = s.face_once;
  face_all = s.face_all;
  first_live = s.first_live;
  first_face = s.first_face;
  origin_live = s.origin_live;
  face_live = s.face_live;
  twin_live = s.twin_live;
  twin_twin = s.twin_twin;
  next_live = s.next_live;
  meets = s.meets;
  same_face = s.same_face;
  edge = s.edge;
  one_each = s.one_each;
  vertex_all = λ v u. vertex_at F L S n s cover v u.f u u.f_in u.on_f;
  edge_all = λ x k i j z. edge_from F L S n s cover x k i j z;
}
