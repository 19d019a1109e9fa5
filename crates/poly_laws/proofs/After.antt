-- After a cut the arenas stand for the cut list.
use Rattle.std.proofs.Common.{◌≡◌, ℕ, Bool, true, false, List, refl, ap, sym, ◌∙◌, arith, ◌⊎◌, inl, inr, ⊎_elim, ℤ, pos, ◌<ℤ◌, ◌≤ℤ◌}
use Rattle.std.proofs.lemmas.Int.{ints, by_lt_z}
use Rattle.algebra.specs.Members.{◌∈◌}
use Rattle.algebra.specs.Space.{Homogeneous, HalfSpace, SamePoint, side}
use Rattle.algebra.proofs.Points.{between-on, same_point_sym, same_point_trans, same-on, same-in, same-behind}
use Rattle.vertex_laws.specs.Vertex.{IsVertex, VertexOnBehind}
use Rattle.vertex_laws.specs.HalfEdge.{IsHalfEdge}
use Rattle.vertex_laws.proofs.HalfEdge.{edge_distinct}
use Rattle.vertex_laws.proofs.TrimVertex.{edge as edge_of}
use Rattle.cut_laws.specs.Cut.{cut_point, OldVertex, NewVertex}
use Rattle.cut_laws.proofs.CutVertex.{cut_vertices, cut_vertex, old_vertex as old_is_vertex}
use Rattle.poly_laws.specs.Links.{Links, HasVertex, HasFace, from_point, to_point, other_plane, VertexSlot, FaceSlot}
use Rattle.poly_laws.specs.Stands.{StandsFor}
use Rattle.poly_laws.specs.Cut.{Picks, Stays, Leaves, Enters, Crosses, HasPair, VertexKind, old_vertex, fresh_vertex, HasBehind, FaceKind, old_face, plane_face, IsCut}
use Rattle.poly_laws.specs.Laws.{OfCut, keeps_face, adds_face, CutList}
use Rattle.poly_laws.proofs.Lists.{cut_from, Comes, comes_to, goes_from, across_face, not_plane}
use Rattle.poly_laws.proofs.Slots.{leaves_stays, enters_stays, twin_stays_too, to_twin, edge_stays, leaves_on, enters_on, from_behind, leave_at, enter_at}
use Rattle.poly_laws.proofs.Once.{enter_once, leave_once, fresh_edge, vertex_once}

pub below : {a : ℤ} → a <ℤ pos 0 → a ≤ℤ pos 0
below {a} h = omega (arith, ints)

pub clash : {A : Type 0} {a : ℤ} → a <ℤ pos 0 → a ≡ pos 0 → A
clash {A} {a} h k = absurd (omega (arith, ints))

pub true_false : {A : Type 0} {b : Bool} → b ≡ true → b ≡ false → A
true_false {A} {b} h k = absurd (cc)

-- Over plain slots.
pub of_face : (G : List HalfSpace) (L : Links) (g : HalfSpace) (a b : Homogeneous) (k j : ℕ) → j ≡ k → IsHalfEdge G (L.plane j) g a b → IsHalfEdge G (L.plane k) g a b
of_face G L g a b k j q h = rw (← q) h

at_face : (L : Links) (P : HalfSpace) (k : ℕ) (g : HalfSpace) → L.plane k ≡ g → ¬ (P ≡ L.plane k) → ¬ (P ≡ g)
at_face L P k g q n = rw (← q) n

module _ {F : List HalfSpace} {P : HalfSpace} {G : List HalfSpace} {L N : Links} {p : Picks} (c : CutList F P G) (s : StandsFor F L) (r : IsCut L P N p) where
  -- ---- faces
  pub behind_own : (e : ℕ) → Stays L P e → HasBehind L P (L.face e)
  behind_own e t = ⊎_elim
      (λ h. record { it = e; live = t.live; face_is = refl; behind = h })
      (λ h. record { it = L.next e; live = s.next_live e t.live; face_is = s.same_face e t.live; behind = moved h })
      t.behind
    where
      moved : side P (to_point L e) <ℤ pos 0 → side P (L.point (L.origin (L.next e))) <ℤ pos 0
      moved h = rw (s.meets e t.live) h

  behind_on : (k : ℕ) → HasBehind L P k → VertexOnBehind F (L.plane k) P
  behind_on k b = let d = s.edge b.it b.live in
      record { at = from_point L b.it; vertex = d.a_vertex; on = on_face d.a_on_f; behind = b.behind }
    where
      on_face : side (L.plane (L.face b.it)) (L.point (L.origin b.it)) ≡ pos 0 → side (L.plane k) (L.point (L.origin b.it)) ≡ pos 0
      on_face h = rw (← b.face_is) h

  pub kept_in : (k : ℕ) → HasFace L k → HasBehind L P k → L.plane k ∈ G
  kept_in k i b = c.stays (L.plane k) (s.face_in k i) (behind_on k b)

  pub apart_from_plane : (k : ℕ) → HasBehind L P k → ¬ (P ≡ L.plane k)
  apart_from_plane k b = let v = behind_on k b in not_plane c (L.plane k) v.at v.on v.behind

  pub face_in : (k : ℕ) → HasFace N k → N.plane k ∈ G
  face_in k i = by_kind (r.face_kind k i)
    where
      by_kind : FaceKind L P p k → N.plane k ∈ G
      by_kind (old_face h b) = rw (r.plane_stays k h b) (kept_in k h b)
      by_kind (plane_face q) = rw (q, r.plane_is) c.P_in

  pub face_once : (k l : ℕ) → HasFace N k → HasFace N l → N.plane k ≡ N.plane l → k ≡ l
  face_once k l i j q = by_kinds (r.face_kind k i) (r.face_kind l j)
    where
      by_kinds : FaceKind L P p k → FaceKind L P p l → k ≡ l
      by_kinds (old_face h b) (old_face m d) = s.face_once k l h m (sym (r.plane_stays k h b) ∙ q ∙ r.plane_stays l m d)
      by_kinds (old_face h b) (plane_face m) = absurd (apart_from_plane k b (sym (ap N.plane m ∙ r.plane_is) ∙ sym q ∙ r.plane_stays k h b))
      by_kinds (plane_face m) (old_face h b) = absurd (apart_from_plane l b (sym (ap N.plane m ∙ r.plane_is) ∙ q ∙ r.plane_stays l h b))
      by_kinds (plane_face h) (plane_face m) = h ∙ sym m

  -- an old face with a vertex behind has a half-edge from it
  pub behind_of_vertex : (k : ℕ) → HasFace L k → VertexOnBehind F (L.plane k) P → HasBehind L P k
  behind_of_vertex k i b =
      let v = s.vertex_all b.at b.vertex in
      let w = b.vertex.inside.weight in
      let u = (s.vertex v.slot v.live).inside.weight in
      let e = s.edge_all v.slot k v.live i (same-on (L.plane k) b.at (L.point v.slot) w v.same b.on) in
      record { it = e.slot; live = e.live; face_is = e.face_is; behind = at_origin e.slot v.slot e.origin_is (same-behind P b.at (L.point v.slot) w u v.same b.behind) }
    where
      at_origin : (e x : ℕ) → L.origin e ≡ x → side P (L.point x) <ℤ pos 0 → side P (L.point (L.origin e)) <ℤ pos 0
      at_origin e x q h = rw q h

  pub face_all : (g : HalfSpace) → g ∈ G → FaceSlot N g
  face_all g m = by_kind (c.kind g m)
    where
      by_kind : {f : HalfSpace} → OfCut F P f → FaceSlot N f
      by_kind (keeps_face {f = f} i b) =
          let k = s.face_all f i in
          let d = behind_of_vertex k.slot k.live (rw k.plane_is b) in
          record { slot = k.slot; live = r.face_stays k.slot k.live d; plane_is = r.plane_stays k.slot k.live d ∙ k.plane_is }
      by_kind adds_face = record { slot = p.plane_slot; live = r.plane_live; plane_is = r.plane_is }

  -- ---- vertices
  pub vertex : (x : ℕ) → HasVertex N x → IsVertex G (N.point x)
  vertex x i = by_kind (r.vertex_kind x i)
    where
      by_kind : VertexKind L P p x → IsVertex G (N.point x)
      by_kind (old_vertex h k) = rw (r.point_stays x h k) (c.vertex (L.point x) (old_is_vertex F P (L.point x) (record { vertex = s.vertex x h; not_in_front = k })))
      by_kind (fresh_vertex e h q) = rw q (fresh_edge c s r e h).b_vertex

  pub stays_origin : (e : ℕ) → Stays L P e → HasVertex N (N.origin e)
  stays_origin e t = by_lt_z (pos 0) (side P (from_point L e))
      (λ l.
      let u = twin_stays_too c s r e t in
      let x : Crosses L P (L.twin e) = record { live = u.live; from = behind_end l t.behind; to = rw (to_twin c s r e t.live) l } in
      moved (L.twin (L.twin e)) (s.twin_twin e t.live) (r.origin_moves (L.twin e) x) (r.fresh_live (L.twin e) x))
      (λ l. rw (r.origin_stays e t l) (r.vertex_stays (L.origin e) (s.origin_live e t.live) l))
    where
      behind_end : pos 0 <ℤ side P (from_point L e) → (side P (from_point L e) <ℤ pos 0) ⊎ (side P (to_point L e) <ℤ pos 0) → side P (to_point L e) <ℤ pos 0
      behind_end l (inl h) = absurd (omega (arith, ints))
      behind_end l (inr h) = h

      moved : (d : ℕ) → d ≡ e → N.origin d ≡ p.fresh (L.twin e) → HasVertex N (p.fresh (L.twin e)) → HasVertex N (N.origin e)
      moved d q m h = rw (← q, m) h

  pub twin_origin : (e : ℕ) → Stays L P e → HasVertex N (N.origin (L.twin e))
  twin_origin e t = stays_origin (L.twin e) (twin_stays_too c s r e t)

  pub vertex_all : (v : Homogeneous) → IsVertex G v → VertexSlot N v
  vertex_all v u = ⊎_elim (λ o. by_old o) (λ n. by_new n) (cut_vertices F P v c.old.bounded (c.vertex_back v u))
    where
      by_old : OldVertex F P v → VertexSlot N v
      by_old o =
          let x = s.vertex_all v o.vertex in
          let l = same-in P v (L.point x.slot) u.inside.weight (s.vertex x.slot x.live).inside.weight x.same o.not_in_front in
          record { slot = x.slot; live = r.vertex_stays x.slot x.live l; same = rw (r.point_stays x.slot x.live l) x.same }

      by_edge : (f g : HalfSpace) (n : NewVertex F P v) → IsHalfEdge F f g n.a n.b → VertexSlot N v
      by_edge f g n d =
          let e = cut_from F P G f g n.a n.b v c d n.crossed.behind n.crossed.ahead u.inside.weight n.same in
          let k = s.face_all f d.f_in in
          let w : Comes G P (L.plane k.slot) v = record { g = g; z = n.a; edge = rw k.plane_is e; behind = n.crossed.behind } in
          let b = (cut_vertex F P n.a n.b n.crossed).inside.weight in
          let z = same-on P (cut_point P n.a n.b) v b (same_point_sym n.same) (between-on P n.a n.b) in
          let x = leave_at c s r k.slot v k.live w z in
          record { slot = N.origin (L.twin x.slot); live = twin_origin x.slot (leaves_stays c s r x.slot x.leaves); same = x.to }

      by_new : NewVertex F P v → VertexSlot N v
      by_new n = ⊎_elim (λ d. by_edge n.crossed.edge.f n.crossed.edge.g n d) (λ d. by_edge n.crossed.edge.g n.crossed.edge.f n d) (edge_of F n.a n.b n.crossed.edge)

  -- ---- pairs
  pub pair_face : (k : ℕ) → HasPair L P N p k → HasFace L k
  pair_face k h = rw h.leave_face at (s.face_live (p.leave k) h.leaves.live)

  pub pair_behind : (k : ℕ) → HasPair L P N p k → HasBehind L P k
  pair_behind k h = record { it = p.leave k; live = h.leaves.live; face_is = h.leave_face; behind = h.leaves.from }

  pub pair_edge : (k : ℕ) → HasPair L P N p k → IsHalfEdge G (L.plane k) P (N.point (N.origin (L.twin (p.leave k)))) (N.point (N.origin (p.enter k)))
  pair_edge k h =
      let ls = leaves_stays c s r (p.leave k) h.leaves in
      let es = enters_stays c s r (p.enter k) h.enters in
      let x = of_face G L (other_plane L (p.leave k)) (N.point (N.origin (p.leave k))) (N.point (N.origin (L.twin (p.leave k)))) k (L.face (p.leave k)) h.leave_face (edge_stays c s r (p.leave k) ls) in
      let y = of_face G L (other_plane L (p.enter k)) (N.point (N.origin (p.enter k))) (N.point (N.origin (L.twin (p.enter k)))) k (L.face (p.enter k)) h.enter_face (edge_stays c s r (p.enter k) es) in
      across_face c (L.plane k) (other_plane L (p.leave k)) (other_plane L (p.enter k)) (N.point (N.origin (p.leave k))) (N.point (N.origin (L.twin (p.leave k)))) (N.point (N.origin (p.enter k))) (N.point (N.origin (L.twin (p.enter k))))
      x (from_behind c s r (p.leave k) ls h.leaves.from) (leaves_on c s r (p.leave k) h.leaves)
      y (from_behind c s r (L.twin (p.enter k)) (twin_stays_too c s r (p.enter k) es) h.enters.to) (enters_on c s r (p.enter k) h.enters)
      (λ q. h.apart (vertex_once c s r (N.origin (L.twin (p.leave k))) (N.origin (p.enter k)) (twin_origin (p.leave k) ls) (stays_origin (p.enter k) es) q))

  -- a half-edge of an old face on the plane has its pair
  pub record PairAt (k : ℕ) (x y : Homogeneous) : Type 0 where
    pub pair : HasPair L P N p k
    pub from : SamePoint x (N.point (N.origin (L.twin (p.leave k))))
    pub to : SamePoint y (N.point (N.origin (p.enter k)))

  pub leave_is_at : (e k : ℕ) → Leaves L P e → L.face e ≡ k → (Leaves L P (p.leave k)) × (L.face (p.leave k) ≡ k) × (p.leave k ≡ e)
  leave_is_at e k l q =
      let x = moved (L.face e) q (r.leave_is e l) in (x.0, x.1, leave_once c s r (p.leave k) e x.0 l (x.1 ∙ sym q))
    where
      moved : (j : ℕ) → j ≡ k → (Leaves L P (p.leave j)) × (L.face (p.leave j) ≡ j) → (Leaves L P (p.leave k)) × (L.face (p.leave k) ≡ k)
      moved j m h = rw (← m) h

  pub enter_is_at : (e k : ℕ) → Enters L P e → L.face e ≡ k → (Enters L P (p.enter k)) × (L.face (p.enter k) ≡ k) × (p.enter k ≡ e)
  enter_is_at e k l q =
      let x = moved (L.face e) q (r.enter_is e l) in (x.0, x.1, enter_once c s r (p.enter k) e x.0 l (x.1 ∙ sym q))
    where
      moved : (j : ℕ) → j ≡ k → (Enters L P (p.enter j)) × (L.face (p.enter j) ≡ j) → (Enters L P (p.enter k)) × (L.face (p.enter k) ≡ k)
      moved j m h = rw (← m) h

  pub pair_at : (k : ℕ) (x y : Homogeneous) → HasFace L k → HasBehind L P k → IsHalfEdge G (L.plane k) P x y → PairAt k x y
  pair_at k x y i b e =
      let n = apart_from_plane k b in
      let l = leave_at c s r k x i (comes_to c (L.plane k) x y n e) e.a_on_g in
      let d = enter_at c s r k y i (goes_from c (L.plane k) x y n e) e.b_on_g in
      let lk = leave_is_at l.slot k l.leaves l.face_is in
      let dk = enter_is_at d.slot k d.enters d.face_is in
      let from : SamePoint x (N.point (N.origin (L.twin (p.leave k)))) = rw (lk.2) l.to in
      let to : SamePoint y (N.point (N.origin (p.enter k))) = rw (dk.2) d.from in
      record {
        pair = record {
          leaves = lk.0;
          leave_face = lk.1;
          enters = dk.0;
          enter_face = dk.1;
          apart = λ q. edge_distinct e (one_point (N.origin (L.twin (p.leave k))) (N.origin (p.enter k)) q x y e.a_vertex.inside.weight from to (enter_weight dk.0));
        };
        from = from;
        to = to;
      }
    where
      enter_weight : Enters L P (p.enter k) → pos 0 <ℤ (N.point (N.origin (p.enter k))).weight
      enter_weight h = (vertex (N.origin (p.enter k)) (stays_origin (p.enter k) (enters_stays c s r (p.enter k) h))).inside.weight

      one_point : (u v : ℕ) → u ≡ v → (x y : Homogeneous) → pos 0 <ℤ x.weight → SamePoint x (N.point u) → SamePoint y (N.point v) → pos 0 <ℤ (N.point v).weight → SamePoint x y
      one_point u v q x y w a b z = same_point_trans z (rw (← q) a) (same_point_sym b)
