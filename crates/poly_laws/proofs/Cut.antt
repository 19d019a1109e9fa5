-- After a cut the arenas stand for the cut list: its half-edges.
use Rattle.std.proofs.Common.{◌≡◌, ℕ, List, refl, ap, sym, ◌∙◌, arith, ◌⊎◌, inl, inr, ⊎_elim, pos, ◌<ℤ◌, ◌≤ℤ◌}
use Rattle.std.proofs.lemmas.Int.{ints, by_lt_z}
use native.Mathlib.Decide.{ℕ_discrete}
use Rattle.algebra.specs.Members.{here}
use Rattle.algebra.specs.Space.{Homogeneous, HalfSpace, SamePoint, side}
use Rattle.algebra.proofs.Points.{same_point_refl, same_point_sym, same-on}
use Rattle.vertex_laws.specs.HalfEdge.{IsHalfEdge}
use Rattle.trim_laws.proofs.Bearing.{bears_in}
use Rattle.vertex_laws.proofs.Corner.{corner_on_face}
use Rattle.vertex_laws.proofs.HalfEdge.{outgoing, one_outgoing}
use Rattle.vertex_laws.proofs.TwoFaces.{twin}
use Rattle.poly_laws.specs.Links.{Links, HasVertex, HasEdge, HasFace, from_point, to_point, own_plane, other_plane, EdgeSlot}
use Rattle.poly_laws.specs.Stands.{StandsFor}
use Rattle.poly_laws.specs.Cut.{Picks, Stays, Leaves, Enters, HasPair, VertexKind, old_vertex, fresh_vertex, HasBehind, FaceKind, old_face, plane_face, EdgeKind, old_edge, inner_edge, outer_edge, IsCut}
use Rattle.poly_laws.specs.Laws.{OfCut, keeps_face, adds_face, CutList, CutArenasLaw}
use Rattle.poly_laws.proofs.Lists.{third_face, Onward, goes_behind, goes_along, onward, enters_too, behind_of}
use Rattle.poly_laws.proofs.Slots.{own_not_other, stays_from, leaves_stays, enters_stays, twin_stays_too, edge_stays, leaves_on, from_behind, by_from, enter_at}
use Rattle.poly_laws.proofs.Once.{stays_once, enter_once, fresh_on, vertex_once}
use Rattle.poly_laws.proofs.After.{below, clash, true_false, behind_own, kept_in, apart_from_plane, behind_of_vertex, face_in, face_once, face_all, vertex, vertex_all, stays_origin, twin_origin, pair_face, pair_behind, pair_edge, pair_at, leave_is_at, enter_is_at}

module _ {F : List HalfSpace} {P : HalfSpace} {G : List HalfSpace} {L N : Links} {p : Picks} (c : CutList F P G) (s : StandsFor F L) (r : IsCut L P N p) where
  -- ---- each half-edge of the new arenas is one of the cut list
  at_plane : (k : ℕ) → HasFace L k → HasBehind L P k → (f : ℕ) → f ≡ k → N.plane f ≡ L.plane k
  at_plane k i b f q = ap N.plane q ∙ r.plane_stays k i b

  made : (f g : HalfSpace) (a b : ℕ) → IsHalfEdge G f g (N.point a) (N.point b) → (h k : HalfSpace) (u v : ℕ) → h ≡ f → k ≡ g → u ≡ a → v ≡ b → IsHalfEdge G h k (N.point u) (N.point v)
  made f g a b e h k u v x y z w = rw (x, y, z, w) e

  edge : (e : ℕ) → HasEdge N e → IsHalfEdge G (own_plane N e) (other_plane N e) (from_point N e) (to_point N e)
  edge e i = by_kind (r.edge_kind e i)
    where
      old : Stays L P e → IsHalfEdge G (N.plane (N.face e)) (N.plane (N.face (N.twin e))) (N.point (N.origin e)) (N.point (N.origin (N.twin e)))
      old t =
          let u = twin_stays_too c s r e t in
          made (own_plane L e) (other_plane L e) (N.origin e) (N.origin (L.twin e)) (edge_stays c s r e t) (N.plane (N.face e)) (N.plane (N.face (N.twin e))) (N.origin e) (N.origin (N.twin e))
          (at_plane (L.face e) (s.face_live e t.live) (behind_own c s r e t) (N.face e) (r.face_of_stays e t))
          (at_plane (L.face (L.twin e)) (s.face_live (L.twin e) u.live) (behind_own c s r (L.twin e) u) (N.face (N.twin e)) (ap N.face (r.twin_stays e t) ∙ r.face_of_stays (L.twin e) u))
          refl (ap N.origin (r.twin_stays e t))

      inner : (k : ℕ) → HasPair L P N p k → IsHalfEdge G (N.plane (N.face (p.inner k))) (N.plane (N.face (N.twin (p.inner k)))) (N.point (N.origin (p.inner k))) (N.point (N.origin (N.twin (p.inner k))))
      inner k h = made (L.plane k) P (N.origin (L.twin (p.leave k))) (N.origin (p.enter k)) (pair_edge c s r k h)
          (N.plane (N.face (p.inner k))) (N.plane (N.face (N.twin (p.inner k)))) (N.origin (p.inner k)) (N.origin (N.twin (p.inner k)))
          (at_plane k (pair_face c s r k h) (pair_behind c s r k h) (N.face (p.inner k)) (r.inner_face k h))
          (ap (λ e. N.plane (N.face e)) (r.inner_twin k h) ∙ ap N.plane (r.outer_face k h) ∙ r.plane_is)
          (r.inner_origin k h)
          (ap N.origin (r.inner_twin k h) ∙ r.outer_origin k h)

      outer : (k : ℕ) → HasPair L P N p k → IsHalfEdge G (N.plane (N.face (p.outer k))) (N.plane (N.face (N.twin (p.outer k)))) (N.point (N.origin (p.outer k))) (N.point (N.origin (N.twin (p.outer k))))
      outer k h = made P (L.plane k) (N.origin (p.enter k)) (N.origin (L.twin (p.leave k)))
          (twin G (L.plane k) P (N.point (N.origin (L.twin (p.leave k)))) (N.point (N.origin (p.enter k))) (pair_edge c s r k h))
          (N.plane (N.face (p.outer k))) (N.plane (N.face (N.twin (p.outer k)))) (N.origin (p.outer k)) (N.origin (N.twin (p.outer k)))
          (ap N.plane (r.outer_face k h) ∙ r.plane_is)
          (at_plane k (pair_face c s r k h) (pair_behind c s r k h) (N.face (N.twin (p.outer k))) (ap N.face (r.outer_twin k h) ∙ r.inner_face k h))
          (r.outer_origin k h)
          (ap N.origin (r.outer_twin k h) ∙ r.inner_origin k h)

      by_kind : EdgeKind L P N p e → IsHalfEdge G (N.plane (N.face e)) (N.plane (N.face (N.twin e))) (N.point (N.origin e)) (N.point (N.origin (N.twin e)))
      by_kind (old_edge t) = old t
      by_kind (inner_edge k h q) = rw q (inner k h)
      by_kind (outer_edge k h q) = rw q (outer k h)

  -- ---- where it begins, and its face, its twin
  record Placed (e : ℕ) : Type 0 where
    origin_live : HasVertex N (N.origin e)
    face_live : HasFace N (N.face e)
    twin_live : HasEdge N (N.twin e)
    twin_twin : N.twin (N.twin e) ≡ e

  placed : (e : ℕ) → HasEdge N e → Placed e
  placed e i = by_kind (r.edge_kind e i)
    where
      old : Stays L P e → Placed e
      old t = let u = twin_stays_too c s r e t in record {
        origin_live = stays_origin c s r e t;
        face_live = rw (r.face_of_stays e t) (r.face_stays (L.face e) (s.face_live e t.live) (behind_own c s r e t));
        twin_live = rw (r.twin_stays e t) (r.edge_stays (L.twin e) u);
        twin_twin = ap N.twin (r.twin_stays e t) ∙ r.twin_stays (L.twin e) u ∙ s.twin_twin e t.live;
      }

      inner : (k : ℕ) → HasPair L P N p k → Placed (p.inner k)
      inner k h = record {
        origin_live = rw (r.inner_origin k h) (twin_origin c s r (p.leave k) (leaves_stays c s r (p.leave k) h.leaves));
        face_live = rw (r.inner_face k h) (r.face_stays k (pair_face c s r k h) (pair_behind c s r k h));
        twin_live = rw (r.inner_twin k h) (r.outer_live k h);
        twin_twin = ap N.twin (r.inner_twin k h) ∙ r.outer_twin k h;
      }

      outer : (k : ℕ) → HasPair L P N p k → Placed (p.outer k)
      outer k h = record {
        origin_live = rw (r.outer_origin k h) (stays_origin c s r (p.enter k) (enters_stays c s r (p.enter k) h.enters));
        face_live = rw (r.outer_face k h) r.plane_live;
        twin_live = rw (r.outer_twin k h) (r.inner_live k h);
        twin_twin = ap N.twin (r.outer_twin k h) ∙ r.inner_twin k h;
      }

      by_kind : EdgeKind L P N p e → Placed e
      by_kind (old_edge t) = old t
      by_kind (inner_edge k h q) = rw q (inner k h)
      by_kind (outer_edge k h q) = rw q (outer k h)

  -- ---- the next one
  record Next (e : ℕ) : Type 0 where
    live : HasEdge N (N.next e)
    meets : N.origin (N.next e) ≡ N.origin (N.twin e)
    same_face : N.face (N.next e) ≡ N.face e

  -- where an old face is left it is entered
  enter_of : (e : ℕ) → Leaves L P e → Enters L P (p.enter (L.face e)) × (L.face (p.enter (L.face e)) ≡ L.face e)
  enter_of e l =
      let t = leaves_stays c s r e l in
      let k = L.face e in
      let d = edge_stays c s r e t in
      let n = apart_from_plane c s r k (behind_own c s r e t) in
      let y = enters_too c (L.plane k) (other_plane L e) (N.point (N.origin e)) (N.point (N.origin (L.twin e))) n d (leaves_on c s r e l) in
      let x = enter_at c s r k y.0 (s.face_live e l.live) y.1 y.2 in
      let z = enter_is_at c s r x.slot k x.enters x.face_is in (z.0, z.1)

  -- at each vertex of the plane one of its pairs begins
  plane_pair : (x : ℕ) → HasVertex N x → side P (N.point x) ≡ pos 0 → (j : ℕ) × HasPair L P N p j × N.origin (p.outer j) ≡ x
  plane_pair x i z =
      let o = outgoing G P (N.point x) c.new.bounded c.new.proper c.P_in (c.new.bears P c.P_in) (vertex c s r x i) z in
      by_kind o.g o.b o.edge (c.kind o.g o.edge.g_in)
    where
      by_slot : (g : HalfSpace) (b : Homogeneous) (j : ℕ) → HasFace L j → HasBehind L P j → IsHalfEdge G (L.plane j) P b (N.point x) → (j : ℕ) × HasPair L P N p j × N.origin (p.outer j) ≡ x
      by_slot g b j m d e =
          let a = pair_at c s r j b (N.point x) m d e in
          (j, a.pair, r.outer_origin j a.pair ∙ vertex_once c s r (N.origin (p.enter j)) x (stays_origin c s r (p.enter j) (enters_stays c s r (p.enter j) a.pair.enters)) i (same_point_sym a.to))

      by_kind : (g : HalfSpace) (b : Homogeneous) → IsHalfEdge G P g (N.point x) b → OfCut F P g → (j : ℕ) × HasPair L P N p j × N.origin (p.outer j) ≡ x
      by_kind g b e (keeps_face m v) =
          let k = s.face_all g m in
          by_slot g b k.slot k.live (behind_of_vertex c s r k.slot k.live (rw k.plane_is v)) (rw k.plane_is (twin G P g (N.point x) b e))
      by_kind g b e adds_face = own_not_other G P P (N.point x) b e refl

  next : (e : ℕ) → HasEdge N e → Next e
  next e i = by_kind (r.edge_kind e i)
    where
      -- the end is behind, and what came next comes next
      on_behind : Stays L P e → side P (to_point L e) <ℤ pos 0 → Next e
      on_behind t h =
          let q = r.next_stays e t h in
          let u = twin_stays_too c s r e t in
          let b : side P (from_point L (L.next e)) <ℤ pos 0 = begins (L.origin (L.next e)) (s.meets e t.live) h in
          let n = stays_from c s r (L.next e) (s.next_live e t.live) b in record {
            live = rw q (r.edge_stays (L.next e) n);
            meets = ap N.origin q ∙ r.origin_stays (L.next e) n (below b) ∙ s.meets e t.live ∙ sym (r.origin_stays (L.twin e) u (below h)) ∙ sym (ap N.origin (r.twin_stays e t));
            same_face = ap N.face q ∙ r.face_of_stays (L.next e) n ∙ s.same_face e t.live ∙ sym (r.face_of_stays e t);
          }
        where
          begins : (x : ℕ) → x ≡ L.origin (L.twin e) → side P (L.point (L.origin (L.twin e))) <ℤ pos 0 → side P (L.point x) <ℤ pos 0
          begins x q h = rw q h

      on_leave : Leaves L P e → Next e
      on_leave l =
          let k = L.face e in
          let t = leaves_stays c s r e l in
          let d = enter_of e l in
          let ds = enters_stays c s r (p.enter k) d.0 in
          let m = leave_is_at c s r e k l refl in
          by_apart t d ds m (ℕ_discrete (N.origin (L.twin e)) (N.origin (p.enter k)))
        where
          by_apart : Stays L P e → Enters L P (p.enter (L.face e)) × (L.face (p.enter (L.face e)) ≡ L.face e) → Stays L P (p.enter (L.face e)) →
              (Leaves L P (p.leave (L.face e))) × (L.face (p.leave (L.face e)) ≡ L.face e) × (p.leave (L.face e) ≡ e) → Dec (N.origin (L.twin e) ≡ N.origin (p.enter (L.face e))) → Next e
          by_apart t d ds m (yes q) = let n = sym (ap N.next m.2) ∙ r.next_shut (L.face e) m.0 m.1 d.0 d.1 (ap (λ f. N.origin (L.twin f)) m.2 ∙ q) in record {
            live = rw n (r.edge_stays (p.enter (L.face e)) ds);
            meets = ap N.origin n ∙ sym q ∙ sym (ap N.origin (r.twin_stays e t));
            same_face = ap N.face n ∙ r.face_of_stays (p.enter (L.face e)) ds ∙ d.1 ∙ sym (r.face_of_stays e t);
          }
          by_apart t d ds m (no q) =
              let h : HasPair L P N p (L.face e) = record { leaves = m.0; leave_face = m.1; enters = d.0; enter_face = d.1; apart = λ a. q (sym (ap (λ f. N.origin (L.twin f)) m.2) ∙ a) } in
              let n : N.next e ≡ p.inner (L.face e) = sym (ap N.next m.2) ∙ r.next_leave (L.face e) h in record {
                live = rw n (r.inner_live (L.face e) h);
                meets = ap N.origin n ∙ r.inner_origin (L.face e) h ∙ ap (λ f. N.origin (L.twin f)) m.2 ∙ sym (ap N.origin (r.twin_stays e t));
                same_face = ap N.face n ∙ r.inner_face (L.face e) h ∙ sym (r.face_of_stays e t);
              }

      old : Stays L P e → Next e
      old t = by_lt_z (side P (to_point L e)) (pos 0) (λ h. on_behind t h) (λ h. on_leave (record { live = t.live; from = behind_start h t.behind; to = h }))
        where
          behind_start : pos 0 ≤ℤ side P (to_point L e) → (side P (from_point L e) <ℤ pos 0) ⊎ (side P (to_point L e) <ℤ pos 0) → side P (from_point L e) <ℤ pos 0
          behind_start l (inl h) = h
          behind_start l (inr h) = absurd (omega (arith, ints))

      inner : (k : ℕ) → HasPair L P N p k → Next (p.inner k)
      inner k h = let es = enters_stays c s r (p.enter k) h.enters in record {
        live = rw (r.inner_next k h) (r.edge_stays (p.enter k) es);
        meets = ap N.origin (r.inner_next k h) ∙ sym (ap N.origin (r.inner_twin k h) ∙ r.outer_origin k h);
        same_face = ap N.face (r.inner_next k h) ∙ r.face_of_stays (p.enter k) es ∙ h.enter_face ∙ sym (r.inner_face k h);
      }

      outer : (k : ℕ) → HasPair L P N p k → Next (p.outer k)
      outer k h =
          let u = twin_origin c s r (p.leave k) (leaves_stays c s r (p.leave k) h.leaves) in
          let j = plane_pair (N.origin (L.twin (p.leave k))) u (pair_edge c s r k h).a_on_g in
          let g = r.outer_next k j.0 h j.1 (j.2 ∙ sym (r.inner_origin k h)) in record {
            live = rw (g.next_is) (r.outer_live g.face g.pair);
            meets = ap N.origin g.next_is ∙ g.meets ∙ sym (ap N.origin (r.outer_twin k h));
            same_face = ap N.face g.next_is ∙ r.outer_face g.face g.pair ∙ sym (r.outer_face k h);
          }

      by_kind : EdgeKind L P N p e → Next e
      by_kind (old_edge t) = old t
      by_kind (inner_edge k h q) = rw q (inner k h)
      by_kind (outer_edge k h q) = rw q (outer k h)

  -- ---- each face has a half-edge from each vertex on it
  edge_all : (x k : ℕ) → HasVertex N x → HasFace N k → side (N.plane k) (N.point x) ≡ pos 0 → EdgeSlot N x k
  edge_all x k i m z = by_kind (r.face_kind k m)
    where
      of_plane : k ≡ p.plane_slot → EdgeSlot N x k
      of_plane q =
          let a : N.plane k ≡ P = ap N.plane q ∙ r.plane_is in
          let h = plane_pair x i (rw a at z) in
          record { slot = p.outer h.0; live = r.outer_live h.0 h.1; origin_is = h.2; face_is = r.outer_face h.0 h.1 ∙ sym q }

      -- a vertex behind was there
      of_behind : HasFace L k → side (L.plane k) (N.point x) ≡ pos 0 → side P (N.point x) <ℤ pos 0 → EdgeSlot N x k
      of_behind f a b = by_vertex (r.vertex_kind x i)
        where
          by_vertex : VertexKind L P p x → EdgeSlot N x k
          by_vertex (old_vertex h l) =
              let q = r.point_stays x h l in
              let e = s.edge_all x k h f (rw q at a) in
              let w : side P (from_point L e.slot) <ℤ pos 0 = begins (L.origin e.slot) e.origin_is (rw q at b) in
              let t = stays_from c s r e.slot e.live w in
              record { slot = e.slot; live = r.edge_stays e.slot t; origin_is = r.origin_stays e.slot t (below w) ∙ e.origin_is; face_is = r.face_of_stays e.slot t ∙ e.face_is }
            where
              begins : (y : ℕ) → y ≡ x → side P (L.point x) <ℤ pos 0 → side P (L.point y) <ℤ pos 0
              begins y q h = rw q h
          by_vertex (fresh_vertex e h q) = clash (rw q at b) (fresh_on c s r e h)

      of_plane_vertex : HasFace L k → HasBehind L P k → side (L.plane k) (N.point x) ≡ pos 0 → side P (N.point x) ≡ pos 0 → EdgeSlot N x k
      of_plane_vertex f b a h = by_onward (onward c (L.plane k) (N.point x) (kept_in c s r k f b) (apart_from_plane c s r k b) (vertex c s r x i) a h)
        where
          by_onward : Onward G P (L.plane k) (N.point x) → EdgeSlot N x k
          by_onward (goes_behind d) =
              let e = enter_at c s r k (N.point x) f d h in
              let t = enters_stays c s r e.slot e.enters in
              record { slot = e.slot; live = r.edge_stays e.slot t; origin_is = vertex_once c s r (N.origin e.slot) x (stays_origin c s r e.slot t) i (same_point_sym e.from); face_is = r.face_of_stays e.slot t ∙ e.face_is }
          by_onward (goes_along y d) =
              let e = pair_at c s r k (N.point x) y f b d in
              let u = twin_origin c s r (p.leave k) (leaves_stays c s r (p.leave k) e.pair.leaves) in
              record { slot = p.inner k; live = r.inner_live k e.pair; origin_is = r.inner_origin k e.pair ∙ vertex_once c s r (N.origin (L.twin (p.leave k))) x u i (same_point_sym e.from); face_is = r.inner_face k e.pair }

      of_old : HasFace L k → HasBehind L P k → EdgeSlot N x k
      of_old f b =
          let a : side (L.plane k) (N.point x) ≡ pos 0 = rw (r.plane_stays k f b) at z in
          let l = behind_of F P G c (N.point x) (vertex c s r x i) in
          by_lt_z (side P (N.point x)) (pos 0) (λ h. of_behind f a h) (λ h. of_plane_vertex f b a (omega (arith, ints)))

      by_kind : FaceKind L P p k → EdgeSlot N x k
      by_kind (old_face f b) = of_old f b
      by_kind (plane_face q) = of_plane q

  -- ---- and only one
  not_plane_slot : {A : Type 0} (k : ℕ) → HasFace L k → k ≡ p.plane_slot → A
  not_plane_slot {A} k f q = true_false (rw q at f) r.plane_was_free

  pair_once : (k j : ℕ) → HasPair L P N p k → HasPair L P N p j → N.origin (p.outer k) ≡ N.origin (p.outer j) → k ≡ j
  pair_once k j h i q =
      let x = pair_edge c s r k h in
      let y = pair_edge c s r j i in
      let a = N.point (N.origin (L.twin (p.leave k))) in
      let b = N.point (N.origin (p.enter k)) in
      let u = N.point (N.origin (L.twin (p.leave j))) in
      let w : N.origin (p.enter j) ≡ N.origin (p.enter k) = sym (r.outer_origin j i) ∙ sym q ∙ r.outer_origin k h in
      let z : IsHalfEdge G (L.plane j) P u b = to_slot (L.plane j) u (N.origin (p.enter k)) (N.origin (p.enter j)) w y in
      let m = one_outgoing G P (L.plane k) (L.plane j) b a u (c.new.proper P c.P_in) (twin G (L.plane k) P a b x) (twin G (L.plane j) P u b z) in
      let on_a : side (L.plane j) a ≡ pos 0 = same-on (L.plane j) u a z.a_vertex.inside.weight (same_point_sym m) z.a_on_f in ⊎_elim
      (λ t. s.face_once k j (pair_face c s r k h) (pair_face c s r j i) (sym t))
      (λ t. absurd (apart_from_plane c s r j (pair_behind c s r j i) (sym t)))
      (third_face G (L.plane k) P (L.plane j) a b c.new x z.f_in on_a z.b_on_f)
    where
      to_slot : (f : HalfSpace) (u : Homogeneous) (x y : ℕ) → y ≡ x → IsHalfEdge G f P u (N.point y) → IsHalfEdge G f P u (N.point x)
      to_slot f u x y q e = rw (← q) e

  one_each : (e d : ℕ) → HasEdge N e → HasEdge N d → N.origin e ≡ N.origin d → N.face e ≡ N.face d → e ≡ d
  one_each e d i j q f = by_kinds (r.edge_kind e i) (r.edge_kind d j)
    where
      old_inner : (e k : ℕ) → Stays L P e → HasPair L P N p k → N.origin e ≡ N.origin (p.inner k) → N.face e ≡ N.face (p.inner k) → e ≡ p.inner k
      old_inner e k t h q f =
          let o = q ∙ r.inner_origin k h in
          let z : side P (N.point (N.origin e)) ≡ pos 0 = at_slot (N.origin e) (N.origin (L.twin (p.leave k))) o (leaves_on c s r (p.leave k) h.leaves) in
          by_from c s r e t (λ b. clash (from_behind c s r e t b) z)
          (λ n. let m = enter_once c s r e (p.enter k) n h.enters (sym (r.face_of_stays e t) ∙ f ∙ r.inner_face k h ∙ sym h.enter_face) in
          absurd (h.apart (sym o ∙ ap N.origin m)))
        where
          at_slot : (x y : ℕ) → x ≡ y → side P (N.point y) ≡ pos 0 → side P (N.point x) ≡ pos 0
          at_slot x y q h = rw q h

      by_kinds : EdgeKind L P N p e → EdgeKind L P N p d → e ≡ d
      by_kinds (old_edge t) (old_edge u) = stays_once c s r e d t u (same_by (N.origin e) (N.origin d) q) (sym (r.face_of_stays e t) ∙ f ∙ r.face_of_stays d u)
        where
          same_by : (x y : ℕ) → x ≡ y → SamePoint (N.point x) (N.point y)
          same_by x y q = rw q (same_point_refl (N.point y))
      by_kinds (old_edge t) (inner_edge k h m) = old_inner e k t h (q ∙ ap N.origin m) (f ∙ ap N.face m) ∙ sym m
      by_kinds (old_edge t) (outer_edge k h m) = not_plane_slot (L.face e) (s.face_live e t.live) (sym (r.face_of_stays e t) ∙ f ∙ ap N.face m ∙ r.outer_face k h)
      by_kinds (inner_edge k h m) (old_edge t) = sym (old_inner d k t h (sym q ∙ ap N.origin m) (sym f ∙ ap N.face m) ∙ sym m)
      by_kinds (inner_edge k h m) (inner_edge l g n) = m ∙ ap p.inner (sym (r.inner_face k h) ∙ sym (ap N.face m) ∙ f ∙ ap N.face n ∙ r.inner_face l g) ∙ sym n
      by_kinds (inner_edge k h m) (outer_edge l g n) = not_plane_slot k (pair_face c s r k h) (sym (r.inner_face k h) ∙ sym (ap N.face m) ∙ f ∙ ap N.face n ∙ r.outer_face l g)
      by_kinds (outer_edge k h m) (old_edge t) = not_plane_slot (L.face d) (s.face_live d t.live) (sym (r.face_of_stays d t) ∙ sym f ∙ ap N.face m ∙ r.outer_face k h)
      by_kinds (outer_edge k h m) (inner_edge l g n) = not_plane_slot l (pair_face c s r l g) (sym (r.inner_face l g) ∙ sym (ap N.face n) ∙ sym f ∙ ap N.face m ∙ r.outer_face k h)
      by_kinds (outer_edge k h m) (outer_edge l g n) = m ∙ ap p.outer (pair_once k l h g (sym (ap N.origin m) ∙ q ∙ ap N.origin n)) ∙ sym n

  -- ---- where faces begin
  some_pair : (k : ℕ) × HasPair L P N p k
  some_pair =
      let b = c.new.bears P c.P_in in
      let x = corner_on_face G P P b.at c.new.bounded (bears_in b) c.P_in (c.new.proper P c.P_in) b.on in
      let v = vertex_all c s r x.at x.vertex in
      let w = vertex c s r v.slot v.live in
      let j = plane_pair v.slot v.live (same-on P x.at (N.point v.slot) x.vertex.inside.weight v.same (x.kept P here)) in (j.0, j.1)

  first : (k : ℕ) → HasFace N k → HasEdge N (N.first k) × (N.face (N.first k) ≡ k)
  first k i = by_kind (r.face_kind k i)
    where
      at_plane_slot : (x : ℕ) → k ≡ x → HasEdge N (N.first x) × (N.face (N.first x) ≡ x) → HasEdge N (N.first k) × (N.face (N.first k) ≡ k)
      at_plane_slot x q h = rw q h

      by_kind : FaceKind L P p k → HasEdge N (N.first k) × (N.face (N.first k) ≡ k)
      by_kind (old_face f b) = r.first_stays k f b
      by_kind (plane_face q) = let j = some_pair in at_plane_slot p.plane_slot q (r.first_plane j.0 j.1)

  stands : StandsFor G N
  stands = record {
    vertex = vertex c s r;
    vertex_once = vertex_once c s r;
    vertex_all = vertex_all c s r;
    face_in = face_in c s r;
    face_once = face_once c s r;
    face_all = face_all c s r;
    first_live = λ k i. (first k i).0;
    first_face = λ k i. (first k i).1;
    origin_live = λ e i. (placed e i).origin_live;
    face_live = λ e i. (placed e i).face_live;
    twin_live = λ e i. (placed e i).twin_live;
    twin_twin = λ e i. (placed e i).twin_twin;
    next_live = λ e i. (next e i).live;
    meets = λ e i. (next e i).meets;
    same_face = λ e i. (next e i).same_face;
    edge = edge;
    one_each = one_each;
    edge_all = edge_all;
  }

pub cut_arenas : CutArenasLaw
cut_arenas F G P L N p c s r = stands c s r
