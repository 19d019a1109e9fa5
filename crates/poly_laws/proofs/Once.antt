-- After a cut each vertex and each half-edge that stays has one slot.
use Rattle.std.proofs.Common.{◌≡◌, ℕ, List, ap, sym, ◌∙◌, arith, ◌⊎◌, ⊎_elim, ℤ, pos, ◌<ℤ◌, ◌≤ℤ◌}
use Rattle.std.proofs.lemmas.Int.{ints}
use Rattle.algebra.specs.Members.{◌∈◌}
use Rattle.algebra.specs.Space.{Homogeneous, HalfSpace, SamePoint, side}
use Rattle.algebra.proofs.Points.{same_point_sym, same-on, same-behind, same-front}
use Rattle.vertex_laws.specs.Vertex.{IsVertex}
use Rattle.vertex_laws.specs.HalfEdge.{IsHalfEdge}
use Rattle.vertex_laws.proofs.Line.{third_end}
use Rattle.vertex_laws.proofs.HalfEdge.{edge_crosses, edge_distinct, one_outgoing}
use Rattle.vertex_laws.proofs.OneLoop.{one_incoming, same_half_edge}
use Rattle.vertex_laws.proofs.TwoFaces.{twin}
use Rattle.cut_laws.specs.Cut.{cut_point, Crossed}
use Rattle.cut_laws.proofs.Leaving.{crossed, new_corner, same_start}
use Rattle.poly_laws.specs.Links.{Links, HasVertex, from_point, to_point, own_plane, other_plane}
use Rattle.poly_laws.specs.Stands.{StandsFor}
use Rattle.poly_laws.specs.Cut.{Picks, Stays, Leaves, Enters, Crosses, VertexKind, old_vertex, fresh_vertex, IsCut}
use Rattle.poly_laws.specs.Laws.{CutList}
use Rattle.poly_laws.proofs.Lists.{third_face, no_return, one_end, one_start}
use Rattle.poly_laws.proofs.Slots.{own_not_other, stays_from, leaves_stays, enters_stays, twin_stays_too, from_same, edge_behind, edge_stays, leaves_on, enters_on, from_behind, by_from}

-- Over plain slots.
of_face : (G : List HalfSpace) (L : Links) (g : HalfSpace) (a b : Homogeneous) (k j : ℕ) → k ≡ j → IsHalfEdge G (L.plane j) g a b → IsHalfEdge G (L.plane k) g a b
of_face G L g a b k j q h = rw q h

clash : {A : Type 0} {a : ℤ} → a <ℤ pos 0 → a ≡ pos 0 → A
clash {A} {a} h k = absurd (omega (arith, ints))

below : {a : ℤ} → a <ℤ pos 0 → a ≤ℤ pos 0
below {a} h = omega (arith, ints)

at_slot : (L : Links) (a b : Homogeneous) (e d : ℕ) → a ≡ L.point (L.origin e) → b ≡ L.point (L.origin d) → SamePoint a b → SamePoint (L.point (L.origin e)) (L.point (L.origin d))
at_slot L a b e d q m h = rw (← q, ← m) h

faces_are : (F : List HalfSpace) (f g h k : HalfSpace) (a b : Homogeneous) → f ≡ h → g ≡ k → IsHalfEdge F f g a b → IsHalfEdge F h k a b
faces_are F f g h k a b q m e = rw (← q, ← m) e

-- Two half-edges with the same faces turned over do not cross a plane both ways to the front.
opposite : {A : Type 0} (F : List HalfSpace) (f g P : HalfSpace) (a b u v : Homogeneous) → IsHalfEdge F f g a b → IsHalfEdge F g f u v →
    side P a <ℤ pos 0 → pos 0 <ℤ side P b → side P u <ℤ pos 0 → pos 0 <ℤ side P v → A
opposite {A} F f g P a b u v e d h k l m =
    let line = λ (x : Homogeneous) (y : IsVertex F x) (i : side f x ≡ pos 0) (j : side g x ≡ pos 0).
    third_end F f g a b x (edge_crosses e) (record { on_f = e.a_on_f; on_g = e.a_on_g }) (record { on_f = e.b_on_f; on_g = e.b_on_g }) (record { on_f = i; on_g = j }) e.a_vertex e.b_vertex y (edge_distinct e) in
    ⊎_elim
    (λ ua. ⊎_elim
    (λ va. let x = same-behind P a v e.a_vertex.inside.weight d.b_vertex.inside.weight (same_point_sym va) h in absurd (omega (arith, ints)))
    (λ vb.
    let x = same_start F g f u v a d e.a_vertex.inside.weight (same_point_sym ua) in
    let y = same_half_edge F g f a v b x e.b_vertex.inside.weight (same_point_sym vb) in
    no_return F g f a b y (twin F f g a b e))
    (line v d.b_vertex d.b_on_g d.b_on_f))
    (λ ub. let x = same-front P b u e.b_vertex.inside.weight d.a_vertex.inside.weight (same_point_sym ub) k in absurd (omega (arith, ints)))
    (line u d.a_vertex d.a_on_g d.a_on_f)

module _ {F : List HalfSpace} {P : HalfSpace} {G : List HalfSpace} {L N : Links} {p : Picks} (c : CutList F P G) (s : StandsFor F L) (r : IsCut L P N p) where
  -- a half-edge that stays begins on the plane where it does not begin behind
  same_side : (e d : ℕ) → Stays L P e → Enters L P d → SamePoint (N.point (N.origin e)) (N.point (N.origin d)) → ¬ (side P (from_point L e) <ℤ pos 0)
  same_side e d t u q h =
      let x = edge_stays c s r e t in let y = edge_stays c s r d (enters_stays c s r d u) in
      clash (same-behind P (N.point (N.origin e)) (N.point (N.origin d)) x.a_vertex.inside.weight y.a_vertex.inside.weight q (from_behind c s r e t h)) (enters_on c s r d u)

  -- two that begin behind, at one point, of one face
  once_behind : (e d : ℕ) → Stays L P e → Stays L P d → SamePoint (N.point (N.origin e)) (N.point (N.origin d)) → L.face e ≡ L.face d →
      side P (from_point L e) <ℤ pos 0 → side P (from_point L d) <ℤ pos 0 → e ≡ d
  once_behind e d t u q f h k = s.one_each e d t.live u.live
      (s.vertex_once (L.origin e) (L.origin d) (s.origin_live e t.live) (s.origin_live d u.live)
      (at_slot L (N.point (N.origin e)) (N.point (N.origin d)) e d (from_same c s r e t (below h)) (from_same c s r d u (below k)) q)) f

  -- two that begin on the plane
  once_entering : (e d : ℕ) → Enters L P e → Enters L P d → SamePoint (N.point (N.origin e)) (N.point (N.origin d)) → L.face e ≡ L.face d → e ≡ d
  once_entering e d t u q f =
      let ts = enters_stays c s r e t in let us = enters_stays c s r d u in
      let x = edge_stays c s r e ts in
      let y = of_face G L (other_plane L d) (N.point (N.origin d)) (N.point (N.origin (L.twin d))) (L.face e) (L.face d) f (edge_stays c s r d us) in
      let z = same_start G (own_plane L e) (other_plane L d) (N.point (N.origin d)) (N.point (N.origin (L.twin d))) (N.point (N.origin e)) y x.a_vertex.inside.weight q in
      let w : SamePoint (N.point (N.origin (L.twin e))) (N.point (N.origin (L.twin d))) = one_outgoing G (own_plane L e) (other_plane L e) (other_plane L d) (N.point (N.origin e)) (N.point (N.origin (L.twin e))) (N.point (N.origin (L.twin d))) (c.new.proper (own_plane L e) x.f_in) x z in
      let on_end : side (other_plane L d) (N.point (N.origin (L.twin e))) ≡ pos 0 = same-on (other_plane L d) (N.point (N.origin (L.twin d))) (N.point (N.origin (L.twin e))) y.b_vertex.inside.weight (same_point_sym w) y.b_on_g in
      let g : other_plane L d ≡ other_plane L e = ⊎_elim (λ a. own_not_other G (own_plane L e) (other_plane L d) (N.point (N.origin d)) (N.point (N.origin (L.twin d))) y a) (λ a. a)
      (third_face G (own_plane L e) (other_plane L e) (other_plane L d) (N.point (N.origin e)) (N.point (N.origin (L.twin e))) c.new x y.g_in z.a_on_g on_end) in
      let f2 = s.face_once (L.face (L.twin e)) (L.face (L.twin d)) (s.face_live (L.twin e) (s.twin_live e t.live)) (s.face_live (L.twin d) (s.twin_live d u.live)) (sym g) in
      let m = once_behind (L.twin e) (L.twin d) (twin_stays_too c s r e ts) (twin_stays_too c s r d us) w f2 t.to u.to in
      sym (s.twin_twin e t.live) ∙ ap L.twin m ∙ s.twin_twin d u.live

  pub stays_once : (e d : ℕ) → Stays L P e → Stays L P d → SamePoint (N.point (N.origin e)) (N.point (N.origin d)) → L.face e ≡ L.face d → e ≡ d
  stays_once e d t u q f = by_from c s r e t
      (λ h. by_from c s r d u (λ k. once_behind e d t u q f h k) (λ k. absurd (same_side e d t k q h)))
      (λ h. by_from c s r d u (λ k. absurd (same_side d e u h (same_point_sym q) k)) (λ k. once_entering e d h k q f))

  -- ---- a face is left by one half-edge, and entered by one
  pub enter_once : (e d : ℕ) → Enters L P e → Enters L P d → L.face e ≡ L.face d → e ≡ d
  enter_once e d t u f =
      let ts = enters_stays c s r e t in let us = enters_stays c s r d u in
      let x = edge_stays c s r e ts in
      let y = of_face G L (other_plane L d) (N.point (N.origin d)) (N.point (N.origin (L.twin d))) (L.face e) (L.face d) f (edge_stays c s r d us) in
      let h = from_behind c s r (L.twin e) (twin_stays_too c s r e ts) t.to in
      let k = from_behind c s r (L.twin d) (twin_stays_too c s r d us) u.to in
      stays_once e d ts us (one_start c (own_plane L e) (other_plane L e) (other_plane L d) (N.point (N.origin e)) (N.point (N.origin (L.twin e))) (N.point (N.origin d)) (N.point (N.origin (L.twin d))) x h (enters_on c s r e t) y k (enters_on c s r d u)) f

  pub leave_once : (e d : ℕ) → Leaves L P e → Leaves L P d → L.face e ≡ L.face d → e ≡ d
  leave_once e d t u f =
      let ts = leaves_stays c s r e t in let us = leaves_stays c s r d u in
      let x = edge_stays c s r e ts in
      let y = of_face G L (other_plane L d) (N.point (N.origin d)) (N.point (N.origin (L.twin d))) (L.face e) (L.face d) f (edge_stays c s r d us) in
      let h = from_behind c s r e ts t.from in
      let k = from_behind c s r d us u.from in
      let q = one_end c (own_plane L e) (other_plane L e) (other_plane L d) (N.point (N.origin e)) (N.point (N.origin (L.twin e))) (N.point (N.origin d)) (N.point (N.origin (L.twin d))) x h (leaves_on c s r e t) y k (leaves_on c s r d u) in
      let z = same_half_edge G (own_plane L e) (other_plane L d) (N.point (N.origin d)) (N.point (N.origin (L.twin d))) (N.point (N.origin (L.twin e))) y x.b_vertex.inside.weight q in
      let w = one_incoming G (own_plane L e) (other_plane L e) (other_plane L d) (N.point (N.origin e)) (N.point (N.origin d)) (N.point (N.origin (L.twin e))) (c.new.proper (own_plane L e) x.f_in) x z in
      stays_once e d ts us (same_point_sym w) f

  -- ---- the vertices, each once
  crosses_leaves : (e : ℕ) → Crosses L P e → Leaves L P e
  crosses_leaves e x = record { live = x.live; from = x.from; to = let l = x.to in omega (arith, ints) }

  crossed_at : (e : ℕ) → Crosses L P e → Crossed F P (from_point L e) (to_point L e)
  crossed_at e x = crossed P (s.edge e x.live) x.from x.to

  -- a face on the fresh vertex of e is one of both ends of e
  on_both : (e : ℕ) (h : HalfSpace) → Crosses L P e → h ∈ F → side h (N.point (p.fresh e)) ≡ pos 0 → (side h (from_point L e) ≡ pos 0) × (side h (to_point L e) ≡ pos 0)
  on_both e h x m z = new_corner F P h (from_point L e) (to_point L e) (crossed_at e x) m
      (same-on h (N.point (p.fresh e)) (cut_point P (from_point L e) (to_point L e)) (r.fresh_weight e x) (r.fresh_point e x) z)

  pub fresh_on : (e : ℕ) → Crosses L P e → side P (N.point (p.fresh e)) ≡ pos 0
  fresh_on e x = rw (← r.origin_moves e x) (leaves_on c s r e (crosses_leaves e x))

  pub fresh_edge : (e : ℕ) → Crosses L P e → IsHalfEdge G (own_plane L e) (other_plane L e) (from_point L e) (N.point (p.fresh e))
  fresh_edge e x = rw (← from_same c s r e (stays_from c s r e x.live x.from) (below x.from), ← r.origin_moves e x) (edge_behind c s r e x.live x.from)

  old_not_fresh : {A : Type 0} (x e : ℕ) → HasVertex L x → Crosses L P e → SamePoint (L.point x) (N.point (p.fresh e)) → A
  old_not_fresh {A} x e i h q =
      let d = s.edge e h.live in
      let v = s.vertex x i in
      let y = fresh_edge e h in
      let w = y.b_vertex.inside.weight in
      let b = same_point_sym q in
      let z = same-on P (N.point (p.fresh e)) (L.point x) w b (fresh_on e h) in ⊎_elim
      (λ a. clash (same-behind P (from_point L e) (L.point x) d.a_vertex.inside.weight v.inside.weight (same_point_sym a) h.from) z)
      (λ a. let l = same-front P (to_point L e) (L.point x) d.b_vertex.inside.weight v.inside.weight (same_point_sym a) h.to in absurd (omega (arith, ints)))
      (third_end F (own_plane L e) (other_plane L e) (from_point L e) (to_point L e) (L.point x) (edge_crosses d) (record { on_f = d.a_on_f; on_g = d.a_on_g }) (record { on_f = d.b_on_f; on_g = d.b_on_g })
      (record { on_f = same-on (own_plane L e) (N.point (p.fresh e)) (L.point x) w b y.b_on_f; on_g = same-on (other_plane L e) (N.point (p.fresh e)) (L.point x) w b y.b_on_g }) d.a_vertex d.b_vertex v (edge_distinct d))

  fresh_once : (e d : ℕ) → Crosses L P e → Crosses L P d → SamePoint (N.point (p.fresh e)) (N.point (p.fresh d)) → e ≡ d
  fresh_once e d x y q = ⊎_elim (λ a. by_own a) (λ a. ⊎_elim (λ b. opposite F (own_plane L e) (other_plane L e) P (from_point L e) (to_point L e) (from_point L d) (to_point L d) ee (turned a b) x.from x.to y.from y.to)
      (λ b. own_not_other F (own_plane L d) (other_plane L d) (from_point L d) (to_point L d) dd (b ∙ sym a)) (which (other_plane L d) dd.g_in fd.b_on_g)) (which (own_plane L d) dd.f_in fd.b_on_f)
    where
      ee : IsHalfEdge F (own_plane L e) (other_plane L e) (from_point L e) (to_point L e)
      ee = s.edge e x.live

      dd : IsHalfEdge F (own_plane L d) (other_plane L d) (from_point L d) (to_point L d)
      dd = s.edge d y.live

      fd : IsHalfEdge G (own_plane L d) (other_plane L d) (from_point L d) (N.point (p.fresh d))
      fd = fresh_edge d y

      -- a face on the fresh vertex of d is one of the two of e
      which : (h : HalfSpace) → h ∈ F → side h (N.point (p.fresh d)) ≡ pos 0 → (h ≡ own_plane L e) ⊎ (h ≡ other_plane L e)
      which h m z =
          let o = on_both e h x m (same-on h (N.point (p.fresh d)) (N.point (p.fresh e)) fd.b_vertex.inside.weight (same_point_sym q) z) in
          third_face F (own_plane L e) (other_plane L e) h (from_point L e) (to_point L e) c.old ee m o.0 o.1

      by_own : own_plane L d ≡ own_plane L e → e ≡ d
      by_own a = leave_once e d (crosses_leaves e x) (crosses_leaves d y) (s.face_once (L.face e) (L.face d) (s.face_live e x.live) (s.face_live d y.live) (sym a))

      turned : own_plane L d ≡ other_plane L e → other_plane L d ≡ own_plane L e → IsHalfEdge F (other_plane L e) (own_plane L e) (from_point L d) (to_point L d)
      turned a b = faces_are F (own_plane L d) (other_plane L d) (other_plane L e) (own_plane L e) (from_point L d) (to_point L d) a b dd

  pub vertex_once : (x y : ℕ) → HasVertex N x → HasVertex N y → SamePoint (N.point x) (N.point y) → x ≡ y
  vertex_once x y i j q = by_kinds (r.vertex_kind x i) (r.vertex_kind y j)
    where
      by_kinds : VertexKind L P p x → VertexKind L P p y → x ≡ y
      by_kinds (old_vertex h k) (old_vertex l m) = s.vertex_once x y h l (rw (← r.point_stays x h k, ← r.point_stays y l m) q)
      by_kinds (old_vertex h k) (fresh_vertex e l m) = old_not_fresh x e h l (rw (← r.point_stays x h k, ← m) q)
      by_kinds (fresh_vertex e l m) (old_vertex h k) = old_not_fresh y e h l (rw (← r.point_stays y h k, ← m) (same_point_sym q))
      by_kinds (fresh_vertex e h k) (fresh_vertex d l m) = k ∙ ap p.fresh (fresh_once e d h l (rw (← k, ← m) q)) ∙ sym m
