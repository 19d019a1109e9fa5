-- The half-edges that stay, in the cut list.
use Rattle.std.proofs.Common.{◌≡◌, ℕ, List, refl, ap, sym, ◌∙◌, arith, ◌⊎◌, inl, inr, ⊎_elim, ℤ, pos, ◌<ℤ◌, ◌≤ℤ◌}
use Rattle.std.proofs.lemmas.Int.{ints, by_lt_z}
use Rattle.algebra.specs.Space.{Homogeneous, HalfSpace, SamePoint, dot, cross, side}
use Rattle.algebra.proofs.Identities.{norm-cross_self}
use Rattle.algebra.proofs.Points.{between-on, same_point_sym, same-on, same-behind}
use Rattle.vertex_laws.specs.Vertex.{IsVertex}
use Rattle.vertex_laws.specs.HalfEdge.{IsHalfEdge}
use Rattle.vertex_laws.proofs.HalfEdge.{edge_crosses, one_outgoing}
use Rattle.vertex_laws.proofs.TwoFaces.{twin}
use Rattle.cut_laws.specs.Cut.{cut_point, NewVertex}
use Rattle.cut_laws.proofs.CutVertex.{cut_vertices, cut_vertex}
use Rattle.cut_laws.proofs.Leaving.{leaving_half_edge, same_start}
use Rattle.poly_laws.specs.Links.{Links, HasEdge, HasFace, from_point, to_point, own_plane, other_plane}
use Rattle.poly_laws.specs.Stands.{StandsFor}
use Rattle.poly_laws.specs.Cut.{Picks, Stays, Leaves, Enters, Crosses, IsCut}
use Rattle.poly_laws.specs.Laws.{OfCut, keeps_face, adds_face, CutList}
use Rattle.poly_laws.proofs.Lists.{third_face, kept_from, cut_from, Comes, Goes}

-- The two faces of a half-edge are two.
pub own_not_other : {A : Type 0} (G : List HalfSpace) (f g : HalfSpace) (a b : Homogeneous) → IsHalfEdge G f g a b → g ≡ f → A
own_not_other {A} G f g a b e s =
    let x : pos 0 <ℤ dot (cross f.normal g.normal) (cross f.normal g.normal) = edge_crosses e in
    let y = rw s at x in let z = norm-cross_self f.normal in absurd (omega (arith, ints))

-- Over plain slots.
swapped : (G : List HalfSpace) (L N : Links) (f : HalfSpace) (a : Homogeneous) (e d : ℕ) → d ≡ e → IsHalfEdge G f (L.plane (L.face d)) a (N.point (N.origin d)) →
    IsHalfEdge G f (L.plane (L.face e)) a (N.point (N.origin e))
swapped G L N f a e d q h = rw (← q) h

on_slot : (P : HalfSpace) (N : Links) (e d : ℕ) → d ≡ e → side P (N.point (N.origin d)) ≡ pos 0 → side P (N.point (N.origin e)) ≡ pos 0
on_slot P N e d q h = rw (← q) h

pub same_at : (L : Links) (z : Homogeneous) (e x : ℕ) → L.origin e ≡ x → SamePoint z (L.point x) → SamePoint z (L.point (L.origin e))
same_at L z e x q h = rw q h

module _ {F : List HalfSpace} {P : HalfSpace} {G : List HalfSpace} {L N : Links} {p : Picks} (c : CutList F P G) (s : StandsFor F L) (r : IsCut L P N p) where
  -- ---- ends of the half-edges that stay
  pub stays_from : (e : ℕ) → HasEdge L e → side P (from_point L e) <ℤ pos 0 → Stays L P e
  stays_from e i h = record { live = i; behind = inl h }

  pub leaves_stays : (e : ℕ) → Leaves L P e → Stays L P e
  leaves_stays e l = record { live = l.live; behind = inl l.from }

  pub enters_stays : (e : ℕ) → Enters L P e → Stays L P e
  enters_stays e l = record { live = l.live; behind = inr l.to }

  pub to_twin : (e : ℕ) → HasEdge L e → to_point L (L.twin e) ≡ from_point L e
  to_twin e i = ap (λ d. L.point (L.origin d)) (s.twin_twin e i)

  pub twin_stays_too : (e : ℕ) → Stays L P e → Stays L P (L.twin e)
  twin_stays_too e t = record {
    live = s.twin_live e t.live;
    behind = ⊎_elim (λ h. inr (rw (to_twin e t.live) h)) (λ h. inl h) t.behind;
  }

  pub enters_of_twin : (e : ℕ) → Leaves L P e → Enters L P (L.twin e)
  enters_of_twin e l = record { live = s.twin_live e l.live; from = l.to; to = rw (to_twin e l.live) l.from }

  pub leaves_of_twin : (e : ℕ) → Enters L P e → Leaves L P (L.twin e)
  leaves_of_twin e l = record { live = s.twin_live e l.live; from = l.to; to = rw (to_twin e l.live) l.from }

  -- where a half-edge begins that does not begin in front
  pub from_same : (e : ℕ) → Stays L P e → side P (from_point L e) ≤ℤ pos 0 → N.point (N.origin e) ≡ from_point L e
  from_same e t h = rw (r.origin_stays e t h) (r.point_stays (L.origin e) (s.origin_live e t.live) h)

  below : {a : ℤ} → a <ℤ pos 0 → a ≤ℤ pos 0
  below {a} h = omega (arith, ints)

  pub edge_behind : (e : ℕ) → HasEdge L e → side P (from_point L e) <ℤ pos 0 →
      IsHalfEdge G (own_plane L e) (other_plane L e) (N.point (N.origin e)) (N.point (N.origin (L.twin e)))
  edge_behind e i h =
      let t = stays_from e i h in
      let u = twin_stays_too e t in
      let d = s.edge e i in by_lt_z (pos 0) (side P (to_point L e))
      (λ l.
      let x : Crosses L P e = record { live = i; from = h; to = l } in
      rw (from_same e t (below h), r.origin_moves e x) (cut_from F P G (own_plane L e) (other_plane L e) (from_point L e) (to_point L e) (N.point (p.fresh e)) c d h l (r.fresh_weight e x) (r.fresh_point e x)))
      (λ l. rw (from_same e t (below h), from_same (L.twin e) u l) (kept_from F P G (own_plane L e) (other_plane L e) (from_point L e) (to_point L e) c d h l))

  pub edge_stays : (e : ℕ) → Stays L P e → IsHalfEdge G (own_plane L e) (other_plane L e) (N.point (N.origin e)) (N.point (N.origin (L.twin e)))
  edge_stays e t = ⊎_elim (λ h. edge_behind e t.live h)
      (λ h.
      let d = edge_behind (L.twin e) (s.twin_live e t.live) h in
      let x = swapped G L N (other_plane L e) (N.point (N.origin (L.twin e))) e (L.twin (L.twin e)) (s.twin_twin e t.live) d in
      twin G (other_plane L e) (own_plane L e) (N.point (N.origin (L.twin e))) (N.point (N.origin e)) x)
      t.behind

  -- a half-edge that leaves ends on the plane
  pub leaves_on : (e : ℕ) → Leaves L P e → side P (N.point (N.origin (L.twin e))) ≡ pos 0
  leaves_on e l = by_lt_z (pos 0) (side P (to_point L e))
      (λ h.
      let x : Crosses L P e = record { live = l.live; from = l.from; to = h } in
      let d = leaving_half_edge F P (own_plane L e) (other_plane L e) (from_point L e) (to_point L e) (s.edge e l.live) l.from h in
      rw (r.origin_moves e x) (same-on P (cut_point P (from_point L e) (to_point L e)) (N.point (p.fresh e)) d.b_vertex.inside.weight (same_point_sym (r.fresh_point e x)) (between-on P (from_point L e) (to_point L e))))
      (λ h. let z = l.to in rw (from_same (L.twin e) (twin_stays_too e (leaves_stays e l)) h) (omega (arith, ints)))

  pub enters_on : (e : ℕ) → Enters L P e → side P (N.point (N.origin e)) ≡ pos 0
  enters_on e l = on_slot P N e (L.twin (L.twin e)) (s.twin_twin e l.live) (leaves_on (L.twin e) (leaves_of_twin e l))

  pub from_behind : (e : ℕ) → Stays L P e → side P (from_point L e) <ℤ pos 0 → side P (N.point (N.origin e)) <ℤ pos 0
  from_behind e t h = rw (from_same e t (below h)) h

  -- where a half-edge that stays begins: behind, and then its vertex was there, or on the plane
  pub by_from : {A : Type 0} (e : ℕ) → Stays L P e → (side P (from_point L e) <ℤ pos 0 → A) → (Enters L P e → A) → A
  by_from e t f g = by_lt_z (side P (from_point L e)) (pos 0) f (λ l. g (record { live = t.live; from = l; to = ends_behind l t.behind }))
    where
      ends_behind : pos 0 ≤ℤ side P (from_point L e) → (side P (from_point L e) <ℤ pos 0) ⊎ (side P (to_point L e) <ℤ pos 0) → side P (to_point L e) <ℤ pos 0
      ends_behind l (inl h) = absurd (omega (arith, ints))
      ends_behind l (inr h) = h

  -- ---- a vertex of the cut list that is behind was there
  pub old_of_behind : (v : Homogeneous) → IsVertex G v → side P v <ℤ pos 0 → IsVertex F v
  old_of_behind v u h = ⊎_elim (λ o. o.vertex) (λ n. absurd (never n)) (cut_vertices F P v c.old.bounded (c.vertex_back v u))
    where
      never : NewVertex F P v → ⊥
      never n =
          let w = (cut_vertex F P n.a n.b n.crossed).inside.weight in
          let z = same-behind P v (cut_point P n.a n.b) u.inside.weight w n.same h in
          let y = between-on P n.a n.b in absurd (omega (arith, ints))

  -- ---- the slot of a half-edge of the cut list that begins behind
  pub record SlotFrom (k : ℕ) (g : HalfSpace) (z x : Homogeneous) : Type 0 where
    pub slot : ℕ
    pub live : HasEdge L slot
    pub face_is : L.face slot ≡ k
    pub behind : side P (from_point L slot) <ℤ pos 0
    pub from : SamePoint z (from_point L slot)
    pub to : SamePoint x (N.point (N.origin (L.twin slot)))
    pub other : other_plane L slot ≡ g

  -- the same half-edge, begun at the point of a slot
  slot_of : (k : ℕ) (g : HalfSpace) (z x : Homogeneous) → IsHalfEdge G (L.plane k) g z x → side P z <ℤ pos 0 →
      (e : ℕ) → HasEdge L e → L.face e ≡ k → SamePoint z (from_point L e) → SlotFrom k g z x
  slot_of k g z x d h e i f a =
      let u = d.a_vertex.inside.weight in
      let b : side P (from_point L e) <ℤ pos 0 = same-behind P z (from_point L e) u (s.edge e i).a_vertex.inside.weight a h in
      let y : IsHalfEdge G (L.plane k) (other_plane L e) (from_point L e) (N.point (N.origin (L.twin e))) = rw (← from_same e (stays_from e i b) (below b), ← f) (edge_behind e i b) in
      let w = same_start G (L.plane k) (other_plane L e) (from_point L e) (N.point (N.origin (L.twin e))) z y u a in
      let t : SamePoint x (N.point (N.origin (L.twin e))) = one_outgoing G (L.plane k) g (other_plane L e) z x (N.point (N.origin (L.twin e))) (c.new.proper (L.plane k) d.f_in) d w in
      let on_x : side (other_plane L e) x ≡ pos 0 = same-on (other_plane L e) (N.point (N.origin (L.twin e))) x y.b_vertex.inside.weight (same_point_sym t) y.b_on_g in
      record {
        slot = e;
        live = i;
        face_is = f;
        behind = b;
        from = a;
        to = t;
        other = ⊎_elim (λ q. own_not_other G (L.plane k) (other_plane L e) (from_point L e) (N.point (N.origin (L.twin e))) y q) (λ q. q)
            (third_face G (L.plane k) g (other_plane L e) z x c.new d y.g_in w.a_on_g on_x);
      }

  pub slot_from : (k : ℕ) (g : HalfSpace) (z x : Homogeneous) → HasFace L k → IsHalfEdge G (L.plane k) g z x → side P z <ℤ pos 0 → SlotFrom k g z x
  slot_from k g z x m d h =
      let v = s.vertex_all z (old_of_behind z d.a_vertex h) in
      let e = s.edge_all v.slot k v.live m (same-on (L.plane k) z (L.point v.slot) d.a_vertex.inside.weight v.same d.a_on_f) in
      slot_of k g z x d h e.slot e.live e.face_is (same_at L z e.slot v.slot e.origin_is v.same)

  -- ---- the slots by which a face is left and entered
  pub record LeaveAt (k : ℕ) (x : Homogeneous) : Type 0 where
    pub slot : ℕ
    pub leaves : Leaves L P slot
    pub face_is : L.face slot ≡ k
    pub to : SamePoint x (N.point (N.origin (L.twin slot)))

  pub record EnterAt (k : ℕ) (x : Homogeneous) : Type 0 where
    pub slot : ℕ
    pub enters : Enters L P slot
    pub face_is : L.face slot ≡ k
    pub from : SamePoint x (N.point (N.origin slot))

  ends_on : (e : ℕ) (x : Homogeneous) → HasEdge L e → side P (from_point L e) <ℤ pos 0 → pos 0 <ℤ x.weight → SamePoint x (N.point (N.origin (L.twin e))) → side P x ≡ pos 0 → Leaves L P e
  ends_on e x i h v t z = record {
    live = i;
    from = h;
    to = by_lt_z (side P (to_point L e)) (pos 0)
        (λ l.
        let a = from_same (L.twin e) (twin_stays_too e (stays_from e i h)) (below l) in
        let b : SamePoint (to_point L e) x = same_point_sym (rw a at t) in
        let k = same-behind P (to_point L e) x (s.edge e i).b_vertex.inside.weight v b l in absurd (omega (arith, ints)))
        (λ l. l);
  }

  pub leave_at : (k : ℕ) (x : Homogeneous) → HasFace L k → Comes G P (L.plane k) x → side P x ≡ pos 0 → LeaveAt k x
  leave_at k x m d z =
      let e = slot_from k d.g d.z x m d.edge d.behind in
      record { slot = e.slot; leaves = ends_on e.slot x e.live e.behind d.edge.b_vertex.inside.weight e.to z; face_is = e.face_is; to = e.to }

  pub enter_at : (k : ℕ) (x : Homogeneous) → HasFace L k → Goes G P (L.plane k) x → side P x ≡ pos 0 → EnterAt k x
  enter_at k x m d z = by (c.kind d.g d.edge.g_in)
    where
      by_slot : (j : ℕ) → HasFace L j → L.plane j ≡ d.g → EnterAt k x
      by_slot j i q =
          let y : IsHalfEdge G (L.plane j) (L.plane k) d.z x = rw q (twin G (L.plane k) d.g x d.z d.edge) in
          let e = slot_from j (L.plane k) d.z x i y d.behind in
          record {
            slot = L.twin e.slot;
            enters = enters_of_twin e.slot (ends_on e.slot x e.live e.behind d.edge.a_vertex.inside.weight e.to z);
            face_is = s.face_once (L.face (L.twin e.slot)) k (s.face_live (L.twin e.slot) (s.twin_live e.slot e.live)) m e.other;
            from = e.to;
          }

      by_kind : (g : HalfSpace) → d.g ≡ g → OfCut F P g → EnterAt k x
      by_kind g q (keeps_face i b) = let j = s.face_all g i in by_slot j.slot j.live (j.plane_is ∙ sym q)
      by_kind g q adds_face = let y = rw q at d.edge.b_on_g in let l = d.behind in absurd (omega (arith, ints))

      by : OfCut F P d.g → EnterAt k x
      by o = by_kind d.g refl o
