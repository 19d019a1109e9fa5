-- The vertices and faces before and after a cut.
use Rattle.std.proofs.Common.{◌≡◌, ℕ, Bool, true, false, ◌&&◌, Option, Some, None, is_some, refl, sym, ◌∙◌, ap, arith, inl, inr, ◌⊎◌, ⊎_elim, pos, neg_ℤ, ◌<ℤ◌, ◌≤ℤ◌, List}
use Rattle.std.proofs.lemmas.Int.{ints}
use Rattle.algebra.specs.Space.{Homogeneous, HalfSpace, SamePoint, det, side, way}
use Rattle.algebra.proofs.Points.{way-on, way-across, mix-on, between-on}
use Rattle.exact_geom.specs.Sides.{sign_of}
use Rattle.exact_geom.specs.Planes.{ThreePoints, half_space}
use Rattle.half_arena.specs.declared.ids.VertId.{VertId}
use Rattle.vertex_laws.specs.HalfEdge.{IsHalfEdge}
use Rattle.vertex_laws.proofs.HalfEdge.{edge_crosses}
use Rattle.cut_laws.specs.Cut.{cut_point}
use Rattle.cut_laws.proofs.Backs.{leans}
use Rattle.cut_laws.proofs.Alone.{same_on_line}
use Rattle.half_poly.specs.declared.links.HalfEdge.{HalfEdge}
use Rattle.half_poly.specs.declared.links.Face.{Face}
use Rattle.half_poly.specs.Signs.{sign_at}
use Rattle.half_poly.specs.Ways.{from_sign, to_sign, is_behind}
use Rattle.half_poly.specs.Made.{is_front, comes_through, vertex_entry, IsMade}
use Rattle.half_poly.specs.Paired.{begin_at}
use Rattle.half_poly.specs.Taken.{vertex_step}
use Rattle.half_poly.specs.Arenas.{links, nowhere, no_plane}
use Rattle.half_poly.specs.Phases.{Tables, Phases, picks}
use Rattle.half_poly.proofs.Making.{same_value, one_value}
use Rattle.half_poly.proofs.ArenaReads.{behind_is, behind_of, front_is, front_of, not_front_is, not_front_of, There, there, live_is, read, none_or}
use Rattle.half_poly.proofs.CutEdges.{OfEdge, of_edge, origin_is, face_is, twin_is, from_sign_is, to_sign_is, stays_after}
use Rattle.poly_laws.specs.Links.{Links, HasVertex, HasEdge, HasFace, from_point, to_point, own_plane, other_plane}
use Rattle.poly_laws.specs.Stands.{StandsFor}
use Rattle.poly_laws.specs.Cut.{Stays, Crosses, VertexKind, old_vertex, fresh_vertex}

pub both_true : (x y : Bool) → x ≡ true → y ≡ true → (x && y) ≡ true
both_true x y q m = rw (q, m) refl

pub of_both : (x y : Bool) → (x && y) ≡ true → (x ≡ true) × (y ≡ true)
of_both true y q = (refl, q)
of_both false y q = absurd (cc)

pub true_false : {A : Type 0} {b : Bool} → b ≡ true → b ≡ false → A
true_false {A} {b} h k = absurd (cc)

pub bool_or : (b : Bool) → (b ≡ true) ⊎ (b ≡ false)
bool_or true = inl refl
bool_or false = inr refl

module _ {F : List HalfSpace} {P : ThreePoints} {tag : ℕ} {V V1 V2 : ℕ → Option Homogeneous} {E E1 E2 E3 : ℕ → Option HalfEdge} {Fc F1 F2 F3 : ℕ → Option Face} {b : Tables}
    (s : StandsFor F (links V E Fc)) (f : Phases P tag V V1 V2 E E1 E2 E3 Fc F1 F2 F3 b) where
  abbrev old : Links
  old = links V E Fc

  abbrev new : Links
  new = links V2 E3 F3

  -- ---- a half-edge from the front to behind has a new vertex
  -- the planes of a half-edge that crosses P have one point
  no_zero : (d : ℕ) → HasEdge old d → pos 0 <ℤ side (half_space P) (from_point old d) → side (half_space P) (to_point old d) <ℤ pos 0 →
      ¬ (det (half_space P).normal (own_plane old d).normal (other_plane old d).normal ≡ pos 0)
  unfolding det
  no_zero d i h k z =
      let e = s.edge d i in
      let l = leans (own_plane old d).normal (other_plane old d).normal (half_space P).normal (way (to_point old d) (from_point old d)) (edge_crosses e)
      (way-on (own_plane old d) (to_point old d) (from_point old d) e.b_on_f e.a_on_f) (way-on (other_plane old d) (to_point old d) (from_point old d) e.b_on_g e.a_on_g)
      (way-across (half_space P) (to_point old d) (from_point old d) e.b_vertex.inside.weight e.a_vertex.inside.weight k h) in
      ⊎_elim (λ x. absurd (omega (arith, ints))) (λ x. absurd (omega (arith, ints))) l

  pub plane_of : (k : ℕ) (x : Face) → Fc k ≡ Some x → old.plane k ≡ half_space x.plane
  plane_of k x q = read (λ (y : Face). half_space y.plane) no_plane q

  pub record NewAt (d : ℕ) : Type 0 where
    pub id : VertId
    pub v : Homogeneous
    pub entry : vertex_entry b.begins d ≡ Some id
    pub free : V id.0 ≡ None
    pub is : V1 id.0 ≡ Some v
    pub on_plane : side (half_space P) v ≡ pos 0
    pub on_own : side (own_plane old d) v ≡ pos 0
    pub on_other : side (other_plane old d) v ≡ pos 0
    pub weight : pos 0 <ℤ v.weight

  face_at : (x y : ℕ) → x ≡ y → HasFace old x → HasFace old y
  face_at x y q h = rw (← q) h

  edge_at : (x y : ℕ) → x ≡ y → HasEdge old x → HasEdge old y
  edge_at x y q h = rw (← q) h

  on_at : (k l : ℕ) (v : Homogeneous) → k ≡ l → side (old.plane l) v ≡ pos 0 → side (old.plane k) v ≡ pos 0
  on_at k l v q h = rw q h

  on_face : (k : ℕ) (x : Face) (v : Homogeneous) → Fc k ≡ Some x → side (half_space x.plane) v ≡ pos 0 → side (old.plane k) v ≡ pos 0
  on_face k x v q h = rw (plane_of k x q) h

  weight_of : (v : Homogeneous) → pos 1 ≤ℤ v.weight → pos 0 <ℤ v.weight
  weight_of v h = omega (arith, ints)

  -- what the table names
  pub named : (d : ℕ) (id : VertId) → vertex_entry b.begins d ≡ Some id → NewAt d
  named d id q =
      let m = f.made.names d id q in
      let w = m.made.vertex in
      let tw = m.made.through.twin_is in record {
        id = id;
        v = m.v;
        entry = q;
        free = m.was_free;
        is = m.vertex_is;
        on_plane = w.on_first;
        on_own = on_at (old.face d) m.h.face.0 m.v (face_is s f d m.h m.there) (on_face m.h.face.0 m.made.f m.v m.made.through.face_is w.on_second);
        on_other = on_at (old.face (old.twin d)) m.made.t.face.0 m.v (ap old.face (twin_is s f d m.h m.there) ∙ face_is s f m.h.twin.0 m.made.t tw)
            (on_face m.made.t.face.0 m.made.g m.v m.made.through.other_is w.on_third);
        weight = weight_of m.v w.vertex.positive;
      }

  comes : (d : ℕ) (o : OfEdge s f d) → pos 0 <ℤ side (half_space P) (from_point old d) → side (half_space P) (to_point old d) <ℤ pos 0 → comes_through E b.signs o.h ≡ true
  comes d o h k = both_true (is_front (from_sign b.signs o.h)) (is_behind (to_sign E b.signs o.h))
      (ap is_front (from_sign_is s f d o) ∙ front_of (side (half_space P) (from_point old d)) h)
      (ap is_behind (to_sign_is s f d o) ∙ behind_of (side (half_space P) (to_point old d)) k)

  pub new_at : (d : ℕ) → HasEdge old d → pos 0 <ℤ side (half_space P) (from_point old d) → side (half_space P) (to_point old d) <ℤ pos 0 → NewAt d
  new_at d i h k =
      let o = of_edge s f d i in
      let x = there (Fc o.h.face.0) (face_at (old.face d) o.h.face.0 (face_is s f d o.h o.is) (s.face_live d i)) in
      let y = there (Fc o.t.face.0) (face_at (old.face o.h.twin.0) o.t.face.0 (face_is s f o.h.twin.0 o.t o.twin_is) (s.face_live o.h.twin.0 (live_is o.twin_is))) in
      let own : own_plane old d ≡ half_space x.it.plane = ap old.plane (face_is s f d o.h o.is) ∙ plane_of o.h.face.0 x.it x.is in
      let other : other_plane old d ≡ half_space y.it.plane = ap (λ z. old.plane (old.face z)) (twin_is s f d o.h o.is) ∙ ap old.plane (face_is s f o.h.twin.0 o.t o.twin_is) ∙ plane_of o.t.face.0 y.it y.is in
      let id = there (vertex_entry b.begins d) (f.made.some d o.h o.t x.it y.it o.is (record { through = comes d o h k; twin_is = o.twin_is; face_is = x.is; other_is = y.is })
      (not_zero (own_plane old d) (other_plane old d) (half_space x.it.plane) (half_space y.it.plane) own other (no_zero d i h k))) in
      named d id.it id.is
    where
      not_zero : (g k x y : HalfSpace) → g ≡ x → k ≡ y → ¬ (det (half_space P).normal g.normal k.normal ≡ pos 0) → ¬ (det (half_space P).normal x.normal y.normal ≡ pos 0)
      not_zero g k x y q m n = rw (← q, ← m) n

  -- ---- where half-edges begin then
  pub begins_new : (d : ℕ) (x : Stays old (half_space P) d) (n : NewAt d) → new.origin d ≡ n.id.0
  begins_new d x n =
      let o = of_edge s f d x.live in
      read (λ (h : HalfEdge). h.origin.0) 0 (stays_after s f d o x) ∙ ap (λ (i : VertId). i.0) (read (λ (i : VertId). i) o.h.origin n.entry)

  pub begins_old : (d : ℕ) (x : Stays old (half_space P) d) → side (half_space P) (from_point old d) ≤ℤ pos 0 → new.origin d ≡ old.origin d
  begins_old d x l =
      let o = of_edge s f d x.live in
      read (λ (h : HalfEdge). h.origin.0) 0 (stays_after s f d o x) ∙ ap (λ (i : VertId). i.0) (by o (none_or (vertex_entry b.begins d))) ∙ sym (origin_is s f d o.h o.is)
    where
      same : (o : OfEdge s f d) → vertex_entry b.begins d ≡ None → begin_at b.begins d o.h ≡ o.h.origin
      same o q = rw q refl

      by : (o : OfEdge s f d) → (vertex_entry b.begins d ≡ None) ⊎ There (vertex_entry b.begins d) → begin_at b.begins d o.h ≡ o.h.origin
      by o (inl q) = same o q
      by o (inr i) =
          let m = f.made.names d i.it i.is in
          let h : m.h ≡ o.h = same_value m.there o.is in
          let t = (of_both (is_front (from_sign b.signs m.h)) (is_behind (to_sign E b.signs m.h)) m.made.through.through).0 in
          let u : is_front (sign_of (side (half_space P) (from_point old d))) ≡ true = sym (ap is_front (ap (from_sign b.signs) h ∙ from_sign_is s f d o)) ∙ t in
          let y = front_is (side (half_space P) (from_point old d)) u in absurd (omega (arith, ints))

  -- ---- vertices
  vertex_stays_at : (x : ℕ) (v : Homogeneous) → V x ≡ Some v → side (half_space P) v ≤ℤ pos 0 → V2 x ≡ Some v
  vertex_stays_at x v q l = f.vertices x ∙ kept (ap is_front (f.signs x v q) ∙ not_front_of (side (half_space P) v) l) ∙ f.made.stays x v q
    where
      kept : is_front (sign_at b.signs x) ≡ false → vertex_step V b.signs x (V1 x) ≡ V1 x
      kept t = rw (q, t) refl

  pub vertex_new_at : (x : ℕ) → V x ≡ None → V2 x ≡ V1 x
  vertex_new_at x q = f.vertices x ∙ same
    where
      same : vertex_step V b.signs x (V1 x) ≡ V1 x
      same = rw q refl

  pub point_is : (x : ℕ) (v : Homogeneous) → V x ≡ Some v → old.point x ≡ v
  point_is x v q = read (λ (y : Homogeneous). y) nowhere q

  side_at : (p q : Homogeneous) → p ≡ q → side (half_space P) p ≤ℤ pos 0 → side (half_space P) q ≤ℤ pos 0
  side_at p q e h = rw (← e) h

  pub vertex_stays : (x : ℕ) → HasVertex old x → side (half_space P) (old.point x) ≤ℤ pos 0 → HasVertex new x
  vertex_stays x i l = let v = there (V x) i in live_is (vertex_stays_at x v.it v.is (side_at (old.point x) v.it (point_is x v.it v.is) l))

  pub point_stays : (x : ℕ) → HasVertex old x → side (half_space P) (old.point x) ≤ℤ pos 0 → new.point x ≡ old.point x
  point_stays x i l =
      let v = there (V x) i in
      read (λ (y : Homogeneous). y) nowhere (vertex_stays_at x v.it v.is (side_at (old.point x) v.it (point_is x v.it v.is) l)) ∙ sym (point_is x v.it v.is)

  -- ---- the new vertex of a half-edge that crosses
  to_twin : (e : ℕ) → HasEdge old e → to_point old (old.twin e) ≡ from_point old e
  to_twin e i = ap (λ d. old.point (old.origin d)) (s.twin_twin e i)

  pub cross_new : (e : ℕ) → Crosses old (half_space P) e → NewAt (old.twin e)
  cross_new e x = new_at (old.twin e) (s.twin_live e x.live) x.to (rw (to_twin e x.live) x.from)

  twin_stays : (e : ℕ) → Crosses old (half_space P) e → Stays old (half_space P) (old.twin e)
  twin_stays e x = record { live = s.twin_live e x.live; behind = inr (rw (to_twin e x.live) x.from) }

  pub fresh_is : (e : ℕ) (x : Crosses old (half_space P) e) → (picks E E3 b).fresh e ≡ (cross_new e x).id.0
  fresh_is e x = begins_new (old.twin e) (twin_stays e x) (cross_new e x)

  fresh_vertex_is : (e : ℕ) (x : Crosses old (half_space P) e) → V2 (cross_new e x).id.0 ≡ Some (cross_new e x).v
  fresh_vertex_is e x = let n = cross_new e x in vertex_new_at n.id.0 n.free ∙ n.is

  at_slot : (x y : ℕ) (v : Homogeneous) → x ≡ y → V2 y ≡ Some v → V2 x ≡ Some v
  at_slot x y v q h = rw q h

  pub fresh_at : (e : ℕ) (x : Crosses old (half_space P) e) → V2 ((picks E E3 b).fresh e) ≡ Some (cross_new e x).v
  fresh_at e x = at_slot ((picks E E3 b).fresh e) (cross_new e x).id.0 (cross_new e x).v (fresh_is e x) (fresh_vertex_is e x)

  free_at : (x y : ℕ) → x ≡ y → V y ≡ None → old.has_vertex x ≡ false
  free_at x y q h = rw (q, h) refl

  pub fresh_was_free : (e : ℕ) → Crosses old (half_space P) e → old.has_vertex ((picks E E3 b).fresh e) ≡ false
  fresh_was_free e x = free_at ((picks E E3 b).fresh e) (cross_new e x).id.0 (fresh_is e x) (cross_new e x).free

  fresh_point_is : (e : ℕ) (x : Crosses old (half_space P) e) → new.point ((picks E E3 b).fresh e) ≡ (cross_new e x).v
  fresh_point_is e x = read (λ (y : Homogeneous). y) nowhere (fresh_at e x)

  pub fresh_weight : (e : ℕ) → Crosses old (half_space P) e → pos 0 <ℤ (new.point ((picks E E3 b).fresh e)).weight
  fresh_weight e x = rw (fresh_point_is e x) (cross_new e x).weight

  pub fresh_point : (e : ℕ) → Crosses old (half_space P) e → SamePoint (new.point ((picks E E3 b).fresh e)) (cut_point (half_space P) (from_point old e) (to_point old e))
  fresh_point e x = rw (fresh_point_is e x) (at_line (s.edge e x.live) (cross_new e x))
    where
      own_back : (d : ℕ) (v : Homogeneous) → d ≡ e → side (old.plane (old.face d)) v ≡ pos 0 → side (own_plane old e) v ≡ pos 0
      own_back d v q h = rw (← q) h

      at_line : IsHalfEdge F (own_plane old e) (other_plane old e) (from_point old e) (to_point old e) → (n : NewAt (old.twin e)) →
          SamePoint n.v (cut_point (half_space P) (from_point old e) (to_point old e))
      at_line d n =
          let Q = half_space P in
          let u = from_point old e in
          let w = to_point old e in
          same_on_line (own_plane old e) (other_plane old e) Q n.v (cut_point Q u w)
          (record { on_f = own_back (old.twin (old.twin e)) n.v (s.twin_twin e x.live) n.on_other; on_g = n.on_own })
          (record { on_f = mix-on (side Q w) u (neg_ℤ (side Q u)) w (own_plane old e) d.a_on_f d.b_on_f; on_g = mix-on (side Q w) u (neg_ℤ (side Q u)) w (other_plane old e) d.a_on_g d.b_on_g })
          n.on_plane (between-on Q u w)
          (leans (own_plane old e).normal (other_plane old e).normal Q.normal (way u w) (edge_crosses d) (way-on (own_plane old e) u w d.a_on_f d.b_on_f) (way-on (other_plane old e) u w d.a_on_g d.b_on_g)
          (way-across Q u w d.a_vertex.inside.weight d.b_vertex.inside.weight x.from x.to))

  pub fresh_live : (e : ℕ) → Crosses old (half_space P) e → HasVertex new ((picks E E3 b).fresh e)
  fresh_live e x = live_is (fresh_at e x)

  pub vertex_kind : (x : ℕ) → HasVertex new x → VertexKind old (half_space P) (picks E E3 b) x
  unfolding named
  vertex_kind x i = by (none_or (V x))
    where
      by_old : (v : Homogeneous) → V x ≡ Some v → (is_front (sign_at b.signs x) ≡ true) ⊎ (is_front (sign_at b.signs x) ≡ false) → VertexKind old (half_space P) (picks E E3 b) x
      by_old v q (inl t) = absurd (true_false i (dead (f.vertices x ∙ gone)))
        where
          gone : vertex_step V b.signs x (V1 x) ≡ None
          gone = rw (q, t) refl

          dead : V2 x ≡ None → is_some (V2 x) ≡ false
          dead m = rw m refl
      by_old v q (inr t) = old_vertex (live_is q) (rw (point_is x v q) (not_front_is (side (half_space P) v) (sym (ap is_front (f.signs x v q)) ∙ t)))

      by_made : V x ≡ None → IsMade b.begins x → VertexKind old (half_space P) (picks E E3 b) x
      by_made q m =
          let n = f.made.names m.e m.id m.named in
          let o = of_edge s f m.e (live_is n.there) in
          let h : n.h ≡ o.h = same_value n.there o.is in
          let t = of_both (is_front (from_sign b.signs n.h)) (is_behind (to_sign E b.signs n.h)) n.made.through.through in
          let u = front_is (side (half_space P) (from_point old m.e)) (sym (ap is_front (ap (from_sign b.signs) h ∙ from_sign_is s f m.e o)) ∙ t.0) in
          let w = behind_is (side (half_space P) (to_point old m.e)) (sym (ap is_behind (ap (to_sign E b.signs) h ∙ to_sign_is s f m.e o)) ∙ t.1) in
          let st : Stays old (half_space P) m.e = record { live = live_is n.there; behind = inr w } in
          let x2 : Crosses old (half_space P) (old.twin m.e) = record { live = s.twin_live m.e (live_is n.there); from = w; to = rw (to_twin m.e (live_is n.there)) u } in
          fresh_vertex (old.twin m.e) x2 (sym (ap new.origin (s.twin_twin m.e (live_is n.there)) ∙ begins_new m.e st (named m.e m.id m.named) ∙ m.slot_is))

      by : (V x ≡ None) ⊎ There (V x) → VertexKind old (half_space P) (picks E E3 b) x
      by (inl q) =
          let w = there (V2 x) i in
          ⊎_elim (λ m. one_value m q) (λ m. by_made q m) (f.made.only x w.it (sym (vertex_new_at x q) ∙ w.is))
      by (inr v) = by_old v.it v.is (bool_or (is_front (sign_at b.signs x)))
