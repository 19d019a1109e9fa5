-- Arenas that a motion moves.
use Rattle.std.proofs.Common.{◌≡◌, ℕ, ◌<◌, Bool, true, false, IsTrue, List, [], ◌∷◌, get_or, map, slice_get, Option, Some, None, IsSome, is_some, refl, sym, ap, subst, ◌∙◌, arith, inl, inr, ◌⊎◌, ℤ, pos, negsuc, ◌+ℤ◌, ◌*ℤ◌, ◌<ℤ◌}
use Rattle.std.specs.Option.{option_map, option_map_or, option_and_then}
use Rattle.std.proofs.lemmas.Int.{ints}
use Rattle.std.proofs.lemmas.Option.{slice_get-get_or}
use Rattle.algebra.specs.Members.{◌∈◌, here, there as further}
use Rattle.algebra.specs.Space.{Vector, Homogeneous, HalfSpace, SamePoint, det, dot, plus, scale, side}
use Rattle.algebra.specs.World.{InCube, world}
use Rattle.algebra.proofs.Expr.{read as read_ring}
use Rattle.algebra.proofs.Ring.{ring}
use Rattle.algebra.proofs.Members.{member_at}
use Rattle.algebra.proofs.Points.{same-in, same_point_sym}
use Rattle.exact_geom.specs.Planes.{ThreePoints, half_space}
use Rattle.half_arena.specs.declared.ids.FaceId.{FaceId}
use Rattle.half_arena.specs.declared.ids.VertId.{VertId}
use Rattle.orient48.specs.Motions.{Motion, is_signed_permutation, is_flip, turned as turned_vector, moved_plane, moved_half, moved_at}
use Rattle.orient48.specs.Laws.{IsTurn}
use Rattle.orient48.proofs.Matrices.{is_turn}
use Rattle.orient48.proofs.Planes.{half_moved}
use Rattle.orient48.proofs.Signs.{sign_of}
use Rattle.vertex_laws.specs.Vertex.{IsVertex}
use Rattle.vertex_laws.specs.Cube.{VertexOutside}
use Rattle.vertex_laws.proofs.Cube.{in_walls, of_walls}
use Rattle.poly_laws.specs.Links.{Links, HasEdge}
use Rattle.poly_laws.specs.Stands.{StandsFor}
use Rattle.moved_laws.specs.Moved.{moved_list}
use Rattle.moved_laws.proofs.Halves.{side_plane}
use Rattle.moved_laws.proofs.Points.{has_inside_onto}
use Rattle.moved_laws.proofs.Trimming.{trim_onto}
use Rattle.moved_laws.proofs.Corners.{det_moved, once, vertex_onto}
use Rattle.moved_laws.proofs.Named.{reduced_onto}
use Rattle.moved_poly_laws.specs.Laws.{StandsMoved}
use Rattle.moved_poly_laws.specs.Moved.{moved_links, turned_links}
use Rattle.moved_poly_laws.proofs.Standing.{kept_is, turned_round_is}
use Rattle.half_poly.specs.declared.links.HalfEdge.{HalfEdge}
use Rattle.half_poly.specs.declared.links.Face.{Face}
use Rattle.half_poly.specs.declared.names.Name.{Name}
use Rattle.half_poly.specs.Arenas.{links, nowhere, no_plane, zero_vector}
use Rattle.half_poly.specs.Names.{no_name}
use Rattle.half_poly.specs.Shapes.{Tagged, solid_of, side_at, sides_of, IsShape}
use Rattle.half_poly.specs.Moving.{moved_face, moved_side, triple_of, AreSlotNames, plane_at, CanMove, IsMovedSlot, SomeLeaves, LiesInWorld}
use Rattle.half_poly.specs.Turned.{turned, AreTurned, AreMovedEdges}
use Rattle.half_poly.proofs.ArenaReads.{there, read, live_is}
use Rattle.half_poly.proofs.Naming.{face_live, face_plane, id_at, no_face}
use Rattle.half_poly.proofs.Shaping.{side_is}
use Rattle.half_poly.proofs.TurnedRound.{stands_like, before, leads_back, next_noted}

-- ---- one slot
slot_is : (r : Motion) (o n : Option Homogeneous) → IsMovedSlot r o n true → n ≡ option_map (moved_at r) o
slot_is r None n m = m.0
slot_is r (Some v) n m = m.0

slot_stays : (r : Motion) (o n : Option Homogeneous) (v : Homogeneous) → o ≡ Some v → IsMovedSlot r o n true → InCube world (moved_at r v)
slot_stays r o n v q m = let k = subst (λ x. IsMovedSlot r x n true) q m in k.1.0 refl

-- what slots without a value read as stays
zeros : (a b c s : ℤ) → a *ℤ pos 0 +ℤ b *ℤ pos 0 +ℤ c *ℤ pos 0 +ℤ pos 0 *ℤ s ≡ pos 0
zeros a b c s = ring (a ∷ b ∷ c ∷ s ∷ []) (search read_ring depth 20) tt

no_length : (a b c : ℤ) → a *ℤ pos 0 +ℤ b *ℤ pos 0 +ℤ c *ℤ pos 0 ≡ pos 0
no_length a b c = ring (a ∷ b ∷ c ∷ []) (search read_ring depth 20) tt

no_way : (x y z : ℤ) → pos 0 +ℤ (pos 0 *ℤ x +ℤ pos 0 *ℤ y +ℤ pos 0 *ℤ z) ≡ pos 0
no_way x y z = ring (x ∷ y ∷ z ∷ []) (search read_ring depth 20) tt

nowhere_stays : (r : Motion) → moved_at r nowhere ≡ nowhere
unfolding dot plus scale
nowhere_stays r = λ i. record {
  vector = record { x = zeros r.matrix.x.x r.matrix.x.y r.matrix.x.z r.shift.x i; y = zeros r.matrix.y.x r.matrix.y.y r.matrix.y.z r.shift.y i; z = zeros r.matrix.z.x r.matrix.z.y r.matrix.z.z r.shift.z i };
  weight = pos 0;
}

no_normal : (r : Motion) → turned_vector r.matrix zero_vector ≡ zero_vector
unfolding dot
no_normal r = λ i. record { x = no_length r.matrix.x.x r.matrix.x.y r.matrix.x.z i; y = no_length r.matrix.y.x r.matrix.y.y r.matrix.y.z i; z = no_length r.matrix.z.x r.matrix.z.y r.matrix.z.z i }

no_distance : (v : Vector) → pos 0 +ℤ dot zero_vector v ≡ pos 0
unfolding dot
no_distance v = no_way v.x v.y v.z

no_plane_stays : (r : Motion) → moved_half r no_plane ≡ no_plane
no_plane_stays r = (λ i. record { normal = no_normal r i; distance = pos 0 +ℤ dot (no_normal r i) r.shift }) ∙ (λ i. record { normal = zero_vector; distance = no_distance r.shift i })

not_zero : (m d : ℤ) → (m ≡ negsuc 0) ⊎ (m ≡ pos 1) → ¬ (d ≡ pos 0) → ¬ (m *ℤ d ≡ pos 0)
not_zero m d (inl e) n z = let y : negsuc 0 *ℤ d ≡ pos 0 = ap (λ k. k *ℤ d) (sym e) ∙ z in n (omega (arith, ints))
not_zero m d (inr e) n z = n (sym (once d) ∙ ap (λ k. k *ℤ d) (sym e) ∙ z)

same_in_world : (p q : Homogeneous) → pos 0 <ℤ p.weight → pos 0 <ℤ q.weight → SamePoint p q → InCube world q → InCube world p
same_in_world p q w x s i = of_walls world p (λ f m. same-in f q p x w (same_point_sym s) (in_walls world q i f m))

-- ---- sides
moved_spaces : (r : Motion) (sides : List Tagged) → IsTurn r.matrix → solid_of (map (moved_side r) sides) ≡ moved_list r (solid_of sides)
moved_spaces r [] t = refl
moved_spaces r (s ∷ sides) t = λ i. half_moved r s.plane t i ∷ moved_spaces r sides t i

module _ (r : Motion) (Fc new : ℕ → Option Face) (passed : (k : ℕ) → new k ≡ option_map (moved_face r) (Fc k)) where
  live_stays : (k : ℕ) → is_some (new k) ≡ is_some (Fc k)
  live_stays k = ap is_some (passed k) ∙ by (Fc k)
    where
      by : (f : Option Face) → is_some (option_map (moved_face r) f) ≡ is_some f
      by None = refl
      by (Some f) = refl

  one_side : (id : FaceId) → IsSome (Fc id.0) → side_at new id ≡ moved_side r (side_at Fc id)
  one_side id h = let x = there (Fc id.0) h in side_is new id (moved_face r x.it) (passed id.0 ∙ ap (option_map (moved_face r)) x.is) ∙ ap (moved_side r) (sym (side_is Fc id x.it x.is))

  pub sides_move : (order : List FaceId) → ((id : FaceId) → id ∈ order → IsSome (Fc id.0)) → sides_of new order ≡ map (moved_side r) (sides_of Fc order)
  sides_move [] h = refl
  sides_move (id ∷ order) h = λ i. one_side id (h id here) i ∷ sides_move order (λ x m. h x (further m)) i

-- ---- the arenas
module _ {V : ℕ → Option Homogeneous} {E : ℕ → Option HalfEdge} {Fc : ℕ → Option Face} {order : List FaceId} (r : Motion) (signed : IsTrue (is_signed_permutation r.matrix)) (sh : IsShape V E Fc order)
    (F2 : ℕ → Option Face) (faces : (k : ℕ) → F2 k ≡ option_map (moved_face r) (Fc k)) where
  abbrev F : List HalfSpace
  F = solid_of (sides_of Fc order)

  abbrev L : Links
  L = links V E Fc

  turn : IsTurn r.matrix
  turn = is_turn r.matrix signed

  pub sides : sides_of F2 order ≡ map (moved_side r) (sides_of Fc order)
  sides = sides_move r Fc F2 faces order sh.listed

  spaces : solid_of (sides_of F2 order) ≡ moved_list r F
  spaces = ap solid_of sides ∙ moved_spaces r (sides_of Fc order) turn

  point_of : (x : ℕ) (v : Homogeneous) → V x ≡ Some v → L.point x ≡ v
  point_of x v q = read (λ (u : Homogeneous). u) nowhere q

  vertex_of : (x : ℕ) (v : Homogeneous) → V x ≡ Some v → IsVertex F v
  vertex_of x v q = subst (IsVertex F) (point_of x v q) (sh.stands.vertex x (live_is q))

  -- where the three faces of a name meet
  record PlaneFor (j : ℕ) (f : HalfSpace) : Type 0 where
    t : ThreePoints
    is : plane_at F2 order j ≡ Some (moved_plane r t)
    half : half_space t ≡ f

  plane_for : (j : ℕ) (f : HalfSpace) → slice_get F j ≡ Some f → PlaneFor j f
  plane_for j f q =
      let id = id_at sh j in
      let l = face_live sh j f q in
      let x = there (Fc id.0) (sh.listed id (member_at order j no_face l)) in record {
        t = x.it.plane;
        is = ap (λ (o : Option FaceId). option_map (λ (g : Face). g.plane) (option_and_then (λ (k : FaceId). F2 k.0) o)) (slice_get-get_or order j no_face l)
            ∙ ap (option_map (λ (g : Face). g.plane)) (faces id.0 ∙ ap (option_map (moved_face r)) x.is);
        half = sym (read (λ (g : Face). half_space g.plane) no_plane x.is) ∙ face_plane sh j f q;
      }

  on_plane : (j : ℕ) (f : HalfSpace) (p : PlaneFor j f) (v : Homogeneous) → side f v ≡ pos 0 → side (half_space (moved_plane r p.t)) (moved_at r v) ≡ pos 0
  on_plane j f p v z = side_plane r p.t v turn ∙ ap (λ k. side k v) p.half ∙ z

  normal_is : (j : ℕ) (f : HalfSpace) (p : PlaneFor j f) → (half_space (moved_plane r p.t)).normal ≡ turned_vector r.matrix f.normal
  normal_is j f p = ap (λ (k : HalfSpace). k.normal) (half_moved r p.t turn ∙ ap (moved_half r) p.half)

  one_or_other : (det r.matrix.x r.matrix.y r.matrix.z ≡ negsuc 0) ⊎ (det r.matrix.x r.matrix.y r.matrix.z ≡ pos 1)
  one_or_other = elim (sign_of r.matrix turn) [ inl s ↦ inl s.is | inr s ↦ inr s.is ]

  pub can_move : (names : List Name) → AreSlotNames V F names → (x : ℕ) → CanMove r F2 order names V x
  can_move names named x v q reduced =
      let m = named x v q in
      let n = triple_of (get_or names x no_name) in
      let a = plane_for n.first m.f m.first in let b = plane_for n.second m.g m.second in let c = plane_for n.third m.h m.third in record {
        f = moved_plane r a.t;
        g = moved_plane r b.t;
        h = moved_plane r c.t;
        first = a.is;
        second = b.is;
        third = c.is;
        on_f = on_plane n.first m.f a v m.on_f;
        on_g = on_plane n.second m.g b v m.on_g;
        on_h = on_plane n.third m.h c v m.on_h;
        independent = λ z. not_zero (det r.matrix.x r.matrix.y r.matrix.z) (det m.f.normal m.g.normal m.h.normal) one_or_other m.independent
            (sym (det_moved r.matrix m.f.normal m.g.normal m.h.normal) ∙ (λ i. det (sym (normal_is n.first m.f a) i) (sym (normal_is n.second m.g b) i) (sym (normal_is n.third m.h c) i)) ∙ z);
        weight = (vertex_of x v q).inside.weight;
        reduced = reduced_onto r v turn reduced;
      }

  -- a vertex that leaves the world
  pub outside : SomeLeaves r V → VertexOutside (solid_of (map (moved_side r) (sides_of Fc order))) world
  outside o = record {
    at = moved_at r o.vertex;
    vertex = subst (λ X. IsVertex X (moved_at r o.vertex)) (sym (moved_spaces r (sides_of Fc order) turn)) (vertex_onto r F o.vertex turn (vertex_of o.slot o.vertex o.there));
    outside = o.outside;
  }

  module _ (V2 : ℕ → Option Homogeneous) (vertices : (x : ℕ) → IsMovedSlot r (V x) (V2 x) true) where
    vertex_lives : (x : ℕ) → is_some (V2 x) ≡ is_some (V x)
    vertex_lives x = ap is_some (slot_is r (V x) (V2 x) (vertices x)) ∙ by (V x)
      where
        by : (o : Option Homogeneous) → is_some (option_map (moved_at r) o) ≡ is_some o
        by None = refl
        by (Some v) = refl

    point_is : (x : ℕ) → option_map_or (λ (v : Homogeneous). v) (V2 x) nowhere ≡ moved_at r (option_map_or (λ (v : Homogeneous). v) (V x) nowhere)
    point_is x = ap (λ o. option_map_or (λ (v : Homogeneous). v) o nowhere) (slot_is r (V x) (V2 x) (vertices x)) ∙ by (V x)
      where
        by : (o : Option Homogeneous) → option_map_or (λ (v : Homogeneous). v) (option_map (moved_at r) o) nowhere ≡ moved_at r (option_map_or (λ (v : Homogeneous). v) o nowhere)
        by None = sym (nowhere_stays r)
        by (Some v) = refl

    plane_is : (k : ℕ) → option_map_or (λ (f : Face). half_space f.plane) (F2 k) no_plane ≡ moved_half r (option_map_or (λ (f : Face). half_space f.plane) (Fc k) no_plane)
    plane_is k = ap (λ o. option_map_or (λ (f : Face). half_space f.plane) o no_plane) (faces k) ∙ by (Fc k)
      where
        by : (o : Option Face) → option_map_or (λ (f : Face). half_space f.plane) (option_map (moved_face r) o) no_plane ≡ moved_half r (option_map_or (λ (f : Face). half_space f.plane) o no_plane)
        by None = sym (no_plane_stays r)
        by (Some f) = half_moved r f.plane turn

    first_is : (k : ℕ) → option_map_or (λ (f : Face). f.first.0) (F2 k) 0 ≡ option_map_or (λ (f : Face). f.first.0) (Fc k) 0
    first_is k = ap (λ o. option_map_or (λ (f : Face). f.first.0) o 0) (faces k) ∙ by (Fc k)
      where
        by : (o : Option Face) → option_map_or (λ (f : Face). f.first.0) (option_map (moved_face r) o) 0 ≡ option_map_or (λ (f : Face). f.first.0) o 0
        by None = refl
        by (Some f) = refl

    -- the half-edges stay
    links_kept : links V2 E F2 ≡ moved_links r L
    links_kept = λ i. record {
      has_vertex = λ x. vertex_lives x i;
      has_edge = L.has_edge;
      has_face = λ k. live_stays r Fc F2 faces k i;
      point = λ x. point_is x i;
      plane = λ k. plane_is k i;
      first = λ k. first_is k i;
      origin = L.origin;
      face = L.face;
      twin = L.twin;
      next = L.next;
    }

    -- the half-edges are turned round
    module _ (E2 : ℕ → Option HalfEdge) (a : AreTurned E E2) where
      same_read : {A : Type 0} (g : HalfEdge → A) (d : A) → ((e : ℕ) (h : HalfEdge) → g (turned E a.table e h) ≡ g h) → (e : ℕ) → option_map_or g (E2 e) d ≡ option_map_or g (E e) d
      same_read {A} g d same e = ap (λ o. option_map_or g o d) (a.passed e) ∙ by (E e)
        where
          by : (o : Option HalfEdge) → option_map_or g (option_map (turned E a.table e) o) d ≡ option_map_or g o d
          by None = refl
          by (Some h) = same e h

      edge_lives : (e : ℕ) → is_some (E2 e) ≡ is_some (E e)
      edge_lives e = ap is_some (a.passed e) ∙ by (E e)
        where
          by : (o : Option HalfEdge) → is_some (option_map (turned E a.table e) o) ≡ is_some o
          by None = refl
          by (Some h) = refl

      abbrev M : Links
      M = turned_links (before V E Fc F sh.neat sh.stands a.table a.within a.before) (moved_links r L)

      links_turned : links V2 E2 F2 ≡ record M { origin = (links V2 E2 F2).origin; next = (links V2 E2 F2).next }
      links_turned = λ i. record {
        has_vertex = λ x. vertex_lives x i;
        has_edge = λ e. edge_lives e i;
        has_face = λ k. live_stays r Fc F2 faces k i;
        point = λ x. point_is x i;
        plane = λ k. plane_is k i;
        first = λ k. first_is k i;
        origin = (links V2 E2 F2).origin;
        face = λ e. same_read (λ (h : HalfEdge). h.face.0) 0 (λ e h. refl) e i;
        twin = λ e. same_read (λ (h : HalfEdge). h.twin.0) 0 (λ e h. refl) e i;
        next = (links V2 E2 F2).next;
      }

      turned_there : (e : ℕ) (h : HasEdge L e) → E2 e ≡ Some (turned E a.table e (there (E e) h).it)
      turned_there e h = a.passed e ∙ ap (option_map (turned E a.table e)) (there (E e) h).is

      origin_is : (e : ℕ) → HasEdge L e → (links V2 E2 F2).origin e ≡ L.origin (L.twin e)
      origin_is e h =
          let x = there (E e) h in
          let y = there (E (L.twin e)) (sh.stands.twin_live e h) in
          let q : L.twin e ≡ x.it.twin.0 = read (λ (k : HalfEdge). k.twin.0) 0 x.is in
          read (λ (k : HalfEdge). k.origin.0) 0 (turned_there e h) ∙ ap (λ (k : VertId). k.0) (read (λ (k : HalfEdge). k.origin) x.it.origin (ap E (sym q) ∙ y.is)) ∙ sym (read (λ (k : HalfEdge). k.origin.0) 0 y.is)

      next_is : (e : ℕ) → HasEdge L e → (links V2 E2 F2).next e ≡ M.next e
      next_is e h = read (λ (k : HalfEdge). k.next.0) 0 (turned_there e h) ∙ next_noted V E Fc F sh.neat sh.stands a.table a.within a.before e h (there (E e) h).it.next

    stands : (E2 : ℕ → Option HalfEdge) (flips : Bool) → flips ≡ is_flip r.matrix → AreMovedEdges flips E E2 → StandsMoved r F (links V2 E2 F2)
    stands E2 false e q = let m = kept_is r F L signed (sym e) sh.neat sh.stands in record {
      neat = m.neat;
      stands = subst (StandsFor (moved_list r F)) (sym (ap (λ X. links V2 X F2) q ∙ links_kept)) m.stands;
    }
    stands E2 true e a = let m = turned_round_is r F L (before V E Fc F sh.neat sh.stands a.table a.within a.before) signed (sym e) sh.neat sh.stands (leads_back V E Fc F sh.neat sh.stands a.table a.within a.before) in record {
      neat = m.neat;
      stands = subst (StandsFor (moved_list r F)) (sym (links_turned E2 a)) (stands_like (moved_list r F) (M E2 a) (links V2 E2 F2).origin (links V2 E2 F2).next (origin_is E2 a) (next_is E2 a) m.stands);
    }

    pub shape : (E2 : ℕ → Option HalfEdge) (flips : Bool) → flips ≡ is_flip r.matrix → AreMovedEdges flips E E2 → IsShape V2 E2 F2 order
    shape E2 flips e a = let m = stands E2 flips e a in record {
      listed = λ id i. subst (λ b. b ≡ true) (sym (live_stays r Fc F2 faces id.0)) (sh.listed id i);
      neat = rw spaces m.neat;
      trimmed = rw spaces (trim_onto r F F turn sh.trimmed);
      volume = rw spaces (has_inside_onto r F turn sh.volume);
      stands = rw spaces m.stands;
    }

    pub lies : (E2 : ℕ → Option HalfEdge) → IsShape V2 E2 F2 order → LiesInWorld (solid_of (sides_of F2 order))
    lies E2 new v h =
        let w = new.stands.vertex_all v h in
        let x = there (V w.slot) (subst (λ b. b ≡ true) (vertex_lives w.slot) w.live) in
        let p : (links V2 E2 F2).point w.slot ≡ moved_at r x.it = point_is w.slot ∙ ap (moved_at r) (point_of w.slot x.it x.is) in
        same_in_world v (moved_at r x.it) h.inside.weight (subst (λ (q : Homogeneous). pos 0 <ℤ q.weight) p (new.stands.vertex w.slot w.live).inside.weight) (subst (SamePoint v) p w.same)
        (slot_stays r (V w.slot) (V2 w.slot) x.it x.is (vertices w.slot))
