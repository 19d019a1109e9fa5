-- The walks round the faces, from the arenas.
use Rattle.std.proofs.Common.{◌≡◌, ℕ, ◌+◌, ◌<◌, ◌≤◌, true, false, List, length, get_or, map, Option, Some, None, nat_lt, refl, sym, ap, subst, ◌∙◌, arith, length-set, inl, inr, ◌⊎◌, ⊎_elim, pos}
use Rattle.std.proofs.Math.ListN.{set}
use Rattle.std.proofs.lemmas.Bool.{cases_eq, cases_lt}
use Rattle.std.proofs.lemmas.Bool.Decides.{nat_tests}
use Rattle.std.proofs.lemmas.List.{length-map, get_or-set_same, get_or-set_other, get_or_past}
use Rattle.algebra.specs.Members.{◌∈◌}
use Rattle.algebra.specs.Space.{Homogeneous, HalfSpace, SamePoint, side}
use Rattle.algebra.proofs.Points.{same_point_refl}
use Rattle.algebra.proofs.Members.{member_at, at_of_member}
use Rattle.half_arena.specs.declared.ids.VertId.{VertId}
use Rattle.half_arena.specs.declared.ids.EdgeId.{EdgeId}
use Rattle.half_arena.specs.declared.ids.FaceId.{FaceId}
use Rattle.exact_geom.specs.Planes.{half_space}
use Rattle.vertex_laws.specs.HalfEdge.{IsHalfEdge}
use Rattle.solid_laws.proofs.Holds.{holds_vertices}
use Rattle.poly_laws.specs.Links.{Links, HasVertex, HasEdge}
use Rattle.half_poly.specs.declared.links.HalfEdge.{HalfEdge}
use Rattle.half_poly.specs.declared.links.Face.{Face}
use Rattle.half_poly.specs.Arenas.{links, no_plane}
use Rattle.half_poly.specs.Shapes.{bounds, solid_of, side_at, sides_of, IsShape}
use Rattle.half_poly.specs.Places.{AreDistinct, AreWithin, ArePlaces}
use Rattle.half_poly.specs.Names.{point_at, AreNamed}
use Rattle.half_poly.specs.Noted.{Table, entry}
use Rattle.half_poly.specs.Rounds.{begin_number, is_less, LeastOf, OfFace, LeastBelow, Least, origin, point, IsFirstOn, LeadsTo, GoesOn}
use Rattle.half_poly.proofs.Making.{one_value, same_value}
use Rattle.half_poly.proofs.ArenaReads.{there, read, live_is}
use Rattle.half_poly.proofs.Shaping.{side_is}
use Rattle.half_poly.proofs.Listed.{get_map}
use Rattle.half_poly.proofs.WalkLaws.{same_number}

no_vertex : VertId
no_vertex = record { 0 = 0 }

abbrev pub vertex_slot : VertId → ℕ
vertex_slot id = id.0

module _ {V : ℕ → Option Homogeneous} {E : ℕ → Option HalfEdge} {Fc : ℕ → Option Face} {order : List FaceId} (sh : IsShape V E Fc order) where
  abbrev L : Links
  L = links V E Fc

  abbrev F : List HalfSpace
  F = solid_of (sides_of Fc order)

  edge_origin : (e : ℕ) (h : HalfEdge) → E e ≡ Some h → L.origin e ≡ h.origin.0
  edge_origin e h q = read (λ (x : HalfEdge). x.origin.0) 0 q

  edge_face : (e : ℕ) (h : HalfEdge) → E e ≡ Some h → L.face e ≡ h.face.0
  edge_face e h q = read (λ (x : HalfEdge). x.face.0) 0 q

  edge_next : (e : ℕ) (h : HalfEdge) → E e ≡ Some h → L.next e ≡ h.next.0
  edge_next e h q = read (λ (x : HalfEdge). x.next.0) 0 q

  module _ (ids : List VertId) (named : AreNamed V F ids) where
    abbrev points : List Homogeneous
    points = map (point_at V) ids

    abbrev id_at : ℕ → VertId
    id_at k = get_or ids k no_vertex

    id_live : (k : ℕ) → k < length ids → HasVertex L (id_at k).0
    id_live k l = named.live (id_at k) (member_at ids k no_vertex l)

    point_is : (k : ℕ) → k < length ids → point points k ≡ L.point (id_at k).0
    point_is k l = get_map (point_at V) ids k no_vertex origin l

    length_points : length points ≡ length ids
    length_points = length-map ids (point_at V)

    -- no vertex is named twice
    pub ids_distinct : AreDistinct (map vertex_slot ids)
    ids_distinct i j l m e =
        let n : j < length ids = subst (λ k. j < k) (length-map ids vertex_slot) m in
        let k : i < length ids = omega arith in
        let q : (id_at i).0 ≡ (id_at j).0 = sym (get_map vertex_slot ids i no_vertex 0 k) ∙ e ∙ get_map vertex_slot ids j no_vertex 0 n in
        let p : point points i ≡ point points j = point_is i k ∙ ap L.point q ∙ sym (point_is j n) in
        let s = same_number i j named.are_vertices (subst (λ x. i < x) (sym length_points) k) (subst (λ x. j < x) (sym length_points) n)
        (subst (λ x. SamePoint (point points i) x) p (same_point_refl (point points i))) in omega arith

    pub ids_within : (limit : ℕ) → ((x : ℕ) (v : Homogeneous) → V x ≡ Some v → x < limit) → AreWithin (map vertex_slot ids) limit
    ids_within limit within i l =
        let k : i < length ids = subst (λ x. i < x) (length-map ids vertex_slot) l in
        let v = there (V (id_at i).0) (id_live i k) in
        subst (λ x. x < limit) (sym (get_map vertex_slot ids i no_vertex 0 k)) (within (id_at i).0 v.it v.is)

    module _ (numbers : List ℕ) (placed : ArePlaces (map vertex_slot ids) numbers (length ids)) where
      number_is : (k : ℕ) → k < length ids → get_or numbers (id_at k).0 0 ≡ k
      number_is k l = ap (λ x. get_or numbers x 0) (sym (get_map vertex_slot ids k no_vertex 0 l)) ∙ placed k l

      record VertexNumber (x : ℕ) : Type 0 where
        within : get_or numbers x 0 < length ids
        slot : (id_at (get_or numbers x 0)).0 ≡ x

      vertex_number : (x : ℕ) → HasVertex L x → VertexNumber x
      vertex_number x h =
          let v = sh.stands.vertex x h in
          let a = (holds_vertices F points named.are_vertices).all (L.point x) v in
          let m = at_of_member points a.s origin a.among in
          let w : m.index < length ids = subst (λ k. m.index < k) length_points m.within in
          let q : x ≡ (id_at m.index).0 = sh.stands.vertex_once x (id_at m.index).0 h (id_live m.index w) (subst (λ p. SamePoint (L.point x) p) (sym m.is ∙ point_is m.index w) a.same) in
          let n : get_or numbers x 0 ≡ m.index = ap (λ y. get_or numbers y 0) q ∙ number_is m.index w in
          record { within = subst (λ k. k < length ids) (sym n) w; slot = ap (λ k. (id_at k).0) n ∙ sym q }

      begin_is : (e : ℕ) → HasEdge L e → begin_number E numbers e ≡ get_or numbers (L.origin e) 0
      begin_is e h = let x = there (E e) h in read (λ (y : HalfEdge). get_or numbers y.origin.0 0) 0 x.is ∙ ap (λ y. get_or numbers y 0) (sym (edge_origin e x.it x.is))

      begin_within : (e : ℕ) → HasEdge L e → begin_number E numbers e < length points
      begin_within e h = subst (λ k. k < length points) (sym (begin_is e h)) (subst (λ k. get_or numbers (L.origin e) 0 < k) (sym length_points) (vertex_number (L.origin e) (sh.stands.origin_live e h)).within)

      begin_point : (e : ℕ) → HasEdge L e → point points (begin_number E numbers e) ≡ L.point (L.origin e)
      begin_point e h =
          let v = vertex_number (L.origin e) (sh.stands.origin_live e h) in
          ap (point points) (begin_is e h) ∙ point_is (get_or numbers (L.origin e) 0) v.within ∙ ap L.point v.slot

      of_face : (e k : ℕ) → HasEdge L e → L.face e ≡ k → OfFace E e k
      of_face e k h q = let x = there (E e) h in record { h = x.it; there = x.is; face_is = sym (edge_face e x.it x.is) ∙ q }

      face_of : (e k : ℕ) → OfFace E e k → L.face e ≡ k
      face_of e k o = edge_face e o.h o.there ∙ o.face_is

      -- ---- the walk round a face
      pub goes_on : (id : FaceId) → id ∈ order → GoesOn F points (bounds (side_at Fc id)) E numbers id.0
      goes_on id m = record {
        face_of = record { neat = sh.neat; vertices = named.are_vertices; among = f_in };
        next = λ e h q i. next_of e h q i;
        leads = leads;
        one = λ e d o p i. sh.stands.one_each e d (live_is o.there) (live_is p.there) (same_origin e d (live_is o.there) (live_is p.there) i) (face_of e id.0 o ∙ sym (face_of d id.0 p));
      }
        where
          plane_is : L.plane id.0 ≡ bounds (side_at Fc id)
          plane_is = let x = there (Fc id.0) (sh.listed id m) in read (λ (f : Face). half_space f.plane) no_plane x.is ∙ sym (ap bounds (side_is Fc id x.it x.is))

          f_in : bounds (side_at Fc id) ∈ F
          f_in = subst (λ f. f ∈ F) plane_is (sh.stands.face_in id.0 (sh.listed id m))

          next_of : (e : ℕ) (h : HalfEdge) → E e ≡ Some h → h.face.0 ≡ id.0 → OfFace E h.next.0 id.0
          next_of e h q i = let l = live_is q in of_face h.next.0 id.0 (subst (λ d. HasEdge L d) (edge_next e h q) (sh.stands.next_live e l))
              (ap L.face (sym (edge_next e h q)) ∙ sh.stands.same_face e l ∙ edge_face e h q ∙ i)

          same_origin : (e d : ℕ) → HasEdge L e → HasEdge L d → begin_number E numbers e ≡ begin_number E numbers d → L.origin e ≡ L.origin d
          same_origin e d h k i =
              let v = vertex_number (L.origin e) (sh.stands.origin_live e h) in let w = vertex_number (L.origin d) (sh.stands.origin_live d k) in
              sym v.slot ∙ ap (λ j. (id_at j).0) (sym (begin_is e h) ∙ i ∙ begin_is d k) ∙ w.slot

          leads : (e : ℕ) (h : HalfEdge) → E e ≡ Some h → h.face.0 ≡ id.0 → LeadsTo F points (bounds (side_at Fc id)) (begin_number E numbers e) (begin_number E numbers h.next.0)
          leads e h q i =
              let l = live_is q in let n = next_of e h q i in let k = live_is n.there in
              let to : L.point (L.origin (L.twin e)) ≡ point points (begin_number E numbers h.next.0) = ap L.point (sym (sh.stands.meets e l) ∙ ap L.origin (edge_next e h q)) ∙ sym (begin_point h.next.0 k) in
              let own : L.plane (L.face e) ≡ bounds (side_at Fc id) = ap L.plane (edge_face e h q ∙ i) ∙ plane_is in record {
                within = begin_within h.next.0 k;
                edge = record {
                  g = L.plane (L.face (L.twin e));
                  edge = moved (L.plane (L.face e)) (bounds (side_at Fc id)) (L.plane (L.face (L.twin e))) (L.point (L.origin e)) (point points (begin_number E numbers e)) (L.point (L.origin (L.twin e)))
                      (point points (begin_number E numbers h.next.0)) own (sym (begin_point e l)) to (sh.stands.edge e l);
                };
              }
            where
              moved : (f k g : HalfSpace) (a b c d : Homogeneous) → f ≡ k → a ≡ b → c ≡ d → IsHalfEdge F f g a c → IsHalfEdge F k g b d
              moved f k g a b c d q r s x = rw (← q, ← r, ← s) x

      -- ---- where the walk begins
      pub least_first : (id : FaceId) → id ∈ order → (table : Table) → Least E numbers table → id.0 < length table → (first : EdgeId) → entry table id.0 ≡ Some first →
          OfFace E first.0 id.0 × IsFirstOn points (bounds (side_at Fc id)) (begin_number E numbers first.0)
      least_first id m table t w first q =
          let o = t.names id.0 first q in let l = live_is o.there in
          let g = (goes_on id m).leads first.0 o.h o.there o.face_is in (
            o,
            record {
              here = record { within = begin_within first.0 l; on = g.edge.edge.a_on_f };
              before = before;
            },
          )
        where
          plane_is : bounds (side_at Fc id) ≡ L.plane id.0
          plane_is = let x = there (Fc id.0) (sh.listed id m) in ap bounds (side_is Fc id x.it x.is) ∙ sym (read (λ (f : Face). half_space f.plane) no_plane x.is)

          before : (j : ℕ) → j < begin_number E numbers first.0 → ¬ (side (bounds (side_at Fc id)) (point points j) ≡ pos 0)
          before j l z =
              let o = t.names id.0 first q in
              let b = begin_within first.0 (live_is o.there) in
              let e = length_points in
              let k : j < length ids = omega arith in
              let s = sh.stands.edge_all (id_at j).0 id.0 (id_live j k) (sh.listed id m) (at_both (bounds (side_at Fc id)) (L.plane id.0) (point points j) (L.point (id_at j).0) plane_is (point_is j k) z) in
              let x = there (E s.slot) s.live in
              let f : x.it.face.0 ≡ id.0 = sym (edge_face s.slot x.it x.is) ∙ s.face_is in
              let n : begin_number E numbers s.slot ≡ j = begin_is s.slot s.live ∙ ap (λ y. get_or numbers y 0) s.origin_is ∙ number_is j k in
              let a = t.some s.slot x.it x.is (subst (λ y. y < length table) (sym f) w) in
              let same : a.id ≡ first = same_value (ap (λ y. entry table y) (sym f) ∙ a.entry_is) q in
              let c : begin_number E numbers first.0 ≤ begin_number E numbers s.slot = subst (λ (y : EdgeId). begin_number E numbers y.0 ≤ begin_number E numbers s.slot) same a.least in
              omega arith
            where
              at_both : (f g : HalfSpace) (p r : Homogeneous) → f ≡ g → p ≡ r → side f p ≡ pos 0 → side g r ≡ pos 0
              at_both f g p r q s z = rw (← q, ← s) z

      pub has_first : (id : FaceId) → id ∈ order → (table : Table) → Least E numbers table → id.0 < length table → ¬ (entry table id.0 ≡ None)
      has_first id m table t w n =
          let e = L.first id.0 in let l = sh.stands.first_live id.0 (sh.listed id m) in
          let x = there (E e) l in
          let f : x.it.face.0 ≡ id.0 = sym (edge_face e x.it x.is) ∙ sh.stands.first_face id.0 (sh.listed id m) in
          let a = t.some e x.it x.is (subst (λ y. y < length table) (sym f) w) in
          one_value (ap (λ y. entry table y) (sym f) ∙ a.entry_is) n

-- ---- the table of half-edges from the least numbers
less_is : {a b : ℕ} → nat_lt a b ≡ true → a < b
less_is {a} {b} h = grind (arith, nat_tests)

not_less_is : {a b : ℕ} → nat_lt a b ≡ false → b ≤ a
not_less_is {a} {b} h = grind (arith, nat_tests)

module _ (E : ℕ → Option HalfEdge) (numbers : List ℕ) (table : Table) (n : ℕ) (b : LeastBelow E numbers table n) where
  abbrev num : ℕ → ℕ
  num e = begin_number E numbers e

  pub least_skip : E n ≡ None → LeastBelow E numbers table (n + 1)
  least_skip q = record {
    some = λ e h l i w. ⊎_elim (λ (s : e ≡ n). one_value i (ap E s ∙ q)) (λ (d : ¬ (e ≡ n)). b.some e h (omega arith) i w) (cases_eq e n);
    names = b.names;
  }

  pub least_stay : (h : HalfEdge) → E n ≡ Some h → is_less E numbers n (entry table h.face.0) ≡ false → LeastBelow E numbers table (n + 1)
  least_stay h q t = record {
    some = λ e k l i w. ⊎_elim (λ (s : e ≡ n). at_n e k s i) (λ (d : ¬ (e ≡ n)). b.some e k (omega arith) i w) (cases_eq e n);
    names = b.names;
  }
    where
      noted : (o : Option EdgeId) → entry table h.face.0 ≡ o → is_less E numbers n o ≡ false → LeastOf E numbers table h.face.0 (num n)
      noted None i f = absurd (cc)
      noted (Some id) i f = record { id = id; entry_is = i; least = not_less_is f }

      at_n : (e : ℕ) (k : HalfEdge) → e ≡ n → E e ≡ Some k → LeastOf E numbers table k.face.0 (num e)
      at_n e k s i = let m : h ≡ k = same_value q (sym (ap E s) ∙ i) in
          subst (λ (x : HalfEdge). LeastOf E numbers table x.face.0 (num e)) m (subst (λ d. LeastOf E numbers table h.face.0 (num d)) (sym s) (noted (entry table h.face.0) refl t))

  pub least_note : (h : HalfEdge) (id : EdgeId) → E n ≡ Some h → id.0 ≡ n → is_less E numbers n (entry table h.face.0) ≡ true → LeastBelow E numbers (set table h.face.0 (Some id)) (n + 1)
  least_note h id q j t = record {
    some = λ e k l i w. some e k l i (subst (λ x. k.face.0 < x) (length-set table h.face.0 (Some id)) w) (cases_eq e n) (cases_eq k.face.0 h.face.0);
    names = λ k o i. names k o i (cases_eq k h.face.0);
  }
    where
      changed : Table
      changed = set table h.face.0 (Some id)

      here : (k : ℕ) → k < length table → k ≡ h.face.0 → entry changed k ≡ Some id
      here k w e = ap (entry changed) e ∙ get_or-set_same table h.face.0 (Some id) None (subst (λ x. x < length table) e w)

      there_is : (k : ℕ) → ¬ (k ≡ h.face.0) → entry changed k ≡ entry table k
      there_is k d = get_or-set_other table h.face.0 k (Some id) None d

      num_id : num id.0 ≡ num n
      num_id = ap num j

      before : (e : ℕ) (k : HalfEdge) → k.face.0 < length table → k.face.0 ≡ h.face.0 → LeastOf E numbers table k.face.0 (num e) → (o : Option EdgeId) → entry table h.face.0 ≡ o → is_less E numbers n o ≡ true → LeastOf E numbers changed k.face.0 (num e)
      before e k w s a None i f = one_value a.entry_is (ap (entry table) s ∙ i)
      before e k w s a (Some o) i f =
          let m : a.id ≡ o = same_value (sym (ap (entry table) s) ∙ a.entry_is) i in
          let l : num n < num o.0 = less_is f in
          let g : num o.0 ≤ num e = subst (λ (x : EdgeId). num x.0 ≤ num e) m a.least in
          record { id = id; entry_is = here k.face.0 w s; least = subst (λ x. x ≤ num e) (sym num_id) (omega arith) }

      some : (e : ℕ) (k : HalfEdge) → e < n + 1 → E e ≡ Some k → k.face.0 < length table → (e ≡ n) ⊎ ¬ (e ≡ n) → (k.face.0 ≡ h.face.0) ⊎ ¬ (k.face.0 ≡ h.face.0) → LeastOf E numbers changed k.face.0 (num e)
      some e k l i w (inl s) (inl f) = record { id = id; entry_is = here k.face.0 w f; least = subst (λ x. x ≤ num e) (sym num_id) (subst (λ x. num x ≤ num e) s (omega arith)) }
      some e k l i w (inl s) (inr f) = absurd (f (ap (λ (x : HalfEdge). x.face.0) (same_value (sym (ap E s) ∙ i) q)))
      some e k l i w (inr d) (inl f) = before e k w f (b.some e k (omega arith) i w) (entry table h.face.0) refl t
      some e k l i w (inr d) (inr f) = let a = b.some e k (omega arith) i w in record { id = a.id; entry_is = there_is k.face.0 f ∙ a.entry_is; least = a.least }

      names : (k : ℕ) (o : EdgeId) → entry changed k ≡ Some o → (k ≡ h.face.0) ⊎ ¬ (k ≡ h.face.0) → OfFace E o.0 k
      names k o i (inr d) = b.names k o (sym (there_is k d) ∙ i)
      names k o i (inl e) = ⊎_elim
          (λ (w : k < length table). let m : id ≡ o = same_value (here k w e) i in record { h = h; there = ap E (ap (λ (x : EdgeId). x.0) (sym m) ∙ j) ∙ q; face_is = sym e })
          (λ (w : length table ≤ k). one_value i (get_or_past changed k None (subst (λ x. x ≤ k) (sym (length-set table h.face.0 (Some id))) w)))
          (cases_lt k (length table))

pub least_all : {E : ℕ → Option HalfEdge} {numbers : List ℕ} {table : Table} {n : ℕ} → LeastBelow E numbers table n → ((e : ℕ) (h : HalfEdge) → E e ≡ Some h → e < n) → Least E numbers table
least_all b within = record { some = λ e h q w. b.some e h (within e h q) q w; names = b.names }

pub least_none : {E : ℕ → Option HalfEdge} {numbers : List ℕ} (table : Table) → ((k : ℕ) → entry table k ≡ None) → LeastBelow E numbers table 0
least_none table none = record { some = λ e h l. absurd (omega arith); names = λ k id q. one_value q (none k) }

pub least_noted : {E : ℕ → Option HalfEdge} {numbers : List ℕ} {table after : Table} {n face : ℕ} (h : HalfEdge) (id : EdgeId) → E n ≡ Some h → id.0 ≡ n → face ≡ h.face.0 → after ≡ set table face (Some id) →
    is_less E numbers id.0 (get_or table face None) ≡ true → LeastBelow E numbers table n → LeastBelow E numbers after (n + 1)
least_noted {E} {numbers} {table} {after} {n} {face} h id q j f s t b = subst (λ x. LeastBelow E numbers x (n + 1)) (sym (s ∙ ap (λ k. set table k (Some id)) f))
    (least_note E numbers table n b h id q j (ap (λ k. is_less E numbers k (entry table h.face.0)) (sym j) ∙ ap (λ k. is_less E numbers id.0 (entry table k)) (sym f) ∙ t))
