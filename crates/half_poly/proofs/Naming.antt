-- The names of the vertices in the arenas.
use Rattle.std.proofs.Common.{◌≡◌, ℕ, ◌<◌, ◌≤◌, List, length, get_or, map, slice_get, Option, Some, sym, ap, subst, ◌∙◌, arith, ◌⊎◌, ℤ, pos, ◌<ℤ◌}
use Rattle.std.proofs.lemmas.Int.{ints}
use Rattle.std.proofs.lemmas.List.{length-map}
use Rattle.std.proofs.lemmas.Option.{slice_get-get_or, get_or_from_slice_get, slice_get_within}
use Rattle.algebra.specs.Members.{◌∈◌}
use Rattle.algebra.specs.Space.{Homogeneous, HalfSpace, det, side}
use Rattle.algebra.proofs.Identities.{det-turn, det-equal_12, det-equal_23}
use Rattle.algebra.proofs.Members.{member_at, at_of_member}
use Rattle.half_arena.specs.declared.ids.FaceId.{FaceId}
use Rattle.exact_geom.specs.Planes.{half_space}
use Rattle.solid_laws.specs.Names.{Triple, IsName}
use Rattle.poly_laws.specs.Links.{Links, HasVertex, HasFace}
use Rattle.poly_laws.proofs.Three.{three_faces}
use Rattle.half_poly.specs.declared.links.HalfEdge.{HalfEdge}
use Rattle.half_poly.specs.declared.links.Face.{Face}
use Rattle.half_poly.specs.declared.names.Name.{Name}
use Rattle.half_poly.specs.Arenas.{links, no_plane}
use Rattle.half_poly.specs.Shapes.{no_side, bounds, solid_of, side_at, sides_of, IsShape}
use Rattle.half_poly.specs.Places.{ArePlaces}
use Rattle.half_poly.specs.Names.{AreLeast, MeetsBelow}
use Rattle.half_poly.proofs.ArenaReads.{there, read, live_is}
use Rattle.half_poly.proofs.Shaping.{side_is}
use Rattle.half_poly.proofs.Listed.{get_map}
use Rattle.half_poly.proofs.Least.{AreThree, are_three}

-- ---- plain facts
some_is : {A : Type 0} {x y : A} → Some x ≡ Some y → x ≡ y
some_is {A} {x} {y} q = cc

pub positive_apart : {a : ℤ} → pos 0 <ℤ a → ¬ (a ≡ pos 0)
positive_apart {a} h q = omega (arith, ints)

pub planes_apart : (f g h : HalfSpace) → ¬ (det f.normal g.normal h.normal ≡ pos 0) → (¬ (f ≡ g)) × (¬ (g ≡ h)) × (¬ (h ≡ f))
planes_apart f g h n = (
  λ e. n (subst (λ (k : HalfSpace). det f.normal k.normal h.normal ≡ pos 0) e (det-equal_12 f.normal h.normal)),
  λ e. n (subst (λ (k : HalfSpace). det f.normal g.normal k.normal ≡ pos 0) e (det-equal_23 f.normal g.normal)),
  λ e. n (subst (λ (k : HalfSpace). det f.normal g.normal k.normal ≡ pos 0) (sym e) (det-turn f.normal f.normal g.normal ∙ det-equal_12 f.normal g.normal)),
)

not_earlier : (i j k a b c : ℕ) → (i ≡ a) ⊎ (i ≡ b) ⊎ (c ≤ i) → (j ≡ a) ⊎ (j ≡ b) ⊎ (c ≤ j) → (k ≡ a) ⊎ (k ≡ b) ⊎ (c ≤ k) → a < b → b < c → ¬ (i ≡ j) → ¬ (j ≡ k) → ¬ (k ≡ i) →
    ¬ ((i < a) ⊎ ((i ≡ a) × ((j < b) ⊎ ((j ≡ b) × (k < c)))))
not_earlier i j k a b c u v w l m d e f x = grind arith

-- ---- the faces by their numbers
abbrev pub no_face : FaceId
no_face = record { 0 = 0 }

abbrev pub slot_of : FaceId → ℕ
slot_of id = id.0

abbrev pub triple : Name → Triple
triple n = record { first = n.first; second = n.second; third = n.third }

module _ {V : ℕ → Option Homogeneous} {E : ℕ → Option HalfEdge} {Fc : ℕ → Option Face} {order : List FaceId} (sh : IsShape V E Fc order) where
  abbrev L : Links
  L = links V E Fc

  abbrev pub F : List HalfSpace
  F = solid_of (sides_of Fc order)

  abbrev pub id_at : ℕ → FaceId
  id_at j = get_or order j no_face

  pub length_F : length F ≡ length order
  length_F = length-map (sides_of Fc order) bounds ∙ length-map order (side_at Fc)

  -- ---- the face with number j
  id_live : (j : ℕ) → j < length order → HasFace L (id_at j).0
  id_live j l = sh.listed (id_at j) (member_at order j no_face l)

  id_plane : (j : ℕ) → j < length order → get_or F j no_plane ≡ L.plane (id_at j).0
  id_plane j l =
      let x = there (Fc (id_at j).0) (id_live j l) in
      get_map bounds (sides_of Fc order) j no_side no_plane (subst (λ n. j < n) (sym (length-map order (side_at Fc))) l)
      ∙ ap bounds (get_map (side_at Fc) order j no_face no_side l) ∙ ap bounds (side_is Fc (id_at j) x.it x.is)
      ∙ sym (read (λ (f : Face). half_space f.plane) no_plane x.is)

  pub face_live : (j : ℕ) (f : HalfSpace) → slice_get F j ≡ Some f → j < length order
  face_live j f q = subst (λ n. j < n) length_F (slice_get_within F j f q)

  pub face_plane : (j : ℕ) (f : HalfSpace) → slice_get F j ≡ Some f → L.plane (id_at j).0 ≡ f
  face_plane j f q = sym (id_plane j (face_live j f q)) ∙ get_or_from_slice_get F j f no_plane q

  pub plane_read : (j : ℕ) → j < length order → slice_get F j ≡ Some (L.plane (id_at j).0)
  plane_read j l = slice_get-get_or F j no_plane (subst (λ n. j < n) (sym length_F) l) ∙ ap (λ (f : HalfSpace). Some f) (id_plane j l)

  pub record NumberOf (k : ℕ) : Type 0 where
    pub number : ℕ
    pub within : number < length order
    pub slot : (id_at number).0 ≡ k

  pub number_of : (k : ℕ) → HasFace L k → NumberOf k
  number_of k h =
      let a = at_of_member F (L.plane k) no_plane (sh.stands.face_in k h) in
      let w : a.index < length order = subst (λ n. a.index < n) length_F a.within in
      record { number = a.index; within = w; slot = sh.stands.face_once (id_at a.index).0 k (id_live a.index w) h (sym (id_plane a.index w) ∙ a.is) }

  -- ---- the numbers of faces at a vertex
  module _ (numbers : List ℕ) (placed : ArePlaces (map slot_of order) numbers (length order)) where
    number_is : (j : ℕ) → j < length order → get_or numbers (id_at j).0 0 ≡ j
    number_is j l = ap (λ k. get_or numbers k 0) (sym (get_map slot_of order j no_face 0 l)) ∙ placed j l

    pub one_place : (i j : ℕ) (f g : HalfSpace) → slice_get F i ≡ Some f → slice_get F j ≡ Some g → f ≡ g → i ≡ j
    one_place i j f g p q e =
        let l = face_live i f p in let m = face_live j g q in
        sym (number_is i l) ∙ ap (λ k. get_or numbers k 0) (sh.stands.face_once (id_at i).0 (id_at j).0 (id_live i l) (id_live j m) (face_plane i f p ∙ e ∙ sym (face_plane j g q))) ∙ number_is j m

    pub number_within : (e : ℕ) (h : HalfEdge) → E e ≡ Some h → get_or numbers h.face.0 0 < length order
    number_within e h q =
        let k = number_of h.face.0 (subst (λ k. HasFace L k) (read (λ (x : HalfEdge). x.face.0) 0 q) (sh.stands.face_live e (live_is q))) in
        subst (λ n. n < length order) (sym (number_is k.number k.within) ∙ ap (λ k. get_or numbers k 0) k.slot) k.within

    -- The face with number j goes through the vertex in slot x.
    pub record GoesThrough (x j : ℕ) : Type 0 where
      pub f : HalfSpace
      pub is : slice_get F j ≡ Some f
      pub on : side f (L.point x) ≡ pos 0

    pub through_of_meets : (n x j : ℕ) → MeetsBelow E numbers n x j → GoesThrough x j
    through_of_meets n x j m =
        let live = live_is m.there in
        let slot : L.face m.e ≡ m.h.face.0 = read (λ (y : HalfEdge). y.face.0) 0 m.there in
        let from : L.origin m.e ≡ x = read (λ (y : HalfEdge). y.origin.0) 0 m.there ∙ m.from in
        let k = number_of m.h.face.0 (subst (λ k. HasFace L k) slot (sh.stands.face_live m.e live)) in
        let number : k.number ≡ j = sym (number_is k.number k.within) ∙ ap (λ k. get_or numbers k 0) k.slot ∙ m.face in record {
          f = L.plane m.h.face.0;
          is = subst (λ i. slice_get F i ≡ Some (L.plane m.h.face.0)) number (plane_read k.number k.within ∙ ap (λ i. Some (L.plane i)) k.slot);
          on = at_x (L.face m.e) (L.origin m.e) m.h.face.0 x slot from (sh.stands.edge m.e live).a_on_f;
        }
      where
        at_x : (k o l p : ℕ) → k ≡ l → o ≡ p → side (L.plane k) (L.point o) ≡ pos 0 → side (L.plane l) (L.point p) ≡ pos 0
        at_x k o l p q r s = rw (← q, ← r) s

    pub meets_of_through : (n x j : ℕ) → ((e : ℕ) (h : HalfEdge) → E e ≡ Some h → e < n) → HasVertex L x → GoesThrough x j → MeetsBelow E numbers n x j
    meets_of_through n x j within live t =
        let l = face_live j t.f t.is in
        let k = (id_at j).0 in
        let s = sh.stands.edge_all x k live (id_live j l) (subst (λ f. side f (L.point x) ≡ pos 0) (sym (face_plane j t.f t.is)) t.on) in
        let h = there (E s.slot) s.live in record {
          e = s.slot;
          h = h.it;
          below = within s.slot h.it h.is;
          there = h.is;
          from = sym (read (λ (y : HalfEdge). y.origin.0) 0 h.is) ∙ s.origin_is;
          face = ap (λ i. get_or numbers i 0) (sym (read (λ (y : HalfEdge). y.face.0) 0 h.is) ∙ s.face_is) ∙ number_is j l;
        }

    -- ---- the name of a vertex
    through_at : (x : ℕ) (f : HalfSpace) → f ∈ F → side f (L.point x) ≡ pos 0 → (j : ℕ) × GoesThrough x j × (slice_get F j ≡ Some f)
    through_at x f m z =
        let a = at_of_member F f no_plane m in
        let q = slice_get-get_or F a.index no_plane a.within ∙ ap (λ (g : HalfSpace). Some g) a.is in
        (a.index, record { f = f; is = q; on = z }, q)

    -- the three least numbers of faces are the name
    pub is_name : (x : ℕ) (n : Name) (limit : ℕ) → HasVertex L x → ((e : ℕ) (h : HalfEdge) → E e ≡ Some h → e < limit) → AreLeast (MeetsBelow E numbers limit x) (length order) n → IsName F (L.point x) (triple n)
    is_name x n limit live within least =
        let v = sh.stands.vertex x live in
        let d = planes_apart v.f v.g v.h (positive_apart v.independent) in
        let i = through_at x v.f v.f_in v.on_f in let j = through_at x v.g v.g_in v.on_g in let k = through_at x v.h v.h_in v.on_h in
        let t : AreThree (MeetsBelow E numbers limit x) n = are_three least i.0 j.0 k.0
        (meets_of_through limit x i.0 within live i.1) (meets_of_through limit x j.0 within live j.1) (meets_of_through limit x k.0 within live k.1)
        (face_live i.0 v.f i.2) (face_live j.0 v.g j.2) (face_live k.0 v.h k.2)
        (places_apart i.0 j.0 v.f v.g i.2 j.2 d.0) (places_apart j.0 k.0 v.g v.h j.2 k.2 d.1) (places_apart k.0 i.0 v.h v.f k.2 i.2 d.2) in
        let a = through_of_meets limit x n.first t.first_in in let b = through_of_meets limit x n.second t.second_in in let c = through_of_meets limit x n.third t.third_in in record {
          meet = record {
            f = a.f;
            g = b.f;
            h = c.f;
            first = a.is;
            second = b.is;
            third = c.is;
            on_f = a.on;
            on_g = b.on;
            on_h = c.on;
            independent = three_faces F a.f b.f c.f (L.point x) sh.volume.at sh.neat sh.volume.inside v.inside.weight (in_list n.first a.f a.is) (in_list n.second b.f b.is) (in_list n.third c.f c.is)
                a.on b.on c.on (λ e. let q = one_place n.first n.second a.f b.f a.is b.is e in let l = t.second_after in omega arith)
                (λ e. let q = one_place n.second n.third b.f c.f b.is c.is e in let l = t.third_after in omega arith)
                (λ e. let q = one_place n.third n.first c.f a.f c.is a.is e in let l = t.second_after in let m = t.third_after in omega arith);
          };
          least = λ s m e. not_earlier s.first s.second s.third n.first n.second n.third
              (t.all s.first (meets_of_through limit x s.first within live (record { f = m.f; is = m.first; on = m.on_f })))
              (t.all s.second (meets_of_through limit x s.second within live (record { f = m.g; is = m.second; on = m.on_g })))
              (t.all s.third (meets_of_through limit x s.third within live (record { f = m.h; is = m.third; on = m.on_h })))
              t.second_after t.third_after
              (places_apart s.first s.second m.f m.g m.first m.second (planes_apart m.f m.g m.h m.independent).0)
              (places_apart s.second s.third m.g m.h m.second m.third (planes_apart m.f m.g m.h m.independent).1)
              (places_apart s.third s.first m.h m.f m.third m.first (planes_apart m.f m.g m.h m.independent).2) e;
        }
      where
        places_apart : (i j : ℕ) (f g : HalfSpace) → slice_get F i ≡ Some f → slice_get F j ≡ Some g → ¬ (f ≡ g) → ¬ (i ≡ j)
        places_apart i j f g p q d e = d (some_is (sym p ∙ ap (λ k. slice_get F k) e ∙ q))

        in_list : (j : ℕ) (f : HalfSpace) → slice_get F j ≡ Some f → f ∈ F
        in_list j f q = subst (λ g. g ∈ F) (get_or_from_slice_get F j f no_plane q) (member_at F j no_plane (slice_get_within F j f q))
