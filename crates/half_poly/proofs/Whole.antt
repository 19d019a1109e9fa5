-- The arenas that are kept are a polyhedron.
use Rattle.std.proofs.Common.{◌≡◌, ℕ, zero, suc, ◌<◌, ◌≤◌, List, [], ◌∷◌, length, get_or, Option, Some, None, true, false, is_some, refl, sym, ap, subst, ◌∙◌, arith, ⊎_elim, pos}
use Rattle.std.proofs.lemmas.Int.{ints}
use Rattle.std.proofs.lemmas.Bool.{cases_lt}
use Rattle.std.proofs.lemmas.List.{get_or_past}
use Rattle.algebra.specs.Members.{◌∈◌, here, there as further}
use Rattle.algebra.specs.Space.{HalfSpace, dot, cross}
use Rattle.algebra.proofs.Identities.{norm-cross_self}
use Rattle.algebra.proofs.Members.{member_at}
use Rattle.half_arena.specs.Slots.{contents}
use Rattle.half_arena.specs.declared.ids.VertId.{VertId}
use Rattle.vertex_laws.specs.Vertex.{Crosses}
use Rattle.vertex_laws.proofs.HalfEdge.{edge_crosses}
use Rattle.poly_laws.specs.Links.{Links, HasEdge, own_plane, other_plane}
use Rattle.poly_laws.proofs.Round.{one_half_edge, goes_round}
use Rattle.half_poly.specs.declared.links.Face.{Face}
use Rattle.half_poly.specs.declared.shape.Shape.{Shape}
use Rattle.exact_geom.specs.Planes.{half_space}
use Rattle.poly_laws.specs.Stands.{StandsFor}
use Rattle.half_poly.specs.Arenas.{links, no_plane}
use Rattle.half_poly.specs.Shapes.{Tagged, bounds, solid_of, side_at, sides_of, DistinctTags, one_more_side}
use Rattle.half_poly.specs.Readings.{IsPoly}
use Rattle.half_poly.specs.Polyhedron.{HasTwin, IsPolyhedron, HasPolyhedron, PolyhedronLaw}
use Rattle.half_poly.proofs.ArenaReads.{there, read, live_is}
use Rattle.half_poly.proofs.Listed.{source, image}
use Rattle.half_poly.proofs.Naming.{number_of, id_at, no_face}
use Rattle.half_poly.proofs.Shaping.{side_is}
use Rattle.half_poly.proofs.Halves.{is_edge}

-- the numbers below n
pub below : ℕ → List ℕ
below zero = []
below (suc n) = n ∷ below n

pub in_below : (n k : ℕ) → k < n → k ∈ below n
unfolding below
in_below zero k l = absurd (omega arith)
in_below (suc n) k l = ⊎_elim (λ (i : k < n). further (in_below n k i)) (λ (i : n ≤ k). let e : k ≡ n = omega arith in subst (λ j. j ∈ (n ∷ below n)) (sym e) here) (cases_lt k n)

within_slots : {A : Type 0} (slots : List (Option A)) (e : ℕ) → is_some (get_or slots e None) ≡ true → e < length slots
within_slots slots e h = ⊎_elim (λ l. l) (λ l. let n = get_or_past slots e None l in absurd (no_live (ap is_some (sym n) ∙ h))) (cases_lt e (length slots))
  where
    no_live : false ≡ true → ⊥
    no_live q = cc

-- one tag, one side
one_side : (sides : List Tagged) → DistinctTags sides → (s t : Tagged) → s ∈ sides → t ∈ sides → s.tag ≡ t.tag → s ≡ t
one_side [] d s t m n q = elim m [ ]
one_side (x ∷ sides) d s t here here q = refl
one_side (x ∷ sides) (one_more_side apart others) s t here (further n) q = absurd (apart t n q)
one_side (x ∷ sides) (one_more_side apart others) s t (further m) here q = absurd (apart s m (sym q))
one_side (x ∷ sides) (one_more_side apart others) s t (further m) (further n) q = one_side sides others s t m n q

apart_planes : (f g : HalfSpace) → Crosses f g → ¬ (f ≡ g)
apart_planes f g c q =
    let z : dot (cross f.normal f.normal) (cross f.normal f.normal) ≡ pos 0 = norm-cross_self f.normal in
    let d : Crosses f f = subst (λ k. Crosses f k) (sym q) c in absurd (omega (arith, ints))

module _ (shape : Shape) (named : List VertId) (loops : List (List ℕ)) (p : IsPoly shape named loops) where
  abbrev sides : List Tagged
  sides = sides_of (contents shape.faces) shape.order.items

  abbrev F : List HalfSpace
  F = solid_of sides

  abbrev L : Links
  L = links (contents shape.vertices) (contents shape.edges) (contents shape.faces)

  abbrev s : StandsFor F L
  s = p.stands.stands

  twin_of : (e : ℕ) → HasEdge L e → HasTwin F L e
  twin_of e h = let x = s.edge e h in record {
    live = s.twin_live e h;
    back = s.twin_twin e h;
    from = refl;
    to = ap (λ d. L.point (L.origin d)) (s.twin_twin e h);
    own_in = x.f_in;
    other_in = x.g_in;
    apart = apart_planes (own_plane L e) (other_plane L e) (edge_crosses x);
    from_on_own = x.a_on_f;
    to_on_own = x.b_on_f;
    from_on_other = x.a_on_g;
    to_on_other = x.b_on_g;
  }

  face_in : (k : ℕ) (f : Face) → contents shape.faces k ≡ Some f → record { plane = f.plane; tag = f.tag } ∈ sides
  face_in k f q =
      let n = number_of p.stands k (live_is q) in
      let id = id_at p.stands n.number in
      subst (λ (x : Tagged). x ∈ sides) (side_is (contents shape.faces) id f (ap (contents shape.faces) n.slot ∙ q)) (image (side_at (contents shape.faces)) shape.order.items id (member_at shape.order.items n.number no_face n.within))

  same_plane : (k l : ℕ) (f g : Face) → contents shape.faces k ≡ Some f → contents shape.faces l ≡ Some g → f.tag ≡ g.tag → L.plane k ≡ L.plane l
  same_plane k l f g q r t =
      read (λ (x : Face). half_space x.plane) no_plane q ∙ ap bounds (one_side sides p.tags (record { plane = f.plane; tag = f.tag }) (record { plane = g.plane; tag = g.tag }) (face_in k f q) (face_in l g r) t)
      ∙ sym (read (λ (x : Face). half_space x.plane) no_plane r)

  pub polyhedron : IsPolyhedron sides (contents shape.vertices) (contents shape.edges) (contents shape.faces)
  polyhedron = record {
    vertex = s.vertex;
    vertex_once = s.vertex_once;
    vertex_all = s.vertex_all;
    edge = λ e h. is_edge shape.edges.slots p.stands e h;
    edge_all = λ a b d. one_half_edge F L a b p.stands.neat s d;
    twin = twin_of;
    face = face_in;
    face_once = λ k l f g q r t. s.face_once k l (live_is q) (live_is r) (same_plane k l f g q r t);
    face_all = λ x m. let i = source (side_at (contents shape.faces)) shape.order.items x m in let y = there (contents shape.faces i.it.0) (p.stands.listed i.it i.among) in
        let q = sym (side_is (contents shape.faces) i.it y.it y.is) ∙ i.is in record {
          slot = i.it.0;
          face = y.it;
          there = y.is;
          plane_is = ap (λ (z : Tagged). z.plane) q;
          tag_is = ap (λ (z : Tagged). z.tag) q;
        };
    first = λ k h. (s.first_live k h, s.first_face k h);
    goes_round = λ k h. goes_round F L (below (length shape.edges.slots)) p.stands.neat s (λ e h. in_below (length shape.edges.slots) e (within_slots shape.edges.slots e h)) (L.first k) (s.first_live k h);
  }

pub whole : PolyhedronLaw
whole shape named loops p = polyhedron shape named loops p

pub has_polyhedron : {shape : Shape} {named : List VertId} {loops : List (List ℕ)} → IsPoly shape named loops → (sides : List Tagged) → sides_of (contents shape.faces) shape.order.items ≡ sides → HasPolyhedron sides
has_polyhedron {shape} {named} {loops} p sides q = subst HasPolyhedron q
    (record { vertices = contents shape.vertices; edges = contents shape.edges; faces = contents shape.faces; is_polyhedron = polyhedron shape named loops p })
