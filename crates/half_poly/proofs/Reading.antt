-- What is read of the loops that are kept.
use Rattle.std.proofs.Common.{◌≡◌, ℕ, zero, suc, ◌≤◌, List, [], ◌∷◌, length, Option, None, Some, MatchOption, refl, sym, ap, subst, ◌∙◌, arith}
use Rattle.std.specs.List.{slice_get}
use Rattle.std.specs.Option.{option_and_then, option_map}
use Rattle.std.proofs.lemmas.List.{length-map}
use Rattle.std.proofs.lemmas.Option.{slice_get_past, slice_get-map}
use Rattle.algebra.specs.Members.{◌∈◌, here, there as further}
use Rattle.algebra.specs.Space.{Homogeneous, HalfSpace}
use Rattle.solid_laws.specs.Names.{AreVertices}
use Rattle.solid_laws.specs.FaceLoop.{IsNumberedLoop, HasVertexCount, HasVertex, HasLoopVertex}
use Rattle.half_arena.specs.Slots.{contents}
use Rattle.half_arena.specs.declared.ids.FaceId.{FaceId}
use Rattle.half_arena.specs.declared.ids.VertId.{VertId}
use Rattle.half_poly.specs.declared.links.Face.{Face}
use Rattle.half_poly.specs.declared.shape.Shape.{Shape}
use Rattle.half_poly.specs.Arenas.{nowhere}
use Rattle.half_poly.specs.Shapes.{Tagged, solid_of, side_at, sides_of}
use Rattle.half_poly.specs.Names.{point_at}
use Rattle.half_poly.specs.Readings.{faces_of, points_of, IsPoly}
use Rattle.half_poly.proofs.ArenaReads.{there, read}
use Rattle.half_poly.proofs.Shaping.{side_is}
use Rattle.half_poly.specs.Rounds.{AreLoops}

some_is_none : {A : Type 0} (x : A) → Some x ≡ None → ⊥
some_is_none x e = cc

ends_at : {A : Type 0} (xs : List A) (k : ℕ) → slice_get xs k ≡ None → length xs ≤ k
ends_at [] k e = omega arith
ends_at (x ∷ xs) zero e = absurd (some_is_none x e)
ends_at (x ∷ xs) (suc k) e = let l = ends_at xs k e in omega arith

-- the two lists have as many elements, so they end together
none_too : {A B : Type 0} (xs : List A) (ys : List B) (k : ℕ) → length xs ≡ length ys → slice_get xs k ≡ None → slice_get ys k ≡ None
none_too xs ys k e n = let l = ends_at xs k n in slice_get_past ys k (omega arith)

loop_at : (F : List HalfSpace) (V : List Homogeneous) (loops : List (List ℕ)) (face : ℕ) (numbers : List ℕ) → AreLoops F V loops → slice_get loops face ≡ Some numbers →
    (o : Option HalfSpace) → slice_get F face ≡ o → MatchOption o (numbers ≡ []) (λ f. IsNumberedLoop F f V numbers)
loop_at F V loops face numbers p g None e = absurd (some_is_none numbers (sym g ∙ none_too F loops face (sym p.count) e))
loop_at F V loops face numbers p g (Some f) e = p.each face f numbers e g

abbrev no_numbers : List ℕ
no_numbers = []

no_loop : (F : List HalfSpace) (V : List Homogeneous) (o : Option HalfSpace) → o ≡ None → MatchOption o (no_numbers ≡ []) (λ f. IsNumberedLoop F f V [])
no_loop F V None e = refl
no_loop F V (Some f) e = absurd (some_is_none f e)

vertex_at : (F : List HalfSpace) (V : List Homogeneous) (loops : List (List ℕ)) (face k : ℕ) → AreVertices F V → AreLoops F V loops → (o : Option (List ℕ)) → slice_get loops face ≡ o →
    HasLoopVertex F face k (option_and_then (λ numbers. slice_get numbers k) o)
vertex_at F V loops face k a p None e = record {
  V = V;
  numbers = [];
  vertices = a;
  face_loop = no_loop F V (slice_get F face) (none_too loops F face p.count e);
  is_number = slice_get_past [] k (omega arith);
}
vertex_at F V loops face k a p (Some numbers) e = record {
  V = V;
  numbers = numbers;
  vertices = a;
  face_loop = loop_at F V loops face numbers p e (slice_get F face) refl;
  is_number = refl;
}

pub has_loop_vertex : (F : List HalfSpace) (V : List Homogeneous) (loops : List (List ℕ)) (face k : ℕ) → AreVertices F V → AreLoops F V loops →
    HasLoopVertex F face k (option_and_then (λ numbers. slice_get numbers k) (slice_get loops face))
has_loop_vertex F V loops face k a p = vertex_at F V loops face k a p (slice_get loops face) refl

-- ---- the readers of a polyhedron
module _ {shape : Shape} {named : List VertId} {loops : List (List ℕ)} (p : IsPoly shape named loops) (sides : List Tagged) (view : sides_of (contents shape.faces) shape.order.items ≡ sides) where
  solid : faces_of shape ≡ solid_of sides
  solid = ap solid_of view

  pub count_of : (n : ℕ) → n ≡ length named → HasVertexCount (solid_of sides) n
  count_of n q = subst (λ F. HasVertexCount F n) solid (record { V = points_of shape named; vertices = p.are_named.are_vertices; is_count = length-map named (point_at (contents shape.vertices)) ∙ sym q })

  named_at : (k : ℕ) (o : Option VertId) → slice_get named k ≡ o → slice_get (points_of shape named) k ≡ option_and_then (λ id. contents shape.vertices id.0) o
  named_at k None q = let l = ends_at named k q in slice_get_past (points_of shape named) k (subst (λ n. n ≤ k) (sym (length-map named (point_at (contents shape.vertices)))) l)
  named_at k (Some id) q =
      let x = there (contents shape.vertices id.0) (p.are_named.live id (member_of named k id q)) in
      slice_get-map (point_at (contents shape.vertices)) named k ∙ ap (option_map (point_at (contents shape.vertices))) q ∙ ap (λ (v : Homogeneous). Some v) (read (λ (v : Homogeneous). v) nowhere x.is) ∙ sym x.is
    where
      member_of : (ids : List VertId) (k : ℕ) (id : VertId) → slice_get ids k ≡ Some id → id ∈ ids
      member_of [] k id q = absurd (cc)
      member_of (i ∷ ids) zero id q = first i id ids q
        where
          first : (i id : VertId) (ids : List VertId) → Some i ≡ Some id → id ∈ (i ∷ ids)
          first i id ids q = let e : i ≡ id = cc in subst (λ x. x ∈ (i ∷ ids)) e here
      member_of (i ∷ ids) (suc k) id q = further (member_of ids k id q)

  pub vertex_of : (k : ℕ) (r : Option Homogeneous) → r ≡ option_and_then (λ id. contents shape.vertices id.0) (slice_get named k) → HasVertex (solid_of sides) k r
  vertex_of k r q = subst (λ F. HasVertex F k r) solid (record { V = points_of shape named; vertices = p.are_named.are_vertices; is_vertex = named_at k (slice_get named k) refl ∙ sym q })

  pub loop_of : (face k : ℕ) (r : Option ℕ) → r ≡ option_and_then (λ numbers. slice_get numbers k) (slice_get loops face) → HasLoopVertex (solid_of sides) face k r
  loop_of face k r q = subst (λ F. HasLoopVertex F face k r) solid (subst (HasLoopVertex (faces_of shape) face k) (sym q) (has_loop_vertex (faces_of shape) (points_of shape named) loops face k p.are_named.are_vertices p.are_loops))

  faces_at : (k : ℕ) (o : Option FaceId) → slice_get shape.order.items k ≡ o → {A : Type 0} (f : Face → A) (g : Tagged → A) → ((x : Face) → g (record { plane = x.plane; tag = x.tag }) ≡ f x) →
      option_map f (option_and_then (λ id. contents shape.faces id.0) o) ≡ option_map g (slice_get sides k)
  faces_at k None q {A} f g same =
      let l = ends_at shape.order.items k q in
      sym (ap (λ s. option_map g (slice_get s k)) (sym view) ∙ ap (option_map g) (slice_get_past (sides_of (contents shape.faces) shape.order.items) k (subst (λ n. n ≤ k) (sym (length-map shape.order.items (side_at (contents shape.faces)))) l)))
  faces_at k (Some id) q {A} f g same =
      let x = there (contents shape.faces id.0) (p.stands.listed id (id_in shape.order.items k id q)) in
      ap (option_map f) x.is ∙ sym (ap (λ s. option_map g (slice_get s k)) (sym view) ∙ ap (option_map g) (slice_get-map (side_at (contents shape.faces)) shape.order.items k ∙ ap (option_map (side_at (contents shape.faces))) q)
      ∙ ap (λ (s : Tagged). Some (g s)) (side_is (contents shape.faces) id x.it x.is) ∙ ap (λ a. Some a) (same x.it))
    where
      id_in : (ids : List FaceId) (k : ℕ) (id : FaceId) → slice_get ids k ≡ Some id → id ∈ ids
      id_in [] k id q = absurd (cc)
      id_in (i ∷ ids) zero id q = let e : i ≡ id = cc in subst (λ x. x ∈ (i ∷ ids)) e here
      id_in (i ∷ ids) (suc k) id q = further (id_in ids k id q)

  pub plane_of : (k : ℕ) (r : Option Face) → r ≡ option_and_then (λ id. contents shape.faces id.0) (slice_get shape.order.items k) → option_map (λ (x : Face). x.plane) r ≡ option_map (λ (s : Tagged). s.plane) (slice_get sides k)
  plane_of k r q = ap (option_map (λ (x : Face). x.plane)) q ∙ faces_at k (slice_get shape.order.items k) refl (λ x. x.plane) (λ s. s.plane) (λ x. refl)

  pub tag_of : (k : ℕ) (r : Option Face) → r ≡ option_and_then (λ id. contents shape.faces id.0) (slice_get shape.order.items k) → option_map (λ (x : Face). x.tag) r ≡ option_map (λ (s : Tagged). s.tag) (slice_get sides k)
  tag_of k r q = ap (option_map (λ (x : Face). x.tag)) q ∙ faces_at k (slice_get shape.order.items k) refl (λ x. x.tag) (λ s. s.tag) (λ x. refl)
