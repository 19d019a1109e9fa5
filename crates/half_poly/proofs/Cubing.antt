-- The arenas of the cube.
use Rattle.std.proofs.Common.{◌≡◌, ℕ, zero, suc, ◌*◌, ◌%◌, ◌<◌, List, [], ◌∷◌, length, get_or, map, Option, Some, None, IsSome, refl, sym, ◌∙◌, ap, subst, arith, ⊎_elim}
use Rattle.std.proofs.lemmas.Int.{ints}
use Rattle.std.proofs.lemmas.List.{length-map}
use Rattle.std.specs.Option.{option_map_or}
use Rattle.algebra.proofs.Members.{at_of_member}
use Rattle.algebra.specs.Space.{Homogeneous, dot, cross, minus, through}
use Rattle.exact_geom.specs.Planes.{half_space}
use Rattle.algebra.specs.World.{reach}
use Rattle.trim_laws.specs.Valid.{HasInside}
use Rattle.vertex_laws.specs.Cube.{cube}
use Rattle.vertex_laws.proofs.Box.{centre as middle, centre_behind}
use Rattle.vertex_laws.proofs.CubeValid.{cube_trim}
use Rattle.half_arena.specs.Slots.{Slots, contents, put}
use Rattle.half_arena.specs.declared.ids.VertId.{VertId}
use Rattle.half_arena.specs.declared.ids.EdgeId.{EdgeId}
use Rattle.half_arena.specs.declared.ids.FaceId.{FaceId}
use Rattle.poly_laws.specs.Links.{HasEdge, HasFace}
use Rattle.cube_laws.specs.CubeLinks.{corners, centre, flat, origins, faces, twins, nexts, cube_links}
use Rattle.cube_laws.specs.Numbered.{Numbered}
use Rattle.cube_laws.proofs.Tests.{is_below, below_is}
use Rattle.cube_laws.proofs.CubeStands.{cube_neat, cube_stands}
use Rattle.cube_laws.proofs.Numbers.{numbered}
use Rattle.half_poly.specs.declared.links.HalfEdge.{HalfEdge}
use Rattle.half_poly.specs.declared.links.Face.{Face}
use Rattle.half_poly.specs.Arenas.{links, nowhere, no_plane}
use Rattle.half_poly.specs.Puts.{PutBelow, WrittenBelow}
use Rattle.half_poly.specs.Shapes.{solid_of, side_at, sides_of, IsShape}
use Rattle.half_poly.specs.Walls.{wall_at, cube_face, unbegun_walls, cube_edge, cube_wall, cube_side, cube_sides}
use Rattle.half_poly.proofs.Making.{one_value, is_some_of}
use Rattle.half_poly.proofs.ArenaReads.{there, read, live_is}
use Rattle.half_poly.proofs.Shaping.{side_is}

by_6 : (P : ℕ → Type 0) → P 0 → P 1 → P 2 → P 3 → P 4 → P 5 → (n : ℕ) → n < 6 → P n
by_6 P a b c d e f zero l = a
by_6 P a b c d e f (suc zero) l = b
by_6 P a b c d e f (suc (suc zero)) l = c
by_6 P a b c d e f (suc (suc (suc zero))) l = d
by_6 P a b c d e f (suc (suc (suc (suc zero)))) l = e
by_6 P a b c d e f (suc (suc (suc (suc (suc zero))))) l = f
by_6 P a b c d e f (suc (suc (suc (suc (suc (suc n)))))) l = absurd (omega arith)

-- ---- reading lists
pub wall_read : (n : ℕ) (d : Face) (first : EdgeId) → n < 6 → first ≡ record { 0 = 0 } → get_or unbegun_walls n d ≡ cube_face n first
wall_read n d first l q = by_6 (λ k. get_or unbegun_walls k d ≡ cube_face k (record { 0 = 0 })) refl refl refl refl refl refl n l ∙ ap (λ e. cube_face n e) (sym q)

first_place : (n : ℕ) → n < 6 → 4 * (n % 6) ≡ 4 * n
first_place n l = by_6 (λ k. 4 * (k % 6) ≡ 4 * k) refl refl refl refl refl refl n l

-- the wall that is written
pub wall_linked : (ids : List EdgeId) (walls : List FaceId) (n : ℕ) (none first : EdgeId) (none_id id : FaceId) (face : Face) (before after : ℕ → Option Face) → n < 6 → none ≡ record { 0 = 0 } → first ≡ get_or ids (4 * (n % 6)) none →
    none_id ≡ record { 0 = 0 } → id ≡ get_or walls n none_id → face ≡ cube_face n first → (IsSome (before id.0) → after ≡ put before id.0 (Some face)) →
    IsSome (before (get_or walls n (record { 0 = 0 })).0) → after ≡ put before (get_or walls n (record { 0 = 0 })).0 (Some (cube_wall ids n))
wall_linked ids walls n none first none_id id face before after l q r s t u changes live =
    let i : id ≡ get_or walls n (record { 0 = 0 }) = t ∙ ap (λ d. get_or walls n d) s in
    let e : first ≡ get_or ids (4 * n) (record { 0 = 0 }) = r ∙ ap (λ d. get_or ids (4 * (n % 6)) d) q ∙ ap (λ k. get_or ids k (record { 0 = 0 })) (first_place n l) in
    changes (subst (λ (d : FaceId). IsSome (before d.0)) (sym i) live) ∙ ap (λ (d : FaceId). put before d.0 (Some face)) i
    ∙ ap (λ (x : Face). put before (get_or walls n (record { 0 = 0 })).0 (Some x)) (u ∙ ap (λ d. cube_face n d) e)

map_read : {A B : Type 0} (f : A → B) (xs : List A) (k : ℕ) (d : A) → get_or (map f xs) k (f d) ≡ f (get_or xs k d)
map_read f [] k d = refl
map_read f (x ∷ xs) zero d = refl
map_read f (x ∷ xs) (suc k) d = map_read f xs k d

abbrev pub id_of : List FaceId → ℕ → ℕ
id_of ids k = (get_or ids k (record { 0 = 0 })).0

pub map_id : (ids : List FaceId) (k : ℕ) → id_of ids k ≡ get_or (map (λ (i : FaceId). i.0) ids) k 0
map_id ids k = sym (map_read (λ (i : FaceId). i.0) ids k (record { 0 = 0 }))

same_lists : {A : Type 0} (xs ys : List A) (d : A) → length xs ≡ length ys → ((k : ℕ) → k < length xs → get_or xs k d ≡ get_or ys k d) → xs ≡ ys
same_lists [] [] d q h = refl
same_lists [] (y ∷ ys) d q h = absurd (omega arith)
same_lists (x ∷ xs) [] d q h = absurd (omega arith)
same_lists (x ∷ xs) (y ∷ ys) d q h = both (h 0 (omega arith)) (same_lists xs ys d (omega arith) (λ k l. h (suc k) (omega arith)))
  where
    both : x ≡ y → xs ≡ ys → x ∷ xs ≡ y ∷ ys
    both p r = ap (λ z. z ∷ xs) p ∙ ap (λ zs. y ∷ zs) r

wall_space : (k : ℕ) → k < 6 → half_space (wall_at k) ≡ get_or (cube reach) k flat
unfolding through dot cross minus
wall_space = by_6 (λ k. half_space (wall_at k) ≡ get_or (cube reach) k flat) refl refl refl refl refl refl

first_read : (ids : List EdgeId) (k : ℕ) → k < 6 → (get_or ids (4 * k) (record { 0 = 0 })).0 ≡ get_or (map (λ (i : EdgeId). i.0) ids) (get_or (0 ∷ 4 ∷ 8 ∷ 12 ∷ 16 ∷ 20 ∷ []) k 0) 0
first_read ids k l = ap (λ n. (get_or ids n (record { 0 = 0 })).0) (by_6 (λ n. 4 * n ≡ get_or (0 ∷ 4 ∷ 8 ∷ 12 ∷ 16 ∷ 20 ∷ []) n 0) refl refl refl refl refl refl k l)
    ∙ sym (map_read (λ (i : EdgeId). i.0) ids (get_or (0 ∷ 4 ∷ 8 ∷ 12 ∷ 16 ∷ 20 ∷ []) k 0) (record { 0 = 0 }))

pub solid_is : solid_of cube_sides ≡ cube reach
unfolding through dot cross minus
solid_is = refl

pub cube_inside : HasInside (cube reach)
cube_inside = record { at = middle; inside = record { weight = omega (arith, ints); all = centre_behind reach (omega (arith, ints)) } }

-- ---- the cube under the numbers of the slots
module _ (V : ℕ → Option Homogeneous) (E : ℕ → Option HalfEdge) (Fc : ℕ → Option Face) (vs : List VertId) (fs : List FaceId) (es : List EdgeId)
    (vertex_put : WrittenBelow (map (λ (i : VertId). i.0) vs) (λ k. get_or corners k centre) V 8) (edge_put : WrittenBelow (map (λ (i : EdgeId). i.0) es) (cube_edge vs fs es) E 24)
    (face_put : WrittenBelow (map (λ (i : FaceId). i.0) fs) (cube_wall es) Fc 6)
    (vs_long : length (map (λ (i : VertId). i.0) vs) ≡ 8) (es_long : length (map (λ (i : EdgeId). i.0) es) ≡ 24) (fs_long : length fs ≡ 6) where
  abbrev v : ℕ → ℕ
  v k = get_or (map (λ (i : VertId). i.0) vs) k 0

  abbrev e : ℕ → ℕ
  e k = get_or (map (λ (i : EdgeId). i.0) es) k 0

  abbrev f : ℕ → ℕ
  f k = get_or (map (λ (i : FaceId). i.0) fs) k 0

  fs_mapped : length (map (λ (i : FaceId). i.0) fs) ≡ 6
  fs_mapped = length-map fs (λ (i : FaceId). i.0) ∙ fs_long

  edge_read : {A : Type 0} (g : HalfEdge → A) (d : A) (k : ℕ) → HasEdge cube_links k → option_map_or g (E (e k)) d ≡ g (cube_edge vs fs es k)
  edge_read g d k h = read g d (edge_put.written k (is_below h))

  face_read : {A : Type 0} (g : Face → A) (d : A) (k : ℕ) → HasFace cube_links k → option_map_or g (Fc (f k)) d ≡ g (cube_wall es k)
  face_read g d k h = read g d (face_put.written k (is_below h))

  pub cube_numbered : Numbered cube_links (links V E Fc) v e f
  cube_numbered = record {
    has_vertex = λ k h. live_is (vertex_put.written k (is_below h));
    has_edge = λ k h. live_is (edge_put.written k (is_below h));
    has_face = λ k h. live_is (face_put.written k (is_below h));
    vertex_of = λ y h. let x = there (V y) h in let p = vertex_put.only y x.it x.is in record { number = p.number; live = below_is (subst (λ n. p.number < n) vs_long p.within); is = sym p.is };
    edge_of = λ y h. let x = there (E y) h in let p = edge_put.only y x.it x.is in record { number = p.number; live = below_is (subst (λ n. p.number < n) es_long p.within); is = sym p.is };
    face_of = λ y h. let x = there (Fc y) h in let p = face_put.only y x.it x.is in record { number = p.number; live = below_is (subst (λ n. p.number < n) fs_mapped p.within); is = sym p.is };
    point = λ k h. read (λ (p : Homogeneous). p) nowhere (vertex_put.written k (is_below h));
    plane = λ k h. face_read (λ (x : Face). half_space x.plane) no_plane k h ∙ wall_space k (is_below h);
    first = λ k h. face_read (λ (x : Face). x.first.0) 0 k h ∙ first_read es k (is_below h);
    origin = λ k h. edge_read (λ (x : HalfEdge). x.origin.0) 0 k h ∙ sym (map_read (λ (i : VertId). i.0) vs (get_or origins k 0) (record { 0 = 0 }));
    face = λ k h. edge_read (λ (x : HalfEdge). x.face.0) 0 k h ∙ sym (map_read (λ (i : FaceId). i.0) fs (get_or faces k 0) (record { 0 = 0 }));
    twin = λ k h. edge_read (λ (x : HalfEdge). x.twin.0) 0 k h ∙ sym (map_read (λ (i : EdgeId). i.0) es (get_or twins k 0) (record { 0 = 0 }));
    next = λ k h. edge_read (λ (x : HalfEdge). x.next.0) 0 k h ∙ sym (map_read (λ (i : EdgeId). i.0) es (get_or nexts k 0) (record { 0 = 0 }));
  }

  id_face : (k : ℕ) → k < 6 → Fc (get_or fs k (record { 0 = 0 })).0 ≡ Some (cube_wall es k)
  id_face k l = ap Fc (sym (map_read (λ (i : FaceId). i.0) fs k (record { 0 = 0 }))) ∙ face_put.written k l

  pub cube_sides_are : sides_of Fc fs ≡ cube_sides
  cube_sides_are = same_lists (sides_of Fc fs) cube_sides (side_at Fc (record { 0 = 0 })) (length-map fs (side_at Fc) ∙ fs_long) (λ k l.
      let m : k < 6 = subst (λ n. k < n) (length-map fs (side_at Fc) ∙ fs_long) l in
      map_read (side_at Fc) fs k (record { 0 = 0 }) ∙ side_is Fc (get_or fs k (record { 0 = 0 })) (cube_wall es k) (id_face k m)
      ∙ sym (by_6 (λ n. get_or cube_sides n (side_at Fc (record { 0 = 0 })) ≡ cube_side n) refl refl refl refl refl refl k m))

  pub cube_shape : IsShape V E Fc fs
  cube_shape = record {
    listed = λ id m. let a = at_of_member fs id (record { 0 = 0 }) m in is_some_of (ap Fc (ap (λ (i : FaceId). i.0) (sym a.is)) ∙ id_face a.index (subst (λ n. a.index < n) fs_long a.within));
    neat = rw solid cube_neat;
    trimmed = rw solid (cube_trim reach (omega (arith, ints)));
    volume = rw solid cube_inside;
    stands = rw solid (numbered (cube reach) cube_links (links V E Fc) v e f cube_numbered cube_stands);
  }
    where
      solid : solid_of (sides_of Fc fs) ≡ cube reach
      solid = ap solid_of cube_sides_are ∙ solid_is

pub written_of_put : (before after : ℕ → Option Homogeneous) (places : List ℕ) → ((y : ℕ) → before y ≡ None) → PutBelow before corners after places 8 → WrittenBelow places (λ k. get_or corners k centre) after 8
written_of_put before after places none b = record { written = λ k l. b.put_at k centre l; only = λ y x q. ⊎_elim (λ o. one_value o (none y)) (λ o. o) (b.only y x q) }

-- ---- what was read through slices
pub none_in : {T : Type 0} (s : Slots T) → s.slots ≡ [] → (y : ℕ) → contents s y ≡ None
none_in s q y = rw q refl

pub edges_at : (vs ws : List VertId) (fs gs : List FaceId) (es ds : List EdgeId) (E : ℕ → Option HalfEdge) → ws ≡ vs → gs ≡ fs → ds ≡ es → WrittenBelow (map (λ (i : EdgeId). i.0) ds) (cube_edge ws gs ds) E 24 →
    WrittenBelow (map (λ (i : EdgeId). i.0) es) (cube_edge vs fs es) E 24
edges_at vs ws fs gs es ds E q r s h = rw (← q, ← r, ← s) h

pub walls_at : (fs gs : List FaceId) (es ds : List EdgeId) (Fc : ℕ → Option Face) → gs ≡ fs → ds ≡ es → WrittenBelow (map (λ (i : FaceId). i.0) gs) (cube_wall ds) Fc 6 → WrittenBelow (map (λ (i : FaceId). i.0) fs) (cube_wall es) Fc 6
walls_at fs gs es ds Fc q r h = rw (← q, ← r) h
