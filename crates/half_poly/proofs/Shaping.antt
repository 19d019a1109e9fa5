-- After a cut the arenas stand for the list of the faces that stay, and the plane.
use Rattle.std.proofs.Common.{◌≡◌, ℕ, true, false, List, [], ◌∷◌, ◌++◌, Option, Some, None, IsSome, is_some, refl, sym, ◌∙◌, ap, inl, inr, ◌⊎◌, pos, ◌<ℤ◌}
use Rattle.std.proofs.lemmas.Int.{by_lt_z}
use Rattle.std.proofs.lemmas.List.{map-append}
use Rattle.algebra.specs.Members.{◌∈◌, here, there as further}
use Rattle.algebra.specs.Space.{Homogeneous, HalfSpace, dot, side}
use Rattle.algebra.proofs.Points.{same-on, same-behind}
use Rattle.exact_geom.specs.Planes.{ThreePoints, half_space}
use Rattle.half_arena.specs.declared.ids.FaceId.{FaceId}
use Rattle.half_poly.specs.declared.links.HalfEdge.{HalfEdge}
use Rattle.half_poly.specs.declared.links.Face.{Face}
use Rattle.half_poly.specs.Arenas.{links, no_plane}
use Rattle.half_poly.specs.Noted.{Table, entry}
use Rattle.half_poly.specs.Phases.{CutTo, wall_face, picks}
use Rattle.half_poly.specs.Shapes.{Tagged, no_side, bounds, solid_of, side_at, sides_of, IsShape, keeps, HalvedShape, HalvedLaw}
use Rattle.half_poly.proofs.Making.{one_value, is_some_of}
use Rattle.half_poly.proofs.ArenaReads.{There, there, live_is, read, none_or}
use Rattle.half_poly.proofs.Trimmings.{Part, part_end, part_keep, part_drop, trim_sides}
use Rattle.half_poly.proofs.CutGlue.{FaceAfter, face_after, begins_of, begin_of_behind, wall_after, is_cut}
use Rattle.trim_laws.specs.Trim.{Trim}
use Rattle.vertex_laws.specs.Vertex.{IsVertex, VertexOnBehind}
use Rattle.cut_laws.specs.Cut.{back, Sifts, sift_end, sift_keep, sift_drop}
use Rattle.poly_laws.specs.Links.{Links, from_point}
use Rattle.poly_laws.specs.Stands.{StandsFor}
use Rattle.poly_laws.specs.Cut.{HasBehind}
use Rattle.poly_laws.specs.Laws.{CutOff}
use Rattle.poly_laws.proofs.Neats.{cut_list}
use Rattle.poly_laws.proofs.Cut.{cut_arenas}

-- The first face of a list that is filtered.
filter_yes : (begin : Table) (id : FaceId) (rest : List FaceId) → is_some (entry begin id.0) ≡ true → keeps begin (id ∷ rest) ≡ id ∷ keeps begin rest
filter_yes begin id rest q = rw q refl

filter_no : (begin : Table) (id : FaceId) (rest : List FaceId) → is_some (entry begin id.0) ≡ false → keeps begin (id ∷ rest) ≡ keeps begin rest
filter_no begin id rest q = rw q refl

none_is : {A : Type 0} {s : Option A} → s ≡ None → is_some s ≡ false
none_is q = rw q refl

-- The side of a face, by what its slot has.
pub side_is : (faces : ℕ → Option Face) (id : FaceId) (x : Face) → faces id.0 ≡ Some x → side_at faces id ≡ record { plane = x.plane; tag = x.tag }
side_is faces id x q = read (λ (f : Face). let s : Tagged = record { plane = f.plane; tag = f.tag } in s) no_side q

module _ {P : ThreePoints} {tag : ℕ} {V V2 : ℕ → Option Homogeneous} {E E3 : ℕ → Option HalfEdge} {Fc F3 : ℕ → Option Face} {begin : Table} {wall : FaceId} {order : List FaceId}
    (sh : IsShape V E Fc order) (cut : CutTo P tag V V2 E E3 Fc F3 begin wall) where
  abbrev old : Links
  old = links V E Fc

  abbrev F : List HalfSpace
  F = solid_of (sides_of Fc order)

  abbrev Q : HalfSpace
  Q = half_space P

  abbrev new_side : Tagged
  new_side = record { plane = P; tag = tag }

  bound_is : (id : FaceId) → id ∈ order → bounds (side_at Fc id) ≡ old.plane id.0
  bound_is id m = let x = there (Fc id.0) (sh.listed id m) in ap bounds (side_is Fc id x.it x.is) ∙ sym (read (λ (f : Face). half_space f.plane) no_plane x.is)

  begin_at : (k : ℕ) → There (entry cut.tables.begin k) → There (entry begin k)
  begin_at k t = record { it = t.it; is = rw (← cut.begin_is) t.is }

  -- a face with a vertex behind has an entry
  entry_of : (id : FaceId) → id ∈ order → VertexOnBehind F (bounds (side_at Fc id)) Q → There (entry begin id.0)
  entry_of id m b =
      let s = sh.stands in
      let v = s.vertex_all b.at b.vertex in
      let w = b.vertex.inside.weight in
      let u = (s.vertex v.slot v.live).inside.weight in
      let on : side (old.plane id.0) (old.point v.slot) ≡ pos 0 = rw (← bound_is id m) (same-on (bounds (side_at Fc id)) b.at (old.point v.slot) w v.same b.on) in
      let e = s.edge_all v.slot id.0 v.live (sh.listed id m) on in
      let h : HasBehind old Q id.0 = record { it = e.slot; live = e.live; face_is = e.face_is; behind = at_origin e.slot v.slot e.origin_is (same-behind Q b.at (old.point v.slot) w u v.same b.behind) } in
      begin_at id.0 (begin_of_behind s cut.phases id.0 h)
    where
      at_origin : (e x : ℕ) → old.origin e ≡ x → side Q (old.point x) <ℤ pos 0 → side Q (old.point (old.origin e)) <ℤ pos 0
      at_origin e x q h = rw q h

  -- and the other way round
  behind_of : (id : FaceId) → id ∈ order → There (entry begin id.0) → VertexOnBehind F (bounds (side_at Fc id)) Q
  behind_of id m t =
      let s = sh.stands in
      let n = begins_of s cut.phases t.it id.0 (cut.phases.begin.names id.0 t.it (rw cut.begin_is t.is)) in
      let d = s.edge t.it.0 n.0.live in
      record { at = from_point old t.it.0; vertex = d.a_vertex; on = on_face (old.face t.it.0) n.1 d.a_on_f; behind = n.2 }
    where
      on_face : (k : ℕ) → k ≡ id.0 → side (old.plane k) (from_point old t.it.0) ≡ pos 0 → side (bounds (side_at Fc id)) (from_point old t.it.0) ≡ pos 0
      on_face k q h = rw (bound_is id m, ← q) h

  sift : (rest : List FaceId) → ((id : FaceId) → id ∈ rest → id ∈ order) → Sifts F Q (solid_of (sides_of Fc rest)) (solid_of (sides_of Fc (keeps begin rest)))
  sift [] sub = sift_end
  sift (id ∷ rest) sub = by (sift rest (λ x i. sub x (further i))) (none_or (entry begin id.0))
    where
      m : id ∈ order
      m = sub id here

      by : Sifts F Q (solid_of (sides_of Fc rest)) (solid_of (sides_of Fc (keeps begin rest))) → (entry begin id.0 ≡ None) ⊎ There (entry begin id.0) →
          Sifts F Q (solid_of (sides_of Fc (id ∷ rest))) (solid_of (sides_of Fc (keeps begin (id ∷ rest))))
      by more (inl q) = rw (filter_no begin id rest (none_is q)) (sift_drop (λ v u z. by_lt_z (side Q v) (pos 0)
          (λ l. let t = entry_of id m (record { at = v; vertex = u; on = z; behind = l }) in one_value t.is q) (λ l. l)) more)
      by more (inr t) = rw (filter_yes begin id rest (live_is t.is)) (sift_keep (behind_of id m t) more)

  -- ---- the sides after the cut
  after_of : (id : FaceId) → id ∈ order → There (entry begin id.0) → FaceAfter sh.stands cut.phases id.0
  after_of id m t =
      let s = sh.stands in
      let n = begins_of s cut.phases t.it id.0 (cut.phases.begin.names id.0 t.it (rw cut.begin_is t.is)) in
      face_after s cut.phases id.0 (sh.listed id m) (record { it = t.it.0; live = n.0.live; face_is = n.1; behind = n.2 })

  same_side : (id : FaceId) → id ∈ order → There (entry begin id.0) → side_at F3 id ≡ side_at Fc id
  same_side id m t = let a = after_of id m t in side_is F3 id (record a.x { first = a.id }) a.after ∙ sym (side_is Fc id a.x a.is)

  wall_is : F3 wall.0 ≡ Some (wall_face P tag cut.tables.first)
  wall_is = at_wall cut.tables.wall cut.wall_is (wall_after sh.stands cut.phases)
    where
      at_wall : (w : FaceId) → w ≡ wall → F3 w.0 ≡ Some (wall_face P tag cut.tables.first) → F3 wall.0 ≡ Some (wall_face P tag cut.tables.first)
      at_wall w q h = rw (← q) h

  sides_after : (rest : List FaceId) → ((id : FaceId) → id ∈ rest → id ∈ order) → sides_of F3 (keeps begin rest ++ wall ∷ []) ≡ sides_of Fc (keeps begin rest) ++ new_side ∷ []
  sides_after [] sub = ap (λ x. x ∷ []) (side_is F3 wall (wall_face P tag cut.tables.first) wall_is)
  sides_after (id ∷ rest) sub = by (sides_after rest (λ x i. sub x (further i))) (none_or (entry begin id.0))
    where
      m : id ∈ order
      m = sub id here

      both : (x y : Tagged) → sides_of F3 (keeps begin rest ++ wall ∷ []) ≡ sides_of Fc (keeps begin rest) ++ new_side ∷ [] → x ≡ y →
          x ∷ sides_of F3 (keeps begin rest ++ wall ∷ []) ≡ y ∷ (sides_of Fc (keeps begin rest) ++ new_side ∷ [])
      both x y more q = ap (λ z. z ∷ sides_of F3 (keeps begin rest ++ wall ∷ [])) q ∙ ap (λ z. y ∷ z) more

      by : sides_of F3 (keeps begin rest ++ wall ∷ []) ≡ sides_of Fc (keeps begin rest) ++ new_side ∷ [] → (entry begin id.0 ≡ None) ⊎ There (entry begin id.0) →
          sides_of F3 (keeps begin (id ∷ rest) ++ wall ∷ []) ≡ sides_of Fc (keeps begin (id ∷ rest)) ++ new_side ∷ []
      by more (inl q) = rw (filter_no begin id rest (none_is q)) more
      by more (inr t) = rw (filter_yes begin id rest (live_is t.is)) (both (side_at F3 id) (side_at Fc id) more (same_side id m t))

  listed_after : (rest : List FaceId) → ((id : FaceId) → id ∈ rest → id ∈ order) → (id : FaceId) → id ∈ (keeps begin rest ++ wall ∷ []) → IsSome (F3 id.0)
  listed_after [] sub id here = is_some_of wall_is
  listed_after [] sub id (further i) = elim i [ ]
  listed_after (x ∷ rest) sub id i = by (listed_after rest (λ y j. sub y (further j))) (none_or (entry begin x.0))
    where
      first : ((y : FaceId) → y ∈ (keeps begin rest ++ wall ∷ []) → IsSome (F3 y.0)) → There (entry begin x.0) → (y : FaceId) → y ∈ (x ∷ (keeps begin rest ++ wall ∷ [])) → IsSome (F3 y.0)
      first more t y here = is_some_of (after_of x (sub x here) t).after
      first more t y (further j) = more y j

      at_list : (xs ys : List FaceId) → xs ≡ ys → id ∈ (xs ++ wall ∷ []) → id ∈ (ys ++ wall ∷ [])
      at_list xs ys q m = rw (← q) m

      by : ((y : FaceId) → y ∈ (keeps begin rest ++ wall ∷ []) → IsSome (F3 y.0)) → (entry begin x.0 ≡ None) ⊎ There (entry begin x.0) → IsSome (F3 id.0)
      by more (inl q) = more id (at_list (keeps begin (x ∷ rest)) (keeps begin rest) (filter_no begin x rest (none_is q)) i)
      by more (inr t) = first more t id (at_list (keeps begin (x ∷ rest)) (x ∷ keeps begin rest) (filter_yes begin x rest (live_is t.is)) i)

  part : (rest : List FaceId) → Part (sides_of Fc rest) (sides_of Fc (keeps begin rest))
  part [] = part_end
  part (x ∷ rest) = by (part rest) (none_or (entry begin x.0))
    where
      by : Part (sides_of Fc rest) (sides_of Fc (keeps begin rest)) → (entry begin x.0 ≡ None) ⊎ There (entry begin x.0) → Part (sides_of Fc (x ∷ rest)) (sides_of Fc (keeps begin (x ∷ rest)))
      by more (inl q) = rw (filter_no begin x rest (none_is q)) (part_drop more)
      by more (inr t) = rw (filter_yes begin x rest (live_is t.is)) (part_keep more)

  -- ---- the shape after the cut
  pub halved : (a b : Homogeneous) → pos 0 <ℤ dot Q.normal Q.normal → IsVertex F a → side Q a <ℤ pos 0 → IsVertex F b → pos 0 <ℤ side Q b → HalvedShape P tag V2 E3 Fc F3 begin wall order
  halved a b n u h v k =
      let after = sides_of F3 (keeps begin order ++ wall ∷ []) in
      let kept = sides_of Fc (keeps begin order) in
      let q : after ≡ kept ++ new_side ∷ [] = sides_after order (λ id m. m) in
      let K = solid_of kept in
      let solid : solid_of after ≡ back K Q = ap solid_of q ∙ map-append bounds kept (new_side ∷ []) in
      let c : CutOff F K Q = cut_list F K Q sh.volume.at a b sh.neat n sh.trimmed sh.volume.inside u v h k (sift order (λ id m. m)) in
      let r = is_cut sh.stands cut.phases in
      let st : StandsFor (back K Q) (links V2 E3 F3) = cut_arenas F (back K Q) Q old (links V2 E3 F3) (picks E E3 cut.tables) c.list sh.stands r in
      record {
        shape = record {
          listed = listed_after order (λ id m. m);
          neat = rw solid c.list.new;
          trimmed = rw solid c.again;
          volume = rw solid (record { at = c.at; inside = c.inside });
          stands = rw solid st;
        };
        halved = rw q (trim_sides (sides_of Fc order) kept new_side b sh.trimmed v k (part order) (trim_after c.trim));
      }
    where
      trim_after : Trim (back F Q) (back (solid_of (sides_of Fc (keeps begin order))) Q) → Trim (solid_of (sides_of Fc order ++ new_side ∷ [])) (solid_of (sides_of Fc (keeps begin order) ++ new_side ∷ []))
      trim_after t = rw (map-append bounds (sides_of Fc order) (new_side ∷ []), map-append bounds (sides_of Fc (keeps begin order)) (new_side ∷ [])) t

pub halved_shape : HalvedLaw
halved_shape P tag V V2 E E3 Fc F3 begin wall order a b sh cut n u h v k = halved sh cut a b n u h v k
