-- hollow: the walls of a box stand in its place.
use Rattle.std.proofs.Common.{◌≡◌, ℕ, ◌+◌, ◌≤◌, List, [], ◌∷◌, ◌++◌, length, map, Bool, true, false, ◌==◌, ◌&&◌, ◌||◌, not, refl, sym, ◌∙◌, subst, true≢false, arith, eqb-true, None, ℤ, pos, neg_ℤ, ◌+ℤ◌, ◌-ℤ◌, ◌*ℤ◌, ◌<ℤ◌, ◌≤ℤ◌}
use Rattle.std.specs.Prelude.{int_le, filter}
use Rattle.std.specs.List.{list_all, list_any}
use Rattle.std.proofs.lemmas.Bool.{and_parts, or_parts}
use Rattle.std.proofs.lemmas.Int.{ints, by_lt_z}
use Rattle.std.proofs.lemmas.List.{length-map, length_push}
use Rattle.algebra.specs.Members.{◌∈◌, here, there, Every}
use Rattle.algebra.specs.Space.{Vector, Homogeneous, HalfSpace, side, dot}
use Rattle.algebra.specs.World.{world}
use Rattle.exact_geom.specs.Planes.{half_space}
use Rattle.uv_lock.specs.declared.texture.Format.{Format}
use Rattle.map_model.specs.Faces.{Face}
use Rattle.map_model.specs.Tree.{Whole, faces_at, format_of}
use Rattle.map_model.specs.Edits.{replace_by}
use Rattle.map_model.specs.Shape.{Shape, FaceOk, FacesOk, half_spaces}
use Rattle.map_model.specs.Below.{Below, IsRight}
use Rattle.map_model.specs.Brushes.{reversed, is_box, is_along_axis, inward, piece_lists, pieces, trimmed, trimmed_from, put_if, has_inside, have_one_half_space, vertices_of}
use Rattle.map_model.specs.Commands.{IsGood, Settings, Hollow}
use Rattle.map_model.specs.Replies.{NotBox, Thick}
use Rattle.map_model.specs.Rows.{rows, first, refuse, is_short_along, has_short_side}
use Rattle.map_model.specs.Own.{own}
use Rattle.map_model.proofs.Members.{in_map, in_filter, decides_most}
use Rattle.map_laws.specs.Unlinked.{Unlinked}
use Rattle.map_laws.proofs.Lists.{tally-no_member}
use Rattle.map_laws.proofs.InTurn.{by_member}
use Rattle.map_laws.proofs.Refused.{refuse_none, each_none, nodes_fit}
use Rattle.map_laws.proofs.RowsPass.{rows_pass}
use Rattle.map_laws.proofs.TrimmedFaces.{brush_encloses}
use Rattle.map_laws.proofs.PieceFaces.{pieces_ok}
use Rattle.map_laws.proofs.BoxWalls.{Along, along_axis, is_whole}
use Rattle.map_laws.proofs.InwardWalls.{Corner, Spread, Thin, inward_plane}
use Rattle.map_laws.proofs.FairMaps.{fair_of}
use Rattle.map_laws.proofs.Remaking.{in_turn, remade_outcome}
use Rattle.map_laws.proofs.Subtracting.{AreBrushes, put_in_place}
use Rattle.map_laws.proofs.Tests.{not_false, all_true, not_all}
use Rattle.map_laws.proofs.BrushRows.{named_brushes, brush_faces}
use Rattle.map_laws.proofs.Unlinking.{Outcome}

-- Vertices that are far apart. -------------------------------------------------------------------------------------------------------

far_apart : (x y : ℤ) → int_le x y ≡ false → y <ℤ x
far_apart x y e = by_lt_z y x (λ l. l) (λ m. absurd (true≢false (sym ((decides_most x y).1 m) ∙ e)))

spread : (h : HalfSpace) (coordinate : Vector → ℤ) (length : ℤ) (V : List Homogeneous) → ((v : Homogeneous) → v ∈ V → Corner h v.vector) → is_short_along (λ v. coordinate v.vector) length V ≡ false → Spread h coordinate length
spread h coordinate length V corners e =
    let u = not_all (λ v. list_all (λ w. int_le (coordinate v.vector -ℤ coordinate w.vector) length) V) V e in
    let v = not_all (λ w. int_le (coordinate u.0.vector -ℤ coordinate w.vector) length) V u.2 in
    record { u = u.0.vector; v = v.0.vector; u_corner = corners u.0 u.1; v_corner = corners v.0 v.1; far = far_apart (coordinate u.0.vector -ℤ coordinate v.0.vector) length v.2 }

module _ (b : Below) (f : Format) (fs : List Face) (right : IsRight b) (ok : FacesOk f fs) (box : is_box fs ≡ true) where
  along : (g : Face) → g ∈ fs → Along (half_space g.plane).normal
  along g i = along_axis (half_space g.plane).normal (all_true (λ f. is_along_axis (half_space f.plane).normal) fs (and_parts (length fs == 6) (list_all (λ f. is_along_axis (half_space f.plane).normal) fs) box).1 g i)

  corner : (h : HalfSpace) → h ∈ half_spaces fs → (v : Homogeneous) → v ∈ vertices_of b fs → Corner h v.vector
  unfolding side dot
  corner h i v m =
      let is = (right.vertices (half_spaces fs) ok.valid).each v m in
      let whole = is_whole fs along v is.0 is.1 in
      let c = ok.valid.within v is.0.inside in
      record {
        behind = subst (λ w. (h.normal.x *ℤ v.vector.x +ℤ h.normal.y *ℤ v.vector.y +ℤ h.normal.z *ℤ v.vector.z -ℤ h.distance *ℤ w) ≤ℤ pos 0) whole (is.0.inside.all h i);
        left = subst (λ w. neg_ℤ (world *ℤ w) ≤ℤ v.vector.x) whole c.left;
        right = subst (λ w. v.vector.x ≤ℤ (world *ℤ w)) whole c.right;
        near = subst (λ w. neg_ℤ (world *ℤ w) ≤ℤ v.vector.y) whole c.near;
        far = subst (λ w. v.vector.y ≤ℤ (world *ℤ w)) whole c.far;
        bottom = subst (λ w. neg_ℤ (world *ℤ w) ≤ℤ v.vector.z) whole c.bottom;
        top = subst (λ w. v.vector.z ≤ℤ (world *ℤ w)) whole c.top;
      }

  thin : (length : ℤ) → has_short_side length (vertices_of b fs) ≡ false → (h : HalfSpace) → h ∈ half_spaces fs → Thin h length
  thin length e h i =
      let V = vertices_of b fs in
      let x = or_parts (is_short_along (λ v. v.vector.x) length V) (is_short_along (λ v. v.vector.y) length V || is_short_along (λ v. v.vector.z) length V) e in
      let y = or_parts (is_short_along (λ v. v.vector.y) length V) (is_short_along (λ v. v.vector.z) length V) x.1 in
      record {
        x = spread h (λ u. u.x) length V (corner h i) x.0;
        y = spread h (λ u. u.y) length V (corner h i) y.0;
        z = spread h (λ u. u.z) length V (corner h i) y.1;
      }

  half_in : (gs : List Face) (g : Face) → g ∈ gs → half_space g.plane ∈ half_spaces gs
  half_in [] g i = elim i [ ]
  half_in (x ∷ gs) g here = here
  half_in (x ∷ gs) g (there i) = there (half_in gs g i)

  inner_ok : (t : ℤ) → pos 0 ≤ℤ t → has_short_side (t +ℤ t) (vertices_of b fs) ≡ false → (gs : List Face) → ((g : Face) → g ∈ gs → g ∈ fs) → Every (FaceOk f) (map (inward t) gs)
  inner_ok t some e [] sub g i = elim i [ ]
  inner_ok t some e (x ∷ gs) sub g here =
      let m = sub x here in
      let is = ok.each x m in
      record { form = is.form; plane = inward_plane t x some is.plane (along x m) (thin (t +ℤ t) e (half_space x.plane) (half_in fs x m)); material = is.material; numbers = is.numbers }
  inner_ok t some e (x ∷ gs) sub g (there i) = inner_ok t some e gs (λ h j. sub h (there j)) g i

-- Pieces of boxes have few faces. ----------------------------------------------------------------------------------------------------

put_fewer : (t : Bool) (x : Face) (xs : List Face) (n : ℕ) → length xs ≤ n → length (put_if t x xs) ≤ n + 1
put_fewer true x xs n h = omega arith
put_fewer false x xs n h = omega arith

kept_fewer : (b : Below) (all earlier rest : List Face) → length (trimmed_from b all earlier rest) ≤ length rest
kept_fewer b all earlier [] = omega arith
kept_fewer b all earlier (g ∷ rest) =
    omega (arith, put_fewer (not (list_any (λ h. have_one_half_space h.plane g.plane) earlier) && b.bears (half_spaces all) (half_space g.plane)) g (trimmed_from b all (g ∷ earlier) rest) (length rest) (kept_fewer b all (g ∷ earlier) rest))

lists_few : (a by fs : List Face) → fs ∈ piece_lists a by → length fs ≤ length a + length by
lists_few a [] fs i = elim i [ ]
lists_few a (g ∷ by) fs here = omega (arith, length_push a (reversed g))
lists_few a (g ∷ by) fs (there i) = omega (arith, lists_few (a ++ g ∷ []) by fs i, length_push a g)

pieces_few : (b : Below) (t : ℤ) (a : List Face) → is_box a ≡ true → (fs : List Face) → fs ∈ pieces b a (map (inward t) a) → length fs ≤ 128
pieces_few b t a box fs i =
    let x = in_map (trimmed b) (filter (has_inside b) (piece_lists a (map (inward t) a))) fs i in
    let y = in_filter (has_inside b) (piece_lists a (map (inward t) a)) x.0 x.1 in
    let six = eqb-true (length a) 6 (and_parts (length a == 6) (list_all (λ f. is_along_axis (half_space f.plane).normal) a) box).0 in
    subst (λ l. length l ≤ 128) (sym x.2) (omega (arith, kept_fewer b x.0 [] x.0, lists_few a (map (inward t) a) x.0 y.0, length-map a (inward t), six))

-- The command. -----------------------------------------------------------------------------------------------------------------------

pub hollows : (b : Below) (s : Settings) (m : Whole) (t : ℤ) (ns : List ℕ) → IsRight b → IsGood (Hollow t ns) → Shape m → Unlinked m → first (rows b s m (Hollow t ns)) ≡ None → Outcome m (Hollow t ns) (own b s m (Hollow t ns))
hollows b s m t ns right good shape u e =
    let c = Hollow t ns in
    let f = format_of m in
    let r = rows_pass b s m c e in
    let fit = nodes_fit b s m c e in
    let brushes = named_brushes b s m c (λ n. refl) e in
    let results = λ (n : ℕ). pieces b (faces_at m n) (map (inward t) (faces_at m n)) in
    let ok = λ (n : ℕ) (i : n ∈ ns).
    let fs = faces_at m n in
    let faces = brush_faces m n shape (brushes n i) in
    let box = not_false (is_box fs) (refuse_none (not (is_box fs)) (NotBox n) (each_none ns (λ n. refuse (not (is_box (faces_at m n))) (NotBox n)) r.box n i)) in
    let far = refuse_none (has_short_side (t +ℤ t) (vertices_of b fs)) (Thick n) (each_none ns (λ n. refuse (has_short_side (t +ℤ t) (vertices_of b (faces_at m n))) (Thick n)) r.thin n i) in
    pieces_ok b f fs (map (inward t) fs) right (brush_encloses f fs faces) (inner_ok b f fs right faces box t (some good.ranges.0.0) far fs (λ g j. j)) (pieces_few b t fs box) in
    remade_outcome m c (own b s m c) shape u
    (in_turn f (λ n. replace_by n (results n)) (λ fs. Unit {0}) (λ n. AreBrushes f (results n)) (put_in_place f results) ns m (fair_of m shape u) (λ n i. record { is = brushes n i; faces = tt }) ok
    (λ x. by_member x ns (λ i. fit.once x i) (λ none. omega (arith, tally-no_member x ns none))))
    brushes
  where
    some : {t : ℤ} → pos 1 ≤ℤ t → pos 0 ≤ℤ t
    some h = omega (arith, ints)
