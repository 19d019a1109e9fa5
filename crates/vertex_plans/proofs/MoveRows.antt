-- The rows on the vertices that `vertex` moves, from why they can't be moved.
use Rattle.std.proofs.Common.{◌≡◌, ℕ, zero, suc, ◌+◌, ◌^◌, ◌<◌, ◌≤◌, List, [], ◌∷◌, length, map, flat_map, get_or, Bool, true, false, not, IsTrue, Option, None, Some, Ok, Err, refl, ap, sym, ◌∙◌, subst, arith, ℤ, pos, unsigned_abs}
use Rattle.std.specs.Prelude.{nat_lt, option_map}
use Rattle.std.specs.List.{AllByRecursion, list_any, list_all}
use Rattle.std.proofs.lemmas.Bool.Decides.{Decides-ltb}
use Rattle.algebra.specs.Members.{◌∈◌, here, there, Every}
use Rattle.algebra.specs.Space.{Homogeneous, HalfSpace, whole_point}
use Rattle.algebra.specs.World.{InCube, world}
use Rattle.exact_geom.specs.declared.point.Point.{Point}
use Rattle.exact_geom.specs.Planes.{ThreePoints, vector, is_in_range}
use Rattle.cmd_text.specs.Kept.{AreShifts, IsShift}
use Rattle.trim_laws.specs.Valid.{Valid}
use Rattle.solid_laws.specs.Names.{AreVertices}
use Rattle.hull_laws.specs.Facets.{Spans}
use Rattle.hull_laws.specs.Moved.{Carried, moved_points}
use Rattle.hull_merge.specs.Gathered.{whole_of, HasWeight}
use Rattle.hull_merge.specs.Hulls.{zero_point, HasFacets, Outside}
use Rattle.solid_brush.specs.declared.side.Side.{Side}
use Rattle.map_model.specs.Faces.{Face}
use Rattle.map_model.specs.Shape.{half_spaces}
use Rattle.map_model.specs.Below.{Below, IsRight}
use Rattle.map_model.specs.Brushes.{facets, with_fields_of, vertices_of, changed_faces, changed_points, picked, is_whole, is_outside_world, moved_by, spans_space, first_place, distinct_points}
use Rattle.map_model.specs.Commands.{vector_in}
use Rattle.map_model.specs.Replies.{Refusal, NoVertex, FractionalVertex, PointRange, NoVolume, TooManyFaces, OutOfWorld}
use Rattle.map_model.specs.Rows.{at_each_pick, first, is_vertex, refuse, too_many}
use Rattle.map_model.proofs.Meaning.{vertices_law}
use Rattle.map_model.proofs.Members.{in_map, map_in}
use Rattle.tree_ops.specs.declared.fault.OpFault.TheVariants.{No, Memory}
use Rattle.vertex_edit.specs.declared.shape.FromFace.{FromFace}
use Rattle.vertex_edit.specs.declared.fault.MoveFault.{MoveFault}
use Rattle.vertex_edit.specs.declared.fault.MoveFault.TheVariants.{NoVertex as StrangePick, Fractional, PointRange as FarPick, NoVolume as Flat, TooManyFaces as ManyFaces, OutOfWorld as LeavesWorld, Memory as NoMemory}
use Rattle.vertex_edit.specs.MoveFaults.{IsFirstNumber, IsNoMoveFor, IsNoEditFor, HaveVertices, HaveShifted}
use Rattle.vertex_edit.specs.Places.{GoesInRange, AreShifted, IsMoved, IsSmall, place_of}
use Rattle.vertex_edit.specs.Edits.{IsEdit}
use Rattle.vertex_plans.specs.Remade.{ComeFrom, AreFacesOn}
use Rattle.vertex_plans.specs.Moves.{move_rows, IsMovedBody, pick_of, why}
use Rattle.vertex_plans.proofs.Changed.{carried, goals, come_from, faces_are}
use Rattle.vertex_plans.proofs.Destinations.{spans_yes, spans_no, facet_count, few_facets, outside_yes, outside_no, few_sides}
use Rattle.vertex_plans.proofs.Picked.{is_vertex_in, in_vertex, no_vertex_in, all_whole, some_fraction, no_fraction, shifted_are, destinations_are, distinct_in, first_found, none_found, near_point, goes_in_range}

-- A test that doesn't hold, and a count that is few or not.
not_in : (t : Bool) → ¬ (t ≡ true) → t ≡ false
not_in false n = refl
not_in true n = absurd (n refl)

more : (n : ℕ) → 128 < n → nat_lt 128 n ≡ true
more n lt = (Decides-ltb 128 n).1 lt

pub fewer : (n : ℕ) → n ≤ 128 → nat_lt 128 n ≡ false
fewer n le = not_in (nat_lt 128 n) (λ e. omega (arith, le, (Decides-ltb 128 n).0 e))

module _ (fs : List Face) (n : ℕ) (shift : List ℤ) (picks : List Point) where
  abbrev change : Homogeneous → Point
  change = picked (vector_in shift) picks

  abbrev goes_out : Point → Bool
  goes_out p = not (is_in_range (moved_by (vector_in shift).x (vector_in shift).y (vector_in shift).z p))

  abbrev faces_by : List Homogeneous → List Face
  faces_by V = flat_map (with_fields_of change V fs) (facets (goals change V))

  -- The rows, by the vertices.
  abbrev row_picks : List Homogeneous → Option Refusal
  row_picks V = at_each_pick 1 picks (λ p. not (is_vertex_in V p)) NoVertex

  abbrev row_whole : List Homogeneous → Option Refusal
  row_whole V = refuse (not (list_all is_whole V)) (FractionalVertex n)

  abbrev row_range : Option Refusal
  row_range = at_each_pick 1 picks goes_out (PointRange n)

  abbrev row_volume : List Homogeneous → Option Refusal
  row_volume V = refuse (not (spans_space (goals change V))) (NoVolume n)

  abbrev row_faces : List Homogeneous → Option Refusal
  row_faces V = too_many n (faces_by V)

  abbrev row_world : List Homogeneous → Option Refusal
  row_world V = refuse (list_any is_outside_world (goals change V)) (OutOfWorld n)

  abbrev rows_by : List Homogeneous → List (Option Refusal)
  rows_by V = row_picks V ∷ row_whole V ∷ row_range ∷ row_volume V ∷ row_faces V ∷ row_world V ∷ []

  module _ (valid : Valid (half_spaces fs)) where
    some : 0 < length fs
    some = by fs valid.least
      where
        by : (gs : List Face) → 4 ≤ length (half_spaces gs) → 0 < length gs
        by [] l = absurd (omega (arith, l))
        by (g ∷ gs) l = omega arith

    rows_are : (b : Below) → IsRight b → (V : List Homogeneous) → AreVertices (half_spaces fs) V → move_rows b fs n shift picks ≡ rows_by V
    rows_are b right V are = ap rows_by (vertices_law b fs V right valid are)

    -- Some pick is no vertex.
    stranger : (V : List Homogeneous) (k : ℕ) → IsFirstNumber (λ q. whole_of q ∈ V) picks k → row_picks V ≡ Some (NoVertex k)
    stranger V k f =
        ap (option_map NoVertex) (first_found (λ p. not (is_vertex_in V p)) 1 f.place picks f.first.within
        (ap not (no_vertex_in V (get_or picks f.place zero_point) f.first.here)) (λ j l. ap not (in_vertex V (get_or picks j zero_point) (f.first.before j l))))
        ∙ ap (λ j. Some (NoVertex j)) (sym f.number)

    known : (V : List Homogeneous) → Every (λ q. whole_of q ∈ V) picks → row_picks V ≡ None
    known V each = ap (option_map NoVertex) (none_found (λ p. not (is_vertex_in V p)) 1 picks (λ p i. ap not (in_vertex V p (each p i))))

    fraction : (V : List Homogeneous) → HasWeight V → row_whole V ≡ Some (FractionalVertex n)
    fraction V w = ap (λ t. refuse (not t) (FractionalVertex n)) (some_fraction V w)

    whole : (V : List Homogeneous) → ¬ (HasWeight V) → row_whole V ≡ None
    whole V w = ap (λ t. refuse (not t) (FractionalVertex n)) (no_fraction V w)

    far : (k : ℕ) → IsFirstNumber (GoesInRange shift) picks k → row_range ≡ Some (PointRange n k)
    far k f =
        ap (option_map (PointRange n)) (first_found goes_out 1 f.place picks f.first.within (ap not (not_in (is_in_range (moved_by (vector_in shift).x (vector_in shift).y (vector_in shift).z (get_or picks f.place zero_point))) f.first.here))
        (λ j l. ap not (f.first.before j l)))
        ∙ ap (λ j. Some (PointRange n j)) (sym f.number)

    near : Every (GoesInRange shift) picks → row_range ≡ None
    near each = ap (option_map (PointRange n)) (none_found goes_out 1 picks (λ p i. ap not (each p i)))

    -- Vertices that are whole, with picks of them that go in range.
    module _ (vs : List Carried) (shifted : AreShifted (half_spaces fs) picks shift vs) where
      abbrev V : List Homogeneous
      V = map whole_of shifted.points

      vs_are : vs ≡ carried change V
      vs_are = shifted.carried ∙ shifted_are shift picks shifted.points

      in_world : Every (InCube world) V
      in_world v i = valid.within v (shifted.vertices.each v i).0.inside

      in_range : (p : Point) → p ∈ goals change V → IsTrue (is_in_range p)
      in_range p i =
          goes_in_range shift picks shifted.points shifted.range (λ q j. near_point q (in_world (whole_of q) (map_in whole_of shifted.points q j))) p
          (subst (λ ps. p ∈ ps) (destinations_are shift picks shifted.points) (distinct_in (map change V) p i))

      three : (b : Below) → IsRight b → first (move_rows b fs n shift picks) ≡ first (row_volume V ∷ row_faces V ∷ row_world V ∷ [])
      three b right =
          ap first (rows_are b right V shifted.vertices)
          ∙ (λ i. first (known V shifted.picked i ∷ whole_row i ∷ near shifted.range i ∷ row_volume V ∷ row_faces V ∷ row_world V ∷ []))
        where
          whole_row : row_whole V ≡ None
          whole_row = ap (λ t. refuse (not t) (FractionalVertex n)) (all_whole shifted.points)

      -- Four of the points span space, or not.
      flat : ¬ (Spans (moved_points vs)) → row_volume V ≡ Some (NoVolume n)
      flat none = ap (λ t. refuse (not t) (NoVolume n)) (spans_no change V (subst (λ ws. ¬ (Spans (moved_points ws))) vs_are none))

      solid_row : Spans (moved_points vs) → row_volume V ≡ None
      solid_row s = ap (λ t. refuse (not t) (NoVolume n)) (spans_yes change V (subst (λ ws. Spans (moved_points ws)) vs_are s))

      abbrev last_rows : List (Option Refusal)
      last_rows = row_volume V ∷ row_faces V ∷ row_world V ∷ []

      stops_flat : IsNoEditFor (moved_points vs) Flat → first last_rows ≡ Some (NoVolume n)
      stops_flat h = λ i. first (flat h i ∷ row_faces V ∷ row_world V ∷ [])

      stops_many : (count : ℕ) → IsNoEditFor (moved_points vs) (ManyFaces count) → first last_rows ≡ Some (TooManyFaces n count)
      stops_many count h =
          (λ i. first (solid_row h.0 i ∷ row_faces V ∷ row_world V ∷ []))
          ∙ (λ i. first (refuse (nat_lt 128 (counted i)) (TooManyFaces n (counted i)) ∷ row_world V ∷ []))
          ∙ (λ i. first (refuse (more count h.2 i) (TooManyFaces n count) ∷ row_world V ∷ []))
        where
          counted : length (faces_by V) ≡ count
          counted = facet_count change V fs in_range some count (subst (λ ws. HasFacets (moved_points ws) count) vs_are h.1)

      stops_outside : IsNoEditFor (moved_points vs) LeavesWorld → first last_rows ≡ Some (OutOfWorld n)
      stops_outside h =
          (λ i. first (solid_row h.0 i ∷ row_faces V ∷ row_world V ∷ []))
          ∙ (λ i. first (refuse (fewer (length (faces_by V)) few i) (TooManyFaces n (length (faces_by V))) ∷ row_world V ∷ []))
          ∙ (λ i. first (refuse (outside_yes change V (subst (λ ws. Outside (moved_points ws)) vs_are h.1) i) (OutOfWorld n) ∷ []))
        where
          few : length (faces_by V) ≤ 128
          few = few_facets change V fs in_range some (λ k f. h.2 k (subst (λ ws. HasFacets (moved_points ws) k) (sym vs_are) f))

      module _ (rows : List FromFace) (solid : List Side) (edit : IsEdit (half_spaces fs) vs rows solid) where
        edit_is : IsEdit (half_spaces fs) (carried change V) rows solid
        edit_is = subst (λ ws. IsEdit (half_spaces fs) ws rows solid) vs_are edit

        from : ComeFrom fs rows solid
        from = come_from change V fs rows solid in_range edit_is

        module _ (body : List Face) (are : AreFacesOn fs rows solid body) where
          faces_is : faces_by V ≡ body
          faces_is = faces_are change V fs rows solid in_range edit_is body are

          good : (b : Below) → IsRight b → (changed_faces b change fs ≡ body) × (first (move_rows b fs n shift picks) ≡ None)
          good b right = (
            ap faces_by (vertices_law b fs V right valid shifted.vertices) ∙ faces_is,
            three b right
                ∙ (λ i. first (solid_row edit.spans i ∷ row_faces V ∷ row_world V ∷ []))
                ∙ (λ i. first (refuse (fewer (length (faces_by V)) few i) (TooManyFaces n (length (faces_by V))) ∷ row_world V ∷ []))
                ∙ (λ i. first (refuse (outside_no change V fs rows solid edit_is i) (OutOfWorld n) ∷ [])),
          )
            where
              few : length (faces_by V) ≤ 128
              few = omega (arith, ap length faces_is, are.count, few_sides change V fs rows solid edit_is)

    pub comes_from : (rows : List FromFace) (solid : List Side) → IsMoved (half_spaces fs) picks shift rows solid → ComeFrom fs rows solid
    comes_from rows solid moved = from moved.vs moved.shifted rows solid moved.edit

    pub moved_body : (rows : List FromFace) (solid : List Side) (body : List Face) → IsMoved (half_spaces fs) picks shift rows solid → AreFacesOn fs rows solid body → IsMovedBody fs n shift picks (Ok body)
    moved_body rows solid body moved are = good moved.vs moved.shifted rows solid moved.edit body are

    pub no_body : (f : MoveFault) → IsNoMoveFor (half_spaces fs) picks shift f → IsMovedBody fs n shift picks (Err (why n f))
    no_body (StrangePick k) h = λ b right.
        ap first (rows_are b right h.V h.vertices) ∙ (λ i. first (stranger h.V k h.cause i ∷ row_whole h.V ∷ row_range ∷ row_volume h.V ∷ row_faces h.V ∷ row_world h.V ∷ []))
    no_body Fractional h = λ b right.
        ap first (rows_are b right h.V h.vertices)
        ∙ (λ i. first (known h.V h.cause.0 i ∷ fraction h.V h.cause.1 i ∷ row_range ∷ row_volume h.V ∷ row_faces h.V ∷ row_world h.V ∷ []))
    no_body (FarPick k) h = λ b right.
        ap first (rows_are b right h.V h.vertices)
        ∙ (λ i. first (known h.V h.cause.0 i ∷ whole h.V h.cause.1 i ∷ far k h.cause.2 i ∷ row_volume h.V ∷ row_faces h.V ∷ row_world h.V ∷ []))
    no_body Flat h = λ b right. three h.vs h.shifted b right ∙ stops_flat h.vs h.shifted h.cause
    no_body (ManyFaces count) h = λ b right. three h.vs h.shifted b right ∙ stops_many h.vs h.shifted count h.cause
    no_body LeavesWorld h = λ b right. three h.vs h.shifted b right ∙ stops_outside h.vs h.shifted h.cause
    no_body NoMemory h = tt

-- The pick that is told is one of few.
pub few_pick : (F : List HalfSpace) (picks : List Point) (shift : List ℤ) (f : MoveFault) → IsNoMoveFor F picks shift f → length picks < 4096 → pick_of f < 2 ^ 32
few_pick F picks shift (StrangePick k) h few = omega (arith, h.cause.number, h.cause.first.within, few)
few_pick F picks shift (FarPick k) h few = omega (arith, h.cause.2.number, h.cause.2.first.within, few)
few_pick F picks shift Fractional h few = omega arith
few_pick F picks shift Flat h few = omega arith
few_pick F picks shift (ManyFaces n) h few = omega arith
few_pick F picks shift LeavesWorld h few = omega arith
few_pick F picks shift NoMemory h few = omega arith

-- A shift of a line is small.
short_at : (p : List ℤ) (k : ℕ) → AllByRecursion IsShift p → unsigned_abs (get_or p k (pos 0)) ≤ 8704
short_at [] k h = omega arith
short_at (x ∷ p) zero h = h.0
short_at (x ∷ p) (suc k) h = short_at p k h.1

pub small_shift : (shift : List ℤ) → AreShifts shift → IsSmall shift
small_shift shift h = record { x = short_at shift 0 h; y = short_at shift 1 h; z = short_at shift 2 h }
