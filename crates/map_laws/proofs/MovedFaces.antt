-- Faces that a motion carries: each stays right where its points stay in range, and the brush where it stays in the world.
use Rattle.std.proofs.Common.{◌≡◌, ℕ, suc, ◌*◌, ◌≤◌, List, [], ◌∷◌, length, map, Bool, true, false, cond, ◌==◌, ◌&&◌, inl, inr, refl, ap, sym, ◌∙◌, subst, arith, Option, Some, None, option_map, Ok, Err, eqb-true}
use Rattle.std.specs.Prelude.{ℤ, ◌*ℤ◌, nat_lt, int_div, unsigned_abs, unwrap_or, is_some, option_and_then}
use Rattle.std.specs.Bool.{Decides}
use Rattle.std.specs.Option.{option_map_or}
use Rattle.std.specs.List.{list_all}
use Rattle.std.specs.Ordering.{int_eq}
use Rattle.std.proofs.lemmas.Bool.{and_parts, and_from, ltb-true, lt-ltb}
use Rattle.algebra.specs.Members.{◌∈◌, here, there, Every}
use Rattle.algebra.specs.Space.{Homogeneous, Vector}
use Rattle.algebra.specs.World.{InCube, world}
use Rattle.exact_geom.specs.Machine.{IsWithin}
use Rattle.exact_geom.specs.declared.plane.PlaneFault.TheVariants.{PointRange, Flat}
use Rattle.exact_geom.specs.Planes.{ThreePoints, half_space, first_out_of_range, is_flat, parts, IsPlane}
use Rattle.exact_geom.proofs.PlaneLaws.{normal_positive}
use Rattle.orient48.specs.Laws.{IsTurn}
use Rattle.orient48.specs.Motions.{moved_at}
use Rattle.orient48.proofs.Matrices.{is_turn}
use Rattle.orient48.proofs.Units.{turned_size}
use Rattle.orient48.proofs.Reach.{not_flat, not_flat_moved}
use Rattle.trim_laws.specs.Solid.{IsIn, Proper}
use Rattle.trim_laws.specs.Valid.{Valid, OutOfWorld}
use Rattle.vertex_laws.specs.Vertex.{IsVertex}
use Rattle.moved_laws.specs.Moved.{moved_list}
use Rattle.moved_laws.proofs.Points.{in_onto, proper_onto, bounded_onto}
use Rattle.moved_laws.proofs.Halves.{list_moved}
use Rattle.moved_laws.proofs.Staying.{valid_bounded}
use Rattle.moved_laws.proofs.Brushes.{brush_is}
use Rattle.solid_brush.proofs.Boxed.{in_cube_or_not}
use Rattle.uv_lock.specs.declared.texture.Format.{Format}
use Rattle.map_text.specs.Fits.{is_format}
use Rattle.map_model.specs.Faces.{Face, Tex, ValveTex, StandardFields, ValveFields, axis_unit, offset_unit, format_of_tex}
use Rattle.map_model.specs.Motions.{Motion, turned, is_signed_permutation, moved_plane}
use Rattle.map_model.specs.Shape.{FaceOk, FacesOk, half_spaces, is_below_million, are_below_million, are_fields_in_range, is_tex_in_range}
use Rattle.map_model.specs.Carry.{carry, carried_tex, turned_axes, axis_vector, count_at, locked_product, scale_of, locked_offset, lost_offset, lost_offset_at, exact_quotient, Fraction}
use Rattle.map_model.specs.Below.{Below, IsRight}
use Rattle.map_laws.proofs.Skeleton.{not_both}

some_is : {A : Type 0} {x y : A} → Some x ≡ Some y → x ≡ y
some_is {A} {x} {y} e = cc

pub mapped : {A B : Type 0} (f : A → B) (o : Option A) (y : B) → option_map f o ≡ Some y → (x : A) × (o ≡ Some x) × (f x ≡ y)
mapped f None y e = absurd (cc)
mapped f (Some x) y e = (x, refl, some_is e)

pub then_some : {A B : Type 0} (f : A → Option B) (o : Option A) (y : B) → option_and_then f o ≡ Some y → (x : A) × (o ≡ Some x) × (f x ≡ Some y)
then_some f None y e = absurd (cc)
then_some f (Some x) y e = (x, refl, e)

-- Textures. -------------------------------------------------------------------------------------------------------------------------

-- A number that is found is below the limit.
quotient_small : (n d : ℤ) (limit : ℕ) (k : ℤ) → exact_quotient n d limit ≡ Some k → nat_lt (unsigned_abs k) limit ≡ true
quotient_small n d limit k e = by (int_div n d) e
  where
    kept : (b : Bool) (x : ℤ) → cond b (Some x) None ≡ Some k → (b ≡ true) × (x ≡ k)
    kept true x e = (refl, some_is e)
    kept false x e = absurd (cc)

    by : (x : ℤ) → cond (int_eq (x *ℤ d) n && nat_lt (unsigned_abs x) limit) (Some x) None ≡ Some k → nat_lt (unsigned_abs k) limit ≡ true
    by x e =
        let r = kept (int_eq (x *ℤ d) n && nat_lt (unsigned_abs x) limit) x e in
        subst (λ z. nat_lt (unsigned_abs z) limit ≡ true) r.1 (and_parts (int_eq (x *ℤ d) n) (nat_lt (unsigned_abs x) limit) r.0).1

offset_small : (r : Motion) (t : ValveTex) (k : ℕ) (offset : ℤ) → locked_offset r t k ≡ Some offset → is_below_million offset_unit offset ≡ true
offset_small r t k offset e = quotient_small (locked_product r t k) (scale_of (count_at t.scale k)) (1000000 * offset_unit) offset e

-- An axis of three numbers below the limit, as a vector.
axis_within : (limit : ℕ) (axis : List ℤ) → (length axis == 3 && list_all (λ z. nat_lt (unsigned_abs z) (suc limit)) axis) ≡ true → IsWithin limit (axis_vector axis)
axis_within limit [] e = absurd (cc)
axis_within limit (x ∷ []) e = absurd (cc)
axis_within limit (x ∷ y ∷ []) e = absurd (cc)
axis_within limit (x ∷ y ∷ z ∷ []) e =
    let all = (and_parts (3 == 3) (below x && (below y && (below z && true))) e).1 in
    let p = and_parts (below x) (below y && (below z && true)) all in
    let q = and_parts (below y) (below z && true) p.1 in
    let r = and_parts (below z) true q.1 in
    record { x = most x p.0; y = most y q.0; z = most z r.0 }
  where
    below : ℤ → Bool
    below z = nat_lt (unsigned_abs z) (suc limit)

    most : (z : ℤ) → nat_lt (unsigned_abs z) (suc limit) ≡ true → unsigned_abs z ≤ limit
    most z e = omega (arith, ltb-true (unsigned_abs z) (suc limit) e)
axis_within limit (x ∷ y ∷ z ∷ w ∷ more) e =
    absurd (omega (arith, eqb-true (length (x ∷ y ∷ z ∷ w ∷ more)) 3 (and_parts (length (x ∷ y ∷ z ∷ w ∷ more) == 3) (list_all (λ z. nat_lt (unsigned_abs z) (suc limit)) (x ∷ y ∷ z ∷ w ∷ more)) e).0))

within_axis : (limit : ℕ) (v : Vector) → IsWithin limit v → (length (parts v) == 3 && list_all (λ z. nat_lt (unsigned_abs z) (suc limit)) (parts v)) ≡ true
within_axis limit v h =
    and_from (3 == 3) _ refl (and_from (below v.x) _ (less v.x h.x) (and_from (below v.y) _ (less v.y h.y) (and_from (below v.z) true (less v.z h.z) refl)))
  where
    below : ℤ → Bool
    below z = nat_lt (unsigned_abs z) (suc limit)

    less : (z : ℤ) → unsigned_abs z ≤ limit → nat_lt (unsigned_abs z) (suc limit) ≡ true
    less z h = lt-ltb (unsigned_abs z) (suc limit) (omega arith)

axes_turned : (r : Motion) (limit : ℕ) → is_signed_permutation r.matrix ≡ true → (axes : List (List ℤ)) →
    list_all (λ axis. length axis == 3 && list_all (λ z. nat_lt (unsigned_abs z) (suc limit)) axis) axes ≡ true →
    list_all (λ axis. length axis == 3 && list_all (λ z. nat_lt (unsigned_abs z) (suc limit)) axis) (turned_axes r axes) ≡ true
axes_turned r limit p [] e = refl
axes_turned r limit p (axis ∷ axes) e =
    let k = and_parts (length axis == 3 && list_all (λ z. nat_lt (unsigned_abs z) (suc limit)) axis) (list_all (λ axis. length axis == 3 && list_all (λ z. nat_lt (unsigned_abs z) (suc limit)) axis) axes) e in
    and_from _ _ (within_axis limit (turned r.matrix (axis_vector axis)) (turned_size r.matrix (axis_vector axis) limit p (axis_within limit axis k.0))) (axes_turned r limit p axes k.1)

same_length : (r : Motion) (axes : List (List ℤ)) → length (turned_axes r axes) ≡ length axes
same_length r [] = refl
same_length r (x ∷ xs) = ap suc (same_length r xs)

-- A texture that is carried has its format, and stays in range.
record Carried (t u : Tex) : Type 0 where
  pub format : format_of_tex u ≡ format_of_tex t
  pub range : is_tex_in_range u ≡ true

turned_range : (r : Motion) (t : ValveTex) (off : List ℤ) → is_signed_permutation r.matrix ≡ true → is_tex_in_range (ValveFields t) ≡ true → are_below_million 2 offset_unit off ≡ true →
    is_tex_in_range (ValveFields (record t { axis = turned_axes r t.axis; off = off })) ≡ true
turned_range r t off p h o =
    let k = and_parts (length t.axis == 2 && list_all (are_below_million 3 axis_unit) t.axis) (are_fields_in_range t.off t.rotation t.scale t.surface) h in
    let a = and_parts (length t.axis == 2) (list_all (are_below_million 3 axis_unit) t.axis) k.0 in
    let f = and_parts (are_below_million 2 offset_unit t.off) _ k.1 in
    and_from _ _ (and_from _ _ (ap (λ n. n == 2) (same_length r t.axis) ∙ a.0) (axes_turned r 999999999999999 p t.axis a.1)) (and_from _ _ o f.1)

offsets_in_range : (t : ValveTex) → is_tex_in_range (ValveFields t) ≡ true → are_below_million 2 offset_unit t.off ≡ true
offsets_in_range t h =
    let k = and_parts (length t.axis == 2 && list_all (are_below_million 3 axis_unit) t.axis) (are_fields_in_range t.off t.rotation t.scale t.surface) h in
    (and_parts (are_below_million 2 offset_unit t.off) _ k.1).0

tex_carried : (lock : Bool) (r : Motion) (t u : Tex) → is_signed_permutation r.matrix ≡ true → is_tex_in_range t ≡ true → carried_tex lock r t ≡ Some u → Carried t u
tex_carried lock r (StandardFields t) u p h e = subst (Carried (StandardFields t)) (some_is e) (record { format = refl; range = h })
tex_carried false r (ValveFields t) u p h e = subst (Carried (ValveFields t)) (some_is e) (record { format = refl; range = turned_range r t t.off p h (offsets_in_range t h) })
tex_carried true r (ValveFields t) u p h e =
    let x = then_some (λ x. option_map (λ y. ValveFields (record t { axis = turned_axes r t.axis; off = x ∷ y ∷ [] })) (locked_offset r t 1)) (locked_offset r t 0) u e in
    let y = mapped (λ y. ValveFields (record t { axis = turned_axes r t.axis; off = x.0 ∷ y ∷ [] })) (locked_offset r t 1) u x.2 in
    subst (Carried (ValveFields t)) y.2 (record {
      format = refl;
      range = turned_range r t (x.0 ∷ y.0 ∷ []) p h (and_from (2 == 2) _ refl
          (and_from _ _ (offset_small r t 0 x.0 x.1) (and_from _ true (offset_small r t 1 y.0 y.1) refl)));
    })

-- Faces. ----------------------------------------------------------------------------------------------------------------------------

pub none_out : (t : ThreePoints) → first_out_of_range t ≡ None → is_flat t ≡ false → IsPlane t
none_out t e f = by (first_out_of_range t) (is_flat t) e f
  where
    by : (o : Option ℕ) (flat : Bool) → o ≡ None → flat ≡ false → option_map_or (λ k. Err (PointRange k)) o (cond flat (Err Flat) (Ok t)) ≡ Ok t
    by None false e f = refl
    by None true e f = absurd (cc)
    by (Some k) flat e f = absurd (cc)

record CarriedFace (format : Format) (r : Motion) (f g : Face) : Type 0 where
  pub ok : FaceOk format g
  pub plane : g.plane ≡ moved_plane r f.plane

face_carried : (lock : Bool) (r : Motion) (format : Format) (f g : Face) → is_signed_permutation r.matrix ≡ true → FaceOk format f → first_out_of_range (moved_plane r f.plane) ≡ None → carry lock r f ≡ Some g →
    CarriedFace format r f g
face_carried lock r format f g p h range e =
    let u = mapped (λ tex. record f { plane = moved_plane r f.plane; tex = tex }) (carried_tex lock r f.tex) g e in
    let t = tex_carried lock r f.tex u.0 p h.numbers u.1 in
    subst (CarriedFace format r f) u.2 (record {
      ok = record {
        form = ap (is_format format) t.format ∙ h.form;
        plane = none_out (moved_plane r f.plane) range (not_flat_moved r f.plane (is_turn r.matrix p) (not_flat f.plane h.plane));
        material = h.material;
        numbers = t.range;
      };
      plane = refl;
    })

-- With lock a face is carried where no offset is lost; without lock each is.
both_there : (o p : Option ℤ) (x : Option Fraction) (y z : Fraction) → x ≡ cond (is_some o) (cond (is_some p) None (Some y)) (Some z) → x ≡ None → (is_some o ≡ true) × (is_some p ≡ true)
both_there (Some a) (Some b) x y z e f = (refl, refl)
both_there (Some a) None x y z e f = absurd (cc)
both_there None p x y z e f = absurd (cc)

some_of : {A : Type 0} (o : Option A) → is_some o ≡ true → (x : A) × (o ≡ Some x)
some_of None e = absurd (cc)
some_of (Some x) e = (x, refl)

tex_there : (lock : Bool) (r : Motion) (t : Tex) → (lock ≡ true → lost_offset r t ≡ None) → (u : Tex) × (carried_tex lock r t ≡ Some u)
tex_there lock r (StandardFields t) h = (StandardFields t, refl)
tex_there false r (ValveFields t) h = (ValveFields (record t { axis = turned_axes r t.axis }), refl)
tex_there true r (ValveFields t) h =
    let k = both_there (locked_offset r t 0) (locked_offset r t 1) (lost_offset r (ValveFields t)) (lost_offset_at r t 1) (lost_offset_at r t 0) refl (h refl) in
    let x = some_of (locked_offset r t 0) k.0 in
    let y = some_of (locked_offset r t 1) k.1 in (
      ValveFields (record t { axis = turned_axes r t.axis; off = x.0 ∷ y.0 ∷ [] }),
      ap (option_and_then (λ u. option_map (λ v. ValveFields (record t { axis = turned_axes r t.axis; off = u ∷ v ∷ [] })) (locked_offset r t 1))) x.1
          ∙ ap (option_map (λ v. ValveFields (record t { axis = turned_axes r t.axis; off = x.0 ∷ v ∷ [] }))) y.1,
    )

face_there : (lock : Bool) (r : Motion) (f : Face) → (lock ≡ true → lost_offset r f.tex ≡ None) → (g : Face) × (carry lock r f ≡ Some g)
face_there lock r f h =
    let u = tex_there lock r f.tex h in
    (record f { plane = moved_plane r f.plane; tex = u.0 }, ap (option_map (λ tex. record f { plane = moved_plane r f.plane; tex = tex })) u.1)

abbrev pub carried_or_same : Bool → Motion → Face → Face
carried_or_same lock r f = unwrap_or (carry lock r f) f

-- What is asked of a face, so that it can be carried.
pub record CanBeCarried (lock : Bool) (r : Motion) (f : Face) : Type 0 where
  pub range : first_out_of_range (moved_plane r f.plane) ≡ None
  pub offsets : lock ≡ true → lost_offset r f.tex ≡ None

one_carried : (lock : Bool) (r : Motion) (format : Format) (f : Face) → is_signed_permutation r.matrix ≡ true → FaceOk format f → CanBeCarried lock r f → CarriedFace format r f (carried_or_same lock r f)
one_carried lock r format f p h c =
    let g = face_there lock r f c.offsets in
    subst (CarriedFace format r f) (sym (ap (λ o. unwrap_or o f) g.1)) (face_carried lock r format f g.0 p h c.range g.1)

-- Brushes. --------------------------------------------------------------------------------------------------------------------------

halves_of : (fs : List Face) → half_spaces fs ≡ map half_space (map (λ (f : Face). f.plane) fs)
halves_of [] = refl
halves_of (f ∷ fs) = ap (λ l. half_space f.plane ∷ l) (halves_of fs)

moved_halves : (r : Motion) (fs : List Face) → map (λ f. half_space (moved_plane r f.plane)) fs ≡ map half_space (map (moved_plane r) (map (λ (f : Face). f.plane) fs))
moved_halves r [] = refl
moved_halves r (f ∷ fs) = ap (λ l. half_space (moved_plane r f.plane) ∷ l) (moved_halves r fs)

carried_halves : (lock : Bool) (r : Motion) (fs : List Face) → ((f : Face) → f ∈ fs → (carried_or_same lock r f).plane ≡ moved_plane r f.plane) →
    half_spaces (map (carried_or_same lock r) fs) ≡ map half_space (map (moved_plane r) (map (λ (f : Face). f.plane) fs))
carried_halves lock r [] h = refl
carried_halves lock r (f ∷ fs) h = λ i. half_space (h f here i) ∷ carried_halves lock r fs (λ g j. h g (there j)) i

proper_halves : (ts : List ThreePoints) → ((t : ThreePoints) → t ∈ ts → IsPlane t) → Proper (map half_space ts)
proper_halves [] h f i = elim i [ ]
proper_halves (t ∷ ts) h f here = normal_positive t (h t here)
proper_halves (t ∷ ts) h f (there i) = proper_halves ts (λ u j. h u (there j)) f i

planes_ok : (format : Format) (fs : List Face) → Every (FaceOk format) fs → (t : ThreePoints) → t ∈ map (λ (f : Face). f.plane) fs → IsPlane t
planes_ok format [] h t i = elim i [ ]
planes_ok format (f ∷ fs) h t here = (h f here).plane
planes_ok format (f ∷ fs) h t (there i) = planes_ok format fs (λ g j. h g (there j)) t i

each_carried : (lock : Bool) (r : Motion) (format : Format) (fs : List Face) → ((f : Face) → f ∈ fs → CarriedFace format r f (carried_or_same lock r f)) → Every (FaceOk format) (map (carried_or_same lock r) fs)
each_carried lock r format [] h g i = elim i [ ]
each_carried lock r format (f ∷ fs) h g here = (h f here).ok
each_carried lock r format (f ∷ fs) h g (there i) = each_carried lock r format fs (λ x j. h x (there j)) g i

stays_valid : (b : Below) (r : Motion) (ts : List ThreePoints) → IsRight b → is_signed_permutation r.matrix ≡ true → ((t : ThreePoints) → t ∈ ts → IsPlane t) → Valid (map half_space ts) →
    b.leaves_world (map half_space (map (moved_plane r) ts)) ≡ false → Valid (map half_space (map (moved_plane r) ts))
stays_valid b r ts right p planes valid stays = (brush_is r ts p valid).0 inside
  where
    turn : IsTurn r.matrix
    turn = is_turn r.matrix p

    is_list : map half_space (map (moved_plane r) ts) ≡ moved_list r (map half_space ts)
    is_list = list_moved r ts turn

    decides : Decides (b.leaves_world (map half_space (map (moved_plane r) ts))) (OutOfWorld (map half_space (map (moved_plane r) ts)))
    decides = subst (λ L. Decides (b.leaves_world L) (OutOfWorld L)) (sym is_list)
        (right.leaves_world (moved_list r (map half_space ts)) (proper_onto r (map half_space ts) turn (proper_halves ts planes)) (inl (bounded_onto r (map half_space ts) turn (valid_bounded (map half_space ts) valid))))

    not_out : OutOfWorld (map half_space (map (moved_plane r) ts)) → ⊥
    not_out o = not_both (b.leaves_world (map half_space (map (moved_plane r) ts))) (decides.1 o) stays

    inside : (v : Homogeneous) → IsVertex (map half_space ts) v → InCube world (moved_at r v)
    inside v is = elim (in_cube_or_not world (moved_at r v)) [
      | inl i ↦ i
      | inr n ↦ absurd (not_out (record { at = moved_at r v; is_in = subst (λ L. IsIn L (moved_at r v)) (sym is_list) (in_onto r (map half_space ts) v turn is.inside); outside = n }))
    ]

-- A brush whose faces can be carried, and that stays in the world.
pub brush_carried : (b : Below) (lock : Bool) (r : Motion) (format : Format) (fs : List Face) → IsRight b → is_signed_permutation r.matrix ≡ true → FacesOk format fs → ((f : Face) → f ∈ fs → CanBeCarried lock r f) →
    b.leaves_world (map (λ f. half_space (moved_plane r f.plane)) fs) ≡ false → FacesOk format (map (carried_or_same lock r) fs)
brush_carried b lock r format fs right p ok can stays =
    let carried = λ (f : Face) (i : f ∈ fs). one_carried lock r format f p (ok.each f i) (can f i) in
    record {
      each = each_carried lock r format fs carried;
      valid = subst Valid (sym (carried_halves lock r fs (λ f i. (carried f i).plane)))
          (stays_valid b r (map (λ (f : Face). f.plane) fs) right p (planes_ok format fs ok.each) (subst Valid (halves_of fs) ok.valid) (sym (ap b.leaves_world (moved_halves r fs)) ∙ stays));
    }
