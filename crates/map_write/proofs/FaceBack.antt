-- What a savable face means once it is written.
use Rattle.std.proofs.Common.{◌≡◌, ℕ, zero, suc, ◌≤◌, Bool, true, false, not, ◌&&◌, ◌||◌, ◌==◌, leb, ltb, cond, int_le, Option, None, Some, List, [], ◌∷◌, map, length, get_or, refl, ap, ◌∙◌, arith, ℤ, pos, negsuc, nat_abs, unsigned_abs}
use Rattle.std.specs.Option.{option_map, option_map_or}
use Rattle.std.specs.List.{list_all, list_any}
use Rattle.std.specs.Fmt.{signed_decimal}
use Rattle.std.proofs.lemmas.Bool.{and_parts, and_from, or_from}
use Rattle.std.proofs.lemmas.Bool.Decides.{nat_tests}
use Rattle.exact_geom.specs.Planes.{ThreePoints, is_flat}
use Rattle.fixed_num.specs.Count.{is_number_word, count_of}
use Rattle.fixed_num.specs.Decimals.{axis_decimals, offset_decimals, rotation_decimals, scale_decimals, surface_decimals}
use Rattle.fixed_num.specs.Shortest.{shortest_decimal}
use Rattle.uv_lock.specs.SurfaceNumbers.{SurfaceNumbers}
use Rattle.uv_lock.specs.declared.face.Face.{Face}
use Rattle.uv_lock.specs.declared.texture.Tex.{Tex}
use Rattle.uv_lock.specs.declared.texture.Tex.TheVariants.{Standard, Valve}
use Rattle.map_lex.specs.OneToken.{needs_quotes}
use Rattle.map_text.specs.Grammar.{word, quote}
use Rattle.map_text.specs.Fits.{coordinates, texture_numbers, surface_numbers, face_fits, is_material}
use Rattle.map_text.specs.Meaning.{is_whole, whole_of, three_points_of, axis_of, surface_of, tex_of, face_of_text, is_bits, has_no_surface, has_fraction, passes_range, is_large, is_axis_large, passes_limit, lies_on_line}
use Rattle.map_text.specs.Spelled.{is_small, are_small, is_savable_turn, is_savable_surface, is_savable_texture, is_savable_face}
use Rattle.map_write.specs.Written.{at, kept, axis_text, texture_text, surface_text, surface_of_tex, face_text, material_symbol}
use Rattle.map_write.proofs.Tests.{all_append}
use Rattle.map_write.proofs.NumberWords.{SpellsWhole, shortest_spells, small_not_large, coordinate_spells}
use Rattle.map_write.proofs.FaceFacts.{HavePlane, AreSmall, small_at, small_axis, shared_small, axes_small, surface_facts, material_fine, face_facts}

-- ---- coordinates

abbrev is_near : ℤ → Bool
is_near z = leb (nat_abs z) 4352

abbrev numbers_of : ThreePoints → List ℤ
numbers_of t = t.p0.x ∷ t.p0.y ∷ t.p0.z ∷ t.p1.x ∷ t.p1.y ∷ t.p1.z ∷ t.p2.x ∷ t.p2.y ∷ t.p2.z ∷ []

all_near : (t : ThreePoints) → HavePlane t → list_all is_near (numbers_of t) ≡ true
all_near t p = λ i. p.p0.x i && (p.p0.y i && (p.p0.z i && (p.p1.x i && (p.p1.y i && (p.p1.z i && (p.p2.x i && (p.p2.y i && (p.p2.z i && true))))))))

wholes_are_numbers : (zs : List ℤ) → list_all is_near zs ≡ true → list_all is_number_word (map signed_decimal zs) ≡ true
wholes_are_numbers [] e = refl
wholes_are_numbers (z ∷ zs) e =
    let parts = and_parts (is_near z) (list_all is_near zs) e in
    and_from (is_number_word (signed_decimal z)) (list_all is_number_word (map signed_decimal zs)) (coordinate_spells z parts.0).spells.number (wholes_are_numbers zs parts.1)

wholes_are_whole : (zs : List ℤ) → list_all is_near zs ≡ true → list_any (λ w. not (is_whole w)) (map signed_decimal zs) ≡ false
wholes_are_whole [] e = refl
wholes_are_whole (z ∷ zs) e =
    let parts = and_parts (is_near z) (list_all is_near zs) e in
    or_from (not (is_whole (signed_decimal z))) (list_any (λ w. not (is_whole w)) (map signed_decimal zs)) (ap not (coordinate_spells z parts.0).whole) (wholes_are_whole zs parts.1)

near_not_far : (n : ℕ) → leb n 4352 ≡ true → ltb 4352 n ≡ false
near_not_far n e = grind (arith, nat_tests)

wholes_are_near : (zs : List ℤ) → list_all is_near zs ≡ true → list_any (λ w. ltb 4352 (unsigned_abs (whole_of w))) (map signed_decimal zs) ≡ false
wholes_are_near [] e = refl
wholes_are_near (z ∷ zs) e =
    let parts = and_parts (is_near z) (list_all is_near zs) e in
    or_from (ltb 4352 (unsigned_abs (whole_of (signed_decimal z)))) (list_any (λ w. ltb 4352 (unsigned_abs (whole_of w))) (map signed_decimal zs))
    (ap (λ w. ltb 4352 (unsigned_abs w)) (coordinate_spells z parts.0).value ∙ near_not_far (nat_abs z) parts.0) (wholes_are_near zs parts.1)

points_back : (f : Face) → HavePlane f.plane → three_points_of (face_text kept f) ≡ f.plane
points_back f p = λ i. record {
  p0 = record { x = (coordinate_spells f.plane.p0.x p.p0.x).value i; y = (coordinate_spells f.plane.p0.y p.p0.y).value i; z = (coordinate_spells f.plane.p0.z p.p0.z).value i };
  p1 = record { x = (coordinate_spells f.plane.p1.x p.p1.x).value i; y = (coordinate_spells f.plane.p1.y p.p1.y).value i; z = (coordinate_spells f.plane.p1.z p.p1.z).value i };
  p2 = record { x = (coordinate_spells f.plane.p2.x p.p2.x).value i; y = (coordinate_spells f.plane.p2.y p.p2.y).value i; z = (coordinate_spells f.plane.p2.z p.p2.z).value i };
}

-- ---- textures

shortest_are_numbers : (d : ℕ) → d ≤ 12 → (counts : List ℤ) → list_all (is_small d) counts ≡ true → list_all is_number_word (map (shortest_decimal d) counts) ≡ true
shortest_are_numbers d few [] e = refl
shortest_are_numbers d few (c ∷ counts) e =
    let parts = and_parts (is_small d c) (list_all (is_small d) counts) e in
    and_from (is_number_word (shortest_decimal d c)) (list_all is_number_word (map (shortest_decimal d) counts)) (shortest_spells d few c parts.0).number (shortest_are_numbers d few counts parts.1)

is_number : (d : ℕ) → d ≤ 12 → (count : ℤ) → is_small d count ≡ true → is_number_word (shortest_decimal d count) ≡ true
is_number d few count small = (shortest_spells d few count small).number

not_large : (d : ℕ) → d ≤ 12 → (count : ℤ) → is_small d count ≡ true → is_large d (shortest_decimal d count) ≡ false
not_large d few count small = small_not_large d (shortest_decimal d count) count small (shortest_spells d few count small)

count_back : (d : ℕ) → d ≤ 12 → (count : ℤ) → is_small d count ≡ true → count_of d (shortest_decimal d count) ≡ count
count_back d few count small = (shortest_spells d few count small).counted

two_of : (xs : List ℤ) → (length xs == 2) ≡ true → at xs 0 ∷ at xs 1 ∷ [] ≡ xs
two_of [] e = cc
two_of (x ∷ []) e = cc
two_of (x ∷ y ∷ []) e = refl
two_of (x ∷ y ∷ z ∷ xs) e = absurd (longer (length xs) e) where
  longer : (n : ℕ) → (suc (suc (suc n)) == 2) ≡ true → ⊥
  longer n e = grind arith

three_of : (xs : List ℤ) → (length xs == 3) ≡ true → at xs 0 ∷ at xs 1 ∷ at xs 2 ∷ [] ≡ xs
three_of [] e = cc
three_of (x ∷ []) e = cc
three_of (x ∷ y ∷ []) e = cc
three_of (x ∷ y ∷ z ∷ []) e = refl
three_of (x ∷ y ∷ z ∷ w ∷ xs) e = absurd (longer (length xs) e) where
  longer : (n : ℕ) → (suc (suc (suc (suc n))) == 3) ≡ true → ⊥
  longer n e = grind arith

two_axes : (xs : List (List ℤ)) → (length xs == 2) ≡ true → get_or xs 0 [] ∷ get_or xs 1 [] ∷ [] ≡ xs
two_axes [] e = cc
two_axes (x ∷ []) e = cc
two_axes (x ∷ y ∷ []) e = refl
two_axes (x ∷ y ∷ z ∷ xs) e = absurd (longer (length xs) e) where
  longer : (n : ℕ) → (suc (suc (suc n)) == 2) ≡ true → ⊥
  longer n e = grind arith

axis_back : (axis : List ℤ) (offset : ℤ) → are_small 3 axis_decimals axis ≡ true → axis_of (axis_text kept axis offset) ≡ axis
axis_back axis offset e =
    let parts = and_parts (length axis == 3) (list_all (is_small axis_decimals) axis) e in
    let back = λ (k : ℕ). count_back axis_decimals (omega arith) (at axis k) (small_at axis_decimals axis k parts.1) in
    (λ i. back 0 i ∷ back 1 i ∷ back 2 i ∷ []) ∙ three_of axis parts.0

axis_not_large : (axis : List ℤ) (offset : ℤ) → list_all (is_small axis_decimals) axis ≡ true → is_small offset_decimals offset ≡ true → is_axis_large (axis_text kept axis offset) ≡ false
axis_not_large axis offset e small =
    let part = λ (k : ℕ). not_large axis_decimals (omega arith) (at axis k) (small_at axis_decimals axis k e) in
    let o = not_large offset_decimals (omega arith) offset small in
    λ i. (part 0 i || (part 1 i || (part 2 i || false))) || o i

axis_at : (d : ℕ) (axes : List (List ℤ)) (k : ℕ) → leb (suc k) (length axes) ≡ true → list_all (are_small 3 d) axes ≡ true → are_small 3 d (get_or axes k []) ≡ true
axis_at d [] k short e = absurd (none k short) where
  none : (n : ℕ) → leb (suc n) 0 ≡ true → ⊥
  none n e = grind arith
axis_at d (axis ∷ axes) zero short e = (and_parts (are_small 3 d axis) (list_all (are_small 3 d) axes) e).0
axis_at d (axis ∷ axes) (suc k) short e = axis_at d axes k (shorter k (length axes) short) (and_parts (are_small 3 d axis) (list_all (are_small 3 d) axes) e).1 where
  shorter : (m n : ℕ) → leb (suc (suc m)) (suc n) ≡ true → leb (suc m) n ≡ true
  shorter m n e = grind arith

two_long : (n k : ℕ) → (n == 2) ≡ true → leb k 2 ≡ true → leb k n ≡ true
two_long n k e h = grind arith

-- what the offsets, the rotation and the scales mean once they are written
record SharedBack (off : List ℤ) (rotation : ℤ) (scale : List ℤ) : Type 0 where
  offsets : count_of offset_decimals (shortest_decimal offset_decimals (at off 0)) ∷ count_of offset_decimals (shortest_decimal offset_decimals (at off 1)) ∷ [] ≡ off
  turn : count_of rotation_decimals (shortest_decimal rotation_decimals rotation) ≡ rotation
  scales : count_of scale_decimals (shortest_decimal scale_decimals (at scale 0)) ∷ count_of scale_decimals (shortest_decimal scale_decimals (at scale 1)) ∷ [] ≡ scale
  offset_numbers : list_all is_number_word (shortest_decimal offset_decimals (at off 0) ∷ shortest_decimal offset_decimals (at off 1) ∷ []) ≡ true
  turn_numbers : list_all is_number_word (shortest_decimal rotation_decimals rotation ∷ shortest_decimal scale_decimals (at scale 0) ∷ shortest_decimal scale_decimals (at scale 1) ∷ []) ≡ true
  offsets_within : list_any (is_large offset_decimals) (shortest_decimal offset_decimals (at off 0) ∷ shortest_decimal offset_decimals (at off 1) ∷ []) ≡ false
  turn_within : (is_large rotation_decimals (shortest_decimal rotation_decimals rotation)
      || list_any (is_large scale_decimals) (shortest_decimal scale_decimals (at scale 0) ∷ shortest_decimal scale_decimals (at scale 1) ∷ [])) ≡ false

shared_back : (off : List ℤ) (rotation : ℤ) (scale : List ℤ) (surface : Option SurfaceNumbers) → AreSmall off rotation scale surface → SharedBack off rotation scale
shared_back off rotation scale surface small =
    let u0 = small_at offset_decimals off 0 small.offsets in
    let u1 = small_at offset_decimals off 1 small.offsets in
    let s0 = small_at scale_decimals scale 0 small.scales in
    let s1 = small_at scale_decimals scale 1 small.scales in
    let offset = λ (z : ℤ). count_back offset_decimals (omega arith) z in
    let scale_of = λ (z : ℤ). count_back scale_decimals (omega arith) z in
    let offset_near = λ (z : ℤ). not_large offset_decimals (omega arith) z in
    let scale_near = λ (z : ℤ). not_large scale_decimals (omega arith) z in
    let turn_number = is_number rotation_decimals (omega arith) rotation small.turn in
    let scale_numbers = shortest_are_numbers scale_decimals (omega arith) (at scale 0 ∷ at scale 1 ∷ []) (λ i. s0 i && (s1 i && true)) in
    let turn_near = not_large rotation_decimals (omega arith) rotation small.turn in
    record {
      offsets = (λ i. offset (at off 0) u0 i ∷ offset (at off 1) u1 i ∷ []) ∙ two_of off small.two_offsets;
      turn = count_back rotation_decimals (omega arith) rotation small.turn;
      scales = (λ i. scale_of (at scale 0) s0 i ∷ scale_of (at scale 1) s1 i ∷ []) ∙ two_of scale small.two_scales;
      offset_numbers = shortest_are_numbers offset_decimals (omega arith) (at off 0 ∷ at off 1 ∷ []) (λ i. u0 i && (u1 i && true));
      turn_numbers = λ i. turn_number i && scale_numbers i;
      offsets_within = λ i. offset_near (at off 0) u0 i || (offset_near (at off 1) u1 i || false);
      turn_within = λ i. turn_near i || (scale_near (at scale 0) s0 i || (scale_near (at scale 1) s1 i || false));
    }

-- what savable surface numbers mean once they are written
record SurfaceBack (surface : Option SurfaceNumbers) : Type 0 where
  back : option_map surface_of (option_map surface_text surface) ≡ surface
  numbers : list_all is_number_word (surface_numbers (option_map surface_text surface)) ≡ true
  within : has_no_surface (option_map surface_text surface) ≡ false

bits_back : (z : ℤ) → (int_le (negsuc 2147483647) z && int_le z (pos 4294967295)) ≡ true → SpellsWhole (signed_decimal z) z → is_bits (signed_decimal z) ≡ true
bits_back z e spelled =
    let back : whole_of (signed_decimal z) ≡ z = spelled.value in
    λ i. spelled.whole i && ((λ j. int_le (negsuc 2147483647) (back j) && int_le (back j) (pos 4294967295)) ∙ e) i

surface_back : (surface : Option SurfaceNumbers) → option_map_or is_savable_surface surface true ≡ true → SurfaceBack surface
surface_back None e = record { back = refl; numbers = refl; within = refl }
surface_back (Some s) e =
    let facts = surface_facts s e in
    let contents = bits_back s.contents facts.contents facts.contents_spelled in
    let flags = bits_back s.flags facts.flags facts.flags_spelled in
    let value = small_not_large surface_decimals (shortest_decimal surface_decimals s.value) s.value facts.value facts.value_spelled in
    record {
      back = λ i. Some (record { contents = facts.contents_spelled.value i; flags = facts.flags_spelled.value i; value = facts.value_spelled.counted i });
      numbers = λ i. facts.contents_spelled.spells.number i && (facts.flags_spelled.spells.number i && (facts.value_spelled.number i && true));
      within = λ i. not (contents i) || (not (flags i) || value i);
    }

-- what a savable texture means once it is written
record TextureBack (t : Tex) : Type 0 where
  back : tex_of (texture_text kept t) (option_map surface_text (surface_of_tex t)) ≡ t
  numbers : list_all is_number_word (texture_numbers (texture_text kept t)) ≡ true
  within : passes_limit (texture_text kept t) ≡ false
  surface_numbers_fit : list_all is_number_word (surface_numbers (option_map surface_text (surface_of_tex t))) ≡ true
  surface_within : has_no_surface (option_map surface_text (surface_of_tex t)) ≡ false

texture_back : (t : Tex) → is_savable_texture t ≡ true → TextureBack t
texture_back (Standard t) e =
    let small = shared_small t.off t.rotation t.scale t.surface e in
    let shared = shared_back t.off t.rotation t.scale t.surface small in
    let surface = surface_back t.surface small.surface_fits in
    record {
      back = λ i. Standard (record { off = shared.offsets i; rotation = shared.turn i; scale = shared.scales i; surface = surface.back i });
      numbers = all_append is_number_word (shortest_decimal offset_decimals (at t.off 0) ∷ shortest_decimal offset_decimals (at t.off 1) ∷ [])
          (shortest_decimal rotation_decimals t.rotation ∷ shortest_decimal scale_decimals (at t.scale 0) ∷ shortest_decimal scale_decimals (at t.scale 1) ∷ []) shared.offset_numbers shared.turn_numbers;
      within = λ i. shared.offsets_within i || shared.turn_within i;
      surface_numbers_fit = surface.numbers;
      surface_within = surface.within;
    }
texture_back (Valve t) e =
    let axes = axes_small t.axis (are_small 2 offset_decimals t.off && is_savable_turn t.rotation t.scale t.surface) e in
    let small = shared_small t.off t.rotation t.scale t.surface axes.1 in
    let shared = shared_back t.off t.rotation t.scale t.surface small in
    let surface = surface_back t.surface small.surface_fits in
    let u = get_or t.axis 0 [] in
    let v = get_or t.axis 1 [] in
    let u_small = small_axis axis_decimals t.axis 0 axes.0.small in
    let v_small = small_axis axis_decimals t.axis 1 axes.0.small in
    let u0 = small_at offset_decimals t.off 0 small.offsets in
    let u1 = small_at offset_decimals t.off 1 small.offsets in
    let u_back = axis_back u (at t.off 0) (axis_at axis_decimals t.axis 0 (two_long (length t.axis) 1 axes.0.two refl) axes.0.small) in
    let v_back = axis_back v (at t.off 1) (axis_at axis_decimals t.axis 1 (two_long (length t.axis) 2 axes.0.two refl) axes.0.small) in
    let both : axis_of (axis_text kept u (at t.off 0)) ∷ axis_of (axis_text kept v (at t.off 1)) ∷ [] ≡ t.axis = (λ i. u_back i ∷ v_back i ∷ []) ∙ two_axes t.axis axes.0.two in
    let number = λ (axis : List ℤ) (k : ℕ) (h : list_all (is_small axis_decimals) axis ≡ true). is_number axis_decimals (omega arith) (at axis k) (small_at axis_decimals axis k h) in
    let u_number = is_number offset_decimals (omega arith) (at t.off 0) u0 in
    let v_number = is_number offset_decimals (omega arith) (at t.off 1) u1 in
    let u_near = axis_not_large u (at t.off 0) u_small u0 in
    let v_near = axis_not_large v (at t.off 1) v_small u1 in
    record {
      back = λ i. Valve (record { axis = both i; off = shared.offsets i; rotation = shared.turn i; scale = shared.scales i; surface = surface.back i });
      numbers = λ i. number u 0 u_small i && (number u 1 u_small i && (number u 2 u_small i && (u_number i && (number v 0 v_small i && (number v 1 v_small i && (number v 2 v_small i && (v_number i && shared.turn_numbers i)))))));
      within = λ i. u_near i || (v_near i || shared.turn_within i);
      surface_numbers_fit = surface.numbers;
      surface_within = surface.within;
    }

-- ---- faces

material_text : (m : List ℕ) (quotes : Bool) → (cond quotes (quote m) (word m)).text ≡ m
material_text m true = refl
material_text m false = refl

-- what a savable face means once it is written
pub record FaceBack (f : Face) : Type 0 where
  pub fits : face_fits (face_text kept f) ≡ true
  pub whole : has_fraction (face_text kept f) ≡ false
  pub near : passes_range (face_text kept f) ≡ false
  pub within : passes_limit (face_text kept f).texture ≡ false
  pub surface : has_no_surface (face_text kept f).surface ≡ false
  pub spread : lies_on_line (face_text kept f) ≡ false
  pub back : face_of_text (face_text kept f) ≡ f

pub face_back : (f : Face) → is_savable_face f ≡ true → FaceBack f
face_back f e =
    let facts = face_facts f e in
    let texture = texture_back f.tex facts.texture in
    let numbers = numbers_of f.plane in
    let near = all_near f.plane facts.plane in
    let points = points_back f facts.plane in
    let material = material_text f.material (needs_quotes f.material) in
    record {
      fits = and_from (list_all is_number_word (coordinates (face_text kept f))) _ (wholes_are_numbers numbers near)
          (and_from (is_material (material_symbol f.material)) _ (material_fine f.material facts.material).1 (λ i. texture.numbers i && texture.surface_numbers_fit i));
      whole = wholes_are_whole numbers near;
      near = wholes_are_near numbers near;
      within = texture.within;
      surface = texture.surface_within;
      spread = ap is_flat points ∙ facts.plane.spread;
      back = λ i. record { plane = points i; material = material i; tex = texture.back i };
    }
