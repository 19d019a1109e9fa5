-- A savable face: its numbers and its material, and the symbols of its line.
use Rattle.std.proofs.Common.{◌≡◌, ℕ, zero, suc, ◌*◌, ◌^◌, ◌<◌, ◌≤◌, Bool, true, false, not, ◌&&◌, ◌||◌, ◌==◌, eqb, leb, ltb, cond, int_le, List, [], ◌∷◌, ◌++◌, length, get_or, refl, ap, arith, ℤ, pos, negsuc, nat_abs, unsigned_abs, Option, Some, None, Result, Ok, Err, is_ok}
use Rattle.std.specs.Option.{option_map, option_map_or}
use Rattle.std.specs.List.{list_all, list_any}
use Rattle.std.specs.Fmt.{signed_decimal}
use Rattle.std.proofs.lemmas.Bool.{and_parts, or_parts}
use Rattle.std.proofs.lemmas.Bool.Decides.{nat_tests}
use Rattle.std.proofs.lemmas.Int.{ints}
use Rattle.std.proofs.Math.Nat.{one-le-pow}
use Rattle.exact_geom.specs.declared.point.Point.{Point}
use Rattle.exact_geom.specs.declared.plane.PlaneFault.{PlaneFault}
use Rattle.exact_geom.specs.declared.plane.PlaneFault.TheVariants.{PointRange, Flat}
use Rattle.exact_geom.specs.Planes.{ThreePoints, plane_of, is_flat, is_in_range}
use Rattle.fixed_num.specs.Decimals.{axis_decimals, offset_decimals, rotation_decimals, scale_decimals, surface_decimals}
use Rattle.fixed_num.specs.Shortest.{shortest_decimal}
use Rattle.uv_lock.specs.SurfaceNumbers.{SurfaceNumbers}
use Rattle.uv_lock.specs.declared.face.Face.{Face}
use Rattle.uv_lock.specs.declared.texture.Tex.{Tex}
use Rattle.uv_lock.specs.declared.texture.Tex.TheVariants.{Standard, Valve}
use Rattle.map_lex.specs.Bytes.{is_blank, is_stray, begins_comment}
use Rattle.map_lex.specs.Cut.{begins_word}
use Rattle.map_lex.specs.OneToken.{ends_with_backslash, needs_quotes, is_value_text, is_key_text, is_material_text, begins_with_quote}
use Rattle.map_text.specs.Grammar.{word, quote, bracket, point_symbols, axis_symbols, texture_symbols, surface_symbols, face_symbols}
use Rattle.map_text.specs.Spelled.{is_small, are_small, is_savable_turn, is_savable_surface, is_savable_texture, is_savable_face}
use Rattle.map_write.specs.Written.{at, kept, point_text, axis_text, texture_text, surface_text, surface_of_tex, face_text, material_symbol}
use Rattle.map_write.proofs.Tests.{no_more_than, none_pass, int_le-true}
use Rattle.map_write.proofs.Tokens.{quoted_from_test}
use Rattle.map_write.proofs.NumberWords.{Spells, SpellsWhole, shortest_spells, whole_spells, coordinate_spells}
use Rattle.map_write.proofs.Lines.{IsFine, AreFine, fine_word, fine_append, bracket_is_word}

-- ---- points

range_choice : (a b c : Bool) (r : Result ThreePoints PlaneFault) →
    is_ok (option_map_or (λ k. Err (PointRange k)) (cond a (cond b (cond c None (Some 2)) (Some 1)) (Some 0)) r) ≡ true → (a ≡ true) × (b ≡ true) × (c ≡ true) × (is_ok r ≡ true)
range_choice true true true r e = (refl, refl, refl, e)
range_choice true true false r e = cc
range_choice true false c r e = cc
range_choice false b c r e = cc

not_flat : (t : ThreePoints) (flat : Bool) → is_ok {T = ThreePoints} {E = PlaneFault} (cond flat (Err Flat) (Ok t)) ≡ true → flat ≡ false
not_flat t true e = cc
not_flat t false e = refl

-- a point with small coordinates
pub record IsNear (p : Point) : Type 0 where
  pub x : leb (nat_abs p.x) 4352 ≡ true
  pub y : leb (nat_abs p.y) 4352 ≡ true
  pub z : leb (nat_abs p.z) 4352 ≡ true

near : (p : Point) → is_in_range p ≡ true → IsNear p
near p e =
    let outer = and_parts (leb (nat_abs p.x) 4352 && leb (nat_abs p.y) 4352) (leb (nat_abs p.z) 4352) e in
    let inner = and_parts (leb (nat_abs p.x) 4352) (leb (nat_abs p.y) 4352) outer.0 in
    record { x = inner.0; y = inner.1; z = outer.1 }

-- three points with a plane
pub record HavePlane (t : ThreePoints) : Type 0 where
  pub p0 : IsNear t.p0
  pub p1 : IsNear t.p1
  pub p2 : IsNear t.p2
  pub spread : is_flat t ≡ false

pub plane_facts : (t : ThreePoints) → is_ok (plane_of t) ≡ true → HavePlane t
plane_facts t e =
    let parts = range_choice (is_in_range t.p0) (is_in_range t.p1) (is_in_range t.p2) (cond (is_flat t) (Err Flat) (Ok t)) e in record {
      p0 = near t.p0 parts.0;
      p1 = near t.p1 parts.1;
      p2 = near t.p2 parts.2;
      spread = not_flat t (is_flat t) parts.3;
    }

whole_fine : (z : ℤ) → leb (nat_abs z) 4352 ≡ true → IsFine (word (signed_decimal z))
whole_fine z e = fine_word (signed_decimal z) (coordinate_spells z e).spells.is_word

bracket_fine : (b : ℕ) → is_blank b ≡ false → eqb b 34 ≡ false → is_stray b ≡ false → IsFine (bracket b)
bracket_fine b blank mark stray = fine_word (b ∷ []) (bracket_is_word b blank mark stray)

point_fine : (p : Point) → IsNear p → AreFine (point_symbols (point_text p))
point_fine p n = (bracket_fine 40 refl refl refl, (whole_fine p.x n.x, (whole_fine p.y n.y, (whole_fine p.z n.z, (bracket_fine 41 refl refl refl, tt)))))

-- ---- numbers of a texture

pub small_at : (d : ℕ) (xs : List ℤ) (k : ℕ) → list_all (is_small d) xs ≡ true → is_small d (at xs k) ≡ true
small_at d [] k e = none_small (1000000 * 10 ^ d) (omega (arith, one-le-pow d 10 (omega arith)))
  where
    none_small : (limit : ℕ) → 0 < limit → ltb 0 limit ≡ true
    none_small limit h = grind (arith, nat_tests)
small_at d (x ∷ xs) zero e = (and_parts (is_small d x) (list_all (is_small d) xs) e).0
small_at d (x ∷ xs) (suc k) e = small_at d xs k (and_parts (is_small d x) (list_all (is_small d) xs) e).1

pub small_axis : (d : ℕ) (axes : List (List ℤ)) (k : ℕ) → list_all (are_small 3 d) axes ≡ true → list_all (is_small d) (get_or axes k []) ≡ true
small_axis d [] k e = refl
small_axis d (axis ∷ axes) zero e =
    (and_parts (length axis == 3) (list_all (is_small d) axis) (and_parts (are_small 3 d axis) (list_all (are_small 3 d) axes) e).0).1
small_axis d (axis ∷ axes) (suc k) e = small_axis d axes k (and_parts (are_small 3 d axis) (list_all (are_small 3 d) axes) e).1

number_fine : (d : ℕ) → d ≤ 12 → (count : ℤ) → is_small d count ≡ true → IsFine (word (shortest_decimal d count))
number_fine d few count small = fine_word (shortest_decimal d count) (shortest_spells d few count small).is_word

axis_fine : (axis : List ℤ) (offset : ℤ) → list_all (is_small axis_decimals) axis ≡ true → is_small offset_decimals offset ≡ true → AreFine (axis_symbols (axis_text kept axis offset))
axis_fine axis offset e small =
    let fine = λ (k : ℕ). number_fine axis_decimals (omega arith) (at axis k) (small_at axis_decimals axis k e) in
    (bracket_fine 91 refl refl refl, (fine 0, (fine 1, (fine 2, (number_fine offset_decimals (omega arith) offset small, (bracket_fine 93 refl refl refl, tt))))))

-- the numbers that the two formats share
pub record AreSmall (off : List ℤ) (rotation : ℤ) (scale : List ℤ) (surface : Option SurfaceNumbers) : Type 0 where
  pub two_offsets : (length off == 2) ≡ true
  pub offsets : list_all (is_small offset_decimals) off ≡ true
  pub turn : is_small rotation_decimals rotation ≡ true
  pub two_scales : (length scale == 2) ≡ true
  pub scales : list_all (is_small scale_decimals) scale ≡ true
  pub surface_fits : option_map_or is_savable_surface surface true ≡ true

pub shared_small : (off : List ℤ) (rotation : ℤ) (scale : List ℤ) (surface : Option SurfaceNumbers) → (are_small 2 offset_decimals off && is_savable_turn rotation scale surface) ≡ true
    → AreSmall off rotation scale surface
shared_small off rotation scale surface e =
    let first = and_parts (are_small 2 offset_decimals off) (is_savable_turn rotation scale surface) e in
    let second = and_parts (is_small rotation_decimals rotation) (are_small 2 scale_decimals scale && option_map_or is_savable_surface surface true) first.1 in
    let third = and_parts (are_small 2 scale_decimals scale) (option_map_or is_savable_surface surface true) second.1 in
    let offsets = and_parts (length off == 2) (list_all (is_small offset_decimals) off) first.0 in
    let scales = and_parts (length scale == 2) (list_all (is_small scale_decimals) scale) third.0 in
    record { two_offsets = offsets.0; offsets = offsets.1; turn = second.0; two_scales = scales.0; scales = scales.1; surface_fits = third.1 }

pub record AreAxes (axis : List (List ℤ)) : Type 0 where
  pub two : (length axis == 2) ≡ true
  pub small : list_all (are_small 3 axis_decimals) axis ≡ true

pub axes_small : (axis : List (List ℤ)) (others : Bool) → ((length axis == 2 && list_all (are_small 3 axis_decimals) axis) && others) ≡ true → AreAxes axis × (others ≡ true)
axes_small axis others e =
    let parts = and_parts (length axis == 2 && list_all (are_small 3 axis_decimals) axis) others e in
    let axes = and_parts (length axis == 2) (list_all (are_small 3 axis_decimals) axis) parts.0 in
    (record { two = axes.0; small = axes.1 }, parts.1)

-- the rotation and the scales
turn_fine : (off : List ℤ) (rotation : ℤ) (scale : List ℤ) (surface : Option SurfaceNumbers) → AreSmall off rotation scale surface
    → AreFine (word (shortest_decimal rotation_decimals rotation) ∷ word (shortest_decimal scale_decimals (at scale 0)) ∷ word (shortest_decimal scale_decimals (at scale 1)) ∷ [])
turn_fine off rotation scale surface small = (
  number_fine rotation_decimals (omega arith) rotation small.turn,
  (
    number_fine scale_decimals (omega arith) (at scale 0) (small_at scale_decimals scale 0 small.scales),
    (number_fine scale_decimals (omega arith) (at scale 1) (small_at scale_decimals scale 1 small.scales), tt),
  ),
)

offset_fine : (off : List ℤ) (rotation : ℤ) (scale : List ℤ) (surface : Option SurfaceNumbers) (k : ℕ) → AreSmall off rotation scale surface → IsFine (word (shortest_decimal offset_decimals (at off k)))
offset_fine off rotation scale surface k small = number_fine offset_decimals (omega arith) (at off k) (small_at offset_decimals off k small.offsets)

texture_fine : (t : Tex) → is_savable_texture t ≡ true → AreFine (texture_symbols (texture_text kept t))
texture_fine (Standard t) e =
    let small = shared_small t.off t.rotation t.scale t.surface e in
    (offset_fine t.off t.rotation t.scale t.surface 0 small, (offset_fine t.off t.rotation t.scale t.surface 1 small, turn_fine t.off t.rotation t.scale t.surface small))
texture_fine (Valve t) e =
    let axes = axes_small t.axis (are_small 2 offset_decimals t.off && is_savable_turn t.rotation t.scale t.surface) e in
    let small = shared_small t.off t.rotation t.scale t.surface axes.1 in
    let u = axis_symbols (axis_text kept (get_or t.axis 0 []) (at t.off 0)) in
    let v = axis_symbols (axis_text kept (get_or t.axis 1 []) (at t.off 1)) in
    let turn = word (shortest_decimal rotation_decimals t.rotation) ∷ word (shortest_decimal scale_decimals (at t.scale 0)) ∷ word (shortest_decimal scale_decimals (at t.scale 1)) ∷ [] in
    fine_append u (v ++ turn) (axis_fine (get_or t.axis 0 []) (at t.off 0) (small_axis axis_decimals t.axis 0 axes.0.small) (small_at offset_decimals t.off 0 small.offsets))
    (fine_append v turn (axis_fine (get_or t.axis 1 []) (at t.off 1) (small_axis axis_decimals t.axis 1 axes.0.small) (small_at offset_decimals t.off 1 small.offsets))
    (turn_fine t.off t.rotation t.scale t.surface small))

-- ---- surface numbers

bits_fit : (z : ℤ) → (int_le (negsuc 2147483647) z && int_le z (pos 4294967295)) ≡ true → unsigned_abs z < 2 ^ 64
bits_fit z e = omega (arith, ints, int_le-true (negsuc 2147483647) z parts.0, int_le-true z (pos 4294967295) parts.1)
  where
    parts : (int_le (negsuc 2147483647) z ≡ true) × (int_le z (pos 4294967295) ≡ true)
    parts = and_parts (int_le (negsuc 2147483647) z) (int_le z (pos 4294967295)) e

-- the parts of surface numbers that can be saved
pub record IsSavableSurface (s : SurfaceNumbers) : Type 0 where
  pub contents : (int_le (negsuc 2147483647) s.contents && int_le s.contents (pos 4294967295)) ≡ true
  pub flags : (int_le (negsuc 2147483647) s.flags && int_le s.flags (pos 4294967295)) ≡ true
  pub value : is_small surface_decimals s.value ≡ true
  pub contents_spelled : SpellsWhole (signed_decimal s.contents) s.contents
  pub flags_spelled : SpellsWhole (signed_decimal s.flags) s.flags
  pub value_spelled : Spells surface_decimals (shortest_decimal surface_decimals s.value) s.value

pub surface_facts : (s : SurfaceNumbers) → is_savable_surface s ≡ true → IsSavableSurface s
surface_facts s e =
    let outer = and_parts (int_le (negsuc 2147483647) s.contents && int_le s.contents (pos 4294967295)) _ e in
    let inner = and_parts (int_le (negsuc 2147483647) s.flags && int_le s.flags (pos 4294967295)) (is_small surface_decimals s.value) outer.1 in
    record {
      contents = outer.0;
      flags = inner.0;
      value = inner.1;
      contents_spelled = whole_spells s.contents (bits_fit s.contents outer.0);
      flags_spelled = whole_spells s.flags (bits_fit s.flags inner.0);
      value_spelled = shortest_spells surface_decimals (omega arith) s.value inner.1;
    }

surface_fine : (surface : Option SurfaceNumbers) → option_map_or is_savable_surface surface true ≡ true → AreFine (surface_symbols (option_map surface_text surface))
surface_fine None e = tt
surface_fine (Some s) e =
    let facts = surface_facts s e in (
      fine_word (signed_decimal s.contents) facts.contents_spelled.spells.is_word,
      (
        fine_word (signed_decimal s.flags) facts.flags_spelled.spells.is_word,
        (fine_word (shortest_decimal surface_decimals s.value) facts.value_spelled.is_word, tt),
      ),
    )

-- the surface numbers of a savable texture
pub surface_of_savable : (t : Tex) → is_savable_texture t ≡ true → option_map_or is_savable_surface (surface_of_tex t) true ≡ true
surface_of_savable (Standard t) e = (shared_small t.off t.rotation t.scale t.surface e).surface_fits
surface_of_savable (Valve t) e =
    (shared_small t.off t.rotation t.scale t.surface (axes_small t.axis (are_small 2 offset_decimals t.off && is_savable_turn t.rotation t.scale t.surface) e).1).surface_fits

-- ---- the material

not_empty : (n : ℕ) → (n == 0) ≡ false → n ≡ 0 → ⊥
not_empty n e f = cc (ap (λ m. m == 0) f)

plain_begins : (m : List ℕ) → (length m == 0) ≡ false → list_any is_blank m ≡ false → begins_comment m ≡ false → begins_with_quote m ≡ false → begins_word m ≡ true
plain_begins [] long blank comment mark = cc
plain_begins (b ∷ bs) long blank comment mark =
    let first = (or_parts (is_blank b) (list_any is_blank bs) blank).0 in
    λ i. not (first i || mark i || comment i)

material_choice : (m : List ℕ) (quotes : Bool) → needs_quotes m ≡ quotes →
    cond quotes (is_key_text m) (not (begins_with_quote m) && list_all (λ b. not (is_stray b)) m) ≡ true → IsFine (cond quotes (quote m) (word m))
material_choice m true e savable =
    let parts = and_parts (is_value_text m) (not (ends_with_backslash m)) savable in
    (record { between_quotes = λ h. quoted_from_test m parts.0; plain = λ h. cc }, parts.1)
material_choice m false e savable =
    let outer = or_parts (length m == 0) (list_any is_blank m || begins_comment m) e in
    let inner = or_parts (list_any is_blank m) (begins_comment m) outer.1 in
    let parts = and_parts (not (begins_with_quote m)) (list_all (λ b. not (is_stray b)) m) savable in
    fine_word m (record {
      begins = plain_begins m outer.0 inner.0 inner.1 (no_more_than (begins_with_quote m) parts.0);
      unblank = inner.0;
      clean = none_pass is_stray m parts.1;
    })

pub material_fine : (m : List ℕ) → is_material_text m ≡ true → IsFine (material_symbol m)
material_fine m savable = material_choice m (needs_quotes m) refl savable

-- ---- faces

-- the parts of a savable face
pub record IsSavableFace (f : Face) : Type 0 where
  pub plane : HavePlane f.plane
  pub material : is_material_text f.material ≡ true
  pub texture : is_savable_texture f.tex ≡ true

pub face_facts : (f : Face) → is_savable_face f ≡ true → IsSavableFace f
face_facts f e =
    let outer = and_parts (is_ok (plane_of f.plane)) (is_material_text f.material && is_savable_texture f.tex) e in
    let inner = and_parts (is_material_text f.material) (is_savable_texture f.tex) outer.1 in
    record { plane = plane_facts f.plane outer.0; material = inner.0; texture = inner.1 }

pub face_fine : (f : Face) → is_savable_face f ≡ true → AreFine (face_symbols (face_text kept f))
face_fine f e =
    let facts = face_facts f e in
    let t = face_text kept f in
    let last = t.material ∷ (texture_symbols t.texture ++ surface_symbols t.surface) in
    fine_append (point_symbols t.p0) (point_symbols t.p1 ++ (point_symbols t.p2 ++ last)) (point_fine f.plane.p0 facts.plane.p0)
    (fine_append (point_symbols t.p1) (point_symbols t.p2 ++ last) (point_fine f.plane.p1 facts.plane.p1)
    (fine_append (point_symbols t.p2) last (point_fine f.plane.p2 facts.plane.p2) (
      material_fine f.material facts.material,
      fine_append (texture_symbols t.texture) (surface_symbols t.surface) (texture_fine f.tex facts.texture) (surface_fine (surface_of_tex f.tex) (surface_of_savable f.tex facts.texture)),
    )))
