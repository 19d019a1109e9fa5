-- A brush that was read is spelled: its faces can be saved, and where it is bad it has none.
use Rattle.std.proofs.Common.{◌≡◌, ℕ, suc, Bool, true, false, not, ◌&&◌, ◌||◌, ◌==◌, eqb, leb, ltb, cond, List, [], ◌∷◌, ◌++◌, map, length, refl, ap, ◌∙◌, arith, Option, Some, None, pos, negsuc, int_le, unsigned_abs, is_ok, Ok, Err, ◌*◌, ◌^◌}
use Rattle.std.specs.Option.{option_map, option_map_or}
use Rattle.std.specs.List.{list_all, list_any, flat_map}
use Rattle.std.proofs.lemmas.Bool.{and_parts, and_from, or_parts}
use Rattle.std.proofs.lemmas.Bool.Decides.{nat_tests}
use Rattle.std.proofs.lemmas.List.{length-map}
use Rattle.exact_geom.specs.declared.plane.PlaneFault.{PlaneFault}
use Rattle.exact_geom.specs.declared.plane.PlaneFault.TheVariants.{PointRange, Flat}
use Rattle.exact_geom.specs.Planes.{ThreePoints, plane_of, is_flat, is_in_range}
use Rattle.fixed_num.specs.Decimals.{axis_decimals, offset_decimals, rotation_decimals, scale_decimals, surface_decimals}
use Rattle.map_lex.specs.Bytes.{is_blank, is_stray, begins_comment}
use Rattle.map_lex.specs.Cut.{begins_word}
use Rattle.map_lex.specs.OneToken.{ends_with_backslash, needs_quotes, quotes_are_escaped, is_value_text, is_key_text, begins_with_quote, is_material_text}
use Rattle.map_text.specs.declared.document.RawBrush.{RawBrush}
use Rattle.map_text.specs.declared.document.RawBrush.TheVariants.{Faces, Bad}
use Rattle.map_text.specs.declared.document.Reason.{Reason}
use Rattle.map_text.specs.declared.document.Reason.TheVariants.{Point as NoWholePoint, Range, Texture, Surface, Flat as FlatFace, Many}
use Rattle.map_text.specs.Grammar.{Symbol, point_symbols, AxisText, TextureText, standard, valve, texture_symbols, SurfaceText, surface_symbols, FaceText, face_symbols}
use Rattle.map_text.specs.Fits.{is_material, coordinates, face_fits}
use Rattle.fixed_num.specs.Count.{is_number_word, count_of}
use Rattle.map_text.specs.Meaning.{is_whole, whole_of, three_points_of, axis_of, surface_of, tex_of, face_of_text, has_fraction, passes_range, is_large, is_axis_large, passes_limit, is_bits, has_no_surface, lies_on_line, raw_brush_of}
use Rattle.map_text.specs.Spelled.{faces_of_brush, is_small, are_small, is_savable_turn, is_savable_surface, is_savable_texture, is_savable_face, is_good, is_spelled_brush}
use Rattle.map_write.proofs.Tests.{all_fail, no_more_than, not_not}
use Rattle.map_write.proofs.Tokens.{IsWord, IsQuoted, IsToken, AreTokens, none_of, quoted_passes}
use Rattle.map_write.proofs.ReadTokens.{tokens_split}

-- ---- materials

no_quote_first : (t : List ℕ) → quotes_are_escaped 34 t ≡ true → begins_with_quote t ≡ false
no_quote_first [] e = refl
no_quote_first (b ∷ t) e = no_or (b == 34) (and_parts (not (b == 34) || false) (quotes_are_escaped b t) e).0 where
  no_or : (x : Bool) → (not x || false) ≡ true → x ≡ false
  no_or true h = cc
  no_or false h = refl

quoted_material : (t : List ℕ) → IsQuoted t → ends_with_backslash t ≡ false → is_material_text t ≡ true
quoted_material t quoted ends = at (needs_quotes t) where
  at : (quotes : Bool) → cond quotes (is_key_text t) (not (begins_with_quote t) && list_all (λ b. not (is_stray b)) t) ≡ true
  at true = and_from (is_value_text t) (not (ends_with_backslash t)) (quoted_passes t quoted) (ap not ends)
  at false = and_from (not (begins_with_quote t)) (list_all (λ b. not (is_stray b)) t) (ap not (no_quote_first t quoted.escaped)) (all_fail is_stray t quoted.clean)

long : (n : ℕ) → eqb (suc n) 0 ≡ false
long n = grind arith

-- what a word is not
record Plain (t : List ℕ) : Type 0 where
  no_quotes : needs_quotes t ≡ false
  no_mark : begins_with_quote t ≡ false

plain : (t : List ℕ) → begins_word t ≡ true → list_any is_blank t ≡ false → Plain t
plain [] begins blank = cc
plain (b ∷ t) begins blank =
    let no = none_of (is_blank b) (b == 34) (begins_comment (b ∷ t)) begins in
    record { no_quotes = λ i. long (length t) i || (blank i || no.2 i); no_mark = no.1 }

word_material : (t : List ℕ) → IsWord t → is_material_text t ≡ true
word_material t is =
    let facts = plain t is.begins is.unblank in
    ap (λ quotes. cond quotes (is_key_text t) (not (begins_with_quote t) && list_all (λ b. not (is_stray b)) t)) facts.no_quotes
    ∙ and_from (not (begins_with_quote t)) (list_all (λ b. not (is_stray b)) t) (ap not facts.no_mark) (all_fail is_stray t is.clean)

material_savable : (s : Symbol) → IsToken s → is_material s ≡ true → is_material_text s.text ≡ true
material_savable s token material = at s.quoted refl material where
  at : (quoted : Bool) → s.quoted ≡ quoted → not (quoted && ends_with_backslash s.text) ≡ true → is_material_text s.text ≡ true
  at true e unclosed = quoted_material s.text (token.between_quotes e) (no_more_than (ends_with_backslash s.text) unclosed)
  at false e unclosed = word_material s.text (token.plain e)

-- ---- points

not_far_near : (n : ℕ) → ltb 4352 n ≡ false → leb n 4352 ≡ true
not_far_near n e = grind (arith, nat_tests)

abbrev is_far : List ℕ → Bool
is_far w = ltb 4352 (unsigned_abs (whole_of w))

three_near : (x y z : List ℕ) (more : List (List ℕ)) → list_any is_far (x ∷ y ∷ z ∷ more) ≡ false →
    ((leb (unsigned_abs (whole_of x)) 4352 && leb (unsigned_abs (whole_of y)) 4352 && leb (unsigned_abs (whole_of z)) 4352) ≡ true) × (list_any is_far more ≡ false)
three_near x y z more e =
    let first = or_parts (is_far x) (list_any is_far (y ∷ z ∷ more)) e in
    let second = or_parts (is_far y) (list_any is_far (z ∷ more)) first.1 in
    let third = or_parts (is_far z) (list_any is_far more) second.1 in
    let near_x = not_far_near (unsigned_abs (whole_of x)) first.0 in
    let near_y = not_far_near (unsigned_abs (whole_of y)) second.0 in
    let near_z = not_far_near (unsigned_abs (whole_of z)) third.0 in
    ((λ i. near_x i && near_y i && near_z i), third.1)

plane_made : (a b c flat : Bool) (t : ThreePoints) → a ≡ true → b ≡ true → c ≡ true → flat ≡ false →
    is_ok {T = ThreePoints} {E = PlaneFault} (option_map_or (λ k. Err (PointRange k)) (cond a (cond b (cond c None (Some 2)) (Some 1)) (Some 0)) (cond flat (Err Flat) (Ok t))) ≡ true
plane_made a b c flat t ea eb ec ef = λ i. is_ok {T = ThreePoints} {E = PlaneFault} (option_map_or (λ k. Err (PointRange k)) (cond (ea i) (cond (eb i) (cond (ec i) None (Some 2)) (Some 1)) (Some 0)) (cond (ef i) (Err Flat) (Ok t)))

has_plane : (f : FaceText) → passes_range f ≡ false → lies_on_line f ≡ false → is_ok (plane_of (three_points_of f)) ≡ true
has_plane f near spread =
    let first = three_near f.p0.x f.p0.y f.p0.z (f.p1.x ∷ f.p1.y ∷ f.p1.z ∷ f.p2.x ∷ f.p2.y ∷ f.p2.z ∷ []) near in
    let second = three_near f.p1.x f.p1.y f.p1.z (f.p2.x ∷ f.p2.y ∷ f.p2.z ∷ []) first.1 in
    let third = three_near f.p2.x f.p2.y f.p2.z [] second.1 in
    let t = three_points_of f in
    plane_made (is_in_range t.p0) (is_in_range t.p1) (is_in_range t.p2) (is_flat t) t first.0 second.0 third.0 spread

-- ---- textures

small_count : (n limit : ℕ) → leb limit n ≡ false → ltb n limit ≡ true
small_count n limit e = grind (arith, nat_tests)

small : (d : ℕ) (w : List ℕ) → is_large d w ≡ false → is_small d (count_of d w) ≡ true
small d w e = small_count (unsigned_abs (count_of d w)) (1000000 * 10 ^ d) e

two_small : (d : ℕ) (u v : List ℕ) → list_any (is_large d) (u ∷ v ∷ []) ≡ false → are_small 2 d (count_of d u ∷ count_of d v ∷ []) ≡ true
two_small d u v e =
    let first = or_parts (is_large d u) (list_any (is_large d) (v ∷ [])) e in
    let second = or_parts (is_large d v) false first.1 in
    let small_u = small d u first.0 in
    let small_v = small d v second.0 in
    λ i. small_u i && (small_v i && true)

axis_small : (a : AxisText) → is_axis_large a ≡ false → (are_small 3 axis_decimals (axis_of a) ≡ true) × (is_large offset_decimals a.offset ≡ false)
axis_small a e =
    let outer = or_parts (list_any (is_large axis_decimals) (a.x ∷ a.y ∷ a.z ∷ [])) (is_large offset_decimals a.offset) e in
    let first = or_parts (is_large axis_decimals a.x) (list_any (is_large axis_decimals) (a.y ∷ a.z ∷ [])) outer.0 in
    let second = or_parts (is_large axis_decimals a.y) (list_any (is_large axis_decimals) (a.z ∷ [])) first.1 in
    let third = or_parts (is_large axis_decimals a.z) false second.1 in
    let small_x = small axis_decimals a.x first.0 in
    let small_y = small axis_decimals a.y second.0 in
    let small_z = small axis_decimals a.z third.0 in
    ((λ i. small_x i && (small_y i && (small_z i && true))), outer.1)

wide : (n : List ℕ) → is_bits n ≡ true → (int_le (negsuc 2147483647) (whole_of n) && int_le (whole_of n) (pos 4294967295)) ≡ true
wide n e = (and_parts (is_whole n) (int_le (negsuc 2147483647) (whole_of n) && int_le (whole_of n) (pos 4294967295)) e).1

surface_savable : (s : Option SurfaceText) → has_no_surface s ≡ false → option_map_or is_savable_surface (option_map surface_of s) true ≡ true
surface_savable None e = refl
surface_savable (Some s) e =
    let first = or_parts (not (is_bits s.contents)) (not (is_bits s.flags) || is_large surface_decimals s.value) e in
    let second = or_parts (not (is_bits s.flags)) (is_large surface_decimals s.value) first.1 in
    let contents = wide s.contents (not_not (is_bits s.contents) first.0) in
    let flags = wide s.flags (not_not (is_bits s.flags) second.0) in
    let value = small surface_decimals s.value second.1 in
    λ i. contents i && (flags i && value i)

turn_savable : (r u v : List ℕ) (s : Option SurfaceText) → (is_large rotation_decimals r || list_any (is_large scale_decimals) (u ∷ v ∷ [])) ≡ false → has_no_surface s ≡ false
    → is_savable_turn (count_of rotation_decimals r) (count_of scale_decimals u ∷ count_of scale_decimals v ∷ []) (option_map surface_of s) ≡ true
turn_savable r u v s e none =
    let parts = or_parts (is_large rotation_decimals r) (list_any (is_large scale_decimals) (u ∷ v ∷ [])) e in
    let rotation = small rotation_decimals r parts.0 in
    let scales = two_small scale_decimals u v parts.1 in
    let surface = surface_savable s none in
    λ i. rotation i && (scales i && surface i)

texture_savable : (t : TextureText) (s : Option SurfaceText) → passes_limit t ≡ false → has_no_surface s ≡ false → is_savable_texture (tex_of t s) ≡ true
texture_savable (standard u_offset v_offset rotation u_scale v_scale) s e none =
    let parts = or_parts (list_any (is_large offset_decimals) (u_offset ∷ v_offset ∷ [])) (is_large rotation_decimals rotation || list_any (is_large scale_decimals) (u_scale ∷ v_scale ∷ [])) e in
    let offsets = two_small offset_decimals u_offset v_offset parts.0 in
    let turn = turn_savable rotation u_scale v_scale s parts.1 none in
    λ i. offsets i && turn i
texture_savable (valve u v rotation u_scale v_scale) s e none =
    let first = or_parts (is_axis_large u) (is_axis_large v || (is_large rotation_decimals rotation || list_any (is_large scale_decimals) (u_scale ∷ v_scale ∷ []))) e in
    let second = or_parts (is_axis_large v) (is_large rotation_decimals rotation || list_any (is_large scale_decimals) (u_scale ∷ v_scale ∷ [])) first.1 in
    let u_small = axis_small u first.0 in
    let v_small = axis_small v second.0 in
    let offset_u = small offset_decimals u.offset u_small.1 in
    let offset_v = small offset_decimals v.offset v_small.1 in
    let turn = turn_savable rotation u_scale v_scale s second.1 none in
    λ i. (u_small.0 i && (v_small.0 i && true)) && ((offset_u i && (offset_v i && true)) && turn i)

-- ---- faces and brushes

pub face_material : (f : FaceText) → AreTokens (face_symbols f) → IsToken f.material
face_material f are =
    let last = f.material ∷ (texture_symbols f.texture ++ surface_symbols f.surface) in
    let first = tokens_split (point_symbols f.p0) (point_symbols f.p1 ++ (point_symbols f.p2 ++ last)) are in
    let second = tokens_split (point_symbols f.p1) (point_symbols f.p2 ++ last) first.1 in
    (tokens_split (point_symbols f.p2) last second.1).1.0

face_savable : (f : FaceText) → AreTokens (face_symbols f) → face_fits f ≡ true → passes_range f ≡ false → passes_limit f.texture ≡ false → has_no_surface f.surface ≡ false →
    lies_on_line f ≡ false → is_savable_face (face_of_text f) ≡ true
face_savable f are fits near within surface spread =
    let outer = and_parts (list_all is_number_word (coordinates f)) _ fits in
    let inner = and_parts (is_material f.material) _ outer.1 in
    and_from (is_ok (plane_of (three_points_of f))) (is_material_text f.material.text && is_savable_texture (tex_of f.texture f.surface)) (has_plane f near spread)
    (and_from (is_material_text f.material.text) (is_savable_texture (tex_of f.texture f.surface)) (material_savable f.material (face_material f are) inner.0) (texture_savable f.texture f.surface within surface))

-- no face has such a reason
record NoReasons (fs : List FaceText) : Type 0 where
  near : list_any passes_range fs ≡ false
  within : list_any (λ f. passes_limit f.texture) fs ≡ false
  surface : list_any (λ f. has_no_surface f.surface) fs ≡ false
  spread : list_any lies_on_line fs ≡ false

faces_savable : (fs : List FaceText) → AreTokens (flat_map face_symbols fs) → list_all face_fits fs ≡ true → NoReasons fs → list_all is_savable_face (map face_of_text fs) ≡ true
faces_savable [] are fit none = refl
faces_savable (f ∷ fs) are fit none =
    let tokens = tokens_split (face_symbols f) (flat_map face_symbols fs) are in
    let fits = and_parts (face_fits f) (list_all face_fits fs) fit in
    let ranges = or_parts (passes_range f) (list_any passes_range fs) none.near in
    let limits = or_parts (passes_limit f.texture) (list_any (λ g. passes_limit g.texture) fs) none.within in
    let surfaces = or_parts (has_no_surface f.surface) (list_any (λ g. has_no_surface g.surface) fs) none.surface in
    let lines = or_parts (lies_on_line f) (list_any lies_on_line fs) none.spread in
    and_from (is_savable_face (face_of_text f)) (list_all is_savable_face (map face_of_text fs)) (face_savable f tokens.0 fits.0 ranges.0 limits.0 surfaces.0 lines.0)
    (faces_savable fs tokens.1 fits.1 (record { near = ranges.1; within = limits.1; surface = surfaces.1; spread = lines.1 }))

-- the first reason, by the tests of all six
abbrev reason_by : (a b c s d e : Bool) → Option Reason
reason_by a b c s d e = cond a (Some NoWholePoint) (cond b (Some Range) (cond c (Some Texture) (cond s (Some Surface) (cond d (Some FlatFace) (cond e (Some Many) None)))))

-- a brush that isn't bad has no reason
record NoReason (a b c s d e : Bool) (brush whole : RawBrush) : Type 0 where
  near : b ≡ false
  within : c ≡ false
  surface : s ≡ false
  spread : d ≡ false
  few : e ≡ false
  is_whole : brush ≡ whole

no_reason : (a b c s d e : Bool) (whole : RawBrush) → is_good (option_map_or Bad (reason_by a b c s d e) whole) ≡ true → NoReason a b c s d e (option_map_or Bad (reason_by a b c s d e) whole) whole
no_reason false false false false false false whole h = record { near = refl; within = refl; surface = refl; spread = refl; few = refl; is_whole = refl }
no_reason true b c s d e whole h = cc
no_reason false true c s d e whole h = cc
no_reason false false true s d e whole h = cc
no_reason false false false true d e whole h = cc
no_reason false false false false true e whole h = cc
no_reason false false false false false true whole h = cc

facts_of : (fs : List FaceText) → is_good (raw_brush_of fs) ≡ true →
    NoReason (list_any has_fraction fs) (list_any passes_range fs) (list_any (λ f. passes_limit f.texture) fs) (list_any (λ f. has_no_surface f.surface) fs) (list_any lies_on_line fs)
    (ltb 256 (length fs)) (raw_brush_of fs) (Faces (map face_of_text fs))
facts_of fs good =
    no_reason (list_any has_fraction fs) (list_any passes_range fs) (list_any (λ f. passes_limit f.texture) fs) (list_any (λ f. has_no_surface f.surface) fs) (list_any lies_on_line fs)
    (ltb 256 (length fs)) (Faces (map face_of_text fs)) good

-- a good brush has the faces of its text
pub good_faces : (fs : List FaceText) → is_good (raw_brush_of fs) ≡ true → raw_brush_of fs ≡ Faces (map face_of_text fs)
good_faces fs good = (facts_of fs good).is_whole

few_enough : (n : ℕ) → ltb 256 n ≡ false → leb n 256 ≡ true
few_enough n e = grind (arith, nat_tests)

good_spelled : (fs : List FaceText) → AreTokens (flat_map face_symbols fs) → list_all face_fits fs ≡ true → is_good (raw_brush_of fs) ≡ true → is_spelled_brush (raw_brush_of fs) ≡ true
good_spelled fs are fit good =
    let facts = facts_of fs good in
    ap is_spelled_brush facts.is_whole
    ∙ and_from (leb (length (map face_of_text fs)) 256) (list_all is_savable_face (map face_of_text fs))
    (ap (λ n. leb n 256) (length-map fs face_of_text) ∙ few_enough (length fs) facts.few) (faces_savable fs are fit (record { near = facts.near; within = facts.within; surface = facts.surface; spread = facts.spread }))

-- a bad brush has no faces
pub bad_faces : (b : RawBrush) → is_good b ≡ false → faces_of_brush b ≡ []
bad_faces (Faces faces) bad = cc
bad_faces (Bad reason) bad = refl

pub brush_spelled : (fs : List FaceText) → AreTokens (flat_map face_symbols fs) → list_all face_fits fs ≡ true → is_spelled_brush (raw_brush_of fs) ≡ true
brush_spelled fs are fit = at (is_good (raw_brush_of fs)) refl where
  at : (good : Bool) → is_good (raw_brush_of fs) ≡ good → is_spelled_brush (raw_brush_of fs) ≡ true
  at true good = good_spelled fs are fit good
  at false bad = ap (λ faces. leb (length faces) 256 && list_all is_savable_face faces) (bad_faces (raw_brush_of fs) bad)
