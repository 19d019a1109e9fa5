-- The text of a document of old numbers, and that it is read again.
use Rattle.std.proofs.Common.{◌≡◌, ℕ, zero, suc, ◌+◌, ◌*◌, ◌^◌, ◌<◌, Bool, true, ◌&&◌, ◌||◌, ◌==◌, leb, ltb, List, [], ◌∷◌, ◌++◌, map, length, slice_index_or, is_ok, Option, refl, ap, ◌∙◌, arith, codes, ℤ, pos, ◌*ℤ◌, unsigned_abs}
use Rattle.std.specs.Option.{option_map}
use Rattle.std.specs.List.{flat_map, enumerate_from, list_all}
use Rattle.std.specs.Fmt.{decimal}
use Rattle.std.proofs.lemmas.Bool.{and_parts, and_from, ltb-true}
use Rattle.std.proofs.lemmas.Bool.Decides.{nat_tests}
use Rattle.std.proofs.lemmas.Int.{unsigned_abs-mul}
use Rattle.std.proofs.lemmas.List.{length-map}
use Rattle.std.proofs.lemmas.Nat.{mul-le}
use Rattle.exact_geom.specs.Planes.{plane_of}
use Rattle.fixed_num.specs.Decimals.{axis_decimals, offset_decimals, rotation_decimals, scale_decimals}
use Rattle.fixed_num.specs.Shortest.{shortest_decimal}
use Rattle.fixed_num.proofs.Scales.{shortest_decimal_scaled}
use Rattle.uv_lock.specs.SurfaceNumbers.{SurfaceNumbers}
use Rattle.uv_lock.specs.declared.face.Face.{Face}
use Rattle.uv_lock.specs.declared.texture.Format.{Format}
use Rattle.uv_lock.specs.declared.texture.Tex.{Tex}
use Rattle.uv_lock.specs.declared.texture.Tex.TheVariants.{Standard, Valve}
use Rattle.map_lex.specs.LineTexts.{text_of}
use Rattle.map_lex.specs.OneToken.{is_value_text, is_key_text, is_material_text}
use Rattle.map_text.specs.declared.document.MapDoc.{MapDoc}
use Rattle.map_text.specs.declared.document.RawEntity.{RawEntity}
use Rattle.map_text.specs.declared.document.RawBrush.{RawBrush}
use Rattle.map_text.specs.declared.document.RawBrush.TheVariants.{Faces, Bad}
use Rattle.map_text.specs.Grammar.{standard, valve, face_symbols}
use Rattle.map_text.specs.Fits.{is_format}
use Rattle.map_text.specs.Meaning.{format_by_version}
use Rattle.map_text.specs.Reads.{Reads}
use Rattle.map_text.specs.Spelled.{faces_of_brush, is_small, are_small, is_savable_turn, is_savable_texture, is_savable_face, is_good, is_spelled_brush, keys_are_distinct, is_spelled_entity, tex_format, face_formats, is_spelled, all_good, tells_its_format, is_savable}
use Rattle.map_write.specs.Written.{kept, at, point_text, axis_text, texture_text, surface_text, surface_of_tex, material_symbol, face_text, line_of, face_line, property_line, brush_lines, entity_lines, written_with, written_text}
use Rattle.map_write.specs.OldNumbers.{six, in_billionths, in_trillionths, recounted_tex, recounted_face, recounted_brush, recounted_entity, recounted, is_old_count, is_old_tex, are_old_faces, is_old}
use Rattle.map_write.proofs.DocumentBack.{saved_is_read}

-- ---- the same text

billionths_text : (n : ℤ) → shortest_decimal 9 (in_billionths n) ≡ shortest_decimal 6 n
billionths_text n = shortest_decimal_scaled 6 3 n

trillionths_text : (n : ℤ) → shortest_decimal 12 (in_trillionths n) ≡ shortest_decimal 6 n
trillionths_text n = shortest_decimal_scaled 6 6 n

at_recounted : (k : ℕ) (xs : List ℤ) (n : ℕ) → at (map (λ z. z *ℤ pos k) xs) n ≡ at xs n *ℤ pos k
at_recounted k [] n = let none : 0 ≡ 0 * k = omega arith in ap pos none
at_recounted k (x ∷ xs) zero = refl
at_recounted k (x ∷ xs) (suc n) = at_recounted k xs n

axis_recounted : (axes : List (List ℤ)) (n : ℕ) → slice_index_or (map (map in_billionths) axes) n [] ≡ map in_billionths (slice_index_or axes n [])
axis_recounted [] n = refl
axis_recounted (axis ∷ axes) zero = refl
axis_recounted (axis ∷ axes) (suc n) = axis_recounted axes n

part_text : (xs : List ℤ) (n : ℕ) → shortest_decimal 9 (at (map in_billionths xs) n) ≡ shortest_decimal 6 (at xs n)
part_text xs n = ap (shortest_decimal 9) (at_recounted (10 ^ 3) xs n) ∙ billionths_text (at xs n)

offset_text : (xs : List ℤ) (n : ℕ) → shortest_decimal 12 (at (map in_trillionths xs) n) ≡ shortest_decimal 6 (at xs n)
offset_text xs n = ap (shortest_decimal 12) (at_recounted (10 ^ 6) xs n) ∙ trillionths_text (at xs n)

axis_same : (axes : List (List ℤ)) (n : ℕ) (offsets : List ℤ)
    → axis_text kept (slice_index_or (map (map in_billionths) axes) n []) (at (map in_trillionths offsets) n) ≡ axis_text six (slice_index_or axes n []) (at offsets n)
axis_same axes n offsets =
    let axis = slice_index_or axes n [] in
    ap (λ a. axis_text kept a (at (map in_trillionths offsets) n)) (axis_recounted axes n)
    ∙ (λ i. record { x = part_text axis 0 i; y = part_text axis 1 i; z = part_text axis 2 i; offset = offset_text offsets n i })

texture_same : (t : Tex) → texture_text kept (recounted_tex t) ≡ texture_text six t
texture_same (Standard t) = λ i.
    standard (offset_text t.off 0 i) (offset_text t.off 1 i) (shortest_decimal rotation_decimals t.rotation) (part_text t.scale 0 i) (part_text t.scale 1 i)
texture_same (Valve t) = λ i.
    valve (axis_same t.axis 0 t.off i) (axis_same t.axis 1 t.off i) (shortest_decimal rotation_decimals t.rotation) (part_text t.scale 0 i) (part_text t.scale 1 i)

surface_same : (t : Tex) → surface_of_tex (recounted_tex t) ≡ surface_of_tex t
surface_same (Standard t) = refl
surface_same (Valve t) = refl

face_same : (f : Face) → face_text kept (recounted_face f) ≡ face_text six f
face_same f = λ i. record {
  p0 = point_text f.plane.p0;
  p1 = point_text f.plane.p1;
  p2 = point_text f.plane.p2;
  material = material_symbol f.material;
  texture = texture_same f.tex i;
  surface = option_map surface_text (surface_same f.tex i);
}

faces_same : (fs : List Face) → map (face_line kept) (map recounted_face fs) ≡ map (face_line six) fs
faces_same [] = refl
faces_same (f ∷ fs) = λ i. line_of (face_symbols (face_same f i)) ∷ faces_same fs i

brush_same : (k : ℕ) (b : RawBrush) → brush_lines kept k (recounted_brush b) ≡ brush_lines six k b
brush_same k (Faces faces) = ap (λ lines. (codes "// brush " ++ decimal k) ∷ codes "{" ∷ (lines ++ codes "}" ∷ [])) (faces_same faces)
brush_same k (Bad reason) = refl

brushes_same : (k : ℕ) (bs : List RawBrush)
    → flat_map (λ ((n, b) : ℕ × RawBrush). brush_lines kept n b) (enumerate_from k (map recounted_brush bs)) ≡ flat_map (λ ((n, b) : ℕ × RawBrush). brush_lines six n b) (enumerate_from k bs)
brushes_same k [] = refl
brushes_same k (b ∷ bs) = λ i. brush_same k b i ++ brushes_same (k + 1) bs i

entity_same : (k : ℕ) (e : RawEntity) → entity_lines kept k (recounted_entity e) ≡ entity_lines six k e
entity_same k e =
    ap (λ lines. (codes "// entity " ++ decimal k) ∷ codes "{" ∷ (map property_line e.props ++ (lines ++ codes "}" ∷ []))) (brushes_same 0 e.brushes)

entities_same : (k : ℕ) (es : List RawEntity)
    → flat_map (λ ((n, e) : ℕ × RawEntity). entity_lines kept n e) (enumerate_from k (map recounted_entity es)) ≡ flat_map (λ ((n, e) : ℕ × RawEntity). entity_lines six n e) (enumerate_from k es)
entities_same k [] = refl
entities_same k (e ∷ es) = λ i. entity_same k e i ++ entities_same (k + 1) es i

pub same_text : (doc : MapDoc) → written_text (recounted doc) ≡ written_with six doc
unfolding written_with
same_text doc = ap text_of (entities_same 0 doc.entities)

-- ---- it can be saved

grown_small : (k d : ℕ) (n : ℤ) → 10 ^ 12 * k ≡ 1000000 * 10 ^ d → 0 < k → is_old_count n ≡ true → is_small d (n *ℤ pos k) ≡ true
grown_small k d n scaled some old =
    let below : unsigned_abs n < 10 ^ 12 = ltb-true (unsigned_abs n) (10 ^ 12) old in
    let size : unsigned_abs (n *ℤ pos k) ≡ unsigned_abs n * k = unsigned_abs-mul n (pos k) in
    below_test (unsigned_abs (n *ℤ pos k)) (1000000 * 10 ^ d) (omega (arith, size, scaled, less_by (unsigned_abs n) (10 ^ 12) k below some))
  where
    less_by : (a b k : ℕ) → a < b → 0 < k → a * k < b * k
    less_by a b k h some = omega (arith, mul-le (a + 1) k b k (omega (arith, h)) (omega arith))

    below_test : (n limit : ℕ) → n < limit → ltb n limit ≡ true
    below_test n limit h = grind (arith, nat_tests)

grown_all : (k d : ℕ) (xs : List ℤ) → 10 ^ 12 * k ≡ 1000000 * 10 ^ d → 0 < k → list_all is_old_count xs ≡ true → list_all (is_small d) (map (λ z. z *ℤ pos k) xs) ≡ true
grown_all k d [] scaled some old = refl
grown_all k d (x ∷ xs) scaled some old =
    let parts = and_parts (is_old_count x) (list_all is_old_count xs) old in
    and_from (is_small d (x *ℤ pos k)) (list_all (is_small d) (map (λ z. z *ℤ pos k) xs)) (grown_small k d x scaled some parts.0) (grown_all k d xs scaled some parts.1)

grown_are : (m k d e : ℕ) (xs : List ℤ) → 10 ^ 12 * k ≡ 1000000 * 10 ^ d → 0 < k → list_all is_old_count xs ≡ true → are_small m e xs ≡ true → are_small m d (map (λ z. z *ℤ pos k) xs) ≡ true
grown_are m k d e xs scaled some old small =
    let long = (and_parts (length xs == m) (list_all (is_small e) xs) small).0 in
    and_from (length (map (λ z. z *ℤ pos k) xs) == m) (list_all (is_small d) (map (λ z. z *ℤ pos k) xs)) (ap (λ n. n == m) (length-map xs (λ z. z *ℤ pos k)) ∙ long) (grown_all k d xs scaled some old)

grown_axes : (axes : List (List ℤ)) → list_all (list_all is_old_count) axes ≡ true → list_all (are_small 3 axis_decimals) axes ≡ true → list_all (are_small 3 axis_decimals) (map (map in_billionths) axes) ≡ true
grown_axes [] old small = refl
grown_axes (axis ∷ axes) old small =
    let olds = and_parts (list_all is_old_count axis) (list_all (list_all is_old_count) axes) old in
    let smalls = and_parts (are_small 3 axis_decimals axis) (list_all (are_small 3 axis_decimals) axes) small in
    and_from (are_small 3 axis_decimals (map in_billionths axis)) (list_all (are_small 3 axis_decimals) (map (map in_billionths) axes))
    (grown_are 3 (10 ^ 3) axis_decimals axis_decimals axis refl (omega arith) olds.0 smalls.0) (grown_axes axes olds.1 smalls.1)

grown_turn : (rotation : ℤ) (scale : List ℤ) (surface : Option SurfaceNumbers) → list_all is_old_count scale ≡ true → is_savable_turn rotation scale surface ≡ true
    → is_savable_turn rotation (map in_billionths scale) surface ≡ true
grown_turn rotation scale surface old e =
    let first = and_parts (is_small rotation_decimals rotation) _ e in
    let second = and_parts (are_small 2 scale_decimals scale) _ first.1 in
    let scales = grown_are 2 (10 ^ 3) scale_decimals scale_decimals scale refl (omega arith) old second.0 in
    λ i. first.0 i && (scales i && second.1 i)

old_scales : (rotation : ℤ) (scale : List ℤ) (none : Bool) → (list_all is_old_count (rotation ∷ scale) && none) ≡ true → list_all is_old_count scale ≡ true
old_scales rotation scale none e = (and_parts (is_old_count rotation) (list_all is_old_count scale) (and_parts (list_all is_old_count (rotation ∷ scale)) none e).0).1

texture_grown : (t : Tex) → is_old_tex t ≡ true → is_savable_texture t ≡ true → is_savable_texture (recounted_tex t) ≡ true
texture_grown (Standard t) old e =
    let olds = and_parts (list_all is_old_count t.off) _ old in
    let parts = and_parts (are_small 2 offset_decimals t.off) (is_savable_turn t.rotation t.scale t.surface) e in
    let offsets = grown_are 2 (10 ^ 6) offset_decimals offset_decimals t.off refl (omega arith) olds.0 parts.0 in
    let turn = grown_turn t.rotation t.scale t.surface (old_scales t.rotation t.scale _ olds.1) parts.1 in
    λ i. offsets i && turn i
texture_grown (Valve t) old e =
    let axes_old = and_parts (list_all (list_all is_old_count) t.axis) _ old in
    let olds = and_parts (list_all is_old_count t.off) _ axes_old.1 in
    let outer = and_parts (length t.axis == 2 && list_all (are_small 3 axis_decimals) t.axis) (are_small 2 offset_decimals t.off && is_savable_turn t.rotation t.scale t.surface) e in
    let axes = and_parts (length t.axis == 2) (list_all (are_small 3 axis_decimals) t.axis) outer.0 in
    let parts = and_parts (are_small 2 offset_decimals t.off) (is_savable_turn t.rotation t.scale t.surface) outer.1 in
    let two = ap (λ n. n == 2) (length-map t.axis (map in_billionths)) ∙ axes.0 in
    let grown = grown_axes t.axis axes_old.0 axes.1 in
    let offsets = grown_are 2 (10 ^ 6) offset_decimals offset_decimals t.off refl (omega arith) olds.0 parts.0 in
    let turn = grown_turn t.rotation t.scale t.surface (old_scales t.rotation t.scale _ olds.1) parts.1 in
    λ i. (two i && grown i) && (offsets i && turn i)

face_grown : (f : Face) → is_old_tex f.tex ≡ true → is_savable_face f ≡ true → is_savable_face (recounted_face f) ≡ true
face_grown f old e =
    let outer = and_parts (is_ok (plane_of f.plane)) (is_material_text f.material && is_savable_texture f.tex) e in
    let inner = and_parts (is_material_text f.material) (is_savable_texture f.tex) outer.1 in
    let texture = texture_grown f.tex old inner.1 in
    λ i. outer.0 i && (inner.0 i && texture i)

faces_grown : (fs : List Face) → list_all (λ f. is_old_tex f.tex) fs ≡ true → list_all is_savable_face fs ≡ true → list_all is_savable_face (map recounted_face fs) ≡ true
faces_grown [] old e = refl
faces_grown (f ∷ fs) old e =
    let olds = and_parts (is_old_tex f.tex) (list_all (λ g. is_old_tex g.tex) fs) old in
    let parts = and_parts (is_savable_face f) (list_all is_savable_face fs) e in
    and_from (is_savable_face (recounted_face f)) (list_all is_savable_face (map recounted_face fs)) (face_grown f olds.0 parts.0) (faces_grown fs olds.1 parts.1)

recounted_faces : (b : RawBrush) → faces_of_brush (recounted_brush b) ≡ map recounted_face (faces_of_brush b)
recounted_faces (Faces faces) = refl
recounted_faces (Bad reason) = refl

brush_grown : (b : RawBrush) → are_old_faces b ≡ true → is_spelled_brush b ≡ true → is_spelled_brush (recounted_brush b) ≡ true
brush_grown b old e =
    let parts = and_parts (leb (length (faces_of_brush b)) 256) (list_all is_savable_face (faces_of_brush b)) e in
    ap (λ fs. leb (length fs) 256 && list_all is_savable_face fs) (recounted_faces b)
    ∙ and_from (leb (length (map recounted_face (faces_of_brush b))) 256) (list_all is_savable_face (map recounted_face (faces_of_brush b)))
    (ap (λ n. leb n 256) (length-map (faces_of_brush b) recounted_face) ∙ parts.0) (faces_grown (faces_of_brush b) old parts.1)

brushes_grown : (bs : List RawBrush) → list_all are_old_faces bs ≡ true → list_all is_spelled_brush bs ≡ true → list_all is_spelled_brush (map recounted_brush bs) ≡ true
brushes_grown [] old e = refl
brushes_grown (b ∷ bs) old e =
    let olds = and_parts (are_old_faces b) (list_all are_old_faces bs) old in
    let parts = and_parts (is_spelled_brush b) (list_all is_spelled_brush bs) e in
    and_from (is_spelled_brush (recounted_brush b)) (list_all is_spelled_brush (map recounted_brush bs)) (brush_grown b olds.0 parts.0) (brushes_grown bs olds.1 parts.1)

-- the brushes of an entity are old
abbrev old_entity : RawEntity → Bool
old_entity e = list_all are_old_faces e.brushes

entity_grown : (e : RawEntity) → old_entity e ≡ true → is_spelled_entity e ≡ true → is_spelled_entity (recounted_entity e) ≡ true
entity_grown e old spelled =
    let outer = and_parts (keys_are_distinct e.props) _ spelled in
    let inner = and_parts (list_all (λ (p : List ℕ × List ℕ). is_key_text p.0 && is_value_text p.1) e.props) (list_all is_spelled_brush e.brushes) outer.1 in
    let brushes = brushes_grown e.brushes old inner.1 in
    λ i. outer.0 i && (inner.0 i && brushes i)

entities_grown : (es : List RawEntity) → list_all old_entity es ≡ true → list_all is_spelled_entity es ≡ true → list_all is_spelled_entity (map recounted_entity es) ≡ true
entities_grown [] old spelled = refl
entities_grown (e ∷ es) old spelled =
    let olds = and_parts (old_entity e) (list_all old_entity es) old in
    let parts = and_parts (is_spelled_entity e) (list_all is_spelled_entity es) spelled in
    and_from (is_spelled_entity (recounted_entity e)) (list_all is_spelled_entity (map recounted_entity es)) (entity_grown e olds.0 parts.0) (entities_grown es olds.1 parts.1)

-- ---- what doesn't change

format_same : (t : Tex) → tex_format (recounted_tex t) ≡ tex_format t
format_same (Standard t) = refl
format_same (Valve t) = refl

faces_formats : (fs : List Face) → map (λ f. tex_format f.tex) (map recounted_face fs) ≡ map (λ f. tex_format f.tex) fs
faces_formats [] = refl
faces_formats (f ∷ fs) = λ i. format_same f.tex i ∷ faces_formats fs i

abbrev brush_formats : RawBrush → List Format
brush_formats b = map (λ f. tex_format f.tex) (faces_of_brush b)

brushes_formats : (bs : List RawBrush) → flat_map brush_formats (map recounted_brush bs) ≡ flat_map brush_formats bs
brushes_formats [] = refl
brushes_formats (b ∷ bs) = λ i. (ap (map (λ (f : Face). tex_format f.tex)) (recounted_faces b) ∙ faces_formats (faces_of_brush b)) i ++ brushes_formats bs i

entities_formats : (es : List RawEntity) → flat_map (λ e. flat_map brush_formats e.brushes) (map recounted_entity es) ≡ flat_map (λ e. flat_map brush_formats e.brushes) es
entities_formats [] = refl
entities_formats (e ∷ es) = λ i. brushes_formats e.brushes i ++ entities_formats es i

good_same : (b : RawBrush) → is_good (recounted_brush b) ≡ is_good b
good_same (Faces faces) = refl
good_same (Bad reason) = refl

brushes_good : (bs : List RawBrush) → list_all is_good (map recounted_brush bs) ≡ list_all is_good bs
brushes_good [] = refl
brushes_good (b ∷ bs) = λ i. good_same b i && brushes_good bs i

entities_good : (es : List RawEntity) → list_all (λ e. list_all is_good e.brushes) (map recounted_entity es) ≡ list_all (λ e. list_all is_good e.brushes) es
entities_good [] = refl
entities_good (e ∷ es) = λ i. brushes_good e.brushes i && entities_good es i

version_same : (es : List RawEntity) → format_by_version (map recounted_entity es) ≡ format_by_version es
version_same [] = refl
version_same (e ∷ es) = refl

recounted_savable : (doc : MapDoc) → is_old doc ≡ true → is_savable doc ≡ true → is_savable (recounted doc) ≡ true
unfolding is_savable is_spelled
recounted_savable doc old savable =
    let outer = and_parts (all_good doc) (is_spelled doc && tells_its_format doc) savable in
    let told = and_parts (is_spelled doc) (tells_its_format doc) outer.1 in
    let spelled = and_parts (list_all is_spelled_entity doc.entities) (list_all (is_format doc.format) (face_formats doc)) told.0 in
    let good = entities_good doc.entities ∙ outer.0 in
    let entities = entities_grown doc.entities old spelled.0 in
    let formats = ap (list_all (is_format doc.format)) (entities_formats doc.entities) ∙ spelled.1 in
    let tells = (λ i. ltb 0 (length (entities_formats doc.entities i)) || is_format doc.format (version_same doc.entities i)) ∙ told.1 in
    λ i. good i && ((entities i && formats i) && tells i)

pub old_again : (doc : MapDoc) → is_old doc ≡ true → is_savable doc ≡ true → Reads (written_text (recounted doc)) (recounted doc)
old_again doc old savable = saved_is_read (recounted doc) (recounted_savable doc old savable)
