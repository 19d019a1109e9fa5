-- The file of a savable document fits, and means the document.
use Rattle.std.proofs.Common.{◌≡◌, ℕ, Bool, true, false, not, ◌&&◌, ◌||◌, leb, ltb, List, [], ◌∷◌, ◌++◌, map, length, refl, ap, sym, ◌∙◌, arith, append_assoc, append-nil, nat_eq, slice_get}
use Rattle.std.specs.Option.{option_map_or}
use Rattle.std.specs.List.{list_all, list_any, flat_map}
use Rattle.std.specs.Str.{bytes_eq}
use Rattle.std.proofs.lemmas.Bool.{and_parts, and_from}
use Rattle.std.proofs.lemmas.Bool.Decides.{nat_tests}
use Rattle.std.proofs.lemmas.List.{length-map}
use Rattle.std.proofs.lemmas.List.Concat.{flat_map-append}
use Rattle.uv_lock.specs.declared.face.Face.{Face}
use Rattle.uv_lock.specs.declared.texture.Format.{Format}
use Rattle.uv_lock.specs.declared.texture.Format.TheVariants.{Standard as StandardFormat, Valve as ValveFormat}
use Rattle.uv_lock.specs.declared.texture.Tex.{Tex}
use Rattle.uv_lock.specs.declared.texture.Tex.TheVariants.{Standard, Valve}
use Rattle.map_lex.specs.OneToken.{ends_with_backslash, is_value_text, is_key_text}
use Rattle.map_text.specs.declared.document.MapDoc.{MapDoc}
use Rattle.map_text.specs.declared.document.RawEntity.{RawEntity}
use Rattle.map_text.specs.declared.document.RawBrush.{RawBrush}
use Rattle.map_text.specs.declared.document.RawBrush.TheVariants.{Faces, Bad}
use Rattle.map_text.specs.Grammar.{Item}
use Rattle.map_text.specs.Fits.{face_fits, item_fits, file_fits, format_of, faces_of, formats, is_format, first_format}
use Rattle.map_text.specs.Meaning.{face_of_text, has_fraction, passes_range, passes_limit, has_no_surface, lies_on_line, raw_brush_of, brushes_of_item, put_property, put_items, raw_entity_of, format_by_version}
use Rattle.map_text.specs.Reads.{Reads}
use Rattle.map_text.specs.Spelled.{faces_of_brush, is_savable_face, is_good, is_spelled_brush, keys_are_distinct, is_spelled_entity, tex_format, face_formats, is_spelled, all_good, tells_its_format, is_savable}
use Rattle.map_write.specs.Written.{kept, texture_text, face_text, written_text}
use Rattle.map_write.proofs.Tests.{no_more_than, all_append}
use Rattle.map_write.proofs.FaceBack.{face_back}
use Rattle.map_write.proofs.FileTokens.{items_of, file_of, property_item, brush_item, is_savable_property, written_tokens}

-- ---- brushes

-- what savable faces mean once they are written
record FacesBack (faces : List Face) : Type 0 where
  fit : list_all face_fits (map (face_text kept) faces) ≡ true
  whole : list_any has_fraction (map (face_text kept) faces) ≡ false
  near : list_any passes_range (map (face_text kept) faces) ≡ false
  within : list_any (λ f. passes_limit f.texture) (map (face_text kept) faces) ≡ false
  surface : list_any (λ f. has_no_surface f.surface) (map (face_text kept) faces) ≡ false
  spread : list_any lies_on_line (map (face_text kept) faces) ≡ false
  back : map face_of_text (map (face_text kept) faces) ≡ faces

faces_back : (faces : List Face) → list_all is_savable_face faces ≡ true → FacesBack faces
faces_back [] e = record { fit = refl; whole = refl; near = refl; within = refl; surface = refl; spread = refl; back = refl }
faces_back (f ∷ faces) e =
    let parts = and_parts (is_savable_face f) (list_all is_savable_face faces) e in
    let first = face_back f parts.0 in
    let later = faces_back faces parts.1 in
    record {
      fit = λ i. first.fits i && later.fit i;
      whole = λ i. first.whole i || later.whole i;
      near = λ i. first.near i || later.near i;
      within = λ i. first.within i || later.within i;
      surface = λ i. first.surface i || later.surface i;
      spread = λ i. first.spread i || later.spread i;
      back = λ i. first.back i ∷ later.back i;
    }

few : (n : ℕ) → leb n 256 ≡ true → ltb 256 n ≡ false
few n e = grind (arith, nat_tests)

no_reason : (faces : List Face) → FacesBack faces → leb (length faces) 256 ≡ true → raw_brush_of (map (face_text kept) faces) ≡ Faces faces
no_reason faces back short =
    let many : ltb 256 (length (map (face_text kept) faces)) ≡ false = ap (ltb 256) (length-map faces (face_text kept)) ∙ few (length faces) short in
    rw (back.whole, back.near, back.within, back.surface, back.spread, many) (ap Faces back.back)

brush_fit : (b : RawBrush) → is_spelled_brush b ≡ true → list_all face_fits (map (face_text kept) (faces_of_brush b)) ≡ true
brush_fit b e =
    let faces = faces_of_brush b in
    (faces_back faces (and_parts (leb (length faces) 256) (list_all is_savable_face faces) e).1).fit

brush_back : (b : RawBrush) → is_good b ≡ true → is_spelled_brush b ≡ true → raw_brush_of (map (face_text kept) (faces_of_brush b)) ≡ b
brush_back (Bad reason) good e = cc
brush_back (Faces faces) good e =
    let parts = and_parts (leb (length faces) 256) (list_all is_savable_face faces) e in
    no_reason faces (faces_back faces parts.1) parts.0

-- ---- items

properties_fit : (ps : List (List ℕ × List ℕ)) → list_all is_savable_property ps ≡ true → list_all item_fits (map property_item ps) ≡ true
properties_fit [] e = refl
properties_fit (p ∷ ps) e =
    let parts = and_parts (is_savable_property p) (list_all is_savable_property ps) e in
    let key = and_parts (is_key_text p.0) (is_value_text p.1) parts.0 in
    and_from (not (ends_with_backslash p.0)) (list_all item_fits (map property_item ps)) (and_parts (is_value_text p.0) (not (ends_with_backslash p.0)) key.0).1 (properties_fit ps parts.1)

brushes_fit : (bs : List RawBrush) → list_all is_spelled_brush bs ≡ true → list_all item_fits (map brush_item bs) ≡ true
brushes_fit [] e = refl
brushes_fit (b ∷ bs) e =
    let parts = and_parts (is_spelled_brush b) (list_all is_spelled_brush bs) e in
    and_from (item_fits (brush_item b)) (list_all item_fits (map brush_item bs)) (brush_fit b parts.0) (brushes_fit bs parts.1)

no_brushes : (ps : List (List ℕ × List ℕ)) → flat_map brushes_of_item (map property_item ps) ≡ []
no_brushes [] = refl
no_brushes (p ∷ ps) = no_brushes ps

brushes_back : (bs : List RawBrush) → list_all is_good bs ≡ true → list_all is_spelled_brush bs ≡ true → flat_map brushes_of_item (map brush_item bs) ≡ bs
brushes_back [] good e = refl
brushes_back (b ∷ bs) good e =
    let goods = and_parts (is_good b) (list_all is_good bs) good in
    let parts = and_parts (is_spelled_brush b) (list_all is_spelled_brush bs) e in
    λ i. brush_back b goods.0 parts.0 i ∷ brushes_back bs goods.1 parts.1 i

-- ---- properties

nat_eq-sym : (m n : ℕ) → nat_eq m n ≡ nat_eq n m
nat_eq-sym m n = grind (arith, nat_tests)

pub bytes_eq-sym : (xs ys : List ℕ) → bytes_eq xs ys ≡ bytes_eq ys xs
bytes_eq-sym [] [] = refl
bytes_eq-sym [] (y ∷ ys) = refl
bytes_eq-sym (x ∷ xs) [] = refl
bytes_eq-sym (x ∷ xs) (y ∷ ys) = λ i. nat_eq-sym x y i && bytes_eq-sym xs ys i

all_at : {X : Type 0} (p : X → Bool) (xs : List X) (y : X) (ys : List X) → list_all p (xs ++ y ∷ ys) ≡ true → p y ≡ true
all_at p [] y ys e = (and_parts (p y) (list_all p ys) e).0
all_at p (x ∷ xs) y ys e = all_at p xs y ys (and_parts (p x) (list_all p (xs ++ y ∷ ys)) e).1

-- no earlier key is that of a later property
absent : (before : List (List ℕ × List ℕ)) (p : List ℕ × List ℕ) (ps : List (List ℕ × List ℕ)) → keys_are_distinct (before ++ p ∷ ps) ≡ true → list_all (λ q. not (bytes_eq q.0 p.0)) before ≡ true
absent [] p ps e = refl
absent (a ∷ before) p ps e =
    let parts = and_parts (list_all (λ q. not (bytes_eq q.0 a.0)) (before ++ p ∷ ps)) (keys_are_distinct (before ++ p ∷ ps)) e in
    and_from (not (bytes_eq a.0 p.0)) (list_all (λ q. not (bytes_eq q.0 p.0)) before)
    (ap not (bytes_eq-sym a.0 p.0) ∙ all_at (λ q. not (bytes_eq q.0 a.0)) before p ps parts.0) (absent before p ps parts.1)

put_last : (ps : List (List ℕ × List ℕ)) (p : List ℕ × List ℕ) → list_all (λ q. not (bytes_eq q.0 p.0)) ps ≡ true → put_property p.0 p.1 ps ≡ ps ++ p ∷ []
put_last [] p e = refl
put_last (q ∷ ps) p e =
    let parts = and_parts (not (bytes_eq q.0 p.0)) (list_all (λ r. not (bytes_eq r.0 p.0)) ps) e in
    rw (no_more_than (bytes_eq q.0 p.0) parts.0) (ap (λ rs. q ∷ rs) (put_last ps p parts.1))

put_brushes : (ps : List (List ℕ × List ℕ)) (bs : List RawBrush) → put_items ps (map brush_item bs) ≡ ps
put_brushes ps [] = refl
put_brushes ps (b ∷ bs) = put_brushes ps bs

put_all : (before ps : List (List ℕ × List ℕ)) (bs : List RawBrush) → keys_are_distinct (before ++ ps) ≡ true → put_items before (map property_item ps ++ map brush_item bs) ≡ before ++ ps
put_all before [] bs e = put_brushes before bs ∙ sym (append-nil before)
put_all before (p ∷ ps) bs e =
    let grown : (before ++ p ∷ []) ++ ps ≡ before ++ p ∷ ps = append_assoc before (p ∷ []) ps in
    ap (λ qs. put_items qs (map property_item ps ++ map brush_item bs)) (put_last before p (absent before p ps e))
    ∙ put_all (before ++ p ∷ []) ps bs (ap keys_are_distinct grown ∙ e) ∙ grown

-- ---- entities

-- no brush of the entity is bad
abbrev pub are_good : RawEntity → Bool
are_good e = list_all is_good e.brushes

entity_fit : (e : RawEntity) → is_spelled_entity e ≡ true → list_all item_fits (items_of kept e) ≡ true
entity_fit e spelled =
    let outer = and_parts (keys_are_distinct e.props) (list_all is_savable_property e.props && list_all is_spelled_brush e.brushes) spelled in
    let inner = and_parts (list_all is_savable_property e.props) (list_all is_spelled_brush e.brushes) outer.1 in
    all_append item_fits (map property_item e.props) (map brush_item e.brushes) (properties_fit e.props inner.0) (brushes_fit e.brushes inner.1)

entity_back : (e : RawEntity) → are_good e ≡ true → is_spelled_entity e ≡ true → raw_entity_of (items_of kept e) ≡ e
entity_back e good spelled =
    let outer = and_parts (keys_are_distinct e.props) (list_all is_savable_property e.props && list_all is_spelled_brush e.brushes) spelled in
    let inner = and_parts (list_all is_savable_property e.props) (list_all is_spelled_brush e.brushes) outer.1 in
    let properties = map property_item e.props in
    let brushes : flat_map brushes_of_item (items_of kept e) ≡ e.brushes =
    flat_map-append brushes_of_item properties (map brush_item e.brushes) ∙ ap (λ bs. bs ++ flat_map brushes_of_item (map brush_item e.brushes)) (no_brushes e.props) ∙ brushes_back e.brushes good inner.1 in
    λ i. record { props = put_all [] e.props e.brushes outer.0 i; brushes = brushes i }

file_fit : (es : List RawEntity) → list_all is_spelled_entity es ≡ true → file_fits (map (items_of kept) es) ≡ true
file_fit [] e = refl
file_fit (e ∷ es) spelled =
    let parts = and_parts (is_spelled_entity e) (list_all is_spelled_entity es) spelled in
    and_from (list_all item_fits (items_of kept e)) (file_fits (map (items_of kept) es)) (entity_fit e parts.0) (file_fit es parts.1)

entities_back : (es : List RawEntity) → list_all are_good es ≡ true → list_all is_spelled_entity es ≡ true → map raw_entity_of (map (items_of kept) es) ≡ es
entities_back [] good e = refl
entities_back (e ∷ es) good spelled =
    let goods = and_parts (are_good e) (list_all are_good es) good in
    let parts = and_parts (is_spelled_entity e) (list_all is_spelled_entity es) spelled in
    λ i. entity_back e goods.0 parts.0 i ∷ entities_back es goods.1 parts.1 i

-- ---- formats

same_format : (t : Tex) → format_of (texture_text kept t) ≡ tex_format t
same_format (Standard t) = refl
same_format (Valve t) = refl

faces_formats : (faces : List Face) → map (λ f. format_of f.texture) (map (face_text kept) faces) ≡ map (λ f. tex_format f.tex) faces
faces_formats [] = refl
faces_formats (f ∷ faces) = λ i. same_format f.tex i ∷ faces_formats faces i

abbrev pub item_formats : Item → List Format
item_formats item = map (λ f. format_of f.texture) (faces_of item)

abbrev pub brush_formats : RawBrush → List Format
brush_formats b = map (λ f. tex_format f.tex) (faces_of_brush b)

no_formats : (ps : List (List ℕ × List ℕ)) → flat_map item_formats (map property_item ps) ≡ []
no_formats [] = refl
no_formats (p ∷ ps) = no_formats ps

brushes_formats : (bs : List RawBrush) → flat_map item_formats (map brush_item bs) ≡ flat_map brush_formats bs
brushes_formats [] = refl
brushes_formats (b ∷ bs) = λ i. faces_formats (faces_of_brush b) i ++ brushes_formats bs i

entity_formats : (e : RawEntity) → flat_map item_formats (items_of kept e) ≡ flat_map brush_formats e.brushes
entity_formats e =
    flat_map-append item_formats (map property_item e.props) (map brush_item e.brushes)
    ∙ ap (λ fs. fs ++ flat_map item_formats (map brush_item e.brushes)) (no_formats e.props) ∙ brushes_formats e.brushes

file_formats : (es : List RawEntity) → formats (map (items_of kept) es) ≡ flat_map (λ e. flat_map brush_formats e.brushes) es
file_formats [] = refl
file_formats (e ∷ es) = λ i. entity_formats e i ++ file_formats es i

pub format_same : (a b : Format) → is_format a b ≡ true → a ≡ b
format_same StandardFormat StandardFormat e = refl
format_same StandardFormat ValveFormat e = cc
format_same ValveFormat StandardFormat e = cc
format_same ValveFormat ValveFormat e = refl

-- the format of the first face, or else the one that is told, is the document's
format_back : (format told : Format) (fs : List Format) → list_all (is_format format) fs ≡ true → (ltb 0 (length fs) || is_format format told) ≡ true →
    option_map_or (λ f. f) (slice_get fs 0) told ≡ format
format_back format told [] all some = sym (format_same format told some)
format_back format told (f ∷ fs) all some = sym (format_same format f (and_parts (is_format format f) (list_all (is_format format) fs) all).0)

one_format : (format : Format) (fs : List Format) → list_all (is_format format) fs ≡ true →
    option_map_or (λ first. list_all (is_format first) fs) (slice_get fs 0) true ≡ true
one_format format [] all = refl
one_format format (f ∷ fs) all =
    ap (λ g. list_all (is_format g) (f ∷ fs)) (sym (format_same format f (and_parts (is_format format f) (list_all (is_format format) fs) all).0)) ∙ all

-- ---- documents

-- a savable document is read again from its text
pub saved_is_read : (doc : MapDoc) → is_savable doc ≡ true → Reads (written_text doc) doc
unfolding is_savable is_spelled
saved_is_read doc savable =
    let fs = face_formats doc in
    let outer = and_parts (all_good doc) (is_spelled doc && tells_its_format doc) savable in
    let told = and_parts (is_spelled doc) (tells_its_format doc) outer.1 in
    let spelled = and_parts (list_all is_spelled_entity doc.entities) (list_all (is_format doc.format) fs) told.0 in
    let back = entities_back doc.entities outer.0 spelled.0 in
    let same : formats (file_of kept doc) ≡ fs = file_formats doc.entities in
    let tokens = written_tokens doc spelled.0 in
    let first : option_map_or (λ f. f) (first_format (file_of kept doc)) (format_by_version (map raw_entity_of (file_of kept doc))) ≡ doc.format =
    (λ i. option_map_or (λ f. f) (slice_get (same i) 0) (format_by_version (back i))) ∙ format_back doc.format (format_by_version doc.entities) fs spelled.1 told.1 in
    record {
      file = file_of kept doc;
      fit = file_fit doc.entities spelled.0;
      one_format = (λ i. option_map_or (λ first. list_all (is_format first) (same i)) (slice_get (same i) 0) true) ∙ one_format doc.format fs spelled.1;
      symbols = tokens.tokens;
      no_fault = tokens.no_fault;
      meaning = sym (λ i. record { format = first i; entities = back i });
    }
