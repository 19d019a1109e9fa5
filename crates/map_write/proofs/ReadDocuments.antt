-- A document that was read is spelled, and without a bad brush it can be saved.
use Rattle.std.proofs.Common.{◌≡◌, ℕ, suc, Bool, true, false, not, ◌&&◌, ◌||◌, ltb, cond, Option, List, [], ◌∷◌, ◌++◌, map, length, refl, ap, sym, subst, ◌∙◌, arith, slice_get}
use Rattle.std.specs.Option.{option_map_or}
use Rattle.std.specs.List.{list_all, flat_map}
use Rattle.std.specs.Str.{bytes_eq}
use Rattle.std.proofs.lemmas.Bool.{and_parts, and_from}
use Rattle.std.proofs.lemmas.Slice.Eq.{bytes_eq-Decides}
use Rattle.uv_lock.specs.declared.face.Face.{Face}
use Rattle.uv_lock.specs.declared.texture.Format.{Format}
use Rattle.uv_lock.specs.declared.texture.Format.TheVariants.{Standard as StandardFormat, Valve as ValveFormat}
use Rattle.map_lex.specs.OneToken.{ends_with_backslash, is_value_text, is_key_text}
use Rattle.map_text.specs.declared.document.MapDoc.{MapDoc}
use Rattle.map_text.specs.declared.document.RawEntity.{RawEntity}
use Rattle.map_text.specs.Grammar.{bracket, TextureText, standard, valve, SurfaceText, FaceText, face_symbols, Item, property, brush, item_symbols, entity_symbols, file_symbols}
use Rattle.map_text.specs.Fits.{item_fits, file_fits, format_of, formats, is_format, has_one_format}
use Rattle.map_text.specs.Meaning.{tex_of, face_of_text, raw_brush_of, brushes_of_item, put_property, put_items, raw_entity_of, format_by_version, document_of}
use Rattle.map_text.specs.Reads.{Reads}
use Rattle.map_text.specs.Spelled.{is_good, is_spelled_brush, keys_are_distinct, is_spelled_entity, tex_format, face_formats, is_spelled, all_good, tells_its_format, is_savable}
use Rattle.map_write.proofs.Tests.{all_append, all_parts}
use Rattle.map_write.proofs.Tokens.{AreTokens, quoted_passes}
use Rattle.map_write.proofs.FileTokens.{is_savable_property}
use Rattle.map_write.proofs.DocumentBack.{bytes_eq-sym, are_good, item_formats, brush_formats}
use Rattle.map_write.proofs.ReadTokens.{text_tokens, tokens_split}
use Rattle.map_write.proofs.ReadFaces.{good_faces, bad_faces, brush_spelled}

-- ---- properties

-- what holds of each property and of one more holds once that is put among them
all_put : (p : (List ℕ × List ℕ) → Bool) (key value : List ℕ) (ps : List (List ℕ × List ℕ)) → p (key, value) ≡ true → list_all p ps ≡ true → list_all p (put_property key value ps) ≡ true
all_put p key value [] e all = and_from (p (key, value)) true e refl
all_put p key value (q ∷ ps) e all =
    let parts = and_parts (p q) (list_all p ps) all in
    at (bytes_eq q.0 key) parts.0 parts.1 (all_put p key value ps e parts.1)
  where
    at : (same : Bool) → p q ≡ true → list_all p ps ≡ true → list_all p (put_property key value ps) ≡ true → list_all p (cond same ((key, value) ∷ ps) (q ∷ put_property key value ps)) ≡ true
    at true first rest later = and_from (p (key, value)) (list_all p ps) e rest
    at false first rest later = and_from (p q) (list_all p (put_property key value ps)) first later

distinct_put : (key value : List ℕ) (ps : List (List ℕ × List ℕ)) → keys_are_distinct ps ≡ true → keys_are_distinct (put_property key value ps) ≡ true
distinct_put key value [] e = refl
distinct_put key value (q ∷ ps) e =
    let parts = and_parts (list_all (λ r. not (bytes_eq r.0 q.0)) ps) (keys_are_distinct ps) e in
    at (bytes_eq q.0 key) refl parts.0 parts.1 (distinct_put key value ps parts.1)
  where
    at : (same : Bool) → bytes_eq q.0 key ≡ same → list_all (λ r. not (bytes_eq r.0 q.0)) ps ≡ true → keys_are_distinct ps ≡ true → keys_are_distinct (put_property key value ps) ≡ true →
        keys_are_distinct (cond same ((key, value) ∷ ps) (q ∷ put_property key value ps)) ≡ true
    at true h others rest later =
        let same_key : q.0 ≡ key = (bytes_eq-Decides q.0 key).0 h in
        and_from (list_all (λ r. not (bytes_eq r.0 key)) ps) (keys_are_distinct ps) (subst (λ k. list_all (λ r. not (bytes_eq r.0 k)) ps ≡ true) same_key others) rest
    at false h others rest later =
        and_from (list_all (λ r. not (bytes_eq r.0 q.0)) (put_property key value ps)) (keys_are_distinct (put_property key value ps))
        (all_put (λ r. not (bytes_eq r.0 q.0)) key value ps (ap not (bytes_eq-sym key q.0 ∙ h)) others) later

-- properties that can be saved
record AreProperties (ps : List (List ℕ × List ℕ)) : Type 0 where
  distinct : keys_are_distinct ps ≡ true
  savable : list_all is_savable_property ps ≡ true

property_savable : (key value : List ℕ) → AreTokens (item_symbols (property key value)) → item_fits (property key value) ≡ true → is_savable_property (key, value) ≡ true
property_savable key value are unclosed =
    and_from (is_key_text key) (is_value_text value)
    (and_from (is_value_text key) (not (ends_with_backslash key)) (quoted_passes key (are.0.between_quotes refl)) unclosed)
    (quoted_passes value (are.1.0.between_quotes refl))

properties_read : (ps : List (List ℕ × List ℕ)) (items : List Item) → AreTokens (flat_map item_symbols items) → list_all item_fits items ≡ true → AreProperties ps → AreProperties (put_items ps items)
properties_read ps [] are fit so_far = so_far
properties_read ps (property key value ∷ items) are fit so_far =
    let tokens = tokens_split (item_symbols (property key value)) (flat_map item_symbols items) are in
    let fits = and_parts (item_fits (property key value)) (list_all item_fits items) fit in
    properties_read (put_property key value ps) items tokens.1 fits.1 (record {
      distinct = distinct_put key value ps so_far.distinct;
      savable = all_put is_savable_property key value ps (property_savable key value tokens.0 fits.0) so_far.savable;
    })
properties_read ps (brush faces ∷ items) are fit so_far =
    let tokens = tokens_split (item_symbols (brush faces)) (flat_map item_symbols items) are in
    properties_read ps items tokens.1 (and_parts (item_fits (brush faces)) (list_all item_fits items) fit).1 so_far

-- ---- brushes

brushes_read : (items : List Item) → AreTokens (flat_map item_symbols items) → list_all item_fits items ≡ true → list_all is_spelled_brush (flat_map brushes_of_item items) ≡ true
brushes_read [] are fit = refl
brushes_read (property key value ∷ items) are fit =
    let tokens = tokens_split (item_symbols (property key value)) (flat_map item_symbols items) are in
    brushes_read items tokens.1 (and_parts (item_fits (property key value)) (list_all item_fits items) fit).1
brushes_read (brush faces ∷ items) are fit =
    let tokens = tokens_split (item_symbols (brush faces)) (flat_map item_symbols items) are in
    let fits = and_parts (item_fits (brush faces)) (list_all item_fits items) fit in
    let inside = tokens_split (flat_map face_symbols faces) (bracket 125 ∷ []) tokens.0.1 in
    and_from (is_spelled_brush (raw_brush_of faces)) (list_all is_spelled_brush (flat_map brushes_of_item items)) (brush_spelled faces inside.0 fits.0) (brushes_read items tokens.1 fits.1)

-- ---- entities

entity_read : (items : List Item) → AreTokens (entity_symbols items) → list_all item_fits items ≡ true → is_spelled_entity (raw_entity_of items) ≡ true
entity_read items are fit =
    let inside = (tokens_split (flat_map item_symbols items) (bracket 125 ∷ []) are.1).0 in
    let properties = properties_read [] items inside fit (record { distinct = refl; savable = refl }) in
    and_from (keys_are_distinct (put_items [] items)) (list_all is_savable_property (put_items [] items) && list_all is_spelled_brush (flat_map brushes_of_item items)) properties.distinct
    (and_from (list_all is_savable_property (put_items [] items)) (list_all is_spelled_brush (flat_map brushes_of_item items)) properties.savable (brushes_read items inside fit))

entities_read : (file : List (List Item)) → AreTokens (file_symbols file) → file_fits file ≡ true → list_all is_spelled_entity (map raw_entity_of file) ≡ true
entities_read [] are fit = refl
entities_read (items ∷ file) are fit =
    let tokens = tokens_split (entity_symbols items) (file_symbols file) are in
    let fits = and_parts (list_all item_fits items) (file_fits file) fit in
    and_from (is_spelled_entity (raw_entity_of items)) (list_all is_spelled_entity (map raw_entity_of file)) (entity_read items tokens.0 fits.0) (entities_read file tokens.1 fits.1)

-- ---- formats

same_format : (t : TextureText) (s : Option SurfaceText) → tex_format (tex_of t s) ≡ format_of t
same_format (standard u_offset v_offset rotation u_scale v_scale) s = refl
same_format (valve u v rotation u_scale v_scale) s = refl

faces_formats : (fs : List FaceText) → map (λ f. tex_format f.tex) (map face_of_text fs) ≡ map (λ f. format_of f.texture) fs
faces_formats [] = refl
faces_formats (f ∷ fs) = λ i. same_format f.texture f.surface i ∷ faces_formats fs i

-- where the faces of a text have one format, those of its brushes have it; a bad brush has none
brush_in_format : (format : Format) (faces : List FaceText) → list_all (is_format format) (item_formats (brush faces)) ≡ true →
    list_all (is_format format) (brush_formats (raw_brush_of faces)) ≡ true
brush_in_format format faces e = at (is_good (raw_brush_of faces)) refl where
  at : (good : Bool) → is_good (raw_brush_of faces) ≡ good → list_all (is_format format) (brush_formats (raw_brush_of faces)) ≡ true
  at true good = ap (λ b. list_all (is_format format) (brush_formats b)) (good_faces faces good) ∙ ap (list_all (is_format format)) (faces_formats faces) ∙ e
  at false bad = ap (λ fs. list_all (is_format format) (map (λ (f : Face). tex_format f.tex) fs)) (bad_faces (raw_brush_of faces) bad)

items_in_format : (format : Format) (items : List Item) → list_all (is_format format) (flat_map item_formats items) ≡ true →
    list_all (is_format format) (flat_map brush_formats (flat_map brushes_of_item items)) ≡ true
items_in_format format [] e = refl
items_in_format format (property key value ∷ items) e = items_in_format format items e
items_in_format format (brush faces ∷ items) e =
    let parts = all_parts (is_format format) (item_formats (brush faces)) (flat_map item_formats items) e in
    all_append (is_format format) (brush_formats (raw_brush_of faces)) (flat_map brush_formats (flat_map brushes_of_item items)) (brush_in_format format faces parts.0) (items_in_format format items parts.1)

abbrev entity_formats : RawEntity → List Format
entity_formats e = flat_map brush_formats e.brushes

file_in_format : (format : Format) (file : List (List Item)) → list_all (is_format format) (formats file) ≡ true →
    list_all (is_format format) (flat_map entity_formats (map raw_entity_of file)) ≡ true
file_in_format format [] e = refl
file_in_format format (items ∷ file) e =
    let parts = all_parts (is_format format) (flat_map item_formats items) (formats file) e in
    all_append (is_format format) (entity_formats (raw_entity_of items)) (flat_map entity_formats (map raw_entity_of file)) (items_in_format format items parts.0) (file_in_format format file parts.1)

-- without a bad brush the formats are those of the text
items_formats : (items : List Item) → list_all is_good (flat_map brushes_of_item items) ≡ true → flat_map brush_formats (flat_map brushes_of_item items) ≡ flat_map item_formats items
items_formats [] good = refl
items_formats (property key value ∷ items) good = items_formats items good
items_formats (brush faces ∷ items) good =
    let goods = and_parts (is_good (raw_brush_of faces)) (list_all is_good (flat_map brushes_of_item items)) good in
    let first : brush_formats (raw_brush_of faces) ≡ map (λ f. format_of f.texture) faces = ap brush_formats (good_faces faces goods.0) ∙ faces_formats faces in
    let later = items_formats items goods.1 in
    λ i. first i ++ later i

file_formats : (file : List (List Item)) → list_all are_good (map raw_entity_of file) ≡ true → flat_map entity_formats (map raw_entity_of file) ≡ formats file
file_formats [] good = refl
file_formats (items ∷ file) good =
    let goods = and_parts (are_good (raw_entity_of items)) (list_all are_good (map raw_entity_of file)) good in
    λ i. items_formats items goods.0 i ++ file_formats file goods.1 i

some_first : (n : ℕ) → ltb 0 (suc n) ≡ true
some_first n = grind arith

-- the format of the first face, or else the one that is told
abbrev format_of_file : Format → List Format → Format
format_of_file told fs = option_map_or (λ f. f) (slice_get fs 0) told

all_in_first : (told : Format) (fs : List Format) → option_map_or (λ first. list_all (is_format first) fs) (slice_get fs 0) true ≡ true →
    list_all (is_format (format_of_file told fs)) fs ≡ true
all_in_first told [] one = refl
all_in_first told (f ∷ fs) one = one

is_format-refl : (f : Format) → is_format f f ≡ true
is_format-refl StandardFormat = refl
is_format-refl ValveFormat = refl

first_or_told : (told : Format) (fs : List Format) → (ltb 0 (length fs) || is_format (format_of_file told fs) told) ≡ true
first_or_told told [] = is_format-refl told
first_or_told told (f ∷ fs) = λ i. some_first (length fs) i || is_format f told

-- ---- documents

document_spelled : (file : List (List Item)) → AreTokens (file_symbols file) → file_fits file ≡ true → has_one_format file ≡ true → is_spelled (document_of file) ≡ true
unfolding is_spelled
document_spelled file are fit one =
    let doc = document_of file in
    and_from (list_all is_spelled_entity doc.entities) (list_all (is_format doc.format) (face_formats doc)) (entities_read file are fit)
    (file_in_format doc.format file (all_in_first (format_by_version doc.entities) (formats file) one))

document_tells : (file : List (List Item)) → all_good (document_of file) ≡ true → tells_its_format (document_of file) ≡ true
document_tells file good =
    let doc = document_of file in
    let told = format_by_version doc.entities in
    ap (λ fs. ltb 0 (length fs) || is_format doc.format told) (file_formats file good) ∙ first_or_told told (formats file)

pub read_is_spelled : (text : List ℕ) (doc : MapDoc) → Reads text doc → is_spelled doc ≡ true
read_is_spelled text doc reads =
    let are = subst AreTokens reads.symbols (text_tokens text reads.no_fault) in
    ap is_spelled reads.meaning ∙ document_spelled reads.file are reads.fit reads.one_format

pub read_is_savable : (text : List ℕ) (doc : MapDoc) → Reads text doc → all_good doc ≡ true → is_savable doc ≡ true
unfolding is_savable
read_is_savable text doc reads good =
    let tells = ap tells_its_format reads.meaning ∙ document_tells reads.file (ap all_good (sym reads.meaning) ∙ good) in
    and_from (all_good doc) (is_spelled doc && tells_its_format doc) good (and_from (is_spelled doc) (tells_its_format doc) (read_is_spelled text doc reads) tells)
