-- The documents that a text can spell, and those that can be saved so that reading the text gives them again. What is promised of saved
-- documents rests on it.
use Rattle.std.specs.Prelude.{ℕ, ◌*◌, ◌^◌, Bool, true, false, ◌==◌, ◌&&◌, ◌||◌, not, nat_le, nat_lt, int_le, is_ok, List, [], ◌∷◌, length, map, Option, ℤ, pos, negsuc, unsigned_abs}
use Rattle.std.specs.Option.{option_map_or}
use Rattle.std.specs.List.{flat_map, list_all}
use Rattle.std.specs.Str.{bytes_eq}
use Rattle.exact_geom.specs.Planes.{plane_of}
use Rattle.fixed_num.specs.Decimals.{axis_decimals, offset_decimals, rotation_decimals, scale_decimals, surface_decimals}
use Rattle.uv_lock.specs.SurfaceNumbers.{SurfaceNumbers}
use Rattle.uv_lock.specs.declared.face.Face.{Face}
use Rattle.uv_lock.specs.declared.texture.Format.{Format}
use Rattle.uv_lock.specs.declared.texture.Format.TheVariants.{Standard as StandardFormat, Valve as ValveFormat}
use Rattle.uv_lock.specs.declared.texture.Tex.{Tex}
use Rattle.uv_lock.specs.declared.texture.Tex.TheVariants.{Standard, Valve}
use Rattle.map_lex.specs.OneToken.{is_value_text, is_key_text, is_material_text}
use Rattle.map_text.specs.declared.document.MapDoc.{MapDoc}
use Rattle.map_text.specs.declared.document.RawEntity.{RawEntity}
use Rattle.map_text.specs.declared.document.RawBrush.{RawBrush}
use Rattle.map_text.specs.declared.document.RawBrush.TheVariants.{Faces, Bad}
use Rattle.map_text.specs.Fits.{is_format}
use Rattle.map_text.specs.Meaning.{format_by_version}

-- A number with so many decimals is below 1,000,000 in size.
abbrev pub is_small : ℕ → ℤ → Bool
is_small decimals count = nat_lt (unsigned_abs count) (1000000 * 10 ^ decimals)

-- A list of so many numbers, each of so many decimals and below 1,000,000 in size.
abbrev pub are_small : ℕ → ℕ → List ℤ → Bool
are_small n decimals counts = length counts == n && list_all (is_small decimals) counts

-- Contents and flags are 32 bits, signed or not, and the value is small.
abbrev pub is_savable_surface : SurfaceNumbers → Bool
is_savable_surface s =
    (int_le (negsuc 2147483647) s.contents && int_le s.contents (pos 4294967295))
    && ((int_le (negsuc 2147483647) s.flags && int_le s.flags (pos 4294967295)) && is_small surface_decimals s.value)

-- What follows the axes or offsets of a texture.
abbrev pub is_savable_turn : ℤ → List ℤ → Option SurfaceNumbers → Bool
is_savable_turn rotation scale surface =
    is_small rotation_decimals rotation && (are_small 2 scale_decimals scale && option_map_or is_savable_surface surface true)

abbrev pub is_savable_texture : Tex → Bool
is_savable_texture (Standard t) = are_small 2 offset_decimals t.off && is_savable_turn t.rotation t.scale t.surface
is_savable_texture (Valve t) =
    (length t.axis == 2 && list_all (are_small 3 axis_decimals) t.axis)
    && (are_small 2 offset_decimals t.off && is_savable_turn t.rotation t.scale t.surface)

abbrev pub is_savable_face : Face → Bool
is_savable_face f = is_ok (plane_of f.plane) && (is_material_text f.material && is_savable_texture f.tex)

abbrev pub faces_of_brush : RawBrush → List Face
faces_of_brush (Faces faces) = faces
faces_of_brush (Bad reason) = []

abbrev pub is_good : RawBrush → Bool
is_good (Faces faces) = true
is_good (Bad reason) = false

-- The faces of a brush can be saved; a bad brush has none.
abbrev pub is_spelled_brush : RawBrush → Bool
is_spelled_brush b = nat_le (length (faces_of_brush b)) 256 && list_all is_savable_face (faces_of_brush b)

-- No two properties have one key.
abbrev pub keys_are_distinct : List (List ℕ × List ℕ) → Bool
keys_are_distinct [] = true
keys_are_distinct (p ∷ ps) = list_all (λ q. not (bytes_eq q.0 p.0)) ps && keys_are_distinct ps

abbrev pub is_spelled_entity : RawEntity → Bool
is_spelled_entity e =
    keys_are_distinct e.props && (list_all (λ p. is_key_text p.0 && is_value_text p.1) e.props && list_all is_spelled_brush e.brushes)

abbrev pub tex_format : Tex → Format
tex_format (Standard t) = StandardFormat
tex_format (Valve t) = ValveFormat

-- The formats of all faces of a document, in order.
abbrev pub face_formats : MapDoc → List Format
face_formats doc = flat_map (λ e. flat_map (λ b. map (λ f. tex_format f.tex) (faces_of_brush b)) e.brushes) doc.entities

-- What a text can spell: keys, values and faces, each of them in the document's format. Bad brushes have no faces.
unfoldable pub is_spelled : MapDoc → Bool
is_spelled doc = list_all is_spelled_entity doc.entities && list_all (is_format doc.format) (face_formats doc)

-- No brush of the document is bad.
abbrev pub all_good : MapDoc → Bool
all_good doc = list_all (λ e. list_all is_good e.brushes) doc.entities

-- The document has a face, or its format is the one that its first entity tells.
abbrev pub tells_its_format : MapDoc → Bool
tells_its_format doc = nat_lt 0 (length (face_formats doc)) || is_format doc.format (format_by_version doc.entities)

-- A document that can be saved so that reading the text gives it again.
unfoldable pub is_savable : MapDoc → Bool
is_savable doc = all_good doc && (is_spelled doc && tells_its_format doc)
