-- The parts of a map text as a reader meets them: each behind its first token, where that tells which part it is. Only the contracts of
-- the reader's inner functions speak of it: no promise of `read_map` rests on it.
use Rattle.std.specs.Prelude.{ℕ, ◌&&◌, ◌||◌, Bool, true, false, List, [], ◌∷◌, ◌++◌, map, Option, None, Some, Result, ℤ}
use Rattle.std.specs.Borrow.{Bor}
use Rattle.std.specs.Option.{option_map}
use Rattle.std.specs.List.{flat_map, list_all}
use Rattle.std.specs.Str.{bytes_eq}
use Rattle.exact_geom.specs.declared.point.Point.{Point}
use Rattle.fixed_num.specs.Count.{is_number_word, count_of}
use Rattle.fixed_num.specs.Decimals.{offset_decimals, rotation_decimals, scale_decimals}
use Rattle.uv_lock.specs.SurfaceNumbers.{SurfaceNumbers}
use Rattle.uv_lock.specs.declared.face.Face.{Face}
use Rattle.uv_lock.specs.declared.texture.Format.{Format}
use Rattle.uv_lock.specs.declared.texture.Format.TheVariants.{Standard, Valve}
use Rattle.uv_lock.specs.declared.texture.Tex.{Tex}
use Rattle.map_text.specs.declared.document.RawBrush.{RawBrush}
use Rattle.map_text.specs.declared.document.RawEntity.{RawEntity}
use Rattle.map_text.specs.declared.document.Reason.{Reason}
use Rattle.map_text.specs.declared.document.Reason.TheVariants.{Texture}
use Rattle.map_text.specs.declared.texture_text.TextureStart.{TextureStart}
use Rattle.map_text.specs.declared.texture_text.TextureStart.TheVariants.{Axes, Offset}
use Rattle.map_text.specs.declared.read_fault.What.TheVariants.{Point as APoint}
use Rattle.map_text.specs.Grammar.{Symbol, word, quote, bracket, PointText, AxisText, TextureText, texture_symbols, SurfaceText, surface_symbols, FaceText, face_symbols, Item, item_symbols}
use Rattle.map_text.specs.Fits.{is_material, texture_numbers, surface_numbers, face_fits, item_fits, format_of, faces_of}
use Rattle.map_text.specs.Meaning.{whole_of, is_large, is_axis_large, point_of, axis_of, surface_of, tex_of, face_of_text, raw_brush_of, raw_entity_of}
use Rattle.map_text.specs.Refusals.{Awaited, first_in_brush, a_face, mark, a_number, a_texture, a_surface, rest_of_point, rest_of_face, rest_of_texture}
use Rattle.map_text.specs.Reading.{ReaderState, Passes, Part, IsRead}
use Rattle.map_text.specs.Judged.{judge, coordinate_reason, point_reason, points_reason, reason_if, texture_reason, surface_reason, face_reason, count_or, bits_or, or_else}

-- The word of a coordinate.
abbrev pub coordinate_part : Part (List ℕ) (Result ℤ Reason)
coordinate_part = record {
  fits = is_number_word;
  symbols = λ w. word w ∷ [];
  formats = λ w. [];
  meaning = λ w. judge (coordinate_reason w) (whole_of w);
}

-- The word of a number of so many decimals, where a large one is no part for this reason.
abbrev pub number_part : Reason → ℕ → Part (List ℕ) (Result ℤ Reason)
number_part reason decimals = record {
  fits = is_number_word;
  symbols = λ w. word w ∷ [];
  formats = λ w. [];
  meaning = count_or reason decimals;
}

-- The word of contents or flags.
abbrev pub bits_part : Part (List ℕ) (Result ℤ Reason)
bits_part = record {
  fits = is_number_word;
  symbols = λ w. word w ∷ [];
  formats = λ w. [];
  meaning = bits_or;
}

-- The part, in a face of this format.
abbrev pub with_format : {T V : Type 0} → Format → Part T V → Part T V
with_format format part = record { fits = part.fits; symbols = part.symbols; formats = λ text. format ∷ []; meaning = part.meaning }

-- x y z )
abbrev pub point_end : PointText → List Symbol
point_end p = word p.x ∷ word p.y ∷ word p.z ∷ bracket 41 ∷ []

abbrev pub point_fits : PointText → Bool
point_fits p = list_all is_number_word (p.x ∷ p.y ∷ p.z ∷ [])

abbrev pub point_part : Part PointText (Result Point Reason)
point_part = record {
  fits = point_fits;
  symbols = point_end;
  formats = λ p. [];
  meaning = λ p. judge (point_reason p) (point_of p);
}

-- What is awaited behind the bracket of a face's first point, up to the last point's end.
abbrev pub points_places : List Awaited
points_places = rest_of_point ++ (mark 40 APoint ∷ rest_of_point ++ (mark 40 APoint ∷ rest_of_point))

-- x y z ) ( x y z ) ( x y z )
abbrev pub points_part : Part (PointText × PointText × PointText) (Result (List Point) Reason)
points_part = record {
  fits = λ ps. point_fits ps.0 && (point_fits ps.1 && point_fits ps.2);
  symbols = λ ps. point_end ps.0 ++ (bracket 40 ∷ point_end ps.1 ++ (bracket 40 ∷ point_end ps.2));
  formats = λ ps. [];
  meaning = λ ps. judge (points_reason ps) (point_of ps.0 ∷ point_of ps.1 ∷ point_of ps.2 ∷ []);
}

abbrev pub material_part : Part Symbol (List ℕ)
material_part = record { fits = is_material; symbols = λ s. s ∷ []; formats = λ s. []; meaning = λ s. s.text }

-- x y z offset ]
abbrev pub axis_part : Part AxisText (Result (List ℤ × ℤ) Reason)
axis_part = record {
  fits = λ a. list_all is_number_word (a.x ∷ a.y ∷ a.z ∷ a.offset ∷ []);
  symbols = λ a. word a.x ∷ word a.y ∷ word a.z ∷ word a.offset ∷ bracket 93 ∷ [];
  formats = λ a. [];
  meaning = λ a. judge (reason_if (is_axis_large a) Texture) (axis_of a, count_of offset_decimals a.offset);
}

-- Three words: the rotation and the scales along U and V.
abbrev pub Turn : Type 0
Turn = List ℕ × List ℕ × List ℕ

abbrev pub turn_part : Part Turn (Result (ℤ × List ℤ) Reason)
turn_part = record {
  fits = λ t. list_all is_number_word (t.0 ∷ t.1 ∷ t.2 ∷ []);
  symbols = λ t. word t.0 ∷ word t.1 ∷ word t.2 ∷ [];
  formats = λ t. [];
  meaning = λ t.
      judge (reason_if (is_large rotation_decimals t.0 || (is_large scale_decimals t.1 || (is_large scale_decimals t.2 || false))) Texture)
      (count_of rotation_decimals t.0, count_of scale_decimals t.1 ∷ count_of scale_decimals t.2 ∷ []);
}

-- What stands behind the last scale, if surface numbers do.
abbrev pub surface_part : Part (Option SurfaceText) (Result (Option SurfaceNumbers) Reason)
surface_part = record {
  fits = λ s. list_all is_number_word (surface_numbers s);
  symbols = surface_symbols;
  formats = λ s. [];
  meaning = λ s. judge (surface_reason s) (option_map surface_of s);
}

-- A texture, and what stands behind it.
abbrev pub texture_part : Part (TextureText × Option SurfaceText) (Result Tex Reason)
texture_part = record {
  fits = λ t. list_all is_number_word (texture_numbers t.0) && list_all is_number_word (surface_numbers t.1);
  symbols = λ t. texture_symbols t.0 ++ surface_symbols t.1;
  formats = λ t. format_of t.0 ∷ [];
  meaning = λ t. judge (or_else (texture_reason t.0) (surface_reason t.1)) (tex_of t.0 t.1);
}

-- A face behind its first bracket.
abbrev pub face_end : FaceText → List Symbol
face_end f =
    point_end f.p0 ++ (bracket 40 ∷ point_end f.p1 ++ (bracket 40 ∷ point_end f.p2
    ++ (f.material ∷ (texture_symbols f.texture ++ surface_symbols f.surface))))

abbrev pub format_of_face : FaceText → Format
format_of_face f = format_of f.texture

abbrev pub face_part : Part FaceText (Result Face Reason)
face_part = record {
  fits = face_fits;
  symbols = face_end;
  formats = λ f. format_of_face f ∷ [];
  meaning = λ f. judge (face_reason f) (face_of_text f);
}

-- The faces of a brush, with the closing bracket.
abbrev pub brush_part : Part (List FaceText) RawBrush
brush_part = record {
  fits = λ faces. list_all face_fits faces;
  symbols = λ faces. flat_map face_symbols faces ++ bracket 125 ∷ [];
  formats = λ faces. map format_of_face faces;
  meaning = raw_brush_of;
}

-- The items of an entity, with the closing bracket.
abbrev pub entity_part : Part (List Item) RawEntity
entity_part = record {
  fits = λ items. list_all item_fits items;
  symbols = λ items. flat_map item_symbols items ++ bracket 125 ∷ [];
  formats = λ items. flat_map (λ item. map (λ f. format_of f.texture) (faces_of item)) items;
  meaning = raw_entity_of;
}

-- What is awaited in a brush: its first face, or a further one.
abbrev pub face_place : Bool → Awaited
face_place true = first_in_brush
face_place false = a_face

-- A face begins there, or the brush ends.
abbrev pub BeginsFace : ReaderState → ReaderState → Bool → Bool → Type 0
BeginsFace old new is_first true = Passes old new (face_place is_first ∷ []) rest_of_face (bracket 40 ∷ []) []
BeginsFace old new is_first false = Passes old new (face_place is_first ∷ []) [] (bracket 125 ∷ []) []

-- The texture of a face begins: with the bracket of its first axis, or with its first offset.
abbrev pub BeginsTexture : ReaderState → ReaderState → TextureStart → Type 0
BeginsTexture old new Axes = Passes old new (a_texture ∷ []) (rest_of_texture Valve) (bracket 91 ∷ []) (Valve ∷ [])
BeginsTexture old new (Offset number) =
    IsRead (with_format Standard (number_part Texture offset_decimals)) (a_texture ∷ []) (rest_of_texture Standard) old new number

-- Surface numbers begin with the contents, or what stands there may stand behind a face.
abbrev pub BeginsSurface : ReaderState → ReaderState → Option (Result ℤ Reason) → Type 0
BeginsSurface old new (Some contents) = IsRead bits_part (a_surface ∷ []) (a_number ∷ a_number ∷ a_face ∷ []) old new contents
BeginsSurface old new None = Passes old new (a_surface ∷ []) (a_face ∷ []) [] []

-- The value behind a key.
abbrev pub value_part : Part (List ℕ) (List ℕ)
value_part = record { fits = λ text. true; symbols = λ text. quote text ∷ []; formats = λ text. []; meaning = λ text. text }

-- Keys and values where they stand in the text.
abbrev pub Pairs : Type 0
Pairs = List (Bor (List ℕ) × Bor (List ℕ))

-- Two keys have the same bytes.
abbrev pub same_bytes : Bor (List ℕ) → Bor (List ℕ) → Bool
same_bytes a b = bytes_eq a.now b.now

-- The bytes of keys and values.
abbrev pub bytes_of_pairs : Pairs → List (List ℕ × List ℕ)
bytes_of_pairs pairs = map (λ p. (p.0.now, p.1.now)) pairs

-- What is awaited behind the axes or offsets of a texture.
abbrev pub turn_places : List Awaited
turn_places = a_number ∷ a_number ∷ a_number ∷ []
