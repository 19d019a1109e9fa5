-- The text that a document is saved as: the symbols of its file by the grammar, laid out in lines. It is what `write_map` promises.
use Rattle.std.specs.Prelude.{ℕ, if◌then◌else◌, List, [], ◌∷◌, ◌++◌, map, slice_index_or, Option, None, Some, ℤ, pos, codes}
use Rattle.std.specs.Option.{option_map}
use Rattle.std.specs.List.{flat_map, enumerate_from, join_with_byte}
use Rattle.std.specs.Fmt.{decimal, signed_decimal}
use Rattle.exact_geom.specs.declared.point.Point.{Point}
use Rattle.fixed_num.specs.Shortest.{shortest_decimal}
use Rattle.fixed_num.specs.Decimals.{axis_decimals, offset_decimals, rotation_decimals, scale_decimals, surface_decimals}
use Rattle.uv_lock.specs.SurfaceNumbers.{SurfaceNumbers}
use Rattle.uv_lock.specs.declared.face.Face.{Face}
use Rattle.uv_lock.specs.declared.texture.Tex.{Tex}
use Rattle.uv_lock.specs.declared.texture.Tex.TheVariants.{Standard, Valve}
use Rattle.map_lex.specs.LineTexts.{text_of}
use Rattle.map_lex.specs.OneToken.{needs_quotes}
use Rattle.map_text.specs.declared.document.MapDoc.{MapDoc}
use Rattle.map_text.specs.declared.document.RawEntity.{RawEntity}
use Rattle.map_text.specs.declared.document.RawBrush.{RawBrush}
use Rattle.map_text.specs.Grammar.{Symbol, word, quote, PointText, AxisText, TextureText, standard, valve, SurfaceText, FaceText, face_symbols, property, item_symbols}
use Rattle.map_text.specs.Spelled.{faces_of_brush}

abbrev pub point_text : Point → PointText
point_text p = record { x = signed_decimal p.x; y = signed_decimal p.y; z = signed_decimal p.z }

-- The number at a place of a list that has it.
abbrev pub at : List ℤ → ℕ → ℤ
at numbers k = slice_index_or numbers k (pos 0)

-- How many decimals the numbers of a texture have where they are written. Rotations and the values of surfaces have six.
pub record TextureDecimals : Type 0 where
  pub axis : ℕ
  pub offset : ℕ
  pub scale : ℕ

-- As many as a document keeps.
abbrev pub kept : TextureDecimals
kept = record { axis = axis_decimals; offset = offset_decimals; scale = scale_decimals }

abbrev pub axis_text : TextureDecimals → List ℤ → ℤ → AxisText
axis_text d axis offset = record {
  x = shortest_decimal d.axis (at axis 0);
  y = shortest_decimal d.axis (at axis 1);
  z = shortest_decimal d.axis (at axis 2);
  offset = shortest_decimal d.offset offset;
}

-- The texture's numbers in their shortest decimals.
abbrev pub texture_text : TextureDecimals → Tex → TextureText
texture_text d (Standard t) =
    standard (shortest_decimal d.offset (at t.off 0)) (shortest_decimal d.offset (at t.off 1))
    (shortest_decimal rotation_decimals t.rotation)
    (shortest_decimal d.scale (at t.scale 0)) (shortest_decimal d.scale (at t.scale 1))
texture_text d (Valve t) =
    valve (axis_text d (slice_index_or t.axis 0 []) (at t.off 0)) (axis_text d (slice_index_or t.axis 1 []) (at t.off 1))
    (shortest_decimal rotation_decimals t.rotation)
    (shortest_decimal d.scale (at t.scale 0)) (shortest_decimal d.scale (at t.scale 1))

abbrev pub surface_text : SurfaceNumbers → SurfaceText
surface_text s = record {
  contents = signed_decimal s.contents;
  flags = signed_decimal s.flags;
  value = shortest_decimal surface_decimals s.value;
}

abbrev pub surface_of_tex : Tex → Option SurfaceNumbers
surface_of_tex (Standard t) = t.surface
surface_of_tex (Valve t) = t.surface

abbrev pub material_symbol : List ℕ → Symbol
material_symbol material = if needs_quotes material then quote material else word material

abbrev pub face_text : TextureDecimals → Face → FaceText
face_text d f = record {
  p0 = point_text f.plane.p0;
  p1 = point_text f.plane.p1;
  p2 = point_text f.plane.p2;
  material = material_symbol f.material;
  texture = texture_text d f.tex;
  surface = option_map surface_text (surface_of_tex f.tex);
}

-- A symbol as it is written.
abbrev pub written : Symbol → List ℕ
written s = if s.quoted then 34 ∷ (s.text ++ 34 ∷ []) else s.text

-- Symbols on one line, with a space between two.
abbrev pub line_of : List Symbol → List ℕ
line_of symbols = join_with_byte 32 (map written symbols)

-- Surface numbers at the end of a face's line, with a space before each.
abbrev pub surface_end : Option SurfaceNumbers → List ℕ
surface_end None = []
surface_end (Some s) =
    32 ∷ (signed_decimal s.contents ++ 32 ∷ (signed_decimal s.flags ++ 32 ∷ shortest_decimal surface_decimals s.value))

-- A property is a line; a brush is its number in a comment and its faces in braces, each on a line.
abbrev pub property_line : (List ℕ × List ℕ) → List ℕ
property_line p = line_of (item_symbols (property p.0 p.1))

abbrev pub face_line : TextureDecimals → Face → List ℕ
face_line d f = line_of (face_symbols (face_text d f))

abbrev pub brush_lines : TextureDecimals → ℕ → RawBrush → List (List ℕ)
brush_lines d number b =
    (codes "// brush " ++ decimal number) ∷ codes "{" ∷ (map (face_line d) (faces_of_brush b) ++ codes "}" ∷ [])

-- An entity is its number in a comment, and in braces its properties and its brushes, which are numbered from 0.
abbrev pub entity_lines : TextureDecimals → ℕ → RawEntity → List (List ℕ)
entity_lines d number e =
    (codes "// entity " ++ decimal number) ∷ codes "{"
    ∷ (map property_line e.props ++ (flat_map (λ (k, b). brush_lines d k b) (enumerate_from 0 e.brushes) ++ codes "}" ∷ []))

-- The lines of a document: its entities, numbered from 0.
abbrev pub document_lines : TextureDecimals → MapDoc → List (List ℕ)
document_lines d doc = flat_map (λ (k, e). entity_lines d k e) (enumerate_from 0 doc.entities)

-- The text with so many decimals.
unfoldable pub written_with : TextureDecimals → MapDoc → List ℕ
written_with d doc = text_of (document_lines d doc)

abbrev pub written_text : MapDoc → List ℕ
written_text doc = written_with kept doc
