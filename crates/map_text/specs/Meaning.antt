-- What the parts of a map text mean: the document of a file. `Reads` rests on it.
use Rattle.std.specs.Prelude.{ℕ, ◌*◌, ◌^◌, Bool, false, ◌&&◌, ◌||◌, not, nat_lt, nat_le, int_le, if◌then◌else◌, List, [], ◌∷◌, length, map, Option, None, Some, ℤ, pos, negsuc, unsigned_abs, int_div, int_rem, codes}
use Rattle.std.specs.Ordering.{int_eq}
use Rattle.std.specs.Option.{option_map, option_map_or}
use Rattle.std.specs.List.{flat_map, list_any}
use Rattle.std.specs.Str.{bytes_eq}
use Rattle.exact_geom.specs.declared.point.Point.{Point}
use Rattle.exact_geom.specs.Planes.{ThreePoints, is_flat}
use Rattle.fixed_num.specs.Count.{count_of}
use Rattle.fixed_num.specs.Decimals.{point_decimals, axis_decimals, offset_decimals, rotation_decimals, scale_decimals, surface_decimals}
use Rattle.uv_lock.specs.SurfaceNumbers.{SurfaceNumbers}
use Rattle.uv_lock.specs.declared.face.Face.{Face}
use Rattle.uv_lock.specs.declared.texture.Format.{Format}
use Rattle.uv_lock.specs.declared.texture.Format.TheVariants.{Standard, Valve}
use Rattle.uv_lock.specs.declared.texture.Tex.{Tex}
use Rattle.uv_lock.specs.declared.texture.Tex.TheVariants.{Standard as StandardFields, Valve as ValveFields}
use Rattle.map_text.specs.declared.document.MapDoc.{MapDoc}
use Rattle.map_text.specs.declared.document.RawEntity.{RawEntity}
use Rattle.map_text.specs.declared.document.RawBrush.{RawBrush}
use Rattle.map_text.specs.declared.document.RawBrush.TheVariants.{Faces, Bad}
use Rattle.map_text.specs.declared.document.Reason.{Reason}
use Rattle.map_text.specs.declared.document.Reason.TheVariants.{Point as NoWholePoint, Range, Texture, Surface, Flat, Many}
use Rattle.map_text.specs.Grammar.{PointText, AxisText, TextureText, standard, valve, SurfaceText, FaceText, Item, property, brush}
use Rattle.map_text.specs.Fits.{coordinates, first_format}

-- The word is whole once it is rounded as the coordinate of a point is.
abbrev pub is_whole : List ℕ → Bool
is_whole w = int_eq (int_rem (count_of point_decimals w) (pos (10 ^ point_decimals))) (pos 0)

abbrev pub whole_of : List ℕ → ℤ
whole_of w = int_div (count_of point_decimals w) (pos (10 ^ point_decimals))

abbrev pub point_of : PointText → Point
point_of p = record { x = whole_of p.x; y = whole_of p.y; z = whole_of p.z }

abbrev pub three_points_of : FaceText → ThreePoints
three_points_of f = record { p0 = point_of f.p0; p1 = point_of f.p1; p2 = point_of f.p2 }

abbrev pub axis_of : AxisText → List ℤ
axis_of a = count_of axis_decimals a.x ∷ count_of axis_decimals a.y ∷ count_of axis_decimals a.z ∷ []

abbrev pub surface_of : SurfaceText → SurfaceNumbers
surface_of s = record { contents = whole_of s.contents; flags = whole_of s.flags; value = count_of surface_decimals s.value }

-- The texture fields of a face, with its surface numbers.
abbrev pub tex_of : TextureText → Option SurfaceText → Tex
tex_of (standard u_offset v_offset rotation u_scale v_scale) surface = StandardFields (record {
  off = count_of offset_decimals u_offset ∷ count_of offset_decimals v_offset ∷ [];
  rotation = count_of rotation_decimals rotation;
  scale = count_of scale_decimals u_scale ∷ count_of scale_decimals v_scale ∷ [];
  surface = option_map surface_of surface;
})
tex_of (valve u v rotation u_scale v_scale) surface = ValveFields (record {
  axis = axis_of u ∷ axis_of v ∷ [];
  off = count_of offset_decimals u.offset ∷ count_of offset_decimals v.offset ∷ [];
  rotation = count_of rotation_decimals rotation;
  scale = count_of scale_decimals u_scale ∷ count_of scale_decimals v_scale ∷ [];
  surface = option_map surface_of surface;
})

abbrev pub face_of_text : FaceText → Face
face_of_text f = record { plane = three_points_of f; material = f.material.text; tex = tex_of f.texture f.surface }

-- Some coordinate isn't whole.
abbrev pub has_fraction : FaceText → Bool
has_fraction f = list_any (λ w. not (is_whole w)) (coordinates f)

-- Some coordinate is beyond 4352 in size.
abbrev pub passes_range : FaceText → Bool
passes_range f = list_any (λ w. nat_lt 4352 (unsigned_abs (whole_of w))) (coordinates f)

-- A number with so many decimals is 1,000,000 or more in size.
abbrev pub is_large : ℕ → List ℕ → Bool
is_large decimals w = nat_le (1000000 * 10 ^ decimals) (unsigned_abs (count_of decimals w))

-- Some number of the texture is that large.
abbrev pub is_axis_large : AxisText → Bool
is_axis_large a = list_any (is_large axis_decimals) (a.x ∷ a.y ∷ a.z ∷ []) || is_large offset_decimals a.offset

abbrev pub passes_limit : TextureText → Bool
passes_limit (standard u_offset v_offset rotation u_scale v_scale) =
    list_any (is_large offset_decimals) (u_offset ∷ v_offset ∷ [])
    || (is_large rotation_decimals rotation || list_any (is_large scale_decimals) (u_scale ∷ v_scale ∷ []))
passes_limit (valve u v rotation u_scale v_scale) =
    is_axis_large u || (is_axis_large v || (is_large rotation_decimals rotation || list_any (is_large scale_decimals) (u_scale ∷ v_scale ∷ [])))

-- The word of contents or flags: whole once it is rounded, and 32 bits, as a signed or an unsigned number.
abbrev pub is_bits : List ℕ → Bool
is_bits w = is_whole w && (int_le (negsuc 2147483647) (whole_of w) && int_le (whole_of w) (pos 4294967295))

-- The words are no surface numbers.
abbrev pub is_no_surface : SurfaceText → Bool
is_no_surface s = not (is_bits s.contents) || (not (is_bits s.flags) || is_large surface_decimals s.value)

abbrev pub has_no_surface : Option SurfaceText → Bool
has_no_surface surface = option_map_or is_no_surface surface false

-- The points lie on a line.
abbrev pub lies_on_line : FaceText → Bool
lies_on_line f = is_flat (three_points_of f)

-- Why the faces are no brush: the first reason that holds.
abbrev pub reason_of : List FaceText → Option Reason
reason_of faces =
    if list_any has_fraction faces then Some NoWholePoint
    else (if list_any passes_range faces then Some Range
    else (if list_any (λ f. passes_limit f.texture) faces then Some Texture
    else (if list_any (λ f. has_no_surface f.surface) faces then Some Surface
    else (if list_any lies_on_line faces then Some Flat
    else (if nat_lt 256 (length faces) then Some Many
    else None)))))

abbrev pub raw_brush_of : List FaceText → RawBrush
raw_brush_of faces = option_map_or Bad (reason_of faces) (Faces (map face_of_text faces))

abbrev pub brushes_of_item : Item → List RawBrush
brushes_of_item (property key value) = []
brushes_of_item (brush faces) = raw_brush_of faces ∷ []

-- The properties with one more: it stands in its key's place, or last where the key is new.
abbrev pub put_property : List ℕ → List ℕ → List (List ℕ × List ℕ) → List (List ℕ × List ℕ)
put_property key value [] = (key, value) ∷ []
put_property key value (p ∷ ps) = if bytes_eq p.0 key then (key, value) ∷ ps else p ∷ put_property key value ps

-- The properties once all of these items are read.
abbrev pub put_items : List (List ℕ × List ℕ) → List Item → List (List ℕ × List ℕ)
put_items ps [] = ps
put_items ps (property key value ∷ items) = put_items (put_property key value ps) items
put_items ps (brush faces ∷ items) = put_items ps items

abbrev pub raw_entity_of : List Item → RawEntity
raw_entity_of items = record { props = put_items [] items; brushes = flat_map brushes_of_item items }

-- The value of a key.
abbrev pub value_of_key : List ℕ → List (List ℕ × List ℕ) → Option (List ℕ)
value_of_key key [] = None
value_of_key key (p ∷ ps) = if bytes_eq p.0 key then Some p.1 else value_of_key key ps

-- The format of a file without faces: that of its first entity's map version.
abbrev pub format_by_version : List RawEntity → Format
format_by_version [] = Standard
format_by_version (first ∷ entities) =
    option_map_or (λ value. if bytes_eq value (codes "220") then Valve else Standard) (value_of_key (codes "mapversion") first.props) Standard

abbrev pub document_of : List (List Item) → MapDoc
document_of entities =
    let raw = map raw_entity_of entities in
    record { format = option_map_or (λ format. format) (first_format entities) (format_by_version raw); entities = raw }
