-- The grammar of map texts: what a file is made of, and the tokens of each part of it, in order. `Reads` rests on it.
use Rattle.std.specs.Prelude.{ℕ, Bool, true, false, List, [], ◌∷◌, ◌++◌, Option, None, Some}
use Rattle.std.specs.List.{flat_map}
use Rattle.map_lex.specs.TokenList.{TokenValue}

-- A token without its line: a word, or the text between two quotes.
pub record Symbol : Type 0 where
  pub text : List ℕ
  pub quoted : Bool

abbrev pub symbol_of : TokenValue → Symbol
symbol_of token = record { text = token.text; quoted = token.quoted }

abbrev pub word : List ℕ → Symbol
word text = record { text = text; quoted = false }

abbrev pub quote : List ℕ → Symbol
quote text = record { text = text; quoted = true }

-- A bracket: a word of one byte.
abbrev pub bracket : ℕ → Symbol
bracket byte = word (byte ∷ [])

-- A point by the words of its coordinates: ( x y z )
pub record PointText : Type 0 where
  pub x : List ℕ
  pub y : List ℕ
  pub z : List ℕ

abbrev pub point_symbols : PointText → List Symbol
point_symbols p = bracket 40 ∷ word p.x ∷ word p.y ∷ word p.z ∷ bracket 41 ∷ []

-- A texture axis and its offset: [ x y z offset ]
pub record AxisText : Type 0 where
  pub x : List ℕ
  pub y : List ℕ
  pub z : List ℕ
  pub offset : List ℕ

abbrev pub axis_symbols : AxisText → List Symbol
axis_symbols a = bracket 91 ∷ word a.x ∷ word a.y ∷ word a.z ∷ word a.offset ∷ bracket 93 ∷ []

-- The texture of a face, in the two formats: two offsets, or two axes with their offsets; then the rotation and two scales.
pub data TextureText : Type 0 where
  standard : (u_offset v_offset rotation u_scale v_scale : List ℕ) → TextureText
  valve : (u v : AxisText) → (rotation u_scale v_scale : List ℕ) → TextureText

abbrev pub texture_symbols : TextureText → List Symbol
texture_symbols (standard u_offset v_offset rotation u_scale v_scale) =
    word u_offset ∷ word v_offset ∷ word rotation ∷ word u_scale ∷ word v_scale ∷ []
texture_symbols (valve u v rotation u_scale v_scale) =
    axis_symbols u ++ (axis_symbols v ++ (word rotation ∷ word u_scale ∷ word v_scale ∷ []))

-- The surface numbers of a face.
pub record SurfaceText : Type 0 where
  pub contents : List ℕ
  pub flags : List ℕ
  pub value : List ℕ

abbrev pub surface_symbols : Option SurfaceText → List Symbol
surface_symbols None = []
surface_symbols (Some s) = word s.contents ∷ word s.flags ∷ word s.value ∷ []

-- A face: three points, a material, a texture, and perhaps surface numbers.
pub record FaceText : Type 0 where
  pub p0 : PointText
  pub p1 : PointText
  pub p2 : PointText
  pub material : Symbol
  pub texture : TextureText
  pub surface : Option SurfaceText

abbrev pub face_symbols : FaceText → List Symbol
face_symbols f =
    point_symbols f.p0 ++ (point_symbols f.p1 ++ (point_symbols f.p2
    ++ (f.material ∷ (texture_symbols f.texture ++ surface_symbols f.surface))))

-- What stands in an entity: a property, or a brush.
pub data Item : Type 0 where
  property : (key value : List ℕ) → Item
  brush : List FaceText → Item

abbrev pub item_symbols : Item → List Symbol
item_symbols (property key value) = quote key ∷ quote value ∷ []
item_symbols (brush faces) = bracket 123 ∷ (flat_map face_symbols faces ++ bracket 125 ∷ [])

-- An entity: its items in braces.
abbrev pub entity_symbols : List Item → List Symbol
entity_symbols items = bracket 123 ∷ (flat_map item_symbols items ++ bracket 125 ∷ [])

-- A file: its entities.
abbrev pub file_symbols : List (List Item) → List Symbol
file_symbols entities = flat_map entity_symbols entities
