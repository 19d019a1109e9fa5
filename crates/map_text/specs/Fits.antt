-- Which parts of the grammar are right: where numbers are number words, no key and no quoted material ends with a backslash, and all
-- faces have one format. `Reads` rests on it.
use Rattle.std.specs.Prelude.{ℕ, Bool, true, false, ◌&&◌, not, List, [], ◌∷◌, map, slice_get, Option, None, Some}
use Rattle.std.specs.Option.{option_map_or}
use Rattle.std.specs.List.{flat_map, list_all}
use Rattle.fixed_num.specs.Count.{is_number_word}
use Rattle.uv_lock.specs.declared.texture.Format.{Format}
use Rattle.uv_lock.specs.declared.texture.Format.TheVariants.{Standard, Valve}
use Rattle.map_lex.specs.OneToken.{ends_with_backslash}
use Rattle.map_text.specs.Grammar.{Symbol, TextureText, standard, valve, SurfaceText, FaceText, Item, property, brush}

-- A token that can be a material: a word, or a quoted text that doesn't end with a backslash.
abbrev pub is_material : Symbol → Bool
is_material s = not (s.quoted && ends_with_backslash s.text)

abbrev pub coordinates : FaceText → List (List ℕ)
coordinates f = f.p0.x ∷ f.p0.y ∷ f.p0.z ∷ f.p1.x ∷ f.p1.y ∷ f.p1.z ∷ f.p2.x ∷ f.p2.y ∷ f.p2.z ∷ []

abbrev pub texture_numbers : TextureText → List (List ℕ)
texture_numbers (standard u_offset v_offset rotation u_scale v_scale) =
    u_offset ∷ v_offset ∷ rotation ∷ u_scale ∷ v_scale ∷ []
texture_numbers (valve u v rotation u_scale v_scale) =
    u.x ∷ u.y ∷ u.z ∷ u.offset ∷ v.x ∷ v.y ∷ v.z ∷ v.offset ∷ rotation ∷ u_scale ∷ v_scale ∷ []

abbrev pub surface_numbers : Option SurfaceText → List (List ℕ)
surface_numbers None = []
surface_numbers (Some s) = s.contents ∷ s.flags ∷ s.value ∷ []

abbrev pub face_fits : FaceText → Bool
face_fits f =
    list_all is_number_word (coordinates f)
    && (is_material f.material
    && (list_all is_number_word (texture_numbers f.texture) && list_all is_number_word (surface_numbers f.surface)))

abbrev pub item_fits : Item → Bool
item_fits (property key value) = not (ends_with_backslash key)
item_fits (brush faces) = list_all face_fits faces

abbrev pub file_fits : List (List Item) → Bool
file_fits entities = list_all (λ items. list_all item_fits items) entities

-- The format of a texture.
abbrev pub format_of : TextureText → Format
format_of (standard u_offset v_offset rotation u_scale v_scale) = Standard
format_of (valve u v rotation u_scale v_scale) = Valve

abbrev pub faces_of : Item → List FaceText
faces_of (property key value) = []
faces_of (brush faces) = faces

-- The formats of all faces of a file, in order.
abbrev pub formats : List (List Item) → List Format
formats entities = flat_map (λ items. flat_map (λ item. map (λ f. format_of f.texture) (faces_of item)) items) entities

abbrev pub is_format : Format → Format → Bool
is_format Standard Standard = true
is_format Valve Valve = true
is_format _ _ = false

-- The format of a file's first face, if it has one.
abbrev pub first_format : List (List Item) → Option Format
first_format entities = slice_get (formats entities) 0

-- All faces have one format.
abbrev pub has_one_format : List (List Item) → Bool
has_one_format entities = option_map_or (λ first. list_all (is_format first) (formats entities)) (first_format entities) true
