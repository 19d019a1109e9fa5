-- Where a text is refused: its first token that doesn't fit at its place. `first_refusal` is what `read_map` promises of refusals.
use Rattle.std.specs.Prelude.{ℕ, ◌+◌, Bool, false, ◌==◌, ◌&&◌, not, if◌then◌else◌, List, [], ◌∷◌, ◌++◌, Option, None, Some}
use Rattle.std.specs.List.{count_by}
use Rattle.std.specs.Char.{is_ascii_alphabetic}
use Rattle.std.specs.Str.{bytes_eq}
use Rattle.map_lex.specs.declared.lexer.LexFault.{LexFault}
use Rattle.map_lex.specs.TokenList.{TokenValue, TokenList, token_list}
use Rattle.fixed_num.specs.Count.{is_number_word}
use Rattle.uv_lock.specs.declared.texture.Format.{Format}
use Rattle.uv_lock.specs.declared.texture.Format.TheVariants.{Standard, Valve}
use Rattle.map_lex.specs.OneToken.{ends_with_backslash}
use Rattle.map_text.specs.declared.read_fault.What.{What}
use Rattle.map_text.specs.declared.read_fault.What.TheVariants.{Entity, Item, Key, Value, Face, Point, Number, Material, Axis}
use Rattle.map_text.specs.declared.read_fault.ReadFault.{ReadFault}
use Rattle.map_text.specs.declared.read_fault.ReadFault.TheVariants.{Lex, Expected, MixedFormat, UnknownBlock, EndsEarly}
use Rattle.map_text.specs.Grammar.{symbol_of}
use Rattle.map_text.specs.Fits.{is_material, is_format}

-- A place in a file, by what is awaited there.
pub data Awaited : Type 0 where
  an_entity : Awaited
  an_item : Awaited
  a_value : Awaited
  first_in_brush : Awaited
  a_face : Awaited
  mark : ℕ → What → Awaited
  a_number : Awaited
  a_material : Awaited
  a_texture : Awaited
  a_surface : Awaited

-- What a token does at a place: it fits, and then these places follow, or the text is refused.
pub data Step : Type 0 where
  fits : List Awaited → Step
  refused : ReadFault → Step

-- The token is this bracket.
abbrev pub is_bracket : ℕ → TokenValue → Bool
is_bracket byte t = not t.quoted && bytes_eq t.text (byte ∷ [])

abbrev pub is_number : TokenValue → Bool
is_number t = not t.quoted && is_number_word t.text

-- The text begins with an ASCII letter.
abbrev pub begins_with_letter : List ℕ → Bool
begins_with_letter [] = false
begins_with_letter (b ∷ text) = is_ascii_alphabetic b

-- The token is a word that begins with a letter.
abbrev pub names_block : TokenValue → Bool
names_block t = not t.quoted && begins_with_letter t.text

-- The places of ( x y z ) behind its first bracket, and of [ x y z offset ] behind its first one.
abbrev pub rest_of_point : List Awaited
rest_of_point = a_number ∷ a_number ∷ a_number ∷ mark 41 Point ∷ []

abbrev pub rest_of_axis : List Awaited
rest_of_axis = a_number ∷ a_number ∷ a_number ∷ a_number ∷ mark 93 Axis ∷ []

-- The places of a face behind its first bracket. The last one is behind the last scale: surface numbers may stand there, and else
-- what may stand behind the face.
abbrev pub rest_of_face : List Awaited
rest_of_face = rest_of_point ++ (mark 40 Point ∷ rest_of_point ++ (mark 40 Point ∷ rest_of_point ++ (a_material ∷ a_texture ∷ a_surface ∷ [])))

-- The places of a texture behind its first token.
abbrev pub rest_of_texture : Format → List Awaited
rest_of_texture Standard = a_number ∷ a_number ∷ a_number ∷ a_number ∷ []
rest_of_texture Valve = rest_of_axis ++ (mark 91 Axis ∷ rest_of_axis ++ (a_number ∷ a_number ∷ a_number ∷ []))

-- The format that the token behind a material tells, if it can stand there.
abbrev pub texture_format : TokenValue → Option Format
texture_format t = if is_bracket 91 t then Some Valve else (if is_number t then Some Standard else None)

-- The texture of a face begins with this token, where `first` is the format of the first face, if there was one.
abbrev pub texture_step : Option Format → TokenValue → Option Format → Step
texture_step first t None = refused (Expected Number t.line)
texture_step None t (Some format) = fits (rest_of_texture format)
texture_step (Some first) t (Some format) = if is_format first format then fits (rest_of_texture format) else refused (MixedFormat t.line)

abbrev pub face_step : TokenValue → Step
face_step t = if is_bracket 40 t then fits rest_of_face
    else (if is_bracket 125 t then fits [] else refused (Expected Face t.line))

-- The table of places: which tokens fit there, and how another one is refused.
abbrev pub step : Option Format → Awaited → TokenValue → Step
step first an_entity t = if is_bracket 123 t then fits (an_item ∷ an_entity ∷ []) else refused (Expected Entity t.line)
step first an_item t =
    if t.quoted then (if ends_with_backslash t.text then refused (Expected Key t.line) else fits (a_value ∷ an_item ∷ []))
    else (if is_bracket 123 t then fits (first_in_brush ∷ an_item ∷ [])
    else (if is_bracket 125 t then fits [] else refused (Expected Item t.line)))
step first a_value t = if t.quoted then fits [] else refused (Expected Value t.line)
step first first_in_brush t = if names_block t then refused (UnknownBlock t.line) else face_step t
step first a_face t = face_step t
step first (mark byte what) t = if is_bracket byte t then fits [] else refused (Expected what t.line)
step first a_number t = if is_number t then fits [] else refused (Expected Number t.line)
step first a_material t = if is_material (symbol_of t) then fits [] else refused (Expected Material t.line)
step first a_texture t = texture_step first t (texture_format t)
step first a_surface t = if is_number t then fits (a_number ∷ a_number ∷ a_face ∷ []) else face_step t

-- The format of the first face, once a token at a place is read.
abbrev pub settled : Option Format → Awaited → TokenValue → Option Format
settled None a_texture t = texture_format t
settled first _ t = first

-- How reading goes on: all places are passed, and these tokens are left, or the text is refused.
pub data Outcome : Type 0 where
  passed : Option Format → TokenList → Outcome
  stopped_by : ReadFault → Outcome

-- The tokens end where these places are still awaited. A file may end where an entity is awaited.
abbrev pub at_end : ℕ → Option Format → List Awaited → Option LexFault → Outcome
at_end last first places (Some fault) = stopped_by (Lex fault)
at_end last first (an_entity ∷ []) None = passed first (record { tokens = []; fault = None })
at_end last first places None = stopped_by (EndsEarly last)

-- The tokens are read from a place on, with these places awaited; `last` is the last line of the text.
abbrev pub go_on : ℕ → Option Format → List Awaited → List TokenValue → Option LexFault → Outcome
go_on last first [] tokens fault = passed first (record { tokens = tokens; fault = fault })
go_on last first (place ∷ places) [] fault = at_end last first (place ∷ places) fault
go_on last first (place ∷ places) (t ∷ tokens) fault =
    elim (step first place t) [ fits more ↦ go_on last (settled first place t) (more ++ places) tokens fault | refused why ↦ stopped_by why ]

-- Lines count from 1 and end at line feeds.
abbrev pub last_line : List ℕ → ℕ
last_line text = 1 + count_by (λ b. b == 10) text

abbrev pub refusal_of : Outcome → Option ReadFault
refusal_of (passed first tokens) = None
refusal_of (stopped_by why) = Some why

-- Why a text is refused, if it is.
unfoldable pub first_refusal : List ℕ → Option ReadFault
first_refusal text =
    let list = token_list text in refusal_of (go_on (last_line text) None (an_entity ∷ []) list.tokens list.fault)
