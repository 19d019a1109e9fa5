-- The tokens of a map text, up to its first fault: what `Tokens` promises.
use Rattle.std.specs.Prelude.{◌≡◌, ℕ, ◌+◌, Bool, true, false, ◌==◌, if◌then◌else◌, nat_eq, List, [], ◌∷◌, drop, Option, None, Some, Result, Ok, Err}
use Rattle.std.specs.Borrow.{Bor}
use Rattle.std.specs.List.{list_any, starts_with}
use Rattle.map_lex.specs.declared.lexer.LexFault.{LexFault}
use Rattle.map_lex.specs.declared.lexer.LexFault.TheVariants.{OpenQuote, StrayByte}
use Rattle.map_lex.specs.declared.lexer.Token.{Token}
use Rattle.map_lex.specs.Bytes.{is_stray}
use Rattle.map_lex.specs.Cut.{Piece, Blank, Comment, Quoted, Open, Word, IsCut}
use Rattle.map_lex.specs.Pieces.{pieces_of}

-- a token's text without where it lies in memory
pub record TokenValue : Type 0 where
  pub text : List ℕ
  pub quoted : Bool
  pub line : ℕ

abbrev pub value_of : Token → TokenValue
value_of token = record { text = token.text.now; quoted = token.quoted; line = token.line }

-- tokens, and the fault that ends them, or none where the text ends without one
pub record TokenList : Type 0 where
  pub tokens : List TokenValue
  pub fault : Option LexFault

abbrev pub no_more : TokenList
no_more = record { tokens = []; fault = None }

abbrev pub stopped : LexFault → TokenList
stopped fault = record { tokens = []; fault = Some fault }

abbrev pub put_first : TokenValue → TokenList → TokenList
put_first token list = record { tokens = token ∷ list.tokens; fault = list.fault }

-- A stray byte in a piece is a fault there, and comes before all that the piece would give.
abbrev pub unless_stray : List ℕ → ℕ → TokenList → TokenList
unless_stray text line list = if list_any is_stray text then stopped (StrayByte line) else list

-- The tokens of pieces, the first of which stands on this line. Lines end at line feeds.
abbrev pub tokens_from : ℕ → List Piece → TokenList
tokens_from line [] = no_more
tokens_from line (Blank b ∷ pieces) = tokens_from (if b == 10 then line + 1 else line) pieces
tokens_from line (Comment text ∷ pieces) = unless_stray text line (tokens_from line pieces)
tokens_from line (Quoted text ∷ pieces) =
    unless_stray text line
    (put_first (record { text = text; quoted = true; line = line }) (tokens_from line pieces))
tokens_from line (Open text ∷ pieces) = unless_stray text line (stopped (OpenQuote line))
tokens_from line (Word text ∷ pieces) =
    unless_stray text line
    (put_first (record { text = text; quoted = false; line = line }) (tokens_from line pieces))

-- the text behind a byte order mark, where it begins with one
abbrev pub without_mark : List ℕ → List ℕ
without_mark text = if starts_with nat_eq text (239 ∷ 187 ∷ 191 ∷ []) then drop 3 text else text

-- the list is that of a cut of the whole text, with lines counted from 1
abbrev pub AreTokensOf : TokenList → List ℕ → Type 0
AreTokensOf list text =
    (pieces : List Piece) × IsCut (without_mark text) pieces × (list ≡ tokens_from 1 pieces)

-- the tokens of a text from a line on
unfoldable pub tokens_left : ℕ → List ℕ → TokenList
tokens_left line text = tokens_from line (pieces_of text)

-- the tokens of a whole text
unfoldable pub token_list : List ℕ → TokenList
token_list text = tokens_left 1 (without_mark text)

-- what is still to come: the tokens that are left, or the fault that was answered
abbrev pub left_after : Option LexFault → ℕ → List ℕ → TokenList
left_after None line text = tokens_left line text
left_after (Some fault) line text = stopped fault

-- a token that was cut off and what is left behind it, or the fault in its place
abbrev pub cut_off : ℕ → Result (Token × Bor (List ℕ)) LexFault → TokenList
cut_off line (Ok cut) = put_first (value_of cut.0) (tokens_left line cut.1.now)
cut_off line (Err fault) = stopped fault
