-- The one cut of a text, computed from its front. That it is the one is a law: see `one_cut_law`.
use Rattle.std.specs.Prelude.{ℕ, zero, suc, ◌==◌, ◌&&◌, if◌then◌else◌, List, [], ◌∷◌, ◌++◌, length, drop}
use Rattle.map_lex.specs.Bytes.{is_blank, rest_of_line, up_to_blank, begins_comment, closes}
use Rattle.map_lex.specs.Cut.{Piece, Blank, Comment, Quoted, Open, Word, bytes_of}

-- the quoted token, or the quote left open, once these bytes of it are read and others follow
abbrev pub quoted_from : List ℕ → List ℕ → Piece
quoted_from before [] = Open before
quoted_from before (b ∷ text) =
    if b == 10 then Open before
    else (if b == 34 && closes before text then Quoted before
    else quoted_from (before ++ b ∷ []) text)

-- the piece that begins with a byte
abbrev pub piece_at : ℕ → List ℕ → Piece
piece_at b text =
    if is_blank b then Blank b
    else (if b == 34 then quoted_from [] text
    else (if begins_comment (b ∷ text) then Comment (rest_of_line (drop 1 text))
    else Word (up_to_blank (b ∷ text))))

-- at most n pieces from the front
abbrev pub pieces_within : ℕ → List ℕ → List Piece
pieces_within zero text = []
pieces_within (suc n) [] = []
pieces_within (suc n) (b ∷ text) =
    let piece = piece_at b text in piece ∷ pieces_within n (drop (length (bytes_of piece)) (b ∷ text))

-- all pieces: a text has no more of them than bytes
unfoldable pub pieces_of : List ℕ → List Piece
pieces_of text = pieces_within (length text) text
