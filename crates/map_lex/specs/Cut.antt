-- A cut of a whole map text into blanks, comments and words. What is promised of tokens rests on it.
use Rattle.std.specs.Prelude.{◌≡◌, ℕ, Bool, false, ◌==◌, ◌||◌, not, IsTrue, List, [], ◌∷◌, ◌++◌}
use Rattle.std.specs.List.{flat_map}
use Rattle.map_lex.specs.Bytes.{is_blank, rest_of_line, up_to_blank, begins_comment, closes}

-- One blank byte; what stands behind `//`; what stands between two quotes; what stands behind a
-- quote that isn't closed on its line; or a word.
pub data Piece : Type 0 where
  Blank : ℕ → Piece
  Comment : List ℕ → Piece
  Quoted : List ℕ → Piece
  Open : List ℕ → Piece
  Word : List ℕ → Piece

-- a piece as it stands in the text
abbrev pub bytes_of : Piece → List ℕ
bytes_of (Blank b) = b ∷ []
bytes_of (Comment text) = 47 ∷ 47 ∷ text
bytes_of (Quoted text) = 34 ∷ text ++ 34 ∷ []
bytes_of (Open text) = 34 ∷ text
bytes_of (Word text) = text

-- what begins the text is no blank, no quoted token and no comment
abbrev pub begins_word : List ℕ → Bool
begins_word [] = false
begins_word (b ∷ text) = not (is_blank b || b == 34 || begins_comment (b ∷ text))

-- no `"` among these bytes of a quoted token closes it, where the bytes after them follow
abbrev pub NoneCloses : List ℕ → List ℕ → Type 0
NoneCloses bytes after =
    (before more : List ℕ) → bytes ≡ before ++ 34 ∷ more → closes before (more ++ after) ≡ false

-- What a piece is where these bytes follow it: a comment is the rest of its line, a quoted token
-- stands on one line and ends at the first `"` that closes it, and a word goes on to the next blank.
abbrev pub Stands : Piece → List ℕ → Type 0
Stands (Blank b) after = IsTrue (is_blank b)
Stands (Comment text) after = rest_of_line (text ++ after) ≡ text
Stands (Quoted text) after =
    (rest_of_line text ≡ text) × NoneCloses text (34 ∷ after) × IsTrue (closes text after)
Stands (Open text) after = (rest_of_line (text ++ after) ≡ text) × NoneCloses text after
Stands (Word text) after = IsTrue (begins_word (text ++ after)) × (up_to_blank (text ++ after) ≡ text)

-- each piece is one where the later pieces follow it
abbrev pub EachStands : List Piece → Type 0
EachStands [] = Unit {0}
EachStands (piece ∷ pieces) = Stands piece (flat_map bytes_of pieces) × EachStands pieces

-- these pieces, one after another, are the text
pub record IsCut (text : List ℕ) (pieces : List Piece) : Type 0 where
  pub whole : text ≡ flat_map bytes_of pieces
  pub each : EachStands pieces
