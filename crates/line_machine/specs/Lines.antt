-- The lines of a script.
use Rattle.std.specs.Prelude.{ℕ, List, [], ◌∷◌, ◌++◌, cond, ◌==◌}

-- The bytes before each line feed. The first line began with the bytes begun.
abbrev pub whole_from : List ℕ → List ℕ → List (List ℕ)
whole_from begun [] = []
whole_from begun (b ∷ bs) = cond (b == 10) (begun ∷ whole_from [] bs) (whole_from (begun ++ b ∷ []) bs)

-- The bytes after the last line feed.
abbrev pub rest_from : List ℕ → List ℕ → List ℕ
rest_from begun [] = begun
rest_from begun (b ∷ bs) = cond (b == 10) (rest_from [] bs) (rest_from (begun ++ b ∷ []) bs)

-- The last line may lack its line feed.
abbrev pub last_line : List ℕ → List (List ℕ)
last_line [] = []
last_line (b ∷ bs) = (b ∷ bs) ∷ []

-- The lines that end in a line feed.
abbrev pub whole_lines : List ℕ → List (List ℕ)
whole_lines text = whole_from [] text

-- All lines of a script.
abbrev pub lines_of : List ℕ → List (List ℕ)
lines_of text = whole_from [] text ++ last_line (rest_from [] text)
