-- How the text of a motion is read and written, part by part.
use Rattle.std.specs.Prelude.{ℕ, zero, suc, cond, List, [], ◌∷◌, ◌++◌, Option, Some, None, option_map, option_and_then, ℤ, nat_le, unsigned_abs}
use Rattle.std.specs.Fmt.{signed_decimal}
use Rattle.algebra.specs.Space.{Vector}
use Rattle.orient48.specs.Motions.{shift_limit}
use Rattle.orient48.specs.MotionTexts.{is_blank, words_of, whole_in}

-- What stands behind the blanks that a text begins with.
abbrev pub after_blanks : List ℕ → List ℕ
after_blanks [] = []
after_blanks (b ∷ text) = cond (is_blank b) (after_blanks text) (b ∷ text)

-- The words that are left, where there is text left.
abbrev pub words_left : Option (List ℕ) → List (List ℕ)
words_left None = []
words_left (Some text) = words_of text

-- The whole number that a word is, at most 1,000,000 in size.
abbrev pub small_in : List ℕ → Option ℤ
small_in w = option_and_then (λ n. cond (nat_le (unsigned_abs n) shift_limit) (Some n) None) (whole_in w)

-- So many words, each of them such a number, and no more.
abbrev pub first_numbers : ℕ → List (List ℕ) → Option (List ℤ)
first_numbers zero [] = Some []
first_numbers zero (w ∷ ws) = None
first_numbers (suc n) [] = None
first_numbers (suc n) (w ∷ ws) = option_and_then (λ x. option_map (λ xs. x ∷ xs) (first_numbers n ws)) (small_in w)

abbrev pub spaced : ℤ → List ℕ
spaced n = signed_decimal n ++ 32 ∷ []

-- A row of a matrix and a coordinate of a shift, with a blank behind each number.
abbrev pub row_text : Vector → ℤ → List ℕ
row_text v shift = spaced v.x ++ (spaced v.y ++ (spaced v.z ++ spaced shift))
