-- Motions as texts: sixteen numbers row by row, with the shift as a fourth column and 0 0 0 1 as the last row.
use Rattle.std.specs.Prelude.{ℕ, Bool, false, ◌&&◌, ◌||◌, ◌==◌, cond, List, [], ◌∷◌, ◌++◌, length, slice_index_or, Option, Some, None, option_map, option_and_then, codes, ℤ, pos, int_div, int_rem}
use Rattle.std.specs.List.{join_with_byte}
use Rattle.std.specs.Fmt.{signed_decimal}
use Rattle.std.specs.Ordering.{int_eq}
use Rattle.algebra.specs.Space.{Vector}
use Rattle.fixed_num.specs.Count.{is_number_word, count_of}
use Rattle.orient48.specs.Motions.{Motion, vector_at, is_kept_motion}

-- A space, a tab, a carriage return or a line feed.
abbrev pub is_blank : ℕ → Bool
is_blank b = b == 32 || b == 9 || b == 13 || b == 10

abbrev pub begins_blank : List ℕ → Bool
begins_blank [] = false
begins_blank (b ∷ text) = is_blank b

-- The byte at the front of the first word.
abbrev pub put_front : ℕ → List (List ℕ) → List (List ℕ)
put_front b [] = (b ∷ []) ∷ []
put_front b (w ∷ words) = (b ∷ w) ∷ words

-- The words of a text that blanks separate. A blank before the first or after the last word leaves an empty word there.
abbrev pub words_of : List ℕ → List (List ℕ)
words_of [] = [] ∷ []
words_of (b ∷ text) = cond (is_blank b) (cond (begins_blank text) (words_of text) ([] ∷ words_of text)) (put_front b (words_of text))

-- A number word that is whole when it is rounded to six decimals.
abbrev pub whole_in : List ℕ → Option ℤ
whole_in w =
    let count = count_of 6 w in
    cond (is_number_word w && int_eq (int_rem count (pos 1000000)) (pos 0)) (Some (int_div count (pos 1000000))) None

-- Each of the words as such a number.
abbrev pub wholes_in : List (List ℕ) → Option (List ℤ)
wholes_in [] = Some []
wholes_in (w ∷ ws) = option_and_then (λ n. option_map (λ ns. n ∷ ns) (wholes_in ws)) (whole_in w)

abbrev pub kept_motion : Motion → Option Motion
kept_motion r = cond (is_kept_motion r) (Some r) None

abbrev pub is_last_row : ℤ → ℤ → ℤ → ℤ → Bool
is_last_row x y z w = int_eq x (pos 0) && (int_eq y (pos 0) && (int_eq z (pos 0) && int_eq w (pos 1)))

-- Sixteen numbers, row by row: a signed permutation with its shift, and the last row 0 0 0 1.
abbrev pub motion_of_numbers : List ℤ → Option Motion
motion_of_numbers numbers =
    let at : ℕ → ℤ = λ k. slice_index_or numbers k (pos 0) in
    cond (length numbers == 16 && is_last_row (at 12) (at 13) (at 14) (at 15))
    (kept_motion (record {
      matrix = record { x = vector_at (at 0) (at 1) (at 2); y = vector_at (at 4) (at 5) (at 6); z = vector_at (at 8) (at 9) (at 10) };
      shift = vector_at (at 3) (at 7) (at 11);
    })) None

-- The motion that a text stands for.
abbrev pub read_motion : List ℕ → Option Motion
read_motion text = option_and_then motion_of_numbers (wholes_in (words_of text))

abbrev pub row_words : Vector → (shift : ℤ) → List (List ℕ)
row_words v shift = signed_decimal v.x ∷ signed_decimal v.y ∷ signed_decimal v.z ∷ signed_decimal shift ∷ []

-- The text of a motion: one blank between its numbers.
abbrev pub motion_text : Motion → List ℕ
motion_text r =
    join_with_byte 32
    (row_words r.matrix.x r.shift.x ++ row_words r.matrix.y r.shift.y ++ row_words r.matrix.z r.shift.z ++ codes "0" ∷ codes "0" ∷ codes "0" ∷ codes "1" ∷ [])
