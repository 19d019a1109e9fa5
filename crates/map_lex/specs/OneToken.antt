-- Texts that are cut again as one token where they are written: the keys, values and materials that a map may have. What is promised
-- of saved maps rests on it.
use Rattle.std.specs.Prelude.{ℕ, Bool, true, false, ◌==◌, ◌&&◌, ◌||◌, not, nat_eq, if◌then◌else◌, List, [], ◌∷◌, length}
use Rattle.std.specs.List.{list_all, list_any, ends_with}
use Rattle.map_lex.specs.Bytes.{is_blank, is_stray, begins_comment}

abbrev pub ends_with_backslash : List ℕ → Bool
ends_with_backslash text = ends_with nat_eq text (92 ∷ [])

-- Behind a byte, each `"` of the text stands directly after a backslash.
abbrev pub quotes_are_escaped : ℕ → List ℕ → Bool
quotes_are_escaped previous [] = true
quotes_are_escaped previous (b ∷ text) = (not (b == 34) || previous == 92) && quotes_are_escaped b text

-- A text that is one token between quotes at the end of a line, as values are: on one line, with no stray byte and no quote that would
-- close it.
abbrev pub is_value_text : List ℕ → Bool
is_value_text text = quotes_are_escaped 34 text && list_all (λ b. not (b == 10) && not (is_stray b)) text

-- A text that is one token between quotes wherever it stands on its line, as keys and quoted materials are.
abbrev pub is_key_text : List ℕ → Bool
is_key_text key = is_value_text key && not (ends_with_backslash key)

-- A material is quoted where it is empty, has a blank, or begins as a comment does.
abbrev pub needs_quotes : List ℕ → Bool
needs_quotes material = length material == 0 || (list_any is_blank material || begins_comment material)

abbrev pub begins_with_quote : List ℕ → Bool
begins_with_quote [] = false
begins_with_quote (b ∷ text) = b == 34

-- A material is one word, or one token between quotes.
abbrev pub is_material_text : List ℕ → Bool
is_material_text material =
    if needs_quotes material then is_key_text material
    else not (begins_with_quote material) && list_all (λ b. not (is_stray b)) material
