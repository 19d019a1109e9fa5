-- The bytes at which a map text is cut, by their numbers in ASCII. What is promised of tokens rests on it.
use Rattle.std.specs.Prelude.{ℕ, Bool, false, ◌==◌, ◌||◌, ◌&&◌, not, nat_lt, nat_eq, List, [], ◌∷◌}
use Rattle.std.specs.List.{before_first, list_all, ends_with}

-- space, tab, carriage return or line feed
abbrev pub is_blank : ℕ → Bool
is_blank b = b == 32 || b == 9 || b == 13 || b == 10

-- below 32 and no blank: it may not stand anywhere in a map text
abbrev pub is_stray : ℕ → Bool
is_stray b = nat_lt b 32 && not (is_blank b)

-- lines end at line feeds
abbrev pub rest_of_line : List ℕ → List ℕ
rest_of_line text = before_first (λ b. b == 10) text

abbrev pub up_to_blank : List ℕ → List ℕ
up_to_blank text = before_first is_blank text

abbrev pub begins_blank : List ℕ → Bool
begins_blank [] = false
begins_blank (b ∷ text) = is_blank b

-- `//`
abbrev pub begins_comment : List ℕ → Bool
begins_comment (a ∷ b ∷ text) = a == 47 && b == 47
begins_comment text = false

-- Whether a `"` between these bytes of a quoted token and those after it closes the token:
-- it isn't directly after a backslash, or blanks alone follow on its line.
abbrev pub closes : List ℕ → List ℕ → Bool
closes before after = not (ends_with nat_eq before (92 ∷ [])) || list_all is_blank (rest_of_line after)
