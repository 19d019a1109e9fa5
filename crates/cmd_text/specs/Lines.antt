-- Lines that the program gives.
use Rattle.std.specs.Prelude.{ℕ, ◌==◌, unsigned_abs, if◌then◌else◌, List, [], ◌∷◌, ◌++◌, Option, Some, None}
use Rattle.std.specs.Fmt.{decimal, signed_decimal}
use Rattle.fixed_num.specs.declared.fraction.Frac.{Frac}
use Rattle.cmd_text.specs.declared.line.Field.{Field}
use Rattle.cmd_text.specs.declared.line.Field.TheVariants.{Number, Ratio, Word, Counted}
use Rattle.cmd_text.specs.declared.line.Line.{Line}

-- a name, and the fields behind it
pub record Words : Type 0 where
  pub name : List ℕ
  pub fields : List (List ℕ)

abbrev pub words : List ℕ → List (List ℕ) → Words
words name fields = record { name = name; fields = fields }

-- each with a blank before it
abbrev pub spaced : List (List ℕ) → List ℕ
spaced [] = []
spaced (field ∷ fields) = 32 ∷ (field ++ spaced fields)

-- the bytes of the line, with its line feed
unfoldable pub line_text : Words → List ℕ
line_text line = line.name ++ spaced line.fields ++ 10 ∷ []

-- the numerator, and the denominator behind a slash where it isn't 1
abbrev pub ratio_text : Frac → List ℕ
ratio_text f = if unsigned_abs f.den == 1 then signed_decimal f.num else signed_decimal f.num ++ 47 ∷ signed_decimal f.den

-- a number behind what it counts
abbrev pub counted : List ℕ → ℕ → List ℕ
counted label count = label ++ 32 ∷ decimal count

abbrev pub field_text : Field → List ℕ
field_text (Number n) = decimal n
field_text (Ratio f) = ratio_text f
field_text (Word word) = word
field_text (Counted label count) = counted label count

abbrev pub fields_of : List (Option Field) → List (List ℕ)
fields_of [] = []
fields_of (None ∷ fields) = fields_of fields
fields_of (Some field ∷ fields) = field_text field ∷ fields_of fields

-- the words of a line as the code keeps them
abbrev pub words_of_line : Line → Words
words_of_line line = words line.name (fields_of line.fields)
