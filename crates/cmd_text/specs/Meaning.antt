-- What each answer to a line means. That `line_read` is the one whose meaning is true of the line is a law: see `meaning_law`.
use Rattle.std.specs.Prelude.{◌≡◌, ◌⊎◌, ◌<◌, ◌≤◌, ℕ, true, false, List, ◌∷◌, length, Some, None, Ok, Err}
use Rattle.cmd_text.specs.declared.command.LineFault.TheVariants.{TooLong, UnknownWord, Arguments, Memory}
use Rattle.cmd_text.specs.declared.verb.Verb.{Verb}
use Rattle.cmd_text.specs.Commands.{command_of}
use Rattle.cmd_text.specs.Cut.{IsCut}
use Rattle.cmd_text.specs.Reading.{Read, verb_of, without_return, is_silent}
use Rattle.cmd_text.specs.Rule.{AreRight, IsFirstMisfit}

-- the line is cut into a command's word and the words behind it
abbrev pub IsLineOf : List ℕ → Verb → List (List ℕ) → Type 0
IsLineOf line verb words = (word : List ℕ) × IsCut line (word ∷ words) × (verb_of word ≡ Some verb)

-- its first word is no command's
abbrev pub BeginsUnknown : List ℕ → Type 0
BeginsUnknown line = (word : List ℕ) × (words : List (List ℕ)) × IsCut line (word ∷ words) × (verb_of word ≡ None)

abbrev pub CanNotBeCut : List ℕ → Type 0
CanNotBeCut line = (words : List (List ℕ)) → IsCut line words → ⊥

-- the words behind the command's aren't right, and the place is that of the first that can't stand there
abbrev pub HasMisfit : List ℕ → ℕ → Type 0
HasMisfit line place = (verb : Verb) × (words : List (List ℕ)) × IsLineOf line verb words × IsFirstMisfit (AreRight verb) words place

-- THE TABLE, for a line that is neither too long nor silent, without a carriage return at its end
abbrev pub WordsMean : List ℕ → Read → Type 0
WordsMean line (Ok (Some command)) =
    (verb : Verb) × (words : List (List ℕ)) × IsLineOf line verb words × AreRight verb words × (command ≡ command_of verb words)
WordsMean line (Err UnknownWord) = BeginsUnknown line
WordsMean line (Err (Arguments place)) = (CanNotBeCut line × (place ≡ 0)) ⊎ HasMisfit line place
WordsMean line (Ok None) = ⊥
WordsMean line (Err TooLong) = ⊥
WordsMean line (Err Memory) = ⊥

-- a line of more than 4,096 bytes, a silent one, or another
abbrev pub Means : List ℕ → Read → Type 0
Means line (Err TooLong) = 4096 < length line
Means line (Ok None) = (length line ≤ 4096) × (is_silent (without_return line) ≡ true)
Means line read = (length line ≤ 4096) × (is_silent (without_return line) ≡ false) × WordsMean (without_return line) read
