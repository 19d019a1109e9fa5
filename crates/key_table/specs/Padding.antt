-- How a word is kept.
use Rattle.std.specs.Prelude.{ℕ, ◌-◌, List, ◌++◌, length, replicate}

-- the text, and zeros up to 32 bytes
abbrev pub padded : List ℕ → List ℕ
padded text = text ++ replicate (32 - length text) 0
