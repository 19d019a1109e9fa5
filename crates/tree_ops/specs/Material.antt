-- The current material.
use Rattle.std.specs.Prelude.{◌≡◌, ◌⊎◌, ℕ, List, []}
use Rattle.cmd_text.specs.Kept.{IsNameText}

-- Empty at the start, and from then on a name that a line has given.
abbrev pub IsMaterial : List ℕ → Type 0
IsMaterial material = (material ≡ []) ⊎ IsNameText material
