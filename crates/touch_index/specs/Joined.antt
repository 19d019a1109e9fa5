-- Sides with new tags.
use Rattle.std.specs.Prelude.{ℕ, suc, List, [], ◌∷◌}
use Rattle.solid_brush.specs.declared.side.Side.{Side}

-- The sides, with tags from k on.
abbrev pub retagged : ℕ → List Side → List Side
retagged k [] = []
retagged k (s ∷ sides) = record s { tag = k } ∷ retagged (suc k) sides
