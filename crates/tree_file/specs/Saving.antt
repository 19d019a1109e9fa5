-- The brushes that a node is saved with.
use Rattle.std.specs.Prelude.{ℕ, List, map, Bool, true, false, ◌∷◌, [], ◌++◌}
use Rattle.map_text.specs.declared.document.RawBrush.{RawBrush}
use Rattle.map_model.specs.Tree.{Whole}
use Rattle.map_model.specs.Saved.{saved_brush}

abbrev pub saved_brushes : Whole → List ℕ → List RawBrush
saved_brushes m brushes = map (saved_brush m) brushes

-- A key behind others, with a `;` before it where there are any.
abbrev pub with_key : Bool → List ℕ → List ℕ → List ℕ
with_key true text key = (text ++ 59 ∷ []) ++ key
with_key false text key = text ++ key
