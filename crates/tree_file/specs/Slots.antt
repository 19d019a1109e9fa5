-- The slots of one item, by its number, that of its parent, and the numbers of its children that are no brushes.
use Rattle.std.specs.Prelude.{ℕ, suc, List, ◌∷◌, length, map, Option, Some, None}
use Rattle.map_model.specs.Tree.{Node, Brush, numbers_from, with_parent, with_brushes, with_others}
use Rattle.file_laws.specs.Readings.{Reading}
use Rattle.file_laws.specs.Build.{kept_brushes}

abbrev pub placed_node : (number parent : ℕ) → List ℕ → Reading → Node
placed_node number parent others r = with_parent parent (with_brushes (numbers_from (suc number) (length (kept_brushes r))) (with_others others r.node))

abbrev pub placed_slots : (number parent : ℕ) → List ℕ → Reading → List (Option Node)
placed_slots number parent others r = Some (placed_node number parent others r) ∷ map (λ faces. Some (Brush number None faces)) (kept_brushes r)
