-- The ids of layers and groups in a saved file, as a table.
use Rattle.std.specs.Prelude.{◌≡◌, ℕ, List, nat_eq, unwrap_or}
use Rattle.std.specs.HashMap.{get}
use Rattle.map_model.specs.Tree.{Whole}
use Rattle.map_model.specs.Saved.{count_to, has_id, entities}
use Rattle.std.specs.Prelude.{filter}
use Rattle.tree_file.specs.declared.ids.Ids.{Ids}

-- What the table has for a number, or the number behind them all.
abbrev pub id_in : Ids → ℕ → ℕ
id_in ids n = unwrap_or (get nat_eq ids.table n) ids.past

-- The table counts these numbers from 1.
abbrev pub Counts : List ℕ → Ids → Type 0
Counts ns ids = (n : ℕ) → id_in ids n ≡ count_to n ns

-- It has the ids of the layers and groups of the map.
abbrev pub HasIds : Whole → Ids → Type 0
HasIds m ids = Counts (filter (has_id m) (entities m)) ids
