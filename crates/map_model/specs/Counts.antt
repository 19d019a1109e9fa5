-- What a map holds: nodes, brushes and link sets.
use Rattle.std.specs.Prelude.{ℕ, not, ◌==◌, length, filter, filter_map}
use Rattle.map_model.specs.Tree.{Whole, live, all_brushes, set_at}
use Rattle.map_model.specs.Brushes.{first_of_each}

-- All nodes but the world, the brushes among them, and the link sets.
abbrev pub node_count : Whole → ℕ
node_count m = length (filter (λ n. not (n == 0)) (live m))

abbrev pub brush_count : Whole → ℕ
brush_count m = length (all_brushes m)

abbrev pub link_count : Whole → ℕ
link_count m = length (first_of_each ◌==◌ (filter_map (set_at m) (live m)))
