use Rattle.std.proofs.Common.{◌≡◌, take, filter_map, option_map}
use Rattle.map_model.specs.Tree.{whole, at}
use Rattle.map_model.specs.Saved.{saved_entity}
use Rattle.tree_file.proofs.entities.saved_entities.Given as goal

abbrev pub invariant-loop-id : goal.invariant-loop-id
invariant-loop-id l = l.saved.items ≡ filter_map (λ n. option_map (saved_entity (whole l.map) n) (at (whole l.map) n)) (take l.id-index l.nodes)
