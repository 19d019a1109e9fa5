use Rattle.std.proofs.Common.{◌≡◌, map, take}
use Rattle.map_nodes.specs.Nodes.{number_in}
use Rattle.map_nodes.proofs.renumbering.renumbered.Given as goal

abbrev pub invariant-loop-id : goal.invariant-loop-id
invariant-loop-id l = l.new.items ≡ map (number_in l.table) (take l.id-index l.list)
