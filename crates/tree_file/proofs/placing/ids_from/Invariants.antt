use Rattle.std.proofs.Common.{◌≡◌}
use Rattle.map_model.specs.Tree.{numbers_from}
use Rattle.tree_file.proofs.placing.ids_from.Given as goal

abbrev pub invariant-loop-k : goal.invariant-loop-k
invariant-loop-k l = l.ids.items ≡ numbers_from l.first l.k
