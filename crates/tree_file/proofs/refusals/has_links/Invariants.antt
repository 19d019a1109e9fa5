use Rattle.std.proofs.Common.{◌≡◌, drop}
use Rattle.std.specs.List.{list_any}
use Rattle.tree_file.specs.Promises.{asks_for_links}
use Rattle.tree_file.proofs.refusals.has_links.Given as goal

abbrev pub invariant-loop-entity : goal.invariant-loop-entity
invariant-loop-entity l = list_any asks_for_links l.entities ≡ list_any asks_for_links (drop l.entity-index l.entities)
