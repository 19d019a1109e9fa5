-- Copies of nodes, which stand nowhere yet.
use Rattle.std.specs.Prelude.{ℕ, List, map}
use Rattle.map_nodes.specs.declared.node.Node.{Node}
use Rattle.map_model.specs.Tree.{Whole}
use Rattle.map_model.specs.Edits.{draw, each_in_turn, renumber, renumbered, numbered_from}

-- Each of the nodes gets the next number, in order, and names the new numbers in the place of the numbers ns.
abbrev pub draw_copies : List ℕ → List Node → Whole → Whole
draw_copies ns xs m = each_in_turn draw (map (renumber (renumbered (numbered_from m.next ns))) xs) m
