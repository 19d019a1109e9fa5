use Rattle.std.proofs.Common.{◌≡◌, length, drop}
use Rattle.map_model.specs.Edits.{each_in_turn}
use Rattle.tree_node.specs.Held.{changed}
use Rattle.vertex_plans.specs.Putting.{put_body}
use Rattle.vertex_plans.proofs.putting.put_bodies.Given as goal

abbrev pub invariant-loop-remade : goal.invariant-loop-remade
invariant-loop-remade l = each_in_turn put_body (drop (length l.yielded) l.fn.bodies.items) (changed l.fn.map l.change) ≡ each_in_turn put_body l.fn.bodies.items (changed l.fn.map l.fn.change)
