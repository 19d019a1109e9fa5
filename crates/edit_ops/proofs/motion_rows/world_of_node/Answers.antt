use Rattle.std.proofs.Common.{ap, sym, subst, ◌∙◌, Some, Err}
use Rattle.map_model.specs.Tree.{whole, at}
use Rattle.map_model.specs.Replies.{OutOfWorld}
use Rattle.tree_ops.specs.declared.fault.OpFault.TheVariants.{No}
use Rattle.brush_plans.specs.Saying.{Says}
use Rattle.edit_ops.specs.Moving.{world_of}
use Rattle.edit_ops.proofs.Worlds.{faces_in_range, world_stays, world_leaves}
use Rattle.edit_ops.proofs.motion_rows.world_of_node.Goals as goal

pub leaves_world-requires : goal.leaves_world-requires
leaves_world-requires c =
    record { in_range = faces_in_range c.args.motion.now c.args.id (at (whole c.args.map.now) c.args.id) _ _ c.in-Brush.body (c.requires.there ∙ ap Some c.in-Brush.is) c.requires.points }

pub returns-then-leaves : goal.returns-then-leaves
returns-then-leaves c =
    let m = whole c.args.map.now in
    subst (λ n. Says (world_of c.args.motion.now c.args.id (at m c.args.id)) (Err (No (OutOfWorld n)))) (sym c.number.ensures)
    (world_leaves m c.is_map.ensures c.args.motion.now c.requires.turns c.args.id _ _ c.in-Brush.body (c.requires.there ∙ ap Some c.in-Brush.is) c.in_ok-leaves-in-Brush.leaves c.if-leaves.true c.in_ok-leaves-in-Brush.ensures)

pub returns-else-leaves : goal.returns-else-leaves
returns-else-leaves c =
    world_stays (whole c.args.map.now) c.is_map.ensures c.args.motion.now c.requires.turns c.args.id _ _ c.in-Brush.body (c.requires.there ∙ ap Some c.in-Brush.is) c.in_ok-leaves-in-Brush.leaves c.if-leaves.false
    c.in_ok-leaves-in-Brush.ensures
