use Rattle.std.proofs.Common.{map, subst}
use Rattle.solid_brush.specs.Moved.{moved_side, IsMovedOf}
use Rattle.edit_ops.proofs.MovedSolids.{in_range, stays_in, is_out}
use Rattle.edit_ops.proofs.solids.leaves_world.Goals as goal

pub moved-requires : goal.moved-requires
moved-requires c = record { in_range = in_range c.args.motion.now c.args.body.now c.solid.result.now c.solid.ensures.sides c.requires.in_range }

pub returns-in-Some : goal.returns-in-Some
returns-in-Some c =
    let r = c.args.motion.now in
    let sides = c.solid.result.now in
    stays_in r c.args.body.now sides c.solid.ensures.sides (subst (IsMovedOf r sides) c.in-Some.is c.in_ok-solid.ensures.moved).1

pub returns-in-None : goal.returns-in-None
returns-in-None c =
    let r = c.args.motion.now in
    let sides = c.solid.result.now in
    is_out r c.args.body.now sides c.solid.ensures.sides (subst (IsMovedOf r sides) c.in-None.is c.in_ok-solid.ensures.moved)
