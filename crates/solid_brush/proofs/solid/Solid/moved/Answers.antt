use Rattle.solid_brush.proofs.MovedSides.{range, leaves, is_moved, still_kept}
use Rattle.solid_brush.proofs.solid.Solid.moved.Goals as goal

pub moved-requires : goal.moved-requires
moved-requires c = record { in_range = range c.args.motion.now c.self.invariant c.args.self.now c.self.view_is c.requires.in_range }

pub returns-in_default : goal.returns-in_default
returns-in_default c = record { moved = leaves c.args.motion.now c.moved.ensures.signed c.self.invariant c.args.self.now c.self.view_is c.in_ok-poly.field-0 c.in_ok-poly.ensures.moved c.in_default.is }

pub invariant_of-result : goal.invariant_of-result
invariant_of-result c = still_kept c.args.motion.now c.moved.ensures.signed c.self.invariant c.args.self.now c.self.view_is c.in_ok-poly.field-0 c.in-Some.poly c.in_ok-sides.sides.items c.in_ok-poly.ensures.moved c.in-Some.is c.in_ok-sides.ensures

pub returns : goal.returns
returns c = record { moved = is_moved c.args.motion.now c.moved.ensures.signed c.self.invariant c.args.self.now c.self.view_is c.in_ok-poly.field-0 c.in-Some.poly c.in_ok-sides.sides.items c.in_ok-poly.ensures.moved c.in-Some.is c.in_ok-sides.ensures }
