use Rattle.std.proofs.Common.{map, ap, subst, sym, ◌∙◌}
use Rattle.solid_brush.specs.Moved.{moved_side, IsMovedOf}
use Rattle.edit_ops.specs.Moving.{carried}
use Rattle.edit_ops.proofs.MovedSolids.{in_range, fits, never_out}
use Rattle.edit_ops.proofs.solids.moved_body.Goals as goal

pub moved-requires : goal.moved-requires
moved-requires c = record { in_range = in_range c.args.motion.now c.args.body.now c.solid.result.now c.solid.ensures.sides c.requires.can.in_range }

pub of-requires : goal.of-requires
of-requires c =
    let r = c.args.motion.now in
    let sides = c.solid.result.now in
    record {
      fits = fits c.args.lock r c.args.body.now c.in_ok-faces.faces sides c.in-Some.solid c.requires.can c.solid.ensures.sides
          (c.in_ok-faces.ensures ∙ ap (map (carried c.args.lock r)) c.faces.ensures.faces) (subst (IsMovedOf r sides) c.in-Some.is c.in_ok-solid.ensures.moved).0;
    }

pub unreachable-requires : goal.unreachable-requires
unreachable-requires c =
    let r = c.args.motion.now in
    let sides = c.solid.result.now in
    never_out c.args.lock r c.args.body.now sides c.requires.can c.solid.ensures.sides (subst (IsMovedOf r sides) c.in-None.is c.in_ok-solid.ensures.moved)
