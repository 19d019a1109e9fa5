use Rattle.std.proofs.Common.{◌+◌, ap}
use Rattle.solid_brush.specs.Sides.{half_spaces}
use Rattle.obj_export.proofs.Pieces.{adds_corner, no_corner}
use Rattle.obj_export.proofs.corners.put_corner.Goals as goal

pub returns-in-None : goal.returns-in-None
returns-in-None c =
    no_corner (half_spaces c.args.solid.now) c.args.face c.args.k c.args.before c.args.text.now.items c.in-None.ensures.vertex

pub returns-in-Some : goal.returns-in-Some
returns-in-Some c =
    adds_corner c.put_number.result (half_spaces c.args.solid.now) c.args.face c.args.k c.args.before c.in-Some.number (c.args.before + 1 + c.from.result)
    c.args.text.now.items c.put_number.new.text.items c.in-Some.ensures.vertex (ap (λ n. c.args.before + 1 + n) c.from.ensures) c.put_number.ensures
