use Rattle.std.proofs.Common.{arith, ◌≤◌}
use Rattle.solid_brush.specs.Sides.{half_spaces}
use Rattle.map_model.specs.Loops.{loop}
use Rattle.obj_export.proofs.Turned.{begins, one_back, turned_all}
use Rattle.obj_export.proofs.corners.put_loop.Goals as goal

pub loop-left-init : goal.loop-left-init
loop-left-init c V f vertices e =
    begins c.args.before (loop V f) c.args.text.now.items c.put_corner.new.text.items c.loop_length-left.result
    (c.loop_length-left.ensures V f vertices e) (c.in_ok-put_corner.ensures V f vertices e)

pub loop-left-preserved : goal.loop-left-preserved
loop-left-preserved c V f vertices e =
    one_back c.args.before (loop V f) c.args.text.now.items c.loop-left.text.items c.put_corner-in-loop-left.new.text.items c.loop-left.left
    (c.loop-left.invariant V f vertices e) c.loop-left-test.true (c.in_ok-put_corner-2.ensures V f vertices e)

pub returns : goal.returns
returns c V f vertices e =
    turned_all c.args.before (loop V f) c.args.text.now.items c.loop-left.text.items c.loop-left.left (c.loop-left.invariant V f vertices e) c.loop-left-test.false
