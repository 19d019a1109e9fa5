use Rattle.edit_ops.proofs.SixWalls.{stops_low_x, stops_low_y, stops_low_z, stops_high_z, stops_high_y, stops_high_x, six_walls, handed_on}
use Rattle.edit_ops.proofs.walls.box_planes.Goals as goal

pub returns-in_err-low_x : goal.returns-in_err-low_x
returns-in_err-low_x c =
    handed_on c.args.a c.args.b c.from_residual.result c.in_err-low_x.field-0.0 c.from_residual.ensures.1
    (stops_low_x c.args.a c.args.b c.in_err-low_x.field-0.0 c.in_err-low_x.ensures)

pub returns-in_err-low_y : goal.returns-in_err-low_y
returns-in_err-low_y c =
    handed_on c.args.a c.args.b c.from_residual-in_err-low_y.result c.in_err-low_y.field-0.0 c.from_residual-in_err-low_y.ensures.1
    (stops_low_y c.args.a c.args.b c.in_ok-low_x.low_x c.in_ok-low_x.ensures c.in_err-low_y.field-0.0 c.in_err-low_y.ensures)

pub returns-in_err-low_z : goal.returns-in_err-low_z
returns-in_err-low_z c =
    handed_on c.args.a c.args.b c.from_residual-in_err-low_z.result c.in_err-low_z.field-0.0 c.from_residual-in_err-low_z.ensures.1
    (stops_low_z c.args.a c.args.b c.in_ok-low_x.low_x c.in_ok-low_x.ensures c.in_ok-low_y.low_y c.in_ok-low_y.ensures c.in_err-low_z.field-0.0 c.in_err-low_z.ensures)

pub returns-in_err-high_z : goal.returns-in_err-high_z
returns-in_err-high_z c =
    handed_on c.args.a c.args.b c.from_residual-in_err-high_z.result c.in_err-high_z.field-0.0 c.from_residual-in_err-high_z.ensures.1
    (stops_high_z c.args.a c.args.b c.in_ok-low_x.low_x c.in_ok-low_x.ensures c.in_ok-low_y.low_y c.in_ok-low_y.ensures c.in_ok-low_z.low_z c.in_ok-low_z.ensures c.in_err-high_z.field-0.0 c.in_err-high_z.ensures)

pub returns-in_err-high_y : goal.returns-in_err-high_y
returns-in_err-high_y c =
    handed_on c.args.a c.args.b c.from_residual-in_err-high_y.result c.in_err-high_y.field-0.0 c.from_residual-in_err-high_y.ensures.1
    (stops_high_y c.args.a c.args.b c.in_ok-low_x.low_x c.in_ok-low_x.ensures c.in_ok-low_y.low_y c.in_ok-low_y.ensures c.in_ok-low_z.low_z c.in_ok-low_z.ensures c.in_ok-high_z.high_z c.in_ok-high_z.ensures c.in_err-high_y.field-0.0 c.in_err-high_y.ensures)

pub returns-in_err-high_x : goal.returns-in_err-high_x
returns-in_err-high_x c =
    handed_on c.args.a c.args.b c.from_residual-in_err-high_x.result c.in_err-high_x.field-0.0 c.from_residual-in_err-high_x.ensures.1
    (stops_high_x c.args.a c.args.b c.in_ok-low_x.low_x c.in_ok-low_x.ensures c.in_ok-low_y.low_y c.in_ok-low_y.ensures c.in_ok-low_z.low_z c.in_ok-low_z.ensures c.in_ok-high_z.high_z c.in_ok-high_z.ensures c.in_ok-high_y.high_y c.in_ok-high_y.ensures c.in_err-high_x.field-0.0 c.in_err-high_x.ensures)

pub returns : goal.returns
returns c = six_walls c.args.a c.args.b c.in_ok-low_x.low_x c.in_ok-low_x.ensures c.in_ok-low_y.low_y c.in_ok-low_y.ensures c.in_ok-low_z.low_z c.in_ok-low_z.ensures c.in_ok-high_z.high_z c.in_ok-high_z.ensures c.in_ok-high_y.high_y c.in_ok-high_y.ensures c.in_ok-high_x.high_x c.in_ok-high_x.ensures
