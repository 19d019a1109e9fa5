use Rattle.std.proofs.Common.{map, Ok, Err, sym, subst, ap, ◌∙◌, true, false}
use Rattle.map_model.specs.Tree.{whole}
use Rattle.map_model.specs.Commands.{point_in}
use Rattle.map_model.specs.Rows.{plain_face}
use Rattle.map_laws.proofs.BoxCommand.{near}
use Rattle.tree_ops.specs.declared.fault.OpFault.TheVariants.{No}
use Rattle.edit_ops.specs.Walls.{IsNear}
use Rattle.brush_plans.specs.Bodies.{AreNeeded}
use Rattle.edit_ops.proofs.Boxes.{is_below, box_needed, walls_of, below_of, beyond_range, not_below, body_is_box, handed_on}
use Rattle.edit_ops.proofs.boxing.box_body.Goals as goal

pub box_planes-requires-clause-low : goal.box_planes-requires-clause-low
box_planes-requires-clause-low c = subst IsNear (sym c.corner-low.ensures) (near c.args.a c.requires.low)

pub box_planes-requires-clause-high : goal.box_planes-requires-clause-high
box_planes-requires-clause-high c = subst IsNear (sym c.corner-high.ensures) (near c.args.b c.requires.high)

pub returns-in_err-planes : goal.returns-in_err-planes
returns-in_err-planes c =
    let m = whole c.args.map.now in
    handed_on c.args.set.now m c.args.a c.args.b c.from_residual.result (No c.in_err-planes.field-0.0) c.from_residual.ensures.1
    (beyond_range c.args.set.now m c.args.a c.args.b c.in_err-planes.field-0.0
    (walls_of c.corner-low.result c.corner-high.result (point_in c.args.a) (point_in c.args.b) (Err c.in_err-planes.field-0.0) c.corner-low.ensures c.corner-high.ensures c.in_err-planes.ensures))

pub returns-then-not-is_below_each : goal.returns-then-not-is_below_each
returns-then-not-is_below_each c =
    let walls = walls_of c.corner-low.result c.corner-high.result (point_in c.args.a) (point_in c.args.b) (Ok c.in_ok-planes.planes) c.corner-low.ensures c.corner-high.ensures c.in_ok-planes.ensures in
    not_below c.args.set.now (whole c.args.map.now) c.args.a c.args.b walls.1
    (below_of c.corner-low.result c.corner-high.result (point_in c.args.a) (point_in c.args.b) c.is_below_each.result c.corner-low.ensures c.corner-high.ensures c.is_below_each.ensures false c.if-not-is_below_each.true)

pub body_of-requires : goal.body_of-requires
body_of-requires c =
    let m = whole c.args.map.now in
    let walls = walls_of c.corner-low.result c.corner-high.result (point_in c.args.a) (point_in c.args.b) (Ok c.in_ok-planes.planes) c.corner-low.ensures c.corner-high.ensures c.in_ok-planes.ensures in
    let below = below_of c.corner-low.result c.corner-high.result (point_in c.args.a) (point_in c.args.b) c.is_below_each.result c.corner-low.ensures c.corner-high.ensures c.is_below_each.ensures true c.if-not-is_below_each.false in
    record {
      needed = subst AreNeeded (sym (c.in_ok-faces.ensures ∙ ap (map (plain_face c.args.set.now m)) walls.0))
          (box_needed (point_in c.args.a) (point_in c.args.b) (is_below (point_in c.args.a) (point_in c.args.b) below) c.args.set.now m (near c.args.a c.requires.low) (near c.args.b c.requires.high));
    }

pub returns : goal.returns
returns c =
    let m = whole c.args.map.now in
    let walls = walls_of c.corner-low.result c.corner-high.result (point_in c.args.a) (point_in c.args.b) (Ok c.in_ok-planes.planes) c.corner-low.ensures c.corner-high.ensures c.in_ok-planes.ensures in
    let below = below_of c.corner-low.result c.corner-high.result (point_in c.args.a) (point_in c.args.b) c.is_below_each.result c.corner-low.ensures c.corner-high.ensures c.is_below_each.ensures true c.if-not-is_below_each.false in
    body_is_box c.args.set.now m c.args.a c.args.b walls.1 below (near c.args.a c.requires.low) (near c.args.b c.requires.high)
    c.in_ok-faces.faces.items (c.in_ok-faces.ensures ∙ ap (map (plain_face c.args.set.now m)) walls.0) c.body_of.result c.body_of.ensures
