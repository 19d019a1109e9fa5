use Rattle.std.proofs.Common.{◌+◌, length, arith, ap, sym, subst}
use Rattle.map_model.specs.Tree.{whole}
use Rattle.brush_plans.proofs.Lists.{is_member}
use Rattle.cut_plans.proofs.OneSide.{few_faces}
use Rattle.cut_plans.proofs.InTurn.{InTurn, none_in_turn, room_in_turn, next_in_turn, solids_done}
use Rattle.cut_plans.proofs.intersecting.solids_in_turn.Goals as goal

pub loop-id-init : goal.loop-id-init
loop-id-init c = none_in_turn (whole c.args.map.now) c.args.ids.now c.in_ok-solids.solids.items c.in_ok-solids.ensures.items

pub body_at-body-requires : goal.body_at-body-requires
body_at-body-requires c = record { brush = c.requires.brushes c.id-item.result (is_member c.args.ids.now c.loop-id.id-index c.id-item.result c.loop-id-test.true c.id-item.is) }

pub raised-requires : goal.raised-requires
raised-requires c =
    let room = room_in_turn (whole c.args.map.now) c.args.ids.now c.loop-id.id-index c.loop-id.base c.loop-id.solids.items c.loop-id.invariant c.loop-id-test.true c.requires.few in
    record { small = omega (arith, room) }

pub overflow_cast-base : goal.overflow_cast-base
overflow_cast-base c =
    let few = few_faces c.body_at-body.result.now c.is_valid.ensures in
    let e = ap length c.faces.ensures.faces in omega (arith, few, e)

pub overflow_add-base : goal.overflow_add-base
overflow_add-base c =
    let few = few_faces c.body_at-body.result.now c.is_valid.ensures in
    let room = room_in_turn (whole c.args.map.now) c.args.ids.now c.loop-id.id-index c.loop-id.base c.loop-id.solids.items c.loop-id.invariant c.loop-id-test.true c.requires.few in
    let e = ap length c.faces.ensures.faces in omega (arith, few, room, e)

pub loop-id-preserved : goal.loop-id-preserved
loop-id-preserved c =
    let m = whole c.args.map.now in
    let few = few_faces c.body_at-body.result.now c.is_valid.ensures in
    subst (λ k. InTurn m c.args.ids.now (c.loop-id.id-index + 1) c.add.new.solids.items (c.loop-id.base + k)) (sym (ap length c.faces.ensures.faces))
    (next_in_turn m c.args.ids.now c.loop-id.id-index c.id-item.result c.loop-id-test.true c.id-item.is c.loop-id.solids.items c.add.new.solids.items c.loop-id.base c.body_at-body.result.now c.in_ok-solid.solid
    c.loop-id.invariant c.body_at-body.ensures few c.in_ok-solid.ensures c.in_ok-add.ensures)

pub returns : goal.returns
returns c = solids_done (whole c.args.map.now) c.args.ids.now c.loop-id.id-index c.loop-id.base c.loop-id.solids.items c.loop-id-test.false c.loop-id.invariant
