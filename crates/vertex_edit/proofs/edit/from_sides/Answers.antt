use Rattle.std.proofs.Common.{◌+◌, sym, subst, arith}
use Rattle.solid_brush.specs.Sides.{half_spaces}
use Rattle.vertex_edit.specs.Carrying.{carry}
use Rattle.vertex_edit.proofs.Edits.{FromBefore, from_none, from_more, from_all}
use Rattle.vertex_edit.proofs.edit.from_sides.Goals as goal

pub loop-side-init : goal.loop-side-init
loop-side-init c = subst (FromBefore (half_spaces c.args.old.now) (carry c.args.vertices.now c.args.places.now) c.args.sides.now 0) (sym c.new-facets.ensures.items)
    (from_none (half_spaces c.args.old.now) (carry c.args.vertices.now c.args.places.now) c.args.sides.now)

pub loop-side-preserved : goal.loop-side-preserved
loop-side-preserved c =
    let F = half_spaces c.args.old.now in let vs = carry c.args.vertices.now c.args.places.now in
    subst (FromBefore F vs c.args.sides.now (c.loop-side.side-index + 1)) (sym c.in_ok-push.ensures.items)
    (from_more F vs c.args.sides.now c.loop-side.side-index c.loop-side.facets.items c.side-item.result c.in_ok-from_side.field-0 c.loop-side-test.true c.side-item.is c.loop-side.invariant c.in_ok-from_side.ensures)

pub returns : goal.returns
returns c = from_all (half_spaces c.args.old.now) (carry c.args.vertices.now c.args.places.now) c.args.sides.now c.loop-side.side-index c.loop-side.facets.items (let f = c.loop-side-test.false in let g = c.loop-side.auto.side-index-end in omega arith) c.loop-side.invariant
