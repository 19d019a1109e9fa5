use Rattle.map_model.specs.Tree.{whole}
use Rattle.map_model.specs.Rows.{all_faces, fields_for}
use Rattle.brush_plans.proofs.Lists.{is_member, mapped_more, mapped_all}
use Rattle.hull_plans.proofs.fields.faces_on.Goals as goal

pub loop-plane-init : goal.loop-plane-init
loop-plane-init c = c.in_ok-faces.ensures.items

pub face_on-requires-clause-brushes : goal.face_on-requires-clause-brushes
face_on-requires-clause-brushes c = c.requires.brushes

pub face_on-requires-clause-bound : goal.face_on-requires-clause-bound
face_on-requires-clause-bound c = c.requires.bounds c.plane-item.result (is_member c.args.planes.now c.loop-plane.plane-index c.plane-item.result c.loop-plane-test.true c.plane-item.is)

pub loop-plane-preserved : goal.loop-plane-preserved
loop-plane-preserved c =
    let m = whole c.args.map.now in
    mapped_more (fields_for c.args.set.now m (all_faces m c.args.ids.now)) c.args.planes.now c.loop-plane.faces.items c.push.new.self.items c.loop-plane.plane-index c.plane-item.result c.in_ok-face_on.field-0
    c.loop-plane-test.true c.plane-item.is c.loop-plane.invariant c.in_ok-face_on.ensures c.in_ok-push.ensures.items

pub returns : goal.returns
returns c =
    let m = whole c.args.map.now in
    mapped_all (fields_for c.args.set.now m (all_faces m c.args.ids.now)) c.args.planes.now c.loop-plane.faces.items c.loop-plane.plane-index c.loop-plane-test.false c.loop-plane.invariant
