use Rattle.std.proofs.Common.{[], arith}
use Rattle.vertex_plans.proofs.FacesSoFar.{faces_none, faces_more, faces_all}
use Rattle.vertex_plans.proofs.on_facets.faces_on.Goals as goal

pub loop-k-init : goal.loop-k-init
loop-k-init c = faces_none c.args.old.now c.args.facets.now c.args.sides.now c.new-faces.result.items c.new-faces.ensures.items

pub face_on-requires : goal.face_on-requires
face_on-requires c = record { old = c.requires.from.each c.loop-k.k (record { points = []; old = 0 }) c.loop-k-test.true }

pub loop-k-preserved : goal.loop-k-preserved
loop-k-preserved c =
    faces_more c.args.old.now c.args.facets.now c.args.sides.now c.loop-k.k c.loop-k.faces.items c.add.new.faces.items (record { points = []; old = 0 }) c.index-sides-k.result c.in_ok-face.face
    c.requires.from.count c.loop-k-test.true c.index-sides-k.is c.loop-k.invariant c.in_ok-face.ensures c.in_ok-add.ensures

pub returns : goal.returns
returns c = faces_all c.args.old.now c.args.facets.now c.args.sides.now c.loop-k.k c.loop-k.faces.items (let f = c.loop-k-test.false in let g = c.loop-k.auto.k-end in omega arith) c.loop-k.invariant
