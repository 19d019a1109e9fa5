use Rattle.std.proofs.Common.{arith}
use Rattle.std.proofs.lemmas.Bool.Decides.{not_from_Decides}
use Rattle.map_nodes.proofs.SameParts.{other_item, same_more, it_is_not}
use Rattle.map_nodes.proofs.same_faces.same_faces.Goals as goal

pub returns-then-not-same_face : goal.returns-then-not-same_face
returns-then-not-same_face c =
    it_is_not (other_item c.args.a.now c.args.b.now c.loop-k.k c.index-a-k.result c.index-b-k.result c.loop-k-test.true c.index-a-k.is c.index-b-k.is
    (not_from_Decides c.same_face.result c.same_face.ensures c.if-not-same_face.true))

pub loop-k-preserved : goal.loop-k-preserved
loop-k-preserved c = same_more c.args.a.now c.args.b.now c.loop-k.k c.index-a-k.result c.index-b-k.result c.loop-k-test.true (omega (arith, c.loop-k-test.true, c.if-a-b.false)) c.index-a-k.is c.index-b-k.is
    (c.same_face.ensures.0 c.if-not-same_face.false) c.loop-k.invariant
