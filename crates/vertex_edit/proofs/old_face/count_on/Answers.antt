use Rattle.std.proofs.Common.{◌+◌, take, ap, ◌∙◌, arith, sym}
use Rattle.std.proofs.lemmas.List.{take_all}
use Rattle.exact_geom.specs.Planes.{half_space}
use Rattle.vertex_edit.specs.Carrying.{count_on}
use Rattle.vertex_edit.proofs.Carries.{count_more}
use Rattle.vertex_edit.proofs.old_face.count_on.Goals as goal

pub loop-vertex-preserved : goal.loop-vertex-preserved
loop-vertex-preserved c =
    ap (λ n. n + c.from-count.result) c.loop-vertex.invariant ∙ ap (λ n. count_on (take c.loop-vertex.vertex-index c.args.vertices.now) (half_space c.args.plane.now) + n) c.from-count.ensures
    ∙ sym (count_more (half_space c.args.plane.now) c.args.vertices.now c.loop-vertex.vertex-index c.vertex-item.result c.is_on.result c.loop-vertex-test.true c.vertex-item.is c.is_on.ensures)

pub returns : goal.returns
returns c = c.loop-vertex.invariant ∙ ap (λ V. count_on V (half_space c.args.plane.now)) (take_all c.loop-vertex.vertex-index c.args.vertices.now (let f = c.loop-vertex-test.false in omega arith))
