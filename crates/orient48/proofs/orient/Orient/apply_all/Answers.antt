use Rattle.std.proofs.Common.{◌≡◌, ◌<◌, [], length, rules, arith}
use Rattle.exact_geom.specs.Planes.{parts}
use Rattle.orient48.specs.Kept.{vector_in}
use Rattle.orient48.specs.Motions.{turned}
use Rattle.orient48.specs.Orients.{matrix_of}
use Rattle.orient48.proofs.Changed.{changed_more}
use Rattle.orient48.proofs.orient.Orient.apply_all.Goals as goal

pub loop-place-preserved : goal.loop-place-preserved
loop-place-preserved g c =
    let long : length c.args.v ≡ g.row.N = search rules in
    let within : c.loop-place.place < length c.args.v = omega (arith, long, c.loop-place-test.true) in
    changed_more (λ each. parts (turned (matrix_of c.args.self) (vector_in each))) c.args.v c.loop-place.turned c.loop-place.place [] c.apply.result within c.loop-place.invariant c.apply.ensures.turned
