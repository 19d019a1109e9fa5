use Rattle.std.specs.Int.{w128}
use Rattle.algebra.specs.Space.{dot, side}
use Rattle.exact_geom.proofs.Exactly.{wide, var, times, times_fits, sum, sum_fits, less, less_fits}
use Rattle.exact_geom.proofs.half_space.HalfSpace64.side_of.Goals as goal

pub overflow_add-result : goal.overflow_add-result
overflow_add-result c =
    let n = c.args.self.now.normal in
    let h = c.requires.size.normal in
    let k = c.requires.bounded in
    sum_fits (times (wide c.from.result n.x c.from.ensures h.x tt) (var w128 c.args.x k.x tt) tt)
    (times (wide c.from-2.result n.y c.from-2.ensures h.y tt) (var w128 c.args.y k.y tt) tt) tt

pub overflow_mul-result-3 : goal.overflow_mul-result-3
overflow_mul-result-3 c =
    times_fits (wide c.from-3.result c.args.self.now.normal.z c.from-3.ensures c.requires.size.normal.z tt) (var w128 c.args.z c.requires.bounded.z tt) tt

pub overflow_add-result-2 : goal.overflow_add-result-2
overflow_add-result-2 c =
    let n = c.args.self.now.normal in
    let h = c.requires.size.normal in
    let k = c.requires.bounded in
    sum_fits (sum (times (wide c.from.result n.x c.from.ensures h.x tt) (var w128 c.args.x k.x tt) tt)
    (times (wide c.from-2.result n.y c.from-2.ensures h.y tt) (var w128 c.args.y k.y tt) tt) tt)
    (times (wide c.from-3.result n.z c.from-3.ensures h.z tt) (var w128 c.args.z k.z tt) tt) tt

pub overflow_mul-result-4 : goal.overflow_mul-result-4
overflow_mul-result-4 c =
    times_fits (wide c.from-4.result c.args.self.now.distance c.from-4.ensures c.requires.size.distance tt) (var w128 c.args.w c.requires.bounded.weight tt) tt

pub overflow_sub-result : goal.overflow_sub-result
overflow_sub-result c =
    let n = c.args.self.now.normal in
    let h = c.requires.size.normal in
    let k = c.requires.bounded in
    less_fits (sum (sum (times (wide c.from.result n.x c.from.ensures h.x tt) (var w128 c.args.x k.x tt) tt)
    (times (wide c.from-2.result n.y c.from-2.ensures h.y tt) (var w128 c.args.y k.y tt) tt) tt)
    (times (wide c.from-3.result n.z c.from-3.ensures h.z tt) (var w128 c.args.z k.z tt) tt) tt)
    (times (wide c.from-4.result c.args.self.now.distance c.from-4.ensures c.requires.size.distance tt) (var w128 c.args.w k.weight tt) tt) tt

pub returns : goal.returns
unfolding side dot
returns c =
    let n = c.args.self.now.normal in
    let h = c.requires.size.normal in
    let k = c.requires.bounded in
    (less (sum (sum (times (wide c.from.result n.x c.from.ensures h.x tt) (var w128 c.args.x k.x tt) tt)
    (times (wide c.from-2.result n.y c.from-2.ensures h.y tt) (var w128 c.args.y k.y tt) tt) tt)
    (times (wide c.from-3.result n.z c.from-3.ensures h.z tt) (var w128 c.args.z k.z tt) tt) tt)
    (times (wide c.from-4.result c.args.self.now.distance c.from-4.ensures c.requires.size.distance tt) (var w128 c.args.w k.weight tt) tt) tt).is
