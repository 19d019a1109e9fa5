use Rattle.std.proofs.Common.{w64}
use Rattle.algebra.specs.Space.{dot}
use Rattle.exact_geom.proofs.Exactly.{var, times, times_fits, sum, sum_fits}
use Rattle.exact_geom.proofs.half_space.Vector64.dot.Goals as goal

pub overflow_add-result : goal.overflow_add-result
overflow_add-result c =
    let a = c.args.self.now in
    let b = c.args.other.now in
    let h = c.requires.size in
    let k = c.requires.other_size in
    sum_fits (times (var w64 a.x h.x tt) (var w64 b.x k.x tt) tt) (times (var w64 a.y h.y tt) (var w64 b.y k.y tt) tt) tt

pub overflow_mul-result-3 : goal.overflow_mul-result-3
overflow_mul-result-3 c = times_fits (var w64 c.args.self.now.z c.requires.size.z tt) (var w64 c.args.other.now.z c.requires.other_size.z tt) tt

pub overflow_add-result-2 : goal.overflow_add-result-2
overflow_add-result-2 c =
    let a = c.args.self.now in
    let b = c.args.other.now in
    let h = c.requires.size in
    let k = c.requires.other_size in
    sum_fits (sum (times (var w64 a.x h.x tt) (var w64 b.x k.x tt) tt) (times (var w64 a.y h.y tt) (var w64 b.y k.y tt) tt) tt)
    (times (var w64 a.z h.z tt) (var w64 b.z k.z tt) tt) tt

pub returns : goal.returns
unfolding dot
returns c =
    let a = c.args.self.now in
    let b = c.args.other.now in
    let h = c.requires.size in
    let k = c.requires.other_size in
    (sum (sum (times (var w64 a.x h.x tt) (var w64 b.x k.x tt) tt) (times (var w64 a.y h.y tt) (var w64 b.y k.y tt) tt) tt)
    (times (var w64 a.z h.z tt) (var w64 b.z k.z tt) tt) tt).is
