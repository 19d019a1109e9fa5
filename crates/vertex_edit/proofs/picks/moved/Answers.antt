use Rattle.std.proofs.Common.{get_or, pos, w32}
use Rattle.exact_geom.proofs.Exactly.{var, sum}
use Rattle.vertex_edit.proofs.picks.moved.Goals as goal

pub returns : goal.returns
returns c =
    let p = c.args.p.now in let s = c.args.shift.now in
    let x = (sum (var w32 p.x c.requires.world.x tt) (var w32 (get_or s 0 (pos 0)) c.requires.small.x tt) tt).is in
    let y = (sum (var w32 p.y c.requires.world.y tt) (var w32 (get_or s 1 (pos 0)) c.requires.small.y tt) tt).is in
    let z = (sum (var w32 p.z c.requires.world.z tt) (var w32 (get_or s 2 (pos 0)) c.requires.small.z tt) tt).is in
    λ i. record { x = x i; y = y i; z = z i }
