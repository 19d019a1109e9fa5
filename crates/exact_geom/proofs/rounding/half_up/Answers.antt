use Rattle.std.proofs.Common.{◌+◌, ◌*◌, ◌/◌, ap}
use Rattle.exact_geom.proofs.Nearest.{half_up, half_up_inside, grid_of}
use Rattle.exact_geom.proofs.rounding.half_up.Goals as goal

pub returns-clause-in_world : goal.returns-clause-in_world
returns-clause-in_world c =
    let g = grid_of c.args.grid c.requires.grid in
    half_up_inside c.args.size c.args.weight c.args.grid _ c.requires.weight g
    (half_up c.args.size c.args.weight c.args.grid _ c.requires.weight g.positive (ap (λ n. (2 * c.args.size + n * c.args.weight) / (2 * (n * c.args.weight))) c.from.ensures)) c.requires.in_world
