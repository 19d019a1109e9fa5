use Rattle.std.proofs.Common.{w64}
use Rattle.exact_geom.proofs.Exactly.{var, times, less, less_fits}
use Rattle.exact_geom.proofs.half_space.minor.Goals as goal

pub overflow_sub-result : goal.overflow_sub-result
overflow_sub-result c =
    less_fits (times (var w64 c.args.a c.requires.a_size tt) (var w64 c.args.d c.requires.d_size tt) tt)
    (times (var w64 c.args.b c.requires.b_size tt) (var w64 c.args.c c.requires.c_size tt) tt) tt

pub returns : goal.returns
returns c =
    (less (times (var w64 c.args.a c.requires.a_size tt) (var w64 c.args.d c.requires.d_size tt) tt)
    (times (var w64 c.args.b c.requires.b_size tt) (var w64 c.args.c c.requires.c_size tt) tt) tt).is
