use Rattle.ray_pick.proofs.Sizes.{small, product}
use Rattle.exact_geom.proofs.Exactly.{times_fits, less, less_fits}
use Rattle.ray_pick.proofs.passing.Passing.side_at.Goals as goal

pub overflow_mul-result : goal.overflow_mul-result
overflow_mul-result c = times_fits (small c.args.den c.requires.den_size) (small c.args.self.now.start c.requires.small.start) tt

pub overflow_mul-result-2 : goal.overflow_mul-result-2
overflow_mul-result-2 c = times_fits (small c.args.num c.requires.num_size) (small c.args.self.now.fall c.requires.small.fall) tt

pub overflow_sub-result : goal.overflow_sub-result
overflow_sub-result c =
    less_fits (product c.args.den c.args.self.now.start c.requires.den_size c.requires.small.start) (product c.args.num c.args.self.now.fall c.requires.num_size c.requires.small.fall) tt

pub returns : goal.returns
returns c =
    (less (product c.args.den c.args.self.now.start c.requires.den_size c.requires.small.start) (product c.args.num c.args.self.now.fall c.requires.num_size c.requires.small.fall) tt).is
