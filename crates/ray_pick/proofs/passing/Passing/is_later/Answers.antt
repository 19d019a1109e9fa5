use Rattle.ray_pick.proofs.Sizes.{small, product, less_tells}
use Rattle.exact_geom.proofs.Exactly.{times_fits}
use Rattle.ray_pick.proofs.passing.Passing.is_later.Goals as goal

pub overflow_mul-result : goal.overflow_mul-result
overflow_mul-result c = times_fits (small c.args.self.now.start c.requires.small.start) (small c.args.other.now.fall c.requires.other_small.fall) tt

pub overflow_mul-result-2 : goal.overflow_mul-result-2
overflow_mul-result-2 c = times_fits (small c.args.other.now.start c.requires.other_small.start) (small c.args.self.now.fall c.requires.small.fall) tt

pub returns : goal.returns
returns c =
    let a = c.args.self.now in
    let b = c.args.other.now in
    less_tells _ _ _ _ (product b.start a.fall c.requires.other_small.start c.requires.small.fall).is (product a.start b.fall c.requires.small.start c.requires.other_small.fall).is
