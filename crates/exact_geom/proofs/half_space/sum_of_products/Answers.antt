use Rattle.exact_geom.proofs.Exactly.{wide, times, sum, sum_fits}
use Rattle.exact_geom.proofs.half_space.sum_of_products.Goals as goal

pub overflow_add-result : goal.overflow_add-result
overflow_add-result c =
    sum_fits (times (wide c.from.result c.args.a c.from.ensures c.requires.a_size tt) (wide c.from-2.result c.args.x c.from-2.ensures c.requires.x_size tt) tt)
    (times (wide c.from-3.result c.args.b c.from-3.ensures c.requires.b_size tt) (wide c.from-4.result c.args.y c.from-4.ensures c.requires.y_size tt) tt) tt

pub overflow_add-result-2 : goal.overflow_add-result-2
overflow_add-result-2 c =
    sum_fits (sum (times (wide c.from.result c.args.a c.from.ensures c.requires.a_size tt) (wide c.from-2.result c.args.x c.from-2.ensures c.requires.x_size tt) tt)
    (times (wide c.from-3.result c.args.b c.from-3.ensures c.requires.b_size tt) (wide c.from-4.result c.args.y c.from-4.ensures c.requires.y_size tt) tt) tt)
    (times (wide c.from-5.result c.args.c c.from-5.ensures c.requires.c_size tt) (wide c.from-6.result c.args.z c.from-6.ensures c.requires.z_size tt) tt) tt

pub returns : goal.returns
returns c =
    (sum (sum (times (wide c.from.result c.args.a c.from.ensures c.requires.a_size tt) (wide c.from-2.result c.args.x c.from-2.ensures c.requires.x_size tt) tt)
    (times (wide c.from-3.result c.args.b c.from-3.ensures c.requires.b_size tt) (wide c.from-4.result c.args.y c.from-4.ensures c.requires.y_size tt) tt) tt)
    (times (wide c.from-5.result c.args.c c.from-5.ensures c.requires.c_size tt) (wide c.from-6.result c.args.z c.from-6.ensures c.requires.z_size tt) tt) tt).is
