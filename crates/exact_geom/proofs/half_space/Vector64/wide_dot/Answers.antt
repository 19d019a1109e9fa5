use Rattle.algebra.specs.Space.{dot}
use Rattle.exact_geom.proofs.Exactly.{products_is}
use Rattle.exact_geom.proofs.half_space.Vector64.wide_dot.Goals as goal

pub returns : goal.returns
unfolding dot
returns c =
    let a = c.args.self.now in
    let b = c.args.other.now in
    let h = c.requires.size in
    let k = c.requires.other_size in
    (products_is a.x b.x a.y b.y a.z b.z c.sum_of_products.result h.x k.x h.y k.y h.z k.z c.sum_of_products.ensures).is
