use Rattle.std.proofs.Common.{ap, ◌∙◌, to_z, of_z, w64}
use Rattle.algebra.specs.Space.{dot}
use Rattle.exact_geom.specs.Limits.{normal_limit}
use Rattle.exact_geom.specs.Machine.{vector64}
use Rattle.exact_geom.proofs.Exactly.{wide, products_equal}
use Rattle.exact_geom.proofs.Sizes.{size-dot}
use Rattle.exact_geom.proofs.half_space.HalfSpace64.is_level.Goals as goal

pub returns : goal.returns
returns c =
    let f = c.args.self.now in
    let g = c.args.other.now in
    let h = c.requires.size in
    let k = c.requires.other_size in
    products_equal (wide c.from.result f.distance c.from.ensures h.distance tt)
    (wide c.from-2.result (dot (vector64 g.normal) (vector64 g.normal)) (c.from-2.ensures ∙ ap (λ t. to_z w64 (of_z w64 t)) c.dot.ensures) (size-dot (vector64 g.normal) (vector64 g.normal) normal_limit normal_limit k.normal k.normal) tt)
    (wide c.from-3.result g.distance c.from-3.ensures k.distance tt)
    (wide c.from-4.result (dot (vector64 f.normal) (vector64 g.normal)) (c.from-4.ensures ∙ ap (λ t. to_z w64 (of_z w64 t)) c.dot-2.ensures) (size-dot (vector64 f.normal) (vector64 g.normal) normal_limit normal_limit h.normal k.normal) tt)
    tt tt
