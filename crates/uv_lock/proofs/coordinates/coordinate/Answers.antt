use Rattle.std.proofs.Common.{◌∙◌, ◌*◌, ◌^◌, pos, ◌+ℤ◌, ◌*ℤ◌}
use Rattle.algebra.specs.Space.{dot, whole_point}
use Rattle.algebra.proofs.Wide.{sizes, no_overflow, called}
use Rattle.orient48.specs.Kept.{vector_in}
use Rattle.orient48.proofs.Parts.{once}
use Rattle.uv_lock.specs.Carry.{axis_vector, scale_of}
use Rattle.uv_lock.specs.Fractions.{fraction}
use Rattle.uv_lock.proofs.Sums.{texels_is, texels_size, unit_is}
use Rattle.uv_lock.proofs.coordinates.coordinate.Goals as goal

pub overflow_add-texels : goal.overflow_add-texels
overflow_add-texels c =
    let o = called (10 ^ 33) c.scaled_offset.ensures.value c.scaled_offset.ensures.size in
    let a = called (3 * 10 ^ 21) c.along.ensures.value c.along.ensures.size in
    no_overflow (search sizes depth 20) tt

pub reduced-requires-clause-num : goal.reduced-requires-clause-num
reduced-requires-clause-num c = texels_size c.scaled_offset.result c.along.result c.scaled_offset.ensures.size c.along.ensures.size

pub returns : goal.returns
unfolding whole_point
returns c =
    let texels = texels_is c.scaled_offset.result c.along.result c.scaled_offset.ensures.value c.scaled_offset.ensures.size c.along.ensures.value c.along.ensures.size in
    let unit = unit_is c.scale_count.result c.scale_count.ensures.value c.scale_count.ensures.size in
    let s = scale_of c.args.scale in
    c.reduced.ensures ∙ (λ i. fraction (texels i) (unit i))
    ∙ (λ i. fraction (dot (vector_in c.args.at) (axis_vector c.args.axis) *ℤ pos 1000000000000 +ℤ c.args.off *ℤ once s i) (once s i *ℤ pos 1000000000000))
