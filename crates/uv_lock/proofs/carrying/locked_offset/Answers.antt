use Rattle.std.proofs.Common.{◌∙◌, ◌*◌, ◌^◌, ap, arith, refl, pos, sym, Some}
use Rattle.algebra.proofs.Wide.{sizes, no_overflow, called, argument}
use Rattle.orient48.specs.Kept.{vector_in}
use Rattle.uv_lock.specs.Carry.{axis_vector, kept_product, offset_limit, scale_of}
use Rattle.uv_lock.specs.Fractions.{fraction}
use Rattle.uv_lock.proofs.Offsets.{found, lost, scale_not_zero}
use Rattle.uv_lock.proofs.Sums.{difference_is, difference_size, narrowed, scale_is, unit_is}
use Rattle.uv_lock.proofs.carrying.locked_offset.Goals as goal

pub overflow_sub-product : goal.overflow_sub-product
overflow_sub-product c =
    let o = called (10 ^ 33) c.scaled_offset.ensures.value c.scaled_offset.ensures.size in
    let a = called (3 * 10 ^ 21) c.along.ensures.value c.along.ensures.size in
    no_overflow (search sizes depth 20) tt

pub overflow_cast-result : goal.overflow_cast-result
overflow_cast-result c =
    let l = c.in-Some.ensures.some.1 in
    let k = argument c.in-Some.count (10 ^ 18) (omega (arith, l)) in no_overflow (search sizes depth 20) tt

pub reduced-requires-clause-num : goal.reduced-requires-clause-num
reduced-requires-clause-num c = difference_size c.scaled_offset.result c.along.result c.scaled_offset.ensures.size c.along.ensures.size

pub returns-in-Some-clause-ok : goal.returns-in-Some-clause-ok
returns-in-Some-clause-ok c =
    let product = difference_is c.scaled_offset.result c.along.result c.scaled_offset.ensures.value c.scaled_offset.ensures.size c.along.ensures.value c.along.ensures.size in
    let scale = scale_is c.scale_count-scale.result c.scale_count-scale.ensures.value c.scale_count-scale.ensures.size in
    found (kept_product c.args.off c.args.scale (axis_vector c.args.axis) (vector_in c.args.shift)) (scale_of c.args.scale) (pos 1000000000000000000) offset_limit c.in-Some.count
    product scale refl (scale_not_zero c.args.scale) c.in-Some.ensures.some
    ∙ ap Some (sym (narrowed c.in-Some.count c.in-Some.ensures.some.1))

pub returns-in-None-clause-lost : goal.returns-in-None-clause-lost
returns-in-None-clause-lost c =
    let product = difference_is c.scaled_offset.result c.along.result c.scaled_offset.ensures.value c.scaled_offset.ensures.size c.along.ensures.value c.along.ensures.size in
    let scale = scale_is c.scale_count-scale.result c.scale_count-scale.ensures.value c.scale_count-scale.ensures.size in
    lost (kept_product c.args.off c.args.scale (axis_vector c.args.axis) (vector_in c.args.shift)) (scale_of c.args.scale) (pos 1000000000000000000) offset_limit product scale refl c.in-None.ensures.none

pub returns-in-None-clause-offset : goal.returns-in-None-clause-offset
returns-in-None-clause-offset c =
    let product = difference_is c.scaled_offset.result c.along.result c.scaled_offset.ensures.value c.scaled_offset.ensures.size c.along.ensures.value c.along.ensures.size in
    let unit = unit_is c.scale_count-scale.result c.scale_count-scale.ensures.value c.scale_count-scale.ensures.size in
    c.reduced.ensures ∙ (λ i. fraction (product i) (unit i))
