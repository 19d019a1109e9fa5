use Rattle.std.proofs.Common.{◌≡◌, ◌≤◌, ◌+◌, ◌/◌, ◌^◌, length, unsigned_abs, w64, arith, ap, ◌∙◌}
use Rattle.std.proofs.lemmas.Int.{to_z-of_z}
use Rattle.std.proofs.lemmas.List.{length-append}
use Rattle.std.specs.Fmt.{decimal}
use Rattle.std.proofs.Math.Nat.{one-le-pow}
use Rattle.std.proofs.lemmas.Nat.{mod_below}
use Rattle.fixed_num.proofs.Decimals.{length-shortest_whole, length-minus_of}
use Rattle.fixed_num.proofs.write.write_count.Goals as goal

pub nonzero_div-size : goal.nonzero_div-size
nonzero_div-size c = omega (arith, one-le-pow c.args.decimals 10 (omega arith))

pub nonzero_rem-size : goal.nonzero_rem-size
nonzero_rem-size c = omega (arith, one-le-pow c.args.decimals 10 (omega arith))

pub push_fraction-requires-clause-below_one : goal.push_fraction-requires-clause-below_one
push_fraction-requires-clause-below_one c =
    omega (arith, mod_below c.unsigned_abs-size.result c.pow-one.result (omega (arith, one-le-pow c.args.decimals 10 (omega arith))))

pub push_fraction-requires-clause-room : goal.push_fraction-requires-clause-room
push_fraction-requires-clause-room c =
    let size : c.unsigned_abs-size.result ≡ unsigned_abs c.args.count = c.unsigned_abs-size.ensures.value ∙ ap unsigned_abs (to_z-of_z w64 c.args.count c.ranges.count) in
    let whole : length (decimal (c.unsigned_abs-size.result / 10 ^ c.args.decimals)) ≤ 6 = length-shortest_whole c.args.decimals c.unsigned_abs-size.result (rw size c.requires.below_million) in
    let text : c.as_bytes.result.now ≡ decimal (c.unsigned_abs-size.result / 10 ^ c.args.decimals) =
    c.as_bytes.ensures.value ∙ c.format.ensures.text ∙ ap (λ p. decimal (c.unsigned_abs-size.result / p)) c.pow-one.ensures in
    let digits : length c.as_bytes.result.now ≤ 6 = rw text whole in
    let all : length c.push_all.new.self ≡ length c.push_sign.new.buf + length c.as_bytes.result.now = ap length c.push_all.ensures ∙ length-append _ _ in
    let minus : length c.push_sign.new.buf ≤ 1 = rw (c.push_sign.ensures) (length-minus_of _) in
    omega arith
