use Rattle.std.proofs.Common.{◌≡◌, ◌<◌, ◌+◌, ◌-◌, length, arith, ap, ◌∙◌}
use Rattle.std.proofs.Math.Nat.{one-le-pow}
use Rattle.std.proofs.lemmas.List.{length-append}
use Rattle.std.proofs.lemmas.Nat.{mod_below}
use Rattle.fixed_num.proofs.Decimals.{places-push, one_left}
use Rattle.fixed_num.proofs.write.push_places.Goals as goal

pub places-preserved : goal.places-preserved
places-preserved c =
    let some : 0 < c.places.left = one_left c.places.left c.places.rest c.places-test.true c.places.invariant.1 in
    let unit : 0 < c.pow-unit.result = omega (arith, one-le-pow (c.places.left - 1) 10 (omega arith)) in
    let grown : length c.push.new.self ≡ length c.places.buf + 1 = ap length c.push.ensures ∙ length-append _ _ in (
      places-push c.places.buf _ _ c.places.left c.places.rest c.pow-unit.result some c.places-test.true c.pow-unit.ensures c.push.ensures c.places.invariant.0,
      omega (arith, mod_below c.places.rest c.pow-unit.result unit),
      omega arith,
      omega arith,
    )
