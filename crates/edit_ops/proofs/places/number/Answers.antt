use Rattle.std.proofs.Common.{refl}
use Rattle.brush_plans.proofs.Lists.{not_both}
use Rattle.edit_ops.proofs.ThreeCounts.{count_ok, count_none, count_large}
use Rattle.edit_ops.proofs.places.number.Goals as goal

pub returns-in-Ok : goal.returns-in-Ok
returns-in-Ok c = count_ok c.args.word.now c.in-Ok.count c.in-Ok.ensures.ok (λ le. not_both (c.in-Ok.ensures.too_large.1 (c.in-Ok.count, c.in-Ok.ensures.ok, le)))

pub returns-in-Err-NotNumber : goal.returns-in-Err-NotNumber
returns-in-Err-NotNumber c =
    let e = rw c.in-Err-NotNumber.field-0-is at c.in-Err-NotNumber.ensures.not_number in
    count_none c.args.word.now (e.0 refl)

pub returns-in-Err-TooLarge : goal.returns-in-Err-TooLarge
returns-in-Err-TooLarge c =
    let e = rw c.in-Err-TooLarge.field-0-is at c.in-Err-TooLarge.ensures.too_large in
    let h = e.0 refl in
    count_large c.args.word.now h.0 h.1 h.2
