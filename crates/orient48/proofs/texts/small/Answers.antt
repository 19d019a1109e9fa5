use Rattle.std.proofs.Common.{refl, rules, w64}
use mir.Val.{SFits}
use Rattle.std.proofs.lemmas.Int.{to_z-of_z}
use Rattle.orient48.proofs.Wholes.{small_some, small_far, small_no_word, small_fraction}
use Rattle.orient48.proofs.texts.small.Goals as goal

pub returns-in-Ok : goal.returns-in-Ok
returns-in-Ok c =
    let fits : SFits w64 c.in-Ok.number = search rules in
    rw (to_z-of_z w64 c.in-Ok.number fits) (small_some c.args.word.now c.in-Ok.number c.in-Ok.ensures.ok.0 c.in-Ok.ensures.ok.1)

pub returns-in-Err-NotNumber : goal.returns-in-Err-NotNumber
returns-in-Err-NotNumber c =
    let e = rw c.in-Err-NotNumber.field-0-is at c.in-Err-NotNumber.ensures.not_number in
    small_no_word c.args.word.now (e.0 refl)

pub returns-in-Err-NotWhole : goal.returns-in-Err-NotWhole
returns-in-Err-NotWhole c =
    let e = rw c.in-Err-NotWhole.field-0-is at c.in-Err-NotWhole.ensures.not_whole in
    small_fraction c.args.word.now (e.0 refl)

pub returns-in-Err-TooLarge : goal.returns-in-Err-TooLarge
returns-in-Err-TooLarge c =
    let e = rw c.in-Err-TooLarge.field-0-is at c.in-Err-TooLarge.ensures.too_large in
    let h = e.0 refl in
    small_far c.args.word.now h.0 h.1 h.2
