use Rattle.std.proofs.Common.{refl, rules, w64, w32}
use mir.Val.{SFits}
use Rattle.std.proofs.lemmas.Int.{to_z-of_z}
use Rattle.map_text.proofs.NumberTexts.{none_from_no_word, coordinate_near, coordinate_far, coordinate_fraction}
use Rattle.map_lex.specs.TokenList.{value_of}
use Rattle.map_text.proofs.number_text.coordinate_in.Goals as goal

pub returns-in-Ok : goal.returns-in-Ok
returns-in-Ok c =
    let narrow : SFits w32 c.in-Ok.whole = search rules in
    let wide : SFits w64 c.in-Ok.whole = search rules in
    rw (to_z-of_z w64 c.in-Ok.whole wide, to_z-of_z w32 c.in-Ok.whole narrow)
    (coordinate_near (value_of c.args.token.now) c.in-Ok.whole c.if-token.false c.in-Ok.ensures.ok.0 c.in-Ok.ensures.ok.1)

pub returns-in-Err-NotNumber : goal.returns-in-Err-NotNumber
returns-in-Err-NotNumber c =
    let e = rw c.in-Err-NotNumber.field-0-is at c.in-Err-NotNumber.ensures.not_number in
    none_from_no_word (value_of c.args.token.now) _ (e.0 refl)

pub returns-in-Err-NotWhole : goal.returns-in-Err-NotWhole
returns-in-Err-NotWhole c =
    let e = rw c.in-Err-NotWhole.field-0-is at c.in-Err-NotWhole.ensures.not_whole in
    coordinate_fraction (value_of c.args.token.now) c.if-token.false (e.0 refl)

pub returns-in-Err-TooLarge : goal.returns-in-Err-TooLarge
returns-in-Err-TooLarge c =
    let e = rw c.in-Err-TooLarge.field-0-is at c.in-Err-TooLarge.ensures.too_large in
    coordinate_far (value_of c.args.token.now) c.if-token.false (e.0 refl)
