use Rattle.std.proofs.Common.{refl}
use Rattle.fixed_num.specs.Decimals.{offset_decimals}
use Rattle.map_lex.specs.TokenList.{value_of}
use Rattle.map_text.specs.declared.document.Reason.TheVariants.{Texture}
use Rattle.map_text.proofs.NumberTexts.{none_from_no_word, number_small, number_large}
use Rattle.map_text.proofs.number_text.pico_in.Goals as goal

pub returns-in-Ok : goal.returns-in-Ok
returns-in-Ok c =
    number_small Texture offset_decimals (value_of c.args.token.now) c.in-Ok.number c.if-token.false c.in-Ok.ensures.ok (λ h. let e = c.in-Ok.ensures.too_large.1 h in cc)

pub returns-in-Err-NotNumber : goal.returns-in-Err-NotNumber
returns-in-Err-NotNumber c =
    let e = rw c.in-Err-NotNumber.field-0-is at c.in-Err-NotNumber.ensures.not_number in
    none_from_no_word (value_of c.args.token.now) _ (e.0 refl)

pub returns-in-Err-TooLarge : goal.returns-in-Err-TooLarge
returns-in-Err-TooLarge c =
    let e = rw c.in-Err-TooLarge.field-0-is at c.in-Err-TooLarge.ensures.too_large in
    number_large Texture offset_decimals (value_of c.args.token.now) c.if-token.false (e.0 refl)
