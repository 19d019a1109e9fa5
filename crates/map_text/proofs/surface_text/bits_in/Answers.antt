use Rattle.std.proofs.Common.{refl, rules, w64}
use mir.Val.{SFits}
use Rattle.std.proofs.lemmas.Int.{to_z-of_z}
use Rattle.map_text.proofs.NumberTexts.{none_from_no_word}
use Rattle.map_text.proofs.SurfaceTexts.{bits_near, bits_far, bits_fraction}
use Rattle.map_lex.specs.TokenList.{value_of}
use Rattle.map_text.proofs.surface_text.bits_in.Goals as goal

pub returns-in-Ok-clause-value : goal.returns-in-Ok-clause-value
returns-in-Ok-clause-value c =
    let fits : SFits w64 c.in-Ok.bits = search rules in
    rw (to_z-of_z w64 c.in-Ok.bits fits) (bits_near (value_of c.args.token.now) c.in-Ok.bits c.if-token.false c.in-Ok.ensures.ok.0 c.in-Ok.ensures.ok.1)

pub returns-in-Err-NotNumber-clause-value : goal.returns-in-Err-NotNumber-clause-value
returns-in-Err-NotNumber-clause-value c =
    let e = rw c.in-Err-NotNumber.field-0-is at c.in-Err-NotNumber.ensures.not_number in
    none_from_no_word (value_of c.args.token.now) _ (e.0 refl)

pub returns-in-Err-NotWhole-clause-value : goal.returns-in-Err-NotWhole-clause-value
returns-in-Err-NotWhole-clause-value c =
    let e = rw c.in-Err-NotWhole.field-0-is at c.in-Err-NotWhole.ensures.not_whole in
    bits_fraction (value_of c.args.token.now) c.if-token.false (e.0 refl)

pub returns-in-Err-TooLarge-clause-value : goal.returns-in-Err-TooLarge-clause-value
returns-in-Err-TooLarge-clause-value c =
    let e = rw c.in-Err-TooLarge.field-0-is at c.in-Err-TooLarge.ensures.too_large in
    bits_far (value_of c.args.token.now) c.if-token.false (e.0 refl)
