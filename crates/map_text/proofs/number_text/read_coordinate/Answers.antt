use Rattle.std.proofs.Common.{[], ◌∷◌, ◌∙◌, refl}
use Rattle.map_lex.specs.TokenList.{value_of}
use Rattle.map_text.specs.Parts.{coordinate_part}
use Rattle.map_text.specs.Refusals.{a_number}
use Rattle.map_text.specs.Reading.{IsRead, IsRefused}
use Rattle.map_text.proofs.Passing.{passed_on, ok_of_found, err_of_found}
use Rattle.map_text.specs.Judged.{judge, coordinate_reason}
use Rattle.map_text.specs.Meaning.{whole_of}
use Rattle.map_text.proofs.NumberTexts.{no_number, coordinate_read}
use Rattle.map_text.proofs.number_text.read_coordinate.Goals as goal

pub returns-in_err-token-clause-fault : goal.returns-in_err-token-clause-fault
returns-in_err-token-clause-fault c =
    passed_on (IsRefused c.args.reader.now (a_number ∷ [])) c.from_residual.result c.in_err-token.field-0.0 c.from_residual.ensures.1 (c.in_err-token.ensures.fault a_number refl)

pub returns-clause-read : goal.returns-clause-read
returns-clause-read c =
    ok_of_found (IsRead coordinate_part (a_number ∷ []) [] c.args.reader.now c.token.new.self) c.coordinate_in.result c.ok_or.result _ c.ok_or.ensures.value
    (λ v e. coordinate_read c.args.reader.now c.token.new.self (value_of c.in_ok-token.token) v c.in_ok-token.ensures.token (e ∙ c.coordinate_in.ensures))

pub returns-clause-fault : goal.returns-clause-fault
returns-clause-fault c =
    let t = value_of c.in_ok-token.token in
    err_of_found (IsRefused c.args.reader.now (a_number ∷ [])) c.coordinate_in.result c.ok_or.result _ c.ok_or.ensures.value
    (λ e. no_number c.args.reader.now c.token.new.self t (judge (coordinate_reason t.text) (whole_of t.text)) c.in_ok-token.ensures.token (e ∙ c.coordinate_in.ensures))
