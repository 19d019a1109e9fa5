use Rattle.std.proofs.Common.{◌∷◌, ◌∙◌}
use Rattle.map_text.specs.Refusals.{a_number}
use Rattle.map_text.specs.Reading.{IsRefused}
use Rattle.map_text.specs.Parts.{turn_places}
use Rattle.map_text.proofs.Passing.{passed_on}
use Rattle.map_text.proofs.TextureTexts.{turn_read}
use Rattle.map_text.proofs.texture_text.read_turn.Goals as goal

pub returns-in_err-rotation-clause-fault : goal.returns-in_err-rotation-clause-fault
returns-in_err-rotation-clause-fault c =
    passed_on (IsRefused c.args.reader.now turn_places) c.from_residual.result c.in_err-rotation.field-0.0 c.from_residual.ensures.1
    (λ rest. c.in_err-rotation.ensures.fault (a_number ∷ a_number ∷ rest))

pub returns-in_err-u_scale-clause-fault : goal.returns-in_err-u_scale-clause-fault
returns-in_err-u_scale-clause-fault c =
    passed_on (IsRefused c.args.reader.now turn_places) c.from_residual-in_err-u_scale.result c.in_err-u_scale.field-0.0 c.from_residual-in_err-u_scale.ensures.1
    (λ rest. c.in_ok-rotation.ensures.read.passes.goes (a_number ∷ a_number ∷ rest) ∙ c.in_err-u_scale.ensures.fault (a_number ∷ rest))

pub returns-in_err-v_scale-clause-fault : goal.returns-in_err-v_scale-clause-fault
returns-in_err-v_scale-clause-fault c =
    passed_on (IsRefused c.args.reader.now turn_places) c.from_residual-in_err-v_scale.result c.in_err-v_scale.field-0.0 c.from_residual-in_err-v_scale.ensures.1
    (λ rest. c.in_ok-rotation.ensures.read.passes.goes (a_number ∷ a_number ∷ rest) ∙ c.in_ok-u_scale.ensures.read.passes.goes (a_number ∷ rest) ∙ c.in_err-v_scale.ensures.fault (rest))

pub returns-clause-read : goal.returns-clause-read
returns-clause-read c = rw c.turn_from.ensures (turn_read c.in_ok-rotation.ensures.read c.in_ok-u_scale.ensures.read c.in_ok-v_scale.ensures.read)
