use Rattle.std.proofs.Common.{[], ◌∷◌}
use Rattle.map_text.specs.Refusals.{an_entity}
use Rattle.map_text.specs.Reading.{IsRefused}
use Rattle.map_text.proofs.Passing.{passed_on}
use Rattle.map_text.proofs.map_text_reader.begins_entity.Goals as goal

pub returns-in_err-next_token-clause-fault : goal.returns-in_err-next_token-clause-fault
returns-in_err-next_token-clause-fault c =
    passed_on (IsRefused c.args.reader.now (an_entity ∷ [])) c.from_residual.result c.in_err-next_token.field-0.0 c.from_residual.ensures.1 (c.in_err-next_token.ensures.fault [] an_entity)
