use Rattle.std.proofs.Common.{[], ◌∷◌, refl}
use Rattle.map_text.specs.Refusals.{a_surface}
use Rattle.map_text.specs.Reading.{IsRefused}
use Rattle.map_text.proofs.Passing.{passed_on}
use Rattle.map_text.proofs.surface_text.begins_surface.Goals as goal

pub returns-in_err-token-clause-fault : goal.returns-in_err-token-clause-fault
returns-in_err-token-clause-fault c =
    passed_on (IsRefused c.args.reader.now (a_surface ∷ [])) c.from_residual.result c.in_err-token.field-0.0 c.from_residual.ensures.1 (c.in_err-token.ensures.fault a_surface refl)
