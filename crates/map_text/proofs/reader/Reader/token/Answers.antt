use Rattle.std.proofs.Common.{[], ◌∷◌, IsTrue}
use Rattle.map_text.specs.Refusals.{Awaited}
use Rattle.map_text.specs.Reading.{IsRefused, is_inner}
use Rattle.map_text.proofs.Passing.{passed_on}
use Rattle.map_text.proofs.reader.Reader.token.Goals as goal

pub returns-in_err-token-clause-fault : goal.returns-in_err-token-clause-fault
returns-in_err-token-clause-fault c =
    passed_on (λ why. (place : Awaited) → IsTrue (is_inner place) → IsRefused c.args.self.now (place ∷ []) why) c.from_residual.result c.in_err-token.field-0.0 c.from_residual.ensures.1
    (λ place _. c.in_err-token.ensures.fault [] place)
