use Rattle.std.proofs.Common.{◌∷◌, ◌∙◌}
use Rattle.map_text.specs.Refusals.{a_material, a_texture, a_surface, rest_of_face}
use Rattle.map_text.specs.Reading.{IsStopped}
use Rattle.map_text.proofs.Passing.{passed_on}
use Rattle.map_text.proofs.FaceTexts.{face_read}
use Rattle.map_text.proofs.face_text.read_face.Goals as goal

pub returns-in_err-points-clause-fault : goal.returns-in_err-points-clause-fault
returns-in_err-points-clause-fault c =
    passed_on (IsStopped c.args.reader.now rest_of_face) c.from_residual.result c.in_err-points.field-0.0 c.from_residual.ensures.1
    (λ ne rest. c.in_err-points.ensures.fault (a_material ∷ a_texture ∷ a_surface ∷ rest))

pub returns-in_err-material-clause-fault : goal.returns-in_err-material-clause-fault
returns-in_err-material-clause-fault c =
    passed_on (IsStopped c.args.reader.now rest_of_face) c.from_residual-in_err-material.result c.in_err-material.field-0.0 c.from_residual-in_err-material.ensures.1
    (λ ne rest. c.in_ok-points.ensures.read.passes.goes (a_material ∷ a_texture ∷ a_surface ∷ rest) ∙ c.in_err-material.ensures.fault (a_texture ∷ a_surface ∷ rest))

pub returns-in_err-tex-clause-fault : goal.returns-in_err-tex-clause-fault
returns-in_err-tex-clause-fault c =
    passed_on (IsStopped c.args.reader.now rest_of_face) c.from_residual-in_err-tex.result c.in_err-tex.field-0.0 c.from_residual-in_err-tex.ensures.1
    (λ ne rest. c.in_ok-points.ensures.read.passes.goes (a_material ∷ a_texture ∷ a_surface ∷ rest) ∙ c.in_ok-material.ensures.read.passes.goes (a_texture ∷ a_surface ∷ rest)
    ∙ c.in_err-tex.ensures.fault rest)

pub returns-clause-read : goal.returns-clause-read
returns-clause-read c = rw c.in_ok-face_from.ensures (face_read c.in_ok-points.ensures.read c.in_ok-material.ensures.read c.in_ok-tex.ensures.read)
