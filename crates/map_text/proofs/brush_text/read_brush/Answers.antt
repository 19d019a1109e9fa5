use Rattle.std.proofs.Common.{[], ◌∷◌, ◌∙◌}
use Rattle.map_text.specs.Refusals.{first_in_brush}
use Rattle.map_text.specs.Reading.{IsStopped}
use Rattle.map_text.proofs.Passing.{passed_on}
use Rattle.map_text.proofs.BrushTexts.{face_more, face_shorter}
use Rattle.map_text.proofs.brush_text.read_brush.Goals as goal

pub returns-in_err-read_face-clause-fault : goal.returns-in_err-read_face-clause-fault
returns-in_err-read_face-clause-fault c =
    let begins = rw c.if-branch.true at c.in_ok-begins_face.ensures.read in
    passed_on (IsStopped c.args.reader.now (first_in_brush ∷ [])) c.from_residual-in_err-read_face.result c.in_err-read_face.field-0.0 c.from_residual-in_err-read_face.ensures.1
    (λ ne rest. c.faces.invariant.passes.goes rest ∙ begins.goes rest ∙ c.in_err-read_face.ensures.fault ne rest)

pub faces-smaller : goal.faces-smaller
faces-smaller c = face_shorter c.faces.is_first (rw c.if-branch.true at c.in_ok-begins_face.ensures.read) c.in_ok-read_face.ensures.read

pub faces-preserved : goal.faces-preserved
faces-preserved c =
    rw c.in_ok-brush.ensures (face_more c.faces.invariant (rw c.if-branch.true at c.in_ok-begins_face.ensures.read) c.in_ok-read_face.ensures.read)
