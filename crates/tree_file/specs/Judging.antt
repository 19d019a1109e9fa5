-- What the brushes of a file are judged to be.
use Rattle.std.specs.Prelude.{◌≡◌, List, Result}
use Rattle.map_text.specs.declared.document.RawBrush.{RawBrush}
use Rattle.map_text.specs.declared.document.Reason.{Reason}
use Rattle.map_model.specs.Faces.{Face}
use Rattle.map_model.specs.Below.{Below, IsRight}
use Rattle.map_model.specs.Judged.{faces_judged}
use Rattle.file_laws.specs.FileLeaves.{file_leaves}
use Rattle.file_laws.specs.Readings.{judged}

-- By whatever right tests on solids the faces are judged so.
abbrev pub AreFacesJudged : List Face → Result (List Face) Reason → Type 0
AreFacesJudged fs outcome = (b : Below) → IsRight b → faces_judged b fs ≡ outcome

-- And so is a brush of a text.
abbrev pub IsJudged : RawBrush → Result (List Face) Reason → Type 0
IsJudged raw outcome = (b : Below) → IsRight b → judged (file_leaves b) raw ≡ outcome
