-- Why the faces of a file's brush are no brush, and else the faces that it needs.
use Rattle.std.specs.Prelude.{cond, List, length, nat_lt, Result, Ok, Err}
use Rattle.map_text.specs.declared.document.Reason.{Reason}
use Rattle.map_text.specs.declared.document.Reason.TheVariants.{Volume, World, Faces as TooManyFaces}
use Rattle.map_model.specs.Faces.{Face}
use Rattle.map_model.specs.Shape.{half_spaces}
use Rattle.map_model.specs.Below.{Below}
use Rattle.map_model.specs.Brushes.{trimmed}

-- Why faces are no brush, in this order; and else their trimmed list.
abbrev pub faces_judged : Below → List Face → Result (List Face) Reason
faces_judged b fs =
    let F = half_spaces fs in
    let kept = trimmed b fs in
    cond (b.is_empty F) (Err Volume) (cond (b.leaves_world F) (Err World) (cond (nat_lt 128 (length kept)) (Err TooManyFaces) (Ok kept)))
