-- How the counts of a text are bounded.
use Rattle.std.specs.Prelude.{◌≤◌, length}
use Rattle.obj_export.specs.declared.obj.Obj.{Obj}

-- The text has a byte at least for each brush, vertex and face.
pub record IsCounted (o : Obj) : Type 0 where
  pub brushes : o.brushes ≤ length o.text
  pub vertices : o.vertices ≤ length o.text
  pub faces : o.faces ≤ length o.text
