use Rattle.std.proofs.Common.{◌≡◌, get_or}
use Rattle.hull_laws.specs.Moved.{nowhere}
use Rattle.solid_brush.specs.Sides.{half_spaces}
use Rattle.vertex_edit.specs.Carrying.{count_on, IsFullest}
use Rattle.vertex_edit.proofs.old_face.old_face.Given as goal

pub record Kept (l : goal.Live-loop-k) : Type 0 where
  pub counted : l.best.count ≡ count_on l.vertices (get_or (half_spaces l.sides) l.best.face nowhere)
  pub fullest : IsFullest (half_spaces l.sides) l.vertices l.k l.best.face

abbrev pub invariant-loop-k : goal.invariant-loop-k
invariant-loop-k l = Kept l
