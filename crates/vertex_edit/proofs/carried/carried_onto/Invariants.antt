use Rattle.std.proofs.Common.{◌≡◌, take}
use Rattle.hull_search.specs.Slopes.{face}
use Rattle.vertex_edit.specs.Carrying.{carry, onto}
use Rattle.vertex_edit.proofs.carried.carried_onto.Given as goal

abbrev pub invariant-loop-k : goal.invariant-loop-k
invariant-loop-k l = l.list.items ≡ onto (face l.f) (carry (take l.k l.vertices) (take l.k l.places))
