use Rattle.std.proofs.Common.{◌≡◌, drop}
use Rattle.std.specs.List.{list_all}
use Rattle.hollow_plans.proofs.BoxTests.{faces_along}
use Rattle.hollow_plans.proofs.boxes.are_along_axes.Given as goal

abbrev pub invariant-loop-face : goal.invariant-loop-face
invariant-loop-face l = list_all faces_along (drop l.face-index l.faces) ≡ list_all faces_along l.faces
