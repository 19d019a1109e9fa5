use Rattle.std.proofs.Common.{◌≡◌, take}
use Rattle.map_nodes.specs.Seen.{sides_of}
use Rattle.brush_plans.proofs.bodies.sides_of.Given as goal

abbrev pub invariant-loop-face : goal.invariant-loop-face
invariant-loop-face l = record {
  place : l.place ≡ l.face-index;
  sides : l.sides.items ≡ sides_of (take l.face-index l.faces);
}
