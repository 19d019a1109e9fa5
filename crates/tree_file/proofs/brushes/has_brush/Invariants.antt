use Rattle.std.proofs.Common.{◌≡◌, [], take}
use Rattle.tree_file.specs.Passes.{bodies_of}
use Rattle.tree_file.proofs.brushes.has_brush.Given as goal

abbrev pub invariant-loop-brush : goal.invariant-loop-brush
invariant-loop-brush l = bodies_of (take l.brush-index l.brushes) ≡ []
