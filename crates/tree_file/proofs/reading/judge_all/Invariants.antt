use Rattle.std.proofs.Common.{◌≡◌, map, take, length}
use Rattle.map_model.specs.Below.{Below, IsRight}
use Rattle.file_laws.specs.FileLeaves.{file_leaves}
use Rattle.file_laws.specs.Readings.{judged}
use Rattle.tree_file.proofs.reading.judge_all.Given as goal

abbrev pub invariant-loop-brush : goal.invariant-loop-brush
invariant-loop-brush l = (b : Below) → IsRight b → map (judged (file_leaves b)) (take (length l.yielded) l.fn.brushes.items) ≡ l.outcomes.items
