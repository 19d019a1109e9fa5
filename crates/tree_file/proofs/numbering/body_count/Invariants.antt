use Rattle.std.proofs.Common.{◌≡◌, ◌≤◌, length, take}
use Rattle.tree_file.specs.Passes.{bodies_of}
use Rattle.tree_file.proofs.numbering.body_count.Given as goal

abbrev pub invariant-loop-brush : goal.invariant-loop-brush
invariant-loop-brush l = record {
  count : l.count ≡ length (bodies_of (take l.brush-index l.brushes));
  most : l.count ≤ l.brush-index;
}
