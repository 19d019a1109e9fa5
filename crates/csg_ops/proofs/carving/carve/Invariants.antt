use Rattle.std.proofs.Common.{◌++◌, take}
use Rattle.solid_brush.specs.Blocks.{IsTrimmedTo}
use Rattle.csg_ops.proofs.Pieces.{HasSoFar}
use Rattle.csg_ops.proofs.carving.carve.Given as goal

abbrev pub invariant-loop-side : goal.invariant-loop-side
invariant-loop-side l = record {
  left : IsTrimmedTo (l.fn.left ++ take l.side-index l.sides) l.left;
  pieces : HasSoFar l.fn.left l.sides l.side-index l.pieces.items;
}
