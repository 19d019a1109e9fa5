use Rattle.std.proofs.Common.{List, ◌++◌, take}
use Rattle.solid_brush.specs.declared.side.Side.{Side}
use Rattle.solid_brush.specs.Blocks.{IsTrimmedTo}
use Rattle.solid_brush.proofs.block.Block.meet.Given as goal

abbrev pub invariant-loop-side : goal.invariant-loop-side
invariant-loop-side l = record {
  left : IsTrimmedTo (l.fn.self ++ take l.side-index l.more) l.self;
  further : (all : List Side) → IsTrimmedTo all l.fn.self → IsTrimmedTo (all ++ take l.side-index l.more) l.self;
}
