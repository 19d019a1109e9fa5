use Rattle.edit_ops.proofs.WhichCommand.{none_other}
use Rattle.edit_ops.proofs.editing.edit.Goals as goal

pub unreachable-requires : goal.unreachable-requires
unreachable-requires c = none_other c.args.c.now c.requires.own (record {
  box = c.in_default.not-Box;
  hull = c.in_default.not-Hull;
  copy = c.in_default.not-Copy;
  move = c.in_default.not-Move;
  turn = c.in_default.not-Turn;
  flip = c.in_default.not-Flip;
  clip = c.in_default.not-Clip;
  subtract = c.in_default.not-Subtract;
  intersect = c.in_default.not-Intersect;
  merge = c.in_default.not-Merge;
  hollow = c.in_default.not-Hollow;
  vertex = c.in_default.not-Vertex;
  snap = c.in_default.not-Snap;
  tex = c.in_default.not-Tex;
})
