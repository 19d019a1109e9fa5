use Rattle.std.proofs.Common.{subst}
use Rattle.hull_merge.specs.Hulls.{IsNoHullFor, distinct}
use Rattle.vertex_edit.proofs.Rounded.{none_outside}
use Rattle.vertex_edit.proofs.snapping.edited.Goals as goal

pub unreachable-requires : goal.unreachable-requires
unreachable-requires c = none_outside c.args.places.now c.requires.world (subst (IsNoHullFor (distinct c.args.places.now)) c.in-Err-OutOfWorld.field-0-is c.in-Err-OutOfWorld.ensures.fault).1
