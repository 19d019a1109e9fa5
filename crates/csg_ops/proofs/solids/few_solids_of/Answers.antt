use Rattle.std.proofs.Common.{subst}
use Rattle.csg_ops.specs.Faults.{IsOneOverfull}
use Rattle.csg_ops.proofs.Hollows.{not_overfull}
use Rattle.csg_ops.proofs.solids.few_solids_of.Goals as goal

pub unreachable-requires : goal.unreachable-requires
unreachable-requires c = not_overfull _ (subst (IsOneOverfull c.args.blocks.items) c.in-Err-TooManyFaces.field-0-is c.in-Err-TooManyFaces.ensures.fault) c.requires.few
