use Rattle.std.proofs.Common.{sym, subst}
use Rattle.solid_brush.specs.Blocks.{IsTrimmedTo}
use Rattle.solid_brush.proofs.Meeting.{passed_on}
use Rattle.csg_ops.specs.Faults.{intersect_fault_of}
use Rattle.csg_ops.specs.Cuts.{all_sides, IsNoIntersectionFor}
use Rattle.csg_ops.proofs.Overfull.{intersection_overfull}
use Rattle.csg_ops.proofs.intersecting.intersect.Goals as goal

pub returns : goal.returns
returns c = record {
  common = subst (IsTrimmedTo (all_sides c.args.list.now)) (sym c.in_ok-solid.ensures.same) c.in_ok-block.ensures.common;
  solid = c.in_ok-solid.ensures.solid;
  fault = tt;
}

pub returns-in_err-solid-clause-fault : goal.returns-in_err-solid-clause-fault
returns-in_err-solid-clause-fault c =
    let why = c.in_err-solid.field-0.0 in
    passed_on (IsNoIntersectionFor c.args.list.now) c.from_residual-in_err-solid.result (intersect_fault_of why) c.from_residual-in_err-solid.ensures.1
    (intersection_overfull c.args.list.now c.in_ok-block.ensures.common why c.in_err-solid.ensures.fault)
