use Rattle.std.proofs.Common.{◌++◌, ap, refl, sym, subst}
use Rattle.std.specs.Option.{option_map}
use Rattle.solid_brush.specs.Sides.{HaveTags}
use Rattle.solid_brush.specs.Blocks.{IsTrimmedTo}
use Rattle.solid_brush.proofs.Meeting.{passed_on}
use Rattle.csg_ops.specs.Faults.{subtract_fault_of}
use Rattle.csg_ops.specs.Cuts.{IsNoDifferenceFor}
use Rattle.csg_ops.proofs.Overfull.{piece_overfull}
use Rattle.csg_ops.proofs.Pieces.{has_pieces, none_carved, remainder_of}
use Rattle.csg_ops.proofs.subtracting.subtract.Goals as goal

pub carve-requires : goal.carve-requires
carve-requires c = record {
  block = subst (λ l. IsTrimmedTo l c.in_ok-block.block) (sym c.in_ok-block.ensures.same) c.in_ok-block.ensures.trimmed;
  tags = subst (λ s. HaveTags (c.in_ok-block.block ++ s)) (sym c.sides.ensures.sides) (subst (λ l. HaveTags (l ++ c.args.b.now)) (sym c.in_ok-block.ensures.same) c.requires.tags);
}

pub returns-in_default-clause-fault : goal.returns-in_default-clause-fault
returns-in_default-clause-fault c = none_carved c.in_ok-block.block c.args.a.now c.sides.result.now c.args.b.now (option_map (λ blocks. blocks.items) c.in_ok-blocks.field-0) c.in_ok-block.ensures.same c.sides.ensures.sides c.in_ok-blocks.ensures (ap (option_map (λ blocks. blocks.items)) c.in_default.is)

pub returns-in_err-solids_of-clause-fault : goal.returns-in_err-solids_of-clause-fault
returns-in_err-solids_of-clause-fault c =
    let p = has_pieces c.in_ok-block.block c.args.a.now c.sides.result.now c.args.b.now (option_map (λ blocks. blocks.items) c.in_ok-blocks.field-0) c.in-Some.blocks.items c.in-Some.blocks.items c.in_ok-block.ensures.same c.sides.ensures.sides c.in_ok-blocks.ensures (ap (option_map (λ blocks. blocks.items)) c.in-Some.is) refl in
    let why = c.in_err-solids_of.field-0.0 in
    passed_on (IsNoDifferenceFor c.args.a.now c.args.b.now) c.from_residual-in_err-solids_of.result (subtract_fault_of why) c.from_residual-in_err-solids_of.ensures.1
    (piece_overfull c.args.a.now c.args.b.now p why c.in_err-solids_of.ensures.fault)

pub returns : goal.returns
returns c =
    let p = has_pieces c.in_ok-block.block c.args.a.now c.sides.result.now c.args.b.now (option_map (λ blocks. blocks.items) c.in_ok-blocks.field-0) c.in-Some.blocks.items c.in_ok-solids_of.field-0.items c.in_ok-block.ensures.same c.sides.ensures.sides c.in_ok-blocks.ensures (ap (option_map (λ blocks. blocks.items)) c.in-Some.is) c.in_ok-solids_of.ensures.same in record {
      common = p.common;
      pieces = p.pieces_are;
      remainder = remainder_of c.args.a.now c.args.b.now c.in_ok-solids_of.field-0.items p;
      solids = c.in_ok-solids_of.ensures.solids;
      fault = tt;
    }
