use Rattle.std.proofs.Common.{◌≡◌, ◌+◌, ◌<◌, append-nil, sym, subst}
use Rattle.algebra.specs.Members.{Every}
use Rattle.solid_brush.specs.Blocks.{IsTrimmedTo}
use Rattle.solid_brush.proofs.Meeting.{tag_is_new, tag_is_small, met_more, none_met}
use Rattle.csg_ops.proofs.Pieces.{HasSoFar, none_so_far, with_piece, without_piece, all_pieces, cut_of}
use Rattle.csg_ops.proofs.carving.carve.Goals as goal
use Rattle.csg_ops.proofs.carving.carve.Goals.{then-branch+in_ok-push, else-branch}

pub loop-side-init : goal.loop-side-init
loop-side-init c = record {
  left = subst (λ l. IsTrimmedTo l c.args.left) (sym (append-nil c.args.left)) c.requires.block;
  pieces = subst (HasSoFar c.args.left c.args.sides.now 0) (sym c.new-pieces.ensures.items) (none_so_far c.args.left c.args.sides.now);
}

pub cut-requires : goal.cut-requires
cut-requires c = record {
  new = subst (λ s. Every (λ x. ¬ (x.tag ≡ s.tag)) c.in_ok-piece.piece) (sym c.reversed.ensures)
      (subst (Every (λ x. ¬ (x.tag ≡ c.side-item.result.tag))) (sym c.in_ok-piece.ensures.equal) (tag_is_new c.args.left c.args.sides.now c.loop-side.left c.loop-side.side-index c.side-item.result c.loop-side-test.true c.side-item.is c.loop-side.invariant.left c.requires.tags));
  small = subst (λ s. s.tag < 2147483648) (sym c.reversed.ensures) (tag_is_small c.args.left c.args.sides.now c.loop-side.left c.loop-side.side-index c.side-item.result c.loop-side-test.true c.side-item.is c.loop-side.invariant.left c.requires.tags);
}

pub cut-requires-in-loop-side : goal.cut-requires-in-loop-side
cut-requires-in-loop-side c = record {
  new = tag_is_new c.args.left c.args.sides.now c.loop-side.left c.loop-side.side-index c.side-item.result c.loop-side-test.true c.side-item.is c.loop-side.invariant.left c.requires.tags;
  small = tag_is_small c.args.left c.args.sides.now c.loop-side.left c.loop-side.side-index c.side-item.result c.loop-side-test.true c.side-item.is c.loop-side.invariant.left c.requires.tags;
}

pub loop-side-preserved : goal.loop-side-preserved
loop-side-preserved c =
    let piece = cut_of c.loop-side.left c.in_ok-piece.piece c.cut.new.self c.reversed.result c.side-item.result c.in_ok-cut.field-0 c.in_ok-piece.ensures.equal c.reversed.ensures c.in_ok-cut.ensures.cut in record {
      left = met_more c.args.left c.args.sides.now c.loop-side.left c.loop-side.side-index c.side-item.result c.loop-side-test.true c.side-item.is c.loop-side.invariant.left c.cut-in-loop-side.new.self c.in_ok-cut-2.field-0 c.in_ok-cut-2.ensures.cut c.if-not-branch.false;
      pieces = elim c.if-branch.branch [
        | then-branch+in_ok-push w ↦ let q = w.pieces-is in let r = w.in_ok-push.ensures.items in subst (HasSoFar c.args.left c.args.sides.now (c.loop-side.side-index + 1)) (cc)
            (with_piece c.args.left c.args.sides.now c.loop-side.left c.loop-side.side-index c.side-item.result c.loop-side-test.true c.side-item.is c.loop-side.invariant.left c.loop-side.pieces.items c.loop-side.invariant.pieces c.cut.new.self c.in_ok-cut.field-0 piece w.if-branch.true)
        | else-branch w ↦ let q = w.pieces-is in subst (HasSoFar c.args.left c.args.sides.now (c.loop-side.side-index + 1)) (cc)
            (without_piece c.args.left c.args.sides.now c.loop-side.left c.loop-side.side-index c.side-item.result c.loop-side-test.true c.side-item.is c.loop-side.invariant.left c.loop-side.pieces.items c.loop-side.invariant.pieces c.cut.new.self c.in_ok-cut.field-0 piece w.if-branch.false)
      ];
    }

pub returns-then-not-branch : goal.returns-then-not-branch
returns-then-not-branch c = none_met c.args.left c.args.sides.now c.loop-side.left c.loop-side.side-index c.side-item.result c.loop-side-test.true c.side-item.is c.loop-side.invariant.left c.cut-in-loop-side.new.self c.in_ok-cut-2.field-0 c.in_ok-cut-2.ensures.cut c.if-not-branch.true

pub returns : goal.returns
returns c = all_pieces c.args.left c.args.sides.now c.loop-side.left c.loop-side.side-index c.loop-side.pieces.items c.loop-side-test.false c.loop-side.invariant.left c.loop-side.invariant.pieces
