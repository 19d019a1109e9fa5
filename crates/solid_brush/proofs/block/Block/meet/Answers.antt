use Rattle.std.proofs.Common.{subst, sym, append-nil, ◌++◌}
use Rattle.solid_brush.specs.Blocks.{IsTrimmedTo}
use Rattle.solid_brush.proofs.Meeting.{met_at_start, tag_is_new, tag_is_small, met_more, none_met, all_met}
use Rattle.solid_brush.proofs.block.Block.meet.Goals as goal

pub loop-side-init : goal.loop-side-init
loop-side-init c = record {
  left = met_at_start c.self.inside.poly c.args.self c.args.more.now c.self.invariant c.self.view_is;
  further = λ all t. subst (λ l. IsTrimmedTo l c.args.self) (sym (append-nil all)) t;
}

pub cut-requires : goal.cut-requires
cut-requires c = record {
  new = tag_is_new c.args.self c.args.more.now c.loop-side.self c.loop-side.side-index c.side-item.result c.loop-side-test.true c.side-item.is c.loop-side.invariant.left c.requires.tags;
  small = tag_is_small c.args.self c.args.more.now c.loop-side.self c.loop-side.side-index c.side-item.result c.loop-side-test.true c.side-item.is c.loop-side.invariant.left c.requires.tags;
}

pub loop-side-preserved : goal.loop-side-preserved
loop-side-preserved c = record {
  left = met_more c.args.self c.args.more.now c.loop-side.self c.loop-side.side-index c.side-item.result c.loop-side-test.true c.side-item.is c.loop-side.invariant.left c.cut.new.self c.in_ok-cut.field-0 c.in_ok-cut.ensures.cut c.if-not-branch.false;
  further = λ all t. met_more all c.args.more.now c.loop-side.self c.loop-side.side-index c.side-item.result c.loop-side-test.true c.side-item.is (c.loop-side.invariant.further all t) c.cut.new.self c.in_ok-cut.field-0 c.in_ok-cut.ensures.cut c.if-not-branch.false;
}

pub returns-then-not-branch : goal.returns-then-not-branch
returns-then-not-branch c = record {
  left = none_met c.args.self c.args.more.now c.loop-side.self c.loop-side.side-index c.side-item.result c.loop-side-test.true c.side-item.is c.loop-side.invariant.left c.cut.new.self c.in_ok-cut.field-0 c.in_ok-cut.ensures.cut c.if-not-branch.true;
  further = λ all t. none_met all c.args.more.now c.loop-side.self c.loop-side.side-index c.side-item.result c.loop-side-test.true c.side-item.is (c.loop-side.invariant.further all t) c.cut.new.self c.in_ok-cut.field-0 c.in_ok-cut.ensures.cut c.if-not-branch.true;
}

pub returns : goal.returns
returns c = record {
  left = all_met c.args.self c.args.more.now c.loop-side.self c.loop-side.side-index c.loop-side-test.false c.loop-side.invariant.left;
  further = λ all t. all_met all c.args.more.now c.loop-side.self c.loop-side.side-index c.loop-side-test.false (c.loop-side.invariant.further all t);
}
