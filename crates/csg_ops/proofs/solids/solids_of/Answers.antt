use Rattle.std.proofs.Common.{length, ◌∙◌}
use Rattle.std.proofs.lemmas.Iterator.Adapters.{YieldsList-from_vec}
use Rattle.std.proofs.lemmas.Iterator.Consumers.{YieldsList-turn, YieldsList-end}
use Rattle.solid_brush.proofs.Meeting.{passed_on}
use Rattle.csg_ops.specs.Faults.{IsOneOverfull}
use Rattle.csg_ops.proofs.Overfull.{none_first, one_first, all_first, one_overfull}
use Rattle.csg_ops.proofs.solids.solids_of.Goals as goal

pub loop-block-init : goal.loop-block-init
loop-block-init c = none_first c.args.blocks.items c.new-solids.result.items c.new-solids.ensures.items

pub loop-block-preserved : goal.loop-block-preserved
loop-block-preserved c =
    let blocks = c.args.blocks.items in
    let g = c.into_iter-block-iterator.ensures.into_iter_gives in
    let t = YieldsList-turn (YieldsList-from_vec {s = c.into_iter-block-iterator.result} blocks g.0 (g.1 ∙ c.args.blocks.ok.0)) c.loop-block.yielded c.loop-block.block-iterator c.loop-block.yielded_by c.next.result c.next.new.self c.in-Some.block c.in-Some.is c.next.ensures.steps in
    one_first blocks c.loop-block.yielded c.loop-block.solids.items c.push.new.self.items c.in-Some.block c.in_ok-solid.solid c.loop-block.invariant t.0 t.1 c.in_ok-solid.ensures.same c.in_ok-solid.ensures.solid c.in_ok-push.ensures.items

pub returns-in_err-solid-clause-fault : goal.returns-in_err-solid-clause-fault
returns-in_err-solid-clause-fault c =
    let blocks = c.args.blocks.items in
    let g = c.into_iter-block-iterator.ensures.into_iter_gives in
    let t = YieldsList-turn (YieldsList-from_vec {s = c.into_iter-block-iterator.result} blocks g.0 (g.1 ∙ c.args.blocks.ok.0)) c.loop-block.yielded c.loop-block.block-iterator c.loop-block.yielded_by c.next.result c.next.new.self c.in-Some.block c.in-Some.is c.next.ensures.steps in
    let why = c.in_err-solid.field-0.0 in
    passed_on (IsOneOverfull blocks) c.from_residual.result why c.from_residual.ensures.1
    (one_overfull blocks c.loop-block.solids.items (length c.loop-block.yielded) c.in-Some.block why c.loop-block.invariant t.0 t.1 c.in_err-solid.ensures.fault)

pub returns : goal.returns
returns c =
    let blocks = c.args.blocks.items in
    let g = c.into_iter-block-iterator.ensures.into_iter_gives in
    let t = YieldsList-end (YieldsList-from_vec {s = c.into_iter-block-iterator.result} blocks g.0 (g.1 ∙ c.args.blocks.ok.0)) c.loop-block.yielded c.loop-block.block-iterator c.loop-block.yielded_by c.next.result c.next.new.self c.in-None.is c.next.ensures.steps in record {
      same = all_first blocks c.loop-block.solids.items (length c.loop-block.yielded) c.loop-block.invariant t.1;
      solids = c.loop-block.invariant.solid;
      fault = tt;
    }
