use Rattle.std.proofs.Common.{◌+◌, [], length, get_or, take, take_all, set, sym, subst, arith}
use Rattle.tree_file.specs.Passes.{ChildCounts}
use Rattle.tree_file.proofs.Kept.{in_list}
use Rattle.tree_file.proofs.EmptyGroups.{counted_few, counted_more}
use Rattle.tree_file.proofs.empty.add_children.Goals as goal

pub bounds-counts-parent : goal.bounds-counts-parent
bounds-counts-parent c =
    let w = (c.requires.within c.item-item.result (in_list c.args.items.now c.loop-item.item-index c.item-item.result c.loop-item-test.true c.item-item.is)).1 in
    let is = c.parent.ensures in
    let long = c.loop-item.invariant.count in
    omega (arith, w, is, long)

pub overflow_add-counts : goal.overflow_add-counts
overflow_add-counts c =
    let K = c.args.items.now in
    let w = (c.requires.within c.item-item.result (in_list K c.loop-item.item-index c.item-item.result c.loop-item-test.true c.item-item.is)).1 in
    let is = c.parent.ensures in
    let here = c.loop-item-test.true in
    let few = counted_few K c.loop-item.item-index c.loop-item.counts (omega (arith, here)) c.loop-item.invariant c.parent.result (omega (arith, w, is)) in
    omega (arith, few, here, c.requires.few)

pub bounds-counts-parent-in-loop-item : goal.bounds-counts-parent-in-loop-item
bounds-counts-parent-in-loop-item c =
    let w = (c.requires.within c.item-item.result (in_list c.args.items.now c.loop-item.item-index c.item-item.result c.loop-item-test.true c.item-item.is)).1 in
    let is = c.parent.ensures in
    let long = c.loop-item.invariant.count in
    omega (arith, w, is, long)

pub loop-item-preserved : goal.loop-item-preserved
loop-item-preserved c =
    let K = c.args.items.now in
    let i = c.loop-item.item-index in
    let x = c.item-item.result in
    let counts = c.loop-item.counts in
    let w = (c.requires.within x (in_list K i x c.loop-item-test.true c.item-item.is)).1 in
    subst (λ p. ChildCounts (length K) (take (i + 1) K) [] (set counts p (get_or counts p 0 + 1))) (sym c.parent.ensures)
    (counted_more K i x counts c.loop-item-test.true c.item-item.is w c.loop-item.invariant)

pub returns : goal.returns
returns c = subst (λ l. ChildCounts (length c.args.items.now) l [] c.loop-item.counts) (take_all c.loop-item.item-index c.args.items.now c.loop-item-test.false) c.loop-item.invariant
