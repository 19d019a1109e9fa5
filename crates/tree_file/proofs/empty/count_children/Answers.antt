use Rattle.std.proofs.Common.{[], length, sym, subst, ◌∙◌, arith}
use Rattle.tree_file.specs.Passes.{ChildCounts}
use Rattle.tree_file.proofs.EmptyGroups.{none_counted, written_back}
use Rattle.tree_file.proofs.empty.count_children.Goals as goal

pub add_children-requires-clause-none : goal.add_children-requires-clause-none
add_children-requires-clause-none c =
    subst (ChildCounts (length c.args.items.now) [] []) (sym (c.deref_mut.ensures.value ∙ c.in_ok-counts.ensures.items_if_clones_equal (λ y h. h))) (none_counted (length c.args.items.now))

pub returns : goal.returns
returns c =
    let n = c.add_children.ensures.count in
    let size = c.in_ok-counts.ensures.len in
    let long = c.in_ok-counts.counts.ok.0 in
    subst (ChildCounts (length c.args.items.now) c.args.items.now [])
    (sym (written_back c.in_ok-counts.counts.len c.in_ok-counts.counts.items c.add_children.new.counts (omega (arith, n, size, long)) (omega (arith, long))))
    c.add_children.ensures
