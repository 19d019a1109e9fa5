use Rattle.std.proofs.Common.{◌++◌, ap, sym, subst, ◌∙◌, arith, option_to_list}
use Rattle.map_model.specs.Tree.{whole}
use Rattle.map_model.specs.Edits.{swap}
use Rattle.tree_node.proofs.Walks.{Walking, walk_on, walk_past, lighter_on, lighter_past}
use Rattle.tree_node.proofs.change.Change.preorder.Goals as goal

pub loop-top-smaller-in-Continue-branch-3 : goal.loop-top-smaller-in-Continue-branch-3
loop-top-smaller-in-Continue-branch-3 c =
    lighter_on (swap (whole c.args.map.now) c.args.self.now) c.loop-top.waiting.items c.pop.new.self.items c.push_children.new.waiting.items c.in-Some.top c.if-top-gt0.true
    (c.pop.ensures.items ∙ ap (λ o. c.pop.new.self.items ++ option_to_list o) c.in-Some.is) c.in_ok-push_children.ensures

pub loop-top-preserved-in-Continue-branch-3 : goal.loop-top-preserved-in-Continue-branch-3
loop-top-preserved-in-Continue-branch-3 c =
    let m = swap (whole c.args.map.now) c.args.self.now in
    subst (λ l. Walking m c.args.id l c.push_children.new.waiting.items) (sym c.in_ok-push-2.ensures.items)
    (walk_on m c.args.id c.loop-top.found.items c.loop-top.waiting.items c.pop.new.self.items c.push_children.new.waiting.items c.in-Some.top c.if-top-gt0.true
    (c.pop.ensures.items ∙ ap (λ o. c.pop.new.self.items ++ option_to_list o) c.in-Some.is) c.in_ok-push_children.ensures c.loop-top.invariant)

pub loop-top-smaller : goal.loop-top-smaller
loop-top-smaller c =
    lighter_past (swap (whole c.args.map.now) c.args.self.now) c.loop-top.waiting.items c.pop.new.self.items c.in-Some.top (omega (arith, c.if-top-gt0.false))
    (c.pop.ensures.items ∙ ap (λ o. c.pop.new.self.items ++ option_to_list o) c.in-Some.is)

pub loop-top-preserved : goal.loop-top-preserved
loop-top-preserved c =
    walk_past (swap (whole c.args.map.now) c.args.self.now) c.args.id c.loop-top.found.items c.loop-top.waiting.items c.pop.new.self.items c.in-Some.top (omega (arith, c.if-top-gt0.false))
    (c.pop.ensures.items ∙ ap (λ o. c.pop.new.self.items ++ option_to_list o) c.in-Some.is) c.loop-top.invariant
