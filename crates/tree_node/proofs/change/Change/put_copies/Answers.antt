use Rattle.std.proofs.Common.{length, map, ap, ap₂, sym, subst, ◌∙◌, arith}
use Rattle.std.proofs.lemmas.List.{length_push, length-map}
use Rattle.std.proofs.lemmas.Iterator.Adapters.{YieldsList-from_vec}
use Rattle.std.proofs.lemmas.Iterator.Consumers.{YieldsList-turn, YieldsList-end}
use Rattle.map_nodes.specs.Nodes.{number_in}
use Rattle.map_model.specs.Tree.{whole}
use Rattle.map_model.specs.Edits.{draw, swap, put_in, renumber, renumbered, numbered_from, each_in_turn}
use Rattle.tree_node.proofs.Turns.{Drawing, drawn_one, drawn_all, item_of_map}
use Rattle.tree_node.proofs.change.Change.put_copies.Goals as goal

pub loop-node-preserved : goal.loop-node-preserved
loop-node-preserved c =
    let nodes = c.args.nodes.items in
    let old = c.args.self.now in
    let change = renumber (number_in c.in_ok-table.table) in
    let g = c.into_iter-node-iterator.ensures.into_iter_gives in
    let t = YieldsList-turn (YieldsList-from_vec {s = c.into_iter-node-iterator.result} nodes g.0 (g.1 ∙ c.args.nodes.ok.0)) c.loop-node.yielded c.loop-node.node-iterator c.loop-node.yielded_by c.next.result c.next.new.self c.in-Some.node c.in-Some.is c.next.ensures.steps in
    let k = length c.loop-node.yielded in
    let lt = t.0 in
    subst (λ n. Drawing (map change nodes) n old c.draw_node.new.self) (sym (length_push c.loop-node.yielded c.in-Some.node))
    (drawn_one (map change nodes) k old c.loop-node.self c.draw_node.new.self (change c.in-Some.node) (omega (arith, lt, length-map nodes change)) c.loop-node.invariant c.in_ok-draw_node.ensures.next
    (λ m. c.in_ok-draw_node.ensures.drawn m ∙ ap (λ x. draw x (swap m c.loop-node.self)) (c.in_ok-renumber.ensures.ok ∙ item_of_map change nodes k c.in-Some.node t.1)))

pub returns : goal.returns
returns c =
    let nodes = c.args.nodes.items in
    let ids = c.args.ids.now in
    let old = c.args.self.now in
    let w = swap (whole c.args.map.now) old in
    let change = renumber (number_in c.in_ok-table.table) in
    let g = c.into_iter-node-iterator.ensures.into_iter_gives in
    let t = YieldsList-end (YieldsList-from_vec {s = c.into_iter-node-iterator.result} nodes g.0 (g.1 ∙ c.args.nodes.ok.0)) c.loop-node.yielded c.loop-node.node-iterator c.loop-node.yielded_by c.next.result c.next.new.self c.in-None.is c.next.ensures.steps in
    let all = t.1 in
    let first = ap (λ d. d.next) c.self.view_is in
    c.in_ok-put_in.ensures ∙ ap₂ (put_in c.args.place) first
    (drawn_all (map change nodes) (length c.loop-node.yielded) old c.loop-node.self (omega (arith, all, length-map nodes change)) c.loop-node.invariant (whole c.args.map.now)
    ∙ (λ i. each_in_turn draw (map (renumber (λ q. (c.in_ok-table.ensures q ∙ ap (λ n. renumbered (numbered_from n ids) q) first) i)) nodes) w))
