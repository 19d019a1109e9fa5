use Rattle.std.proofs.Common.{◌≡◌, None, length, map, ap, sym, subst, ◌∙◌, arith}
use Rattle.std.proofs.lemmas.List.{length_push, length-map}
use Rattle.std.proofs.lemmas.Iterator.Adapters.{YieldsList-from_vec}
use Rattle.std.proofs.lemmas.Iterator.Consumers.{YieldsList-turn}
use Rattle.map_model.specs.Tree.{Brush, numbers_from}
use Rattle.map_model.specs.Edits.{draw, swap}
use Rattle.tree_node.proofs.Turns.{Drawing, drawn_one, numbers_next, item_of_map}
use Rattle.tree_node.proofs.change.Change.draw_brushes.Goals as goal

pub loop-body-preserved : goal.loop-body-preserved
loop-body-preserved c =
    let bs = c.args.bodies.items in
    let old = c.args.self.now in
    let g = c.into_iter-body-iterator.ensures.into_iter_gives in
    let t = YieldsList-turn (YieldsList-from_vec {s = c.into_iter-body-iterator.result} bs g.0 (g.1 ∙ c.args.bodies.ok.0)) c.loop-body.yielded c.loop-body.body-iterator c.loop-body.yielded_by c.next.result c.next.new.self c.in-Some.body c.in-Some.is c.next.ensures.steps in
    let k = length c.loop-body.yielded in
    let one = length_push c.loop-body.yielded c.in-Some.body in
    let i = c.loop-body.invariant in
    record {
      numbers = subst (λ n. c.push.new.self.items ≡ numbers_from old.next n) (sym one)
          (numbers_next c.loop-body.ids.items c.push.new.self.items old.next k c.in_ok-id.id i.numbers c.in_ok-push.ensures.items (c.in_ok-id.ensures.number ∙ i.drawing.next));
      drawing = subst (λ n. Drawing (map (Brush c.args.place None) bs) n old c.draw_node.new.self) (sym one)
          (drawn_one (map (Brush c.args.place None) bs) k old c.loop-body.self c.draw_node.new.self (Brush c.args.place None c.in-Some.body) (omega (arith, t.0, length-map bs (Brush c.args.place None))) i.drawing c.in_ok-id.ensures.next
          (λ m. c.in_ok-id.ensures.drawn m ∙ ap (λ x. draw x (swap m c.loop-body.self)) (item_of_map (Brush c.args.place None) bs k c.in-Some.body t.1)));
    }
