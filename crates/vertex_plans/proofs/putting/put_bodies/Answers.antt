use Rattle.std.proofs.Common.{arith, refl, length, sym, subst, ◌∙◌, ◌≡◌, drop}
use Rattle.std.proofs.lemmas.List.{length_push}
use Rattle.std.proofs.lemmas.Iterator.Adapters.{YieldsList-from_vec}
use Rattle.std.proofs.lemmas.Iterator.Consumers.{YieldsList-turn, YieldsList-end}
use Rattle.map_model.specs.Edits.{each_in_turn}
use Rattle.tree_node.specs.Held.{changed}
use Rattle.vertex_plans.specs.Putting.{put_body}
use Rattle.vertex_plans.proofs.Bodies.{put_one, put_all}
use Rattle.vertex_plans.proofs.putting.put_bodies.Goals as goal

pub loop-remade-init : goal.loop-remade-init
loop-remade-init c = refl

pub loop-remade-preserved : goal.loop-remade-preserved
loop-remade-preserved c =
    let list = c.args.bodies.items in
    let g = c.into_iter-remade-iterator.ensures.into_iter_gives in
    let t = YieldsList-turn (YieldsList-from_vec {s = c.into_iter-remade-iterator.result} list g.0 (g.1 ∙ c.args.bodies.ok.0)) c.loop-remade.yielded c.loop-remade.remade-iterator c.loop-remade.yielded_by c.next.result c.next.new.self c.in-Some.remade c.in-Some.is c.next.ensures.steps in
    let k = length c.loop-remade.yielded in
    let start = changed c.args.map.now c.args.change.now in
    subst (λ n. each_in_turn put_body (drop n list) (changed c.args.map.now c.put_one.new.change) ≡ each_in_turn put_body list start) (sym (length_push c.loop-remade.yielded c.in-Some.remade))
    (put_one list k start (changed c.args.map.now c.loop-remade.change) (changed c.args.map.now c.put_one.new.change) c.in-Some.remade t.0 t.1 c.loop-remade.invariant c.in_ok-put_one.ensures)

pub returns : goal.returns
returns c =
    let list = c.args.bodies.items in
    let g = c.into_iter-remade-iterator.ensures.into_iter_gives in
    let t = YieldsList-end (YieldsList-from_vec {s = c.into_iter-remade-iterator.result} list g.0 (g.1 ∙ c.args.bodies.ok.0)) c.loop-remade.yielded c.loop-remade.remade-iterator c.loop-remade.yielded_by c.next.result c.next.new.self c.in-None.is c.next.ensures.steps in
    put_all list (length c.loop-remade.yielded) (changed c.args.map.now c.args.change.now) (changed c.args.map.now c.loop-remade.change) (omega (arith, t.1)) c.loop-remade.invariant
