use Rattle.std.proofs.Common.{arith, refl, length, sym, subst, ◌∙◌}
use Rattle.std.proofs.lemmas.List.{length_push}
use Rattle.std.proofs.lemmas.Iterator.Adapters.{YieldsList-from_vec}
use Rattle.std.proofs.lemmas.Iterator.Consumers.{YieldsList-turn, YieldsList-end}
use Rattle.tree_node.specs.Held.{changed}
use Rattle.hollow_plans.proofs.PuttingWalls.{Placing, room_for, placed_one, placed_all}
use Rattle.hollow_plans.proofs.placing.put_walls.Goals as goal

pub loop-one-init : goal.loop-one-init
loop-one-init c = record { rest = refl; room = c.requires.room }

pub put_one-requires : goal.put_one-requires
put_one-requires c =
    let list = c.args.hollowed.items in
    let g = c.into_iter-one-iterator.ensures.into_iter_gives in
    let t = YieldsList-turn (YieldsList-from_vec {s = c.into_iter-one-iterator.result} list g.0 (g.1 ∙ c.args.hollowed.ok.0)) c.loop-one.yielded c.loop-one.one-iterator c.loop-one.yielded_by c.next.result c.next.new.self c.in-Some.one c.in-Some.is c.next.ensures.steps in
    record { room = room_for list (length c.loop-one.yielded) (changed c.args.map.now c.args.change.now) (changed c.args.map.now c.loop-one.change) c.in-Some.one t.0 t.1 c.loop-one.invariant }

pub loop-one-preserved : goal.loop-one-preserved
loop-one-preserved c =
    let list = c.args.hollowed.items in
    let g = c.into_iter-one-iterator.ensures.into_iter_gives in
    let t = YieldsList-turn (YieldsList-from_vec {s = c.into_iter-one-iterator.result} list g.0 (g.1 ∙ c.args.hollowed.ok.0)) c.loop-one.yielded c.loop-one.one-iterator c.loop-one.yielded_by c.next.result c.next.new.self c.in-Some.one c.in-Some.is c.next.ensures.steps in
    let k = length c.loop-one.yielded in
    let start = changed c.args.map.now c.args.change.now in
    subst (λ n. Placing list n start (changed c.args.map.now c.put_one.new.change)) (sym (length_push c.loop-one.yielded c.in-Some.one))
    (placed_one list k start (changed c.args.map.now c.loop-one.change) c.in-Some.one t.0 t.1 c.loop-one.invariant (changed c.args.map.now c.put_one.new.change) c.in_ok-put_one.ensures)

pub returns : goal.returns
returns c =
    let list = c.args.hollowed.items in
    let g = c.into_iter-one-iterator.ensures.into_iter_gives in
    let t = YieldsList-end (YieldsList-from_vec {s = c.into_iter-one-iterator.result} list g.0 (g.1 ∙ c.args.hollowed.ok.0)) c.loop-one.yielded c.loop-one.one-iterator c.loop-one.yielded_by c.next.result c.next.new.self c.in-None.is c.next.ensures.steps in
    placed_all list (length c.loop-one.yielded) (changed c.args.map.now c.args.change.now) (changed c.args.map.now c.loop-one.change) (omega (arith, t.1)) c.loop-one.invariant
