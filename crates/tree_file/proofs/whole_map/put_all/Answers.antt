use Rattle.std.proofs.Common.{◌+◌, length, refl, ap, sym, subst, ◌∙◌, arith}
use Rattle.std.proofs.lemmas.List.{length_push}
use Rattle.std.proofs.lemmas.Iterator.Adapters.{YieldsList-from_vec}
use Rattle.std.proofs.lemmas.Iterator.Consumers.{YieldsList-turn, YieldsList-end}
use Rattle.tree_file.proofs.Filling.{Filling, fills_none, filled_one, filled_all}
use Rattle.tree_file.proofs.whole_map.put_all.Goals as goal

pub loop-slot-init : goal.loop-slot-init
loop-slot-init c = record { number = refl; filling = fills_none c.args.slots.items c.args.change.now }

pub overflow_add-number : goal.overflow_add-number
overflow_add-number c =
    let ss = c.args.slots.items in
    let g = c.into_iter-slot-iterator.ensures.into_iter_gives in
    let t = YieldsList-turn (YieldsList-from_vec {s = c.into_iter-slot-iterator.result} ss g.0 (g.1 ∙ c.args.slots.ok.0)) c.loop-slot.yielded c.loop-slot.slot-iterator c.loop-slot.yielded_by c.next.result c.next.new.self c.in-Some.slot c.in-Some.is c.next.ensures.steps in
    let lt = t.0 in
    omega (arith, lt, c.loop-slot.invariant.number, c.requires.few)

pub loop-slot-preserved : goal.loop-slot-preserved
loop-slot-preserved c =
    let ss = c.args.slots.items in
    let g = c.into_iter-slot-iterator.ensures.into_iter_gives in
    let t = YieldsList-turn (YieldsList-from_vec {s = c.into_iter-slot-iterator.result} ss g.0 (g.1 ∙ c.args.slots.ok.0)) c.loop-slot.yielded c.loop-slot.slot-iterator c.loop-slot.yielded_by c.next.result c.next.new.self c.in-Some.slot c.in-Some.is c.next.ensures.steps in
    let one = length_push c.loop-slot.yielded c.in-Some.slot in
    let i = c.loop-slot.invariant in
    record {
      number = ap (λ n. n + 1) i.number ∙ sym one;
      filling = subst (λ n. Filling ss n c.args.change.now c.put.new.self) (sym one)
          (filled_one ss (length c.loop-slot.yielded) c.loop-slot.number c.args.change.now c.loop-slot.change c.put.new.self c.in-Some.slot t.0 t.1 i.number i.filling
          c.in_ok-put.ensures.next c.in_ok-put.ensures.ok);
    }

pub returns-clause-put : goal.returns-clause-put
returns-clause-put c =
    let ss = c.args.slots.items in
    let g = c.into_iter-slot-iterator.ensures.into_iter_gives in
    let t = YieldsList-end (YieldsList-from_vec {s = c.into_iter-slot-iterator.result} ss g.0 (g.1 ∙ c.args.slots.ok.0)) c.loop-slot.yielded c.loop-slot.slot-iterator c.loop-slot.yielded_by c.next.result c.next.new.self c.in-None.is c.next.ensures.steps in
    let all = t.1 in
    filled_all ss (length c.loop-slot.yielded) c.args.change.now c.loop-slot.change (omega (arith, all)) c.loop-slot.invariant.filling

pub returns-clause-next : goal.returns-clause-next
returns-clause-next c = c.loop-slot.invariant.filling.next
