use Rattle.std.proofs.Common.{Ok, ◌+◌, arith, length, sym, subst, ◌∙◌}
use Rattle.std.proofs.lemmas.List.{length_push}
use Rattle.std.proofs.lemmas.Iterator.Adapters.{YieldsList-from_vec}
use Rattle.std.proofs.lemmas.Iterator.Consumers.{YieldsList-turn, YieldsList-end}
use Rattle.vertex_plans.specs.Snaps.{AreFew}
use Rattle.vertex_plans.proofs.SnapLists.{Keeping, none_kept, one_kept, keeping_stops, all_kept}
use Rattle.vertex_plans.proofs.sorting.few.Goals as goal

pub loop-one-init : goal.loop-one-init
loop-one-init c = none_kept c.args.list c.new-bodies.result.items c.new-bodies.ensures.items

pub loop-one-preserved : goal.loop-one-preserved
loop-one-preserved c =
    let list = c.into_vec-one-items.result.items in
    let e = c.into_vec-one-items.ensures in
    let g = c.into_iter-one-iterator.ensures.into_iter_gives in
    let k = length c.loop-one.yielded in
    let so_far = subst (λ l. Keeping l k c.loop-one.bodies.items) (sym e) c.loop-one.invariant in
    let t = YieldsList-turn (YieldsList-from_vec {s = c.into_iter-one-iterator.result} list g.0 (g.1 ∙ c.into_vec-one-items.result.ok.0)) c.loop-one.yielded c.loop-one.one-iterator c.loop-one.yielded_by c.next.result c.next.new.self c.in-Some.one c.in-Some.is c.next.ensures.steps in
    let next = one_kept list k c.loop-one.bodies.items c.in-Some.one t.0 t.1 so_far c.keep.new.bodies.items c.in_ok-keep.ensures.0 c.in_ok-keep.ensures.1 in
    subst (λ n. Keeping c.args.list n c.keep.new.bodies.items) (sym (length_push c.loop-one.yielded c.in-Some.one)) (subst (λ l. Keeping l (k + 1) c.keep.new.bodies.items) e next)

pub returns-in_err-keep : goal.returns-in_err-keep
returns-in_err-keep c =
    let list = c.into_vec-one-items.result.items in
    let e = c.into_vec-one-items.ensures in
    let g = c.into_iter-one-iterator.ensures.into_iter_gives in
    let k = length c.loop-one.yielded in
    let so_far = subst (λ l. Keeping l k c.loop-one.bodies.items) (sym e) c.loop-one.invariant in
    let t = YieldsList-turn (YieldsList-from_vec {s = c.into_iter-one-iterator.result} list g.0 (g.1 ∙ c.into_vec-one-items.result.ok.0)) c.loop-one.yielded c.loop-one.one-iterator c.loop-one.yielded_by c.next.result c.next.new.self c.in-Some.one c.in-Some.is c.next.ensures.steps in
    subst (λ l. AreFew l c.from_residual.result) e
    (keeping_stops list k c.loop-one.bodies.items c.in-Some.one t.0 t.1 so_far c.in_err-keep.field-0.0 c.loop-one.bodies.items c.keep.new.bodies.items c.from_residual.result c.from_residual.ensures.1 c.in_err-keep.ensures)

pub returns : goal.returns
returns c =
    let list = c.into_vec-one-items.result.items in
    let e = c.into_vec-one-items.ensures in
    let g = c.into_iter-one-iterator.ensures.into_iter_gives in
    let k = length c.loop-one.yielded in
    let so_far = subst (λ l. Keeping l k c.loop-one.bodies.items) (sym e) c.loop-one.invariant in
    let t = YieldsList-end (YieldsList-from_vec {s = c.into_iter-one-iterator.result} list g.0 (g.1 ∙ c.into_vec-one-items.result.ok.0)) c.loop-one.yielded c.loop-one.one-iterator c.loop-one.yielded_by c.next.result c.next.new.self c.in-None.is c.next.ensures.steps in
    subst (λ l. AreFew l (Ok c.of.result)) e (all_kept list k c.loop-one.bodies.items c.of.result (omega (arith, t.1)) so_far c.of.ensures)
