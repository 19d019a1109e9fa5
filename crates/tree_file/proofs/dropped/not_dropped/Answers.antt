use Rattle.std.proofs.Common.{not, false, filter, length, take, take_all, get_or, ap, sym, ◌∙◌, arith}
use Rattle.std.proofs.lemmas.List.{length_push, length-map}
use Rattle.std.proofs.lemmas.Iterator.Adapters.{YieldsList-from_vec}
use Rattle.std.proofs.lemmas.Iterator.Consumers.{YieldsList-turn, YieldsList-end}
use Rattle.file_laws.specs.Build.{place_of, is_dropped, kept_items}
use Rattle.tree_file.proofs.InPlaces.{stands_at}
use Rattle.tree_file.proofs.Raised.{flag_of, kept_next, not_dropped_kept}
use Rattle.tree_file.proofs.dropped.not_dropped.Goals as goal

pub bounds-drops-place : goal.bounds-drops-place
bounds-drops-place c =
    let K = c.args.items.items in
    let g = c.into_iter-item-iterator.ensures.into_iter_gives in
    let t = YieldsList-turn (YieldsList-from_vec {s = c.into_iter-item-iterator.result} K g.0 (g.1 ∙ c.args.items.ok.0)) c.loop-item.yielded c.loop-item.item-iterator c.loop-item.yielded_by c.next.result c.next.new.self c.in-Some.item c.in-Some.is c.next.ensures.steps in
    let w = t.0 in
    let here = stands_at place_of K c.requires.places (length c.loop-item.yielded) c.in-Some.item t.0 t.1 in
    let long = ap length c.requires.drops ∙ length-map K (is_dropped (kept_items K)) in
    let is = c.place.ensures in
    omega (arith, w, here, long, is)

pub loop-item-preserved : goal.loop-item-preserved
loop-item-preserved c =
    let K = c.args.items.items in
    let g = c.into_iter-item-iterator.ensures.into_iter_gives in
    let t = YieldsList-turn (YieldsList-from_vec {s = c.into_iter-item-iterator.result} K g.0 (g.1 ∙ c.args.items.ok.0)) c.loop-item.yielded c.loop-item.item-iterator c.loop-item.yielded_by c.next.result c.next.new.self c.in-Some.item c.in-Some.is c.next.ensures.steps in
    let i = length c.loop-item.yielded in
    let x = c.in-Some.item in
    let drops = c.args.drops.now in
    let f = is_dropped (kept_items K) in
    kept_next f K i x (get_or drops c.place.result false) c.loop-item.kept.items c.push_unless.new.kept.items t.0 t.1
    (ap (λ p. get_or drops p false) c.place.ensures ∙ flag_of K c.requires.places f drops c.requires.drops i x t.0 t.1) c.loop-item.invariant c.in_ok-push_unless.ensures
    ∙ ap (λ n. filter (λ j. not (f j)) (take n K)) (sym (length_push c.loop-item.yielded x))

pub returns : goal.returns
returns c =
    let K = c.args.items.items in
    let g = c.into_iter-item-iterator.ensures.into_iter_gives in
    let t = YieldsList-end (YieldsList-from_vec {s = c.into_iter-item-iterator.result} K g.0 (g.1 ∙ c.args.items.ok.0)) c.loop-item.yielded c.loop-item.item-iterator c.loop-item.yielded_by c.next.result c.next.new.self c.in-None.is c.next.ensures.steps in
    let all = t.1 in
    c.loop-item.invariant ∙ ap (filter (λ j. not (is_dropped (kept_items K) j))) (take_all (length c.loop-item.yielded) K (omega (arith, all))) ∙ not_dropped_kept K c.requires.places
