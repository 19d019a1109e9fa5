use Rattle.std.proofs.Common.{◌++◌, ◌∷◌, [], cond, false, length, map, take, take_all, get_or, ap, sym, ◌∙◌, arith}
use Rattle.std.proofs.lemmas.List.{length_push}
use Rattle.std.proofs.lemmas.Iterator.Adapters.{YieldsList-from_vec}
use Rattle.std.proofs.lemmas.Iterator.Consumers.{YieldsList-turn, YieldsList-end}
use Rattle.file_laws.specs.Build.{item, first_parents}
use Rattle.tree_file.proofs.Kept.{map_more}
use Rattle.tree_file.proofs.InPlaces.{place_at, flags_length, parents_length, item_is}
use Rattle.tree_file.proofs.items.items_of.Goals as goal

pub parent_of-parent-requires-clause-parents : goal.parent_of-parent-requires-clause-parents
parent_of-parent-requires-clause-parents c =
    let rs = c.args.readings.items in
    let g = c.into_iter-reading-iterator.ensures.into_iter_gives in
    let t = YieldsList-turn (YieldsList-from_vec {s = c.into_iter-reading-iterator.result} rs g.0 (g.1 ∙ c.args.readings.ok.0)) c.loop-reading.yielded c.loop-reading.reading-iterator c.loop-reading.yielded_by c.next.result c.next.new.self c.in-Some.reading c.in-Some.is c.next.ensures.steps in
    let w = t.0 in
    let here = place_at rs c.requires.in_place (length c.loop-reading.yielded) c.in-Some.reading t.0 t.1 in
    let long = ap length c.requires.parents ∙ parents_length rs in
    let is = c.place.ensures in
    omega (arith, w, here, long, is)

pub parent_of-parent-requires-clause-breaks : goal.parent_of-parent-requires-clause-breaks
parent_of-parent-requires-clause-breaks c =
    let rs = c.args.readings.items in
    let g = c.into_iter-reading-iterator.ensures.into_iter_gives in
    let t = YieldsList-turn (YieldsList-from_vec {s = c.into_iter-reading-iterator.result} rs g.0 (g.1 ∙ c.args.readings.ok.0)) c.loop-reading.yielded c.loop-reading.reading-iterator c.loop-reading.yielded_by c.next.result c.next.new.self c.in-Some.reading c.in-Some.is c.next.ensures.steps in
    let w = t.0 in
    let here = place_at rs c.requires.in_place (length c.loop-reading.yielded) c.in-Some.reading t.0 t.1 in
    let long = flags_length rs c.args.breaks.now c.requires.breaks in
    let is = c.place.ensures in
    omega (arith, w, here, long, is)

pub loop-reading-preserved : goal.loop-reading-preserved
loop-reading-preserved c =
    let rs = c.args.readings.items in
    let g = c.into_iter-reading-iterator.ensures.into_iter_gives in
    let t = YieldsList-turn (YieldsList-from_vec {s = c.into_iter-reading-iterator.result} rs g.0 (g.1 ∙ c.args.readings.ok.0)) c.loop-reading.yielded c.loop-reading.reading-iterator c.loop-reading.yielded_by c.next.result c.next.new.self c.in-Some.reading c.in-Some.is c.next.ensures.steps in
    let ps = c.args.parents.now in
    let breaks = c.args.breaks.now in
    let i = length c.loop-reading.yielded in
    let r = c.in-Some.reading in
    let same = item_is rs c.requires.in_place ps c.requires.parents breaks c.requires.breaks i r t.0 t.1 c.of.result c.of.ensures.reading
    (c.of.ensures.parent ∙ c.parent_of-parent.ensures ∙ (λ j. cond (get_or breaks (c.place.ensures j) false) 0 (get_or ps (c.place.ensures j) 0))) in
    c.in_ok-push.ensures.items ∙ (λ j. c.loop-reading.invariant j ++ (sym same) j ∷ [])
    ∙ sym (ap (λ n. map (item rs (first_parents rs)) (take n rs)) (length_push c.loop-reading.yielded r) ∙ map_more (item rs (first_parents rs)) rs i r t.0 t.1)

pub returns : goal.returns
returns c =
    let rs = c.args.readings.items in
    let g = c.into_iter-reading-iterator.ensures.into_iter_gives in
    let t = YieldsList-end (YieldsList-from_vec {s = c.into_iter-reading-iterator.result} rs g.0 (g.1 ∙ c.args.readings.ok.0)) c.loop-reading.yielded c.loop-reading.reading-iterator c.loop-reading.yielded_by c.next.result c.next.new.self c.in-None.is c.next.ensures.steps in
    let all = t.1 in
    c.loop-reading.invariant ∙ ap (map (item rs (first_parents rs))) (take_all (length c.loop-reading.yielded) rs (omega (arith, all)))
