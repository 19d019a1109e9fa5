use Rattle.std.proofs.Common.{◌≡◌, ◌<◌, ◌++◌, [], length, get_or, set, take, flat_map, vec_len, ap, sym, subst, subst₂, ◌∙◌, arith}
use Rattle.std.proofs.lemmas.List.{length_push, length-set, with_items_is}
use Rattle.std.proofs.lemmas.Iterator.Adapters.{YieldsList-from_vec}
use Rattle.std.proofs.lemmas.Iterator.Consumers.{YieldsList-turn}
use Rattle.file_laws.specs.Build.{place_of, number_of, slots, slots_of}
use Rattle.tree_file.specs.Passes.{Numbers, bodies_of}
use Rattle.tree_file.specs.Slots.{placed_slots}
use Rattle.tree_file.proofs.Drawing.{sizes_are, sizes_few, number_fits, drawn, slots_more}
use Rattle.tree_file.proofs.Lying.{AreLeft, in_kept, left_more, taken_is}
use Rattle.tree_file.proofs.slots.slots.Goals as goal

pub overflow_cast-total : goal.overflow_cast-total
overflow_cast-total c =
    let kept = c.args.kept.items in
    let total : c.slot_count-total.result ≡ length (slots kept) = c.slot_count-total.ensures ∙ ap (λ l. length (slots l)) c.deref.ensures.value in
    let all = sizes_are kept kept in
    let most = sizes_few kept in
    omega (arith, total, all, most, c.requires.few)

pub take_list-others-requires : goal.take_list-others-requires
take_list-others-requires c =
    let kept = c.args.kept.items in
    let g = c.into_iter-item-iterator.ensures.into_iter_gives in
    let t = YieldsList-turn (YieldsList-from_vec {s = c.into_iter-item-iterator.result} kept g.0 (g.1 ∙ c.args.kept.ok.0)) c.loop-item.yielded c.loop-item.item-iterator c.loop-item.yielded_by c.next.result c.next.new.self c.in-Some.item c.in-Some.is c.next.ensures.steps in
    let within = c.requires.within c.in-Some.item (in_kept kept (length c.loop-item.yielded) c.in-Some.item t.0 t.1) in
    let here : c.place-place.result < c.args.places = subst (λ p. p < c.args.places) (sym c.place-place.ensures) within.0 in
    record { here = subst (λ n. c.place-place.result < n) (sym (ap length c.deref_mut.ensures.value ∙ c.loop-item.invariant.count)) here }

pub index-requires : goal.index-requires
index-requires c =
    let kept = c.args.kept.items in
    let g = c.into_iter-item-iterator.ensures.into_iter_gives in
    let t = YieldsList-turn (YieldsList-from_vec {s = c.into_iter-item-iterator.result} kept g.0 (g.1 ∙ c.args.kept.ok.0)) c.loop-item.yielded c.loop-item.item-iterator c.loop-item.yielded_by c.next.result c.next.new.self c.in-Some.item c.in-Some.is c.next.ensures.steps in
    let within = c.requires.within c.in-Some.item (in_kept kept (length c.loop-item.yielded) c.in-Some.item t.0 t.1) in
    let here : c.place-place.result < c.args.places = subst (λ p. p < c.args.places) (sym c.place-place.ensures) within.0 in
    let count : vec_len c.in_ok-numbers.numbers ≡ c.args.places = sym c.deref-4.ensures.len ∙ ap length c.deref-4.ensures.value ∙ c.in_ok-numbers.ensures.count in
    subst (λ n. c.place-place.result < n) (sym count) here

pub index-requires-in-loop-item : goal.index-requires-in-loop-item
index-requires-in-loop-item c =
    let kept = c.args.kept.items in
    let g = c.into_iter-item-iterator.ensures.into_iter_gives in
    let t = YieldsList-turn (YieldsList-from_vec {s = c.into_iter-item-iterator.result} kept g.0 (g.1 ∙ c.args.kept.ok.0)) c.loop-item.yielded c.loop-item.item-iterator c.loop-item.yielded_by c.next.result c.next.new.self c.in-Some.item c.in-Some.is c.next.ensures.steps in
    let within = c.requires.within c.in-Some.item (in_kept kept (length c.loop-item.yielded) c.in-Some.item t.0 t.1) in
    let here : c.into_parts-reading.result.1 < c.args.places = subst (λ p. p < c.args.places) (sym c.into_parts-reading.ensures.parent) within.1 in
    let count : vec_len c.in_ok-numbers.numbers ≡ c.args.places = sym c.deref-4.ensures.len ∙ ap length c.deref-4.ensures.value ∙ c.in_ok-numbers.ensures.count in
    subst (λ n. c.into_parts-reading.result.1 < n) (sym count) here

pub push_place-requires : goal.push_place-requires
push_place-requires c =
    let kept = c.args.kept.items in
    let g = c.into_iter-item-iterator.ensures.into_iter_gives in
    let t = YieldsList-turn (YieldsList-from_vec {s = c.into_iter-item-iterator.result} kept g.0 (g.1 ∙ c.args.kept.ok.0)) c.loop-item.yielded c.loop-item.item-iterator c.loop-item.yielded_by c.next.result c.next.new.self c.in-Some.item c.in-Some.is c.next.ensures.steps in
    let k = length c.loop-item.yielded in
    let i = c.in-Some.item in
    let within = c.requires.within i (in_kept kept k i t.0 t.1) in
    let numbers : Numbers c.args.places kept c.in_ok-numbers.numbers.items = subst (λ l. Numbers c.args.places l c.in_ok-numbers.numbers.items) c.deref-2.ensures.value c.in_ok-numbers.ensures in
    let number : c.index.result.now ≡ number_of kept (place_of i) = drawn kept c.in_ok-numbers.numbers.items c.args.places c.place-place.result (place_of i) c.index.result.now numbers c.place-place.ensures within.0 c.index.ensures in
    let same : length (bodies_of c.into_parts-reading.result.0.brushes) ≡ length (bodies_of i.reading.brushes) = ap (λ r. length (bodies_of r.brushes)) c.into_parts-reading.ensures.reading in
    let fits = number_fits kept k i c.requires.rising t.0 t.1 in
    let most = sizes_few kept in
    record { few = omega (arith, number, same, fits, most, c.requires.few) }

pub loop-item-preserved : goal.loop-item-preserved
loop-item-preserved c =
    let kept = c.args.kept.items in
    let g = c.into_iter-item-iterator.ensures.into_iter_gives in
    let t = YieldsList-turn (YieldsList-from_vec {s = c.into_iter-item-iterator.result} kept g.0 (g.1 ∙ c.args.kept.ok.0)) c.loop-item.yielded c.loop-item.item-iterator c.loop-item.yielded_by c.next.result c.next.new.self c.in-Some.item c.in-Some.is c.next.ensures.steps in
    let k = length c.loop-item.yielded in
    let i = c.in-Some.item in
    let one = length_push c.loop-item.yielded i in
    let lists = c.loop-item.lists.items in
    let within = c.requires.within i (in_kept kept k i t.0 t.1) in
    let table = c.in_ok-numbers.numbers.items in
    let numbers : Numbers c.args.places kept table = subst (λ l. Numbers c.args.places l table) c.deref-2.ensures.value c.in_ok-numbers.ensures in
    let number : c.index.result.now ≡ number_of kept (place_of i) = drawn kept table c.args.places c.place-place.result (place_of i) c.index.result.now numbers c.place-place.ensures within.0 c.index.ensures in
    let parent : c.index-in-loop-item.result.now ≡ number_of kept i.parent =
    drawn kept table c.args.places c.into_parts-reading.result.1 i.parent c.index-in-loop-item.result.now numbers c.into_parts-reading.ensures.parent within.1 c.index-in-loop-item.ensures in
    let others = c.take_list-others.ensures.taken ∙ (λ j. get_or (c.deref_mut.ensures.value j) (c.place-place.ensures j) []) ∙ taken_is kept k i lists t.0 t.1 c.loop-item.invariant.left in
    let left : c.take_list-others.new.lists ≡ set lists c.place-place.result [] = c.take_list-others.ensures.left ∙ ap (λ l. set l c.place-place.result []) c.deref_mut.ensures.value in
    let now = with_items_is c.loop-item.lists c.take_list-others.new.lists
    (ap length c.take_list-others.ensures.left ∙ length-set c.deref_mut.result.now c.place-place.result [] ∙ c.deref_mut.ensures.len) ∙ left in
    record {
      slots = c.in_ok-push_place.ensures
          ∙ (λ j. c.loop-item.invariant.slots j ++ placed_slots (number j) (parent j) (others j) (c.into_parts-reading.ensures.reading j))
          ∙ sym (slots_more kept kept k i t.0 t.1) ∙ ap (λ n. flat_map (slots_of kept) (take n kept)) (sym one);
      count = ap length now ∙ length-set lists c.place-place.result [] ∙ c.loop-item.invariant.count;
      left = subst₂ (λ n l. AreLeft kept n l) (sym one) (sym now) (left_more kept k i c.place-place.result lists c.requires.rising t.0 t.1 c.place-place.ensures c.loop-item.invariant.left);
    }
