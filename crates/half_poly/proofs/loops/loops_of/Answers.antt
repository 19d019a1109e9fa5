use Rattle.std.proofs.Common.{sym, ap, ◌∙◌, map, length}
use Rattle.half_arena.specs.Slots.{contents}
use Rattle.std.proofs.lemmas.List.{length-map}
use Rattle.half_poly.specs.Noted.{entry}
use Rattle.half_poly.specs.Readings.{faces_of, points_of, face_at}
use Rattle.half_poly.proofs.Making.{is_some_of}
use Rattle.half_poly.proofs.Rounding.{vertex_slot, ids_distinct, ids_within, goes_on, least_first, has_first}
use Rattle.half_poly.proofs.LoopLists.{id_at, in_order, least_at, places_at, within_at, face_here, pushed_loops, pushed_count, loops_more}
use Rattle.half_poly.proofs.loops.loops_of.Goals as goal

pub places_of-requires-clause-distinct : goal.places_of-requires-clause-distinct
places_of-requires-clause-distinct c = ids_distinct c.requires.shape c.args.named.now c.requires.named

pub places_of-requires-clause-within : goal.places_of-requires-clause-within
places_of-requires-clause-within c = ids_within c.requires.shape c.args.named.now c.requires.named c.place_limit.result (λ x v q. c.place_limit.ensures.above x (is_some_of q))

pub unreachable-requires : goal.unreachable-requires
unreachable-requires c =
    let sh = c.requires.shape in let ids = c.args.named.now in let order = c.args.shape.now.order.items in
    let id = id_at c.deref-order.result.now c.loop-place.place in
    let m = in_order order c.deref-order.result.now c.loop-place.place c.deref-order.ensures.value c.loop-place-test.true in
    let numbers = c.in_ok-numbers.numbers.items in let table = c.deref-in-loop-place.result.now in
    has_first sh ids c.requires.named numbers c.in_ok-numbers.ensures id m table
    (least_at numbers c.deref.result.now c.in_ok-firsts.firsts.items table c.deref.ensures.value c.deref-in-loop-place.ensures.value c.in_ok-firsts.ensures.least)
    (within_at c.in_ok-firsts.firsts.items table c.place_limit-2.result id.0 c.deref-in-loop-place.ensures.value c.in_ok-firsts.ensures.length (c.place_limit-2.ensures.above id.0 (sh.listed id m)))
    (ap (λ k. entry table k) (sym c.place.ensures) ∙ sym c.entry.ensures ∙ c.in_default.is)

pub walk-requires-clause-goes_on : goal.walk-requires-clause-goes_on
walk-requires-clause-goes_on c =
    let sh = c.requires.shape in let ids = c.args.named.now in let order = c.args.shape.now.order.items in
    let id = id_at c.deref-order.result.now c.loop-place.place in
    let m = in_order order c.deref-order.result.now c.loop-place.place c.deref-order.ensures.value c.loop-place-test.true in
    goes_on sh ids c.requires.named c.deref-in-loop-place-2.result.now (places_at (map vertex_slot ids) c.in_ok-numbers.numbers.items c.deref-in-loop-place-2.result.now (length ids) c.deref-in-loop-place-2.ensures.value c.in_ok-numbers.ensures) id m

pub walk-requires-clause-least : goal.walk-requires-clause-least
walk-requires-clause-least c =
    let sh = c.requires.shape in let ids = c.args.named.now in let order = c.args.shape.now.order.items in
    let id = id_at c.deref-order.result.now c.loop-place.place in
    let m = in_order order c.deref-order.result.now c.loop-place.place c.deref-order.ensures.value c.loop-place-test.true in
    let numbers = c.deref-in-loop-place-2.result.now in let table = c.deref-in-loop-place.result.now in
    (least_first sh ids c.requires.named numbers (places_at (map vertex_slot ids) c.in_ok-numbers.numbers.items numbers (length ids) c.deref-in-loop-place-2.ensures.value c.in_ok-numbers.ensures) id m table
    (least_at numbers c.deref.result.now c.in_ok-firsts.firsts.items table (c.deref.ensures.value ∙ sym c.deref-in-loop-place-2.ensures.value) c.deref-in-loop-place.ensures.value c.in_ok-firsts.ensures.least)
    (within_at c.in_ok-firsts.firsts.items table c.place_limit-2.result id.0 c.deref-in-loop-place.ensures.value c.in_ok-firsts.ensures.length (c.place_limit-2.ensures.above id.0 (sh.listed id m)))
    c.in-Some.first (ap (λ k. entry table k) (sym c.place.ensures) ∙ sym c.entry.ensures ∙ c.in-Some.is)).1

pub loop-place-preserved : goal.loop-place-preserved
loop-place-preserved c =
    let s = c.args.shape.now in let old = c.loop-place.loops.items in let new = c.push.new.self.items in let more = c.in_ok-walk.field-0 in (
      pushed_count old new more c.loop-place.place c.in_ok-push.ensures.items c.loop-place.invariant.0,
      loops_more (faces_of s) (points_of s c.args.named.now) (map (λ l. l.items) old) (map (λ l. l.items) new) c.loop-place.place more.items (face_at s (id_at c.deref-order.result.now c.loop-place.place))
          (length-map old (λ l. l.items) ∙ c.loop-place.invariant.0) (pushed_loops (λ l. l.items) old new more c.in_ok-push.ensures.items)
          (λ f q. face_here (contents s.faces) s.order.items c.deref-order.result.now c.loop-place.place f c.deref-order.ensures.value c.loop-place-test.true q) c.in_ok-walk.ensures c.loop-place.invariant.1,
    )
