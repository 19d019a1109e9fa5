use Rattle.std.proofs.Common.{refl, map, length}
use Rattle.half_poly.proofs.Making.{is_some_of}
use Rattle.half_poly.proofs.LoopLists.{places_at}
use Rattle.half_poly.proofs.Naming.{slot_of, number_within}
use Rattle.half_poly.proofs.Named.{order_within, named_of}
use Rattle.half_poly.proofs.names.named.Goals as goal

pub places_of-requires-clause-within : goal.places_of-requires-clause-within
places_of-requires-clause-within c = order_within c.requires.shape c.place_limit.result (λ k f q. c.place_limit.ensures.above k (is_some_of q))

pub names_of-requires : goal.names_of-requires
names_of-requires c = record { within = number_within c.requires.shape c.deref.result.now (places_at (map slot_of c.args.order.now) c.in_ok-numbers.numbers.items c.deref.result.now (length c.args.order.now) c.deref.ensures.value c.in_ok-numbers.ensures) }

pub returns : goal.returns
returns c =
    named_of c.requires.shape c.in_ok-numbers.numbers.items c.deref.result.now c.in_ok-names.names.items c.deref-2.result.now c.place_limit-2.result c.in_ok-corners.corners.items c.deref-3.result.now c.in_ok-ids.ids.items
    c.deref.ensures.value c.deref-2.ensures.value c.deref-3.ensures.value c.in_ok-numbers.ensures c.in_ok-names.ensures.names c.in_ok-names.ensures.length (λ x v q. c.place_limit-2.ensures.above x (is_some_of q))
    c.in_ok-corners.ensures.corners (c.in_ok-corners.ensures.reduced refl) c.in_ok-corners.ensures.order c.in_ok-ids.ensures
