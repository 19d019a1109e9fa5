use Rattle.std.proofs.Common.{◌≡◌, length, map}
use Rattle.half_arena.specs.Slots.{contents}
use Rattle.half_poly.specs.Shapes.{solid_of, sides_of}
use Rattle.half_poly.specs.Names.{HasNames}
use Rattle.half_poly.specs.Moving.{AreSlotNames}
use Rattle.half_poly.proofs.Making.{is_some_of}
use Rattle.half_poly.proofs.LoopLists.{places_at}
use Rattle.half_poly.proofs.Naming.{slot_of, number_within}
use Rattle.half_poly.proofs.Named.{order_within}
use Rattle.half_poly.proofs.SlotNames.{slot_names, if_both}
use Rattle.half_poly.proofs.names.slot_names.Goals as goal

pub places_of-requires-clause-within : goal.places_of-requires-clause-within
places_of-requires-clause-within c = order_within c.requires.shape c.place_limit.result (λ k f q. c.place_limit.ensures.above k (is_some_of q))

pub names_of-requires : goal.names_of-requires
names_of-requires c = record { within = number_within c.requires.shape c.deref.result.now (places_at (map slot_of c.args.order.now) c.in_ok-numbers.numbers.items c.deref.result.now (length c.args.order.now) c.deref.ensures.value c.in_ok-numbers.ensures) }

pub returns : goal.returns
returns c =
    let sides = sides_of (contents c.args.faces.now) c.args.order.now in
    if_both (λ names. length names.items ≡ c.place_limit-2.result) (λ names. HasNames (contents c.args.edges.now) c.deref.result.now (length c.args.order.now) names.items)
    (λ names. AreSlotNames (contents c.args.vertices.now) (solid_of sides) names.items)
    (λ names long has. slot_names c.requires.shape c.in_ok-numbers.numbers.items c.deref.result.now names.items c.place_limit-2.result c.deref.ensures.value c.in_ok-numbers.ensures has long (λ x v q. c.place_limit-2.ensures.above x (is_some_of q)))
    c.names_of.result c.names_of.ensures.length c.names_of.ensures.names
