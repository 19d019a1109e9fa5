use Rattle.std.proofs.Common.{◌∙◌, sym, ap}
use Rattle.half_arena.specs.Slots.{contents}
use Rattle.exact_geom.specs.Planes.{half_space}
use Rattle.half_poly.specs.Shapes.{sides_of}
use Rattle.half_poly.proofs.Answering.{none_front, none_behind, some_front, some_behind, front_at, behind_at, some_front_at, some_behind_at, front_sides, behind_sides, none_front_sides, none_behind_sides, halved_both}
use Rattle.half_poly.proofs.CutSteps.{first_steps, both_steps}
use Rattle.half_poly.proofs.Ordered.{tags_after}
use Rattle.half_poly.proofs.poly.Poly.part.Goals as goal

pub returns-then-not-has_front-clause-says : goal.returns-then-not-has_front-clause-says
returns-then-not-has_front-clause-says g c =
    let i = c.self.inside.shape in let sh = c.self.invariant.stands in let P = c.args.plane.now in let Q = half_space P in
    let signs = c.in_ok-signs.signs.items in let sides = sides_of (contents i.faces) i.order.items in
    let sig = c.in_ok-signs.ensures.signs in let dead = c.in_ok-signs.ensures.dead in
    (none_front_sides sides c.args.self.now Q c.self.view_is (none_front sh P signs sig dead (front_at c.deref.result.now signs c.deref.ensures.value (c.has_front.ensures.none c.if-not-has_front.true))))

pub returns-then-not-has_behind-clause-says : goal.returns-then-not-has_behind-clause-says
returns-then-not-has_behind-clause-says g c =
    let i = c.self.inside.shape in let sh = c.self.invariant.stands in let P = c.args.plane.now in let Q = half_space P in
    let signs = c.in_ok-signs.signs.items in let sides = sides_of (contents i.faces) i.order.items in
    let sig = c.in_ok-signs.ensures.signs in let dead = c.in_ok-signs.ensures.dead in (
      front_sides sides c.args.self.now Q c.self.view_is (some_front sh P signs sig dead (some_front_at c.deref.result.now signs c.deref.ensures.value (c.has_front.ensures.some c.if-not-has_front.false))),
      none_behind_sides sides c.args.self.now Q c.self.view_is (none_behind sh P signs sig dead (behind_at c.deref-2.result.now signs c.deref-2.ensures.value (c.has_behind.ensures.none c.if-not-has_behind.true))),
    )

pub halved-requires-clause-front : goal.halved-requires-clause-front
halved-requires-clause-front g c =
    let i = c.self.inside.shape in let sh = c.self.invariant.stands in let P = c.args.plane.now in let Q = half_space P in
    let signs = c.in_ok-signs.signs.items in let sides = sides_of (contents i.faces) i.order.items in
    let sig = c.in_ok-signs.ensures.signs in let dead = c.in_ok-signs.ensures.dead in
    front_sides sides (sides_of (contents i.faces) c.deref-3.result.now) Q (ap (sides_of (contents i.faces)) (sym c.deref-3.ensures.value))
    (some_front sh P signs sig dead (some_front_at c.deref.result.now signs c.deref.ensures.value (c.has_front.ensures.some c.if-not-has_front.false)))

pub halved-requires-clause-behind : goal.halved-requires-clause-behind
halved-requires-clause-behind g c =
    let i = c.self.inside.shape in let sh = c.self.invariant.stands in let P = c.args.plane.now in let Q = half_space P in
    let signs = c.in_ok-signs.signs.items in let sides = sides_of (contents i.faces) i.order.items in
    let sig = c.in_ok-signs.ensures.signs in let dead = c.in_ok-signs.ensures.dead in
    behind_sides sides (sides_of (contents i.faces) c.deref-3.result.now) Q (ap (sides_of (contents i.faces)) (sym c.deref-3.ensures.value))
    (some_behind sh P signs sig dead (some_behind_at c.deref-2.result.now signs c.deref-2.ensures.value (c.has_behind.ensures.some c.if-not-has_behind.false)))

pub returns-in_err-signs-clause-steps : goal.returns-in_err-signs-clause-steps
returns-in_err-signs-clause-steps g c =
    let i = c.self.inside.shape in first_steps i.vertices.slots (contents i.edges) (contents i.faces) i.order.items c.args.self.now c.self.view_is c.self.invariant.stands c.args.steps.now c.signs_of.new.steps c.signs_of.ensures.steps

pub returns-then-not-has_front-clause-steps : goal.returns-then-not-has_front-clause-steps
returns-then-not-has_front-clause-steps g c =
    let i = c.self.inside.shape in first_steps i.vertices.slots (contents i.edges) (contents i.faces) i.order.items c.args.self.now c.self.view_is c.self.invariant.stands c.args.steps.now c.signs_of.new.steps c.signs_of.ensures.steps

pub returns-then-not-has_behind-clause-steps : goal.returns-then-not-has_behind-clause-steps
returns-then-not-has_behind-clause-steps g c =
    let i = c.self.inside.shape in first_steps i.vertices.slots (contents i.edges) (contents i.faces) i.order.items c.args.self.now c.self.view_is c.self.invariant.stands c.args.steps.now c.signs_of.new.steps c.signs_of.ensures.steps

pub returns-in_err-after-clause-steps : goal.returns-in_err-after-clause-steps
returns-in_err-after-clause-steps g c =
    let i = c.self.inside.shape in both_steps i.vertices.slots i.edges.slots (contents i.faces) i.order.items c.args.self.now c.self.view_is c.self.invariant.stands c.args.plane.now c.in_ok-signs.signs.items c.deref-4.result.now c.deref-4.ensures.value
    c.in_ok-signs.ensures.signs c.args.steps.now c.signs_of.new.steps c.halved.new.steps c.signs_of.ensures.steps c.halved.ensures.steps

pub returns-clause-steps : goal.returns-clause-steps
returns-clause-steps g c =
    let i = c.self.inside.shape in both_steps i.vertices.slots i.edges.slots (contents i.faces) i.order.items c.args.self.now c.self.view_is c.self.invariant.stands c.args.plane.now c.in_ok-signs.signs.items c.deref-4.result.now c.deref-4.ensures.value
    c.in_ok-signs.ensures.signs c.args.steps.now c.signs_of.new.steps c.halved.new.steps c.signs_of.ensures.steps c.halved.ensures.steps

pub of_shape-requires-clause-tags : goal.of_shape-requires-clause-tags
of_shape-requires-clause-tags g c =
    let i = c.self.inside.shape in
    tags_after (sides_of (contents i.faces) c.deref-3.result.now) (sides_of (contents i.faces) i.order.items) c.args.self.now (sides_of (contents c.in_ok-after.after.faces) c.in_ok-after.after.order.items)
    (record { plane = c.args.plane.now; tag = c.args.tag }) (ap (sides_of (contents i.faces)) c.deref-3.ensures.value) c.self.view_is c.in_ok-after.ensures.halved c.self.invariant.tags c.requires.new

pub returns-in_err-of_shape-clause-steps : goal.returns-in_err-of_shape-clause-steps
returns-in_err-of_shape-clause-steps g c =
    let i = c.self.inside.shape in both_steps i.vertices.slots i.edges.slots (contents i.faces) i.order.items c.args.self.now c.self.view_is c.self.invariant.stands c.args.plane.now c.in_ok-signs.signs.items c.deref-4.result.now c.deref-4.ensures.value
    c.in_ok-signs.ensures.signs c.args.steps.now c.signs_of.new.steps c.halved.new.steps c.signs_of.ensures.steps c.halved.ensures.steps

pub returns-clause-says : goal.returns-clause-says
returns-clause-says g c =
    let i = c.self.inside.shape in let sh = c.self.invariant.stands in let P = c.args.plane.now in let Q = half_space P in
    let signs = c.in_ok-signs.signs.items in let sides = sides_of (contents i.faces) i.order.items in
    let sig = c.in_ok-signs.ensures.signs in let dead = c.in_ok-signs.ensures.dead in (
      front_sides sides c.args.self.now Q c.self.view_is (some_front sh P signs sig dead (some_front_at c.deref.result.now signs c.deref.ensures.value (c.has_front.ensures.some c.if-not-has_front.false))),
      behind_sides sides c.args.self.now Q c.self.view_is (some_behind sh P signs sig dead (some_behind_at c.deref-2.result.now signs c.deref-2.ensures.value (c.has_behind.ensures.some c.if-not-has_behind.false))),
      halved_both (sides_of (contents i.faces) c.deref-3.result.now) c.args.self.now (sides_of (contents c.in_ok-after.after.faces) c.in_ok-after.after.order.items) c.in_ok-of_shape.field-0 (record { plane = P; tag = c.args.tag })
          (ap (sides_of (contents i.faces)) c.deref-3.ensures.value ∙ c.self.view_is) (sym c.in_ok-of_shape.ensures) c.in_ok-after.ensures.halved,
    )
