use Rattle.std.proofs.Common.{◌^◌, sym, subst, ◌∙◌}
use Rattle.algebra.specs.Members.{Every}
use Rattle.cut_plans.specs.Told.{faces_of, IsTold}
use Rattle.brush_plans.proofs.Lists.{is_member, mapped_more, mapped_all}
use Rattle.hollow_plans.proofs.walls.bodies.Goals as goal

pub body_of_solid-requires : goal.body_of_solid-requires
body_of_solid-requires c =
    subst (λ l. Every (IsTold (2 ^ 30) l l) c.solid-item.result) (sym c.faces-faces.ensures.faces)
    (c.requires.told c.solid-item.result (is_member c.args.solids.now c.loop-solid.solid-index c.solid-item.result c.loop-solid-test.true c.solid-item.is))

pub loop-solid-preserved : goal.loop-solid-preserved
loop-solid-preserved c =
    mapped_more (faces_of (2 ^ 30) c.args.body.now c.args.body.now) c.args.solids.now c.loop-solid.bodies.items c.push.new.self.items c.loop-solid.solid-index c.solid-item.result c.in_ok-one.one
    c.loop-solid-test.true c.solid-item.is c.loop-solid.invariant
    (c.in_ok-one.ensures ∙ (λ i. faces_of (2 ^ 30) (c.faces-faces.ensures.faces i) (c.faces-faces.ensures.faces i) c.solid-item.result)) c.in_ok-push.ensures.items

pub returns : goal.returns
returns c =
    c.of.ensures ∙ mapped_all (faces_of (2 ^ 30) c.args.body.now c.args.body.now) c.args.solids.now c.loop-solid.bodies.items c.loop-solid.solid-index c.loop-solid-test.false c.loop-solid.invariant
