use Rattle.std.proofs.Common.{sym, ◌∙◌, arith}
use Rattle.map_model.specs.Tree.{whole, among}
use Rattle.tree_ops.proofs.Climbing.{asks, asked_yes, asked_on, asked_out, asked_all}
use Rattle.tree_ops.proofs.Tests.{beneath_any}
use Rattle.tree_ops.proofs.rows.lies_beneath_any.Goals as goal

pub loop-step-init : goal.loop-step-init
loop-step-init c = asks (λ p. among p c.args.others.now) (whole c.args.map.now) c.args.id

pub loop-step-preserved : goal.loop-step-preserved
loop-step-preserved c = asked_on (λ p. among p c.args.others.now) (whole c.args.map.now) c.args.id c.loop-step.step c.loop-step.below c.in-Some.place
    (omega (arith, c.loop-step-test.true, c.next-step-end.ensures)) c.in-Some.ensures c.loop-step.invariant (sym c.is_among.ensures ∙ c.if-is_among.false)

pub returns-in-None : goal.returns-in-None
returns-in-None c = asked_out (λ p. among p c.args.others.now) (whole c.args.map.now) c.args.id c.loop-step.step c.loop-step.below
    (omega (arith, c.loop-step-test.true, c.next-step-end.ensures)) c.in-None.ensures c.loop-step.invariant ∙ beneath_any (whole c.args.map.now) c.args.id c.args.others.now

pub returns-then-is_among : goal.returns-then-is_among
returns-then-is_among c = asked_yes (λ p. among p c.args.others.now) (whole c.args.map.now) c.args.id c.loop-step.step c.loop-step.below c.in-Some.place
    (omega (arith, c.loop-step-test.true, c.next-step-end.ensures)) c.in-Some.ensures c.loop-step.invariant (sym c.is_among.ensures ∙ c.if-is_among.true)
    ∙ beneath_any (whole c.args.map.now) c.args.id c.args.others.now

pub returns : goal.returns
returns c = asked_all (λ p. among p c.args.others.now) (whole c.args.map.now) c.args.id c.loop-step.step c.loop-step.below
    (omega (arith, c.loop-step-test.false, c.next-step-end.ensures)) c.loop-step.invariant ∙ beneath_any (whole c.args.map.now) c.args.id c.args.others.now
