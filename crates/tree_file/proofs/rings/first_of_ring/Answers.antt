use Rattle.std.proofs.Common.{get_or, arith}
use Rattle.algebra.proofs.Members.{member_at}
use Rattle.tree_file.proofs.RingWalk.{begins, goes_on, first_found, on_the_ring, closes_in_time}
use Rattle.tree_file.proofs.rings.first_of_ring.Goals as goal

pub loop-step-init : goal.loop-step-init
loop-step-init c = begins c.args.parents.now c.args.place c.requires.ring c.requires.here

pub loop-step-preserved : goal.loop-step-preserved
loop-step-preserved c =
    let ps = c.args.parents.now in
    let above = c.loop-step.above in
    let now = c.loop-step.invariant in
    goes_on ps c.args.place c.requires.ring c.loop-step.first above c.loop-step._step now c.min-first.result
    (c.requires.within (get_or ps above 0) (member_at ps above 0 now.within)) c.if-above-place.false c.min-first.ensures

pub returns-then-above-place-clause-first : goal.returns-then-above-place-clause-first
returns-then-above-place-clause-first c =
    first_found c.args.parents.now c.args.place c.requires.ring c.loop-step.first c.loop-step.above c.loop-step._step c.loop-step.invariant (omega (arith, c.loop-step-test.true)) c.if-above-place.true

pub returns-then-above-place-clause-on_ring : goal.returns-then-above-place-clause-on_ring
returns-then-above-place-clause-on_ring c =
    on_the_ring c.args.parents.now c.args.place c.requires.ring c.loop-step.first c.loop-step.above c.loop-step._step c.loop-step.invariant (omega (arith, c.loop-step-test.true)) c.if-above-place.true

pub returns-clause-first : goal.returns-clause-first
returns-clause-first c =
    absurd (closes_in_time c.args.parents.now c.args.place c.requires.ring c.loop-step.first c.loop-step.above c.loop-step._step c.loop-step.invariant (omega (arith, c.loop-step-test.false, c.loop-step.auto._step-end)))

pub returns-clause-on_ring : goal.returns-clause-on_ring
returns-clause-on_ring c =
    absurd (closes_in_time c.args.parents.now c.args.place c.requires.ring c.loop-step.first c.loop-step.above c.loop-step._step c.loop-step.invariant (omega (arith, c.loop-step-test.false, c.loop-step.auto._step-end)))
