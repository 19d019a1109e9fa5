use Rattle.std.proofs.Common.{◌<◌, get_or, length, arith, inl, inr}
use Rattle.algebra.proofs.Members.{member_at}
use Rattle.tree_file.proofs.RingMarks.{begins_walk, walks_on, stops, fewer_unmet}
use Rattle.tree_file.proofs.rings.walk_up.Goals as goal

pub loop-place-init : goal.loop-place-init
loop-place-init c = begins_walk c.args.parents.now c.args.met.now c.args.start c.requires.lengths c.requires.begins

pub bounds-met-place : goal.bounds-met-place
bounds-met-place c = omega (arith, c.loop-place.invariant.within, c.loop-place.invariant.same_length, c.requires.lengths)

pub bounds-met-place-in-loop-place : goal.bounds-met-place-in-loop-place
bounds-met-place-in-loop-place c = omega (arith, c.loop-place.invariant.within, c.loop-place.invariant.same_length, c.requires.lengths)

pub bounds-parents-place : goal.bounds-parents-place
bounds-parents-place c = c.loop-place.invariant.within

pub loop-place-smaller : goal.loop-place-smaller
loop-place-smaller c =
    let here : c.loop-place.place < length c.loop-place.met = omega (arith, c.loop-place.invariant.within, c.loop-place.invariant.same_length, c.requires.lengths) in
    omega (arith, fewer_unmet c.loop-place.met c.loop-place.place c.args.start here c.if-met-place-eq0.true c.requires.some)

pub loop-place-preserved : goal.loop-place-preserved
loop-place-preserved c =
    let ps = c.args.parents.now in
    let place = c.loop-place.place in
    walks_on ps c.args.met.now c.args.start c.requires.some c.loop-place.met place c.loop-place.invariant
    (c.requires.within (get_or ps place 0) (member_at ps place 0 c.loop-place.invariant.within)) c.loop-place-test.true c.if-met-place-eq0.true c.requires.lengths

pub returns-else-met-place-eq0 : goal.returns-else-met-place-eq0
returns-else-met-place-eq0 c = stops c.args.parents.now c.args.met.now c.args.start c.requires.some c.loop-place.met c.loop-place.place c.loop-place.invariant (inr c.if-met-place-eq0.false)

pub returns-after-loop-place : goal.returns-after-loop-place
returns-after-loop-place c = stops c.args.parents.now c.args.met.now c.args.start c.requires.some c.loop-place.met c.loop-place.place c.loop-place.invariant (inl (omega (arith, c.loop-place-test.false)))
