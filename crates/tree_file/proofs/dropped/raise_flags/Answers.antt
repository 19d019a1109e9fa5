use Rattle.std.proofs.Common.{length, get_or, take_all, refl, subst, arith}
use Rattle.algebra.proofs.Members.{member_at}
use Rattle.tree_file.specs.Passes.{Tells}
use Rattle.tree_file.proofs.Raised.{raised}
use Rattle.tree_file.proofs.dropped.raise_flags.Goals as goal

pub bounds-flags-place : goal.bounds-flags-place
bounds-flags-place c =
    let w = c.requires.within (get_or c.args.places.now c.loop-place.place-index 0) (member_at c.args.places.now c.loop-place.place-index 0 c.loop-place-test.true) in
    omega (arith, w, c.loop-place.auto.flags)

pub loop-place-preserved : goal.loop-place-preserved
loop-place-preserved c =
    let p = get_or c.args.places.now c.loop-place.place-index 0 in
    raised (length c.args.flags.now) c.args.places.now c.loop-place.place-index p c.loop-place.flags c.loop-place-test.true refl
    (c.requires.within p (member_at c.args.places.now c.loop-place.place-index 0 c.loop-place-test.true)) c.loop-place.invariant

pub returns : goal.returns
returns c = subst (λ l. Tells (length c.args.flags.now) l c.loop-place.flags) (take_all c.loop-place.place-index c.args.places.now c.loop-place-test.false) c.loop-place.invariant
