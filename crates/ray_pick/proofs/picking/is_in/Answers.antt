use Rattle.std.proofs.Common.{◌≤ℤ◌, pos, true≢false, refl, subst, sym}
use Rattle.algebra.specs.Space.{side}
use Rattle.exact_geom.specs.Planes.{vector}
use Rattle.solid_brush.specs.Sides.{bounds}
use Rattle.ray_pick.specs.Rays.{point_at}
use Rattle.ray_pick.specs.Passings.{place}
use Rattle.ray_pick.proofs.Members.{is_member, every_more, every_all}
use Rattle.ray_pick.proofs.Seeing.{seen, in_front, not_front}
use Rattle.ray_pick.proofs.picking.is_in.Goals as goal

pub loop-side-init : goal.loop-side-init
loop-side-init c = λ f i. elim i [ ]

pub returns-then-in_front : goal.returns-then-in_front
returns-then-in_front c =
    let a = vector c.args.from.now in
    let b = vector c.args.to.now in
    let t = place c.args.at.now in
    let s = c.side-item.result in
    let o = c.of-passing.ensures in
    let is = seen (bounds s) a b c.of-passing.result o.passes o.small t t.num t.den c.side_at-in_front.result refl refl c.requires.small.start c.requires.small.fall c.side_at-in_front.ensures in (
      λ e. absurd (true≢false (sym e)),
      λ all. absurd (in_front _ _ is c.if-in_front.true (all (bounds s) (is_member c.args.sides.now c.loop-side.side-index s c.loop-side-test.true c.side-item.is))),
    )

pub loop-side-preserved : goal.loop-side-preserved
loop-side-preserved c =
    let a = vector c.args.from.now in
    let b = vector c.args.to.now in
    let t = place c.args.at.now in
    let s = c.side-item.result in
    let o = c.of-passing.ensures in
    let is = seen (bounds s) a b c.of-passing.result o.passes o.small t t.num t.den c.side_at-in_front.result refl refl c.requires.small.start c.requires.small.fall c.side_at-in_front.ensures in
    every_more c.args.sides.now c.loop-side.side-index s c.loop-side-test.true c.side-item.is (λ f. side f (point_at a b t) ≤ℤ pos 0) c.loop-side.invariant
    (not_front _ _ is c.if-in_front.false)

pub returns : goal.returns
returns c =
    let a = vector c.args.from.now in
    let b = vector c.args.to.now in
    let t = place c.args.at.now in (
      λ e. every_all c.args.sides.now c.loop-side.side-index (λ f. side f (point_at a b t) ≤ℤ pos 0) c.loop-side-test.false c.loop-side.invariant,
      λ all. refl,
    )
