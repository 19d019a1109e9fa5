use Rattle.std.proofs.Common.{◌≡◌, ◌≢◌, ℕ, ◌+◌, pos, suc, drop, take, ap, sym, refl, ◌∙◌, subst}
use Rattle.algebra.specs.Members.{Every}
use Rattle.algebra.specs.Space.{HalfSpace, side}
use Rattle.exact_geom.specs.Planes.{vector}
use Rattle.solid_brush.specs.Sides.{bounds, half_spaces}
use Rattle.ray_pick.specs.Rays.{point_at}
use Rattle.ray_pick.proofs.Members.{every_more, every_all, parts_at, before_length}
use Rattle.ray_pick.proofs.Seeing.{value, seen, on_plane, off_plane, inside_of}
use Rattle.ray_pick.proofs.picking.first_on.Goals as goal

pub loop-side-init : goal.loop-side-init
loop-side-init c = record { place = refl; off = λ f i. elim i [ ] }

pub returns-then-side_at-eq0 : goal.returns-then-side_at-eq0
returns-then-side_at-eq0 c =
    let a = vector c.args.from.now in
    let b = vector c.args.to.now in
    let t = c.args.at.now in
    let s = c.side-item.result in
    let o = c.of-passing.ensures in
    let i = c.loop-side.side-index in
    let l = c.loop-side-test.true in
    let k = c.loop-side.invariant in
    let n = c.den.ensures.ratio in
    let is = seen (bounds s) a b c.of-passing.result o.passes o.small t c.num.result c.den.result c.side_at.result c.num.ensures.num c.den.ensures.den n.num_size n.den_size c.side_at.ensures in
    record {
      before = half_spaces (take i c.args.sides.now);
      face = bounds s;
      after = half_spaces (drop (suc i) c.args.sides.now);
      parts = parts_at c.args.sides.now i s l c.side-item.is;
      place = before_length c.args.sides.now i l ∙ sym k.place;
      on = on_plane c.side_at.result (side (bounds s) (point_at a b t)) is c.if-side_at-eq0.true;
      off = k.off;
    }

pub loop-side-preserved : goal.loop-side-preserved
loop-side-preserved c =
    let a = vector c.args.from.now in
    let b = vector c.args.to.now in
    let t = c.args.at.now in
    let s = c.side-item.result in
    let o = c.of-passing.ensures in
    let k = c.loop-side.invariant in
    let n = c.den.ensures.ratio in
    let is = value (bounds s) a b c.of-passing.result o.passes o.small t c.num.result c.den.result c.side_at.result c.num.ensures.num c.den.ensures.den n.num_size n.den_size c.side_at.ensures in
    record {
      place = ap (λ m. m + 1) k.place;
      off = every_more c.args.sides.now c.loop-side.side-index s c.loop-side-test.true c.side-item.is (λ f. side f (point_at a b t) ≢ pos 0) k.off
          (off_plane c.side_at.result (side (bounds s) (point_at a b t)) is c.if-side_at-eq0.false);
    }

pub returns : goal.returns
returns c =
    let p = point_at (vector c.args.from.now) (vector c.args.to.now) c.args.at.now in
    inside_of (half_spaces c.args.sides.now) p c.requires.is_in
    (every_all c.args.sides.now c.loop-side.side-index (λ f. side f p ≢ pos 0) c.loop-side-test.false c.loop-side.invariant.off)
