use Rattle.std.proofs.Common.{◌≡◌, ◌+◌, ap, ◌∙◌, sym, subst, arith}
use Rattle.std.proofs.lemmas.Int.{ints}
use Rattle.std.proofs.lemmas.List.{length-map}
use Rattle.algebra.specs.Space.{side, whole_point}
use Rattle.algebra.proofs.Members.{member_at}
use Rattle.hull_laws.specs.Pivots.{border}
use Rattle.hull_search.specs.Slopes.{face, ramp, spots}
use Rattle.hull_search.specs.Places.{point, number, IsEdgeEnd}
use Rattle.hull_search.proofs.Rims.{end_new, end_stays}
use Rattle.hull_search.proofs.rim.leftmost.Goals as goal
use Rattle.hull_search.proofs.rim.leftmost.Goals.{After-side}

pub spot_at-q-requires : goal.spot_at-q-requires
spot_at-q-requires c = let o = (c.requires.on.each (number c.args.on.now c.args.k) (member_at c.args.on.now c.args.k 0 c.requires.k_in)).0 in rw length-map at o

side_is : (c : After-side) → c.side.result ≡ side (border (face c.args.f.now) (point (spots c.args.points.now) c.args.a) (point (spots c.args.points.now) c.args.way.to)) (whole_point (point (spots c.args.points.now) (number c.args.on.now c.args.k)))
side_is c = c.side.ensures ∙ ap (λ p. side (ramp c.args.way.border) (whole_point p)) c.spot_at-q.ensures
    ∙ ap (λ g. side g (whole_point (point (spots c.args.points.now) (number c.args.on.now c.args.k)))) c.requires.border

pub way_to-requires-clause-to_in : goal.way_to-requires-clause-to_in
way_to-requires-clause-to_in c = let o = (c.requires.on.each (number c.args.on.now c.args.k) (member_at c.args.on.now c.args.k 0 c.requires.k_in)).0 in rw length-map at o

pub returns-then-side-gt0-clause-end : goal.returns-then-side-gt0-clause-end
returns-then-side-gt0-clause-end c =
    let ps = spots c.args.points.now in let f = face c.args.f.now in
    let e = side_is (goal.at.returns-then-side-gt0-clause-end c).After-side in
    subst (IsEdgeEnd ps f c.args.on.now (c.args.k + 1) c.args.a) (sym c.way_to.ensures.to)
    (end_new ps f c.args.on.now c.args.k c.args.a c.args.way.to c.requires.proper c.requires.on c.requires.k_in c.requires.end (let v = c.side.type_inv in let t = c.if-side-gt0.true in omega (arith, ints)))

pub returns-else-side-gt0-clause-end : goal.returns-else-side-gt0-clause-end
returns-else-side-gt0-clause-end c =
    let ps = spots c.args.points.now in let f = face c.args.f.now in
    let e = side_is (goal.at.returns-else-side-gt0-clause-end c).After-side in
    end_stays ps f c.args.on.now c.args.k c.args.a c.args.way.to c.requires.end (let v = c.side.type_inv in let t = c.if-side-gt0.false in omega (arith, ints))
