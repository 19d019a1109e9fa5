use Rattle.std.proofs.Common.{◌≡◌, true, ap, ◌∙◌, sym, below_more, arith}
use Rattle.algebra.proofs.Members.{member_at}
use Rattle.hull_search.specs.Slopes.{spot, spots}
use Rattle.hull_search.specs.Places.{point, number, same_place}
use Rattle.hull_search.proofs.rim.other_on.Goals as goal

pub spot_at-q-requires : goal.spot_at-q-requires
spot_at-q-requires c = c.requires.on (number c.args.on.now c.loop-k.k) (member_at c.args.on.now c.loop-k.k 0 c.loop-k-test.true)

pub returns-then-not-is_same-clause-some : goal.returns-then-not-is_same-clause-some
returns-then-not-is_same-clause-some c = let ps = spots c.args.points.now in record {
  among = member_at c.args.on.now c.loop-k.k 0 c.loop-k-test.true;
  other = ap (λ q. same_place (point ps c.args.a) q) (sym c.spot_at-q.ensures) ∙ ap (λ p. same_place p (spot c.spot_at-q.result)) (sym c.spot_at-p.ensures) ∙ (let e = c.is_same.ensures in let t = c.if-not-is_same.true in cc);
}

pub loop-k-preserved : goal.loop-k-preserved
loop-k-preserved c = let ps = spots c.args.points.now in below_more (λ j. same_place (point ps c.args.a) (point ps (number c.args.on.now j)) ≡ true) c.loop-k.k c.loop-k.invariant
    (ap (λ q. same_place (point ps c.args.a) q) (sym c.spot_at-q.ensures) ∙ ap (λ p. same_place p (spot c.spot_at-q.result)) (sym c.spot_at-p.ensures) ∙ (let e = c.is_same.ensures in let t = c.if-not-is_same.false in cc))

pub returns-clause-none : goal.returns-clause-none
returns-clause-none c = λ n k l. c.loop-k.invariant k (let f = c.loop-k-test.false in omega arith)
