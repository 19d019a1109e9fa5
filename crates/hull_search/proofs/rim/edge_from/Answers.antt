use Rattle.std.proofs.Common.{refl, sym, subst, arith, IfSome}
use Rattle.std.proofs.lemmas.List.{length-map}
use Rattle.hull_search.specs.Slopes.{face, spots}
use Rattle.hull_search.specs.Places.{IsOtherOn, IsEdgeEnd}
use Rattle.hull_search.proofs.Rims.{end_first, no_edges}
use Rattle.hull_search.proofs.rim.edge_from.Goals as goal

pub other_on-requires-clause-on : goal.other_on-requires-clause-on
other_on-requires-clause-on c = λ i m. let o = (c.requires.on.each i m).0 in rw length-map at o

pub returns-in_default-clause-none : goal.returns-in_default-clause-none
returns-in_default-clause-none c = λ n. no_edges (spots c.args.points.now) (face c.args.f.now) c.args.on.now c.args.a (c.in_default.ensures.none refl)

pub way_to-way-requires-clause-to_in : goal.way_to-way-requires-clause-to_in
way_to-way-requires-clause-to_in c =
    let O = subst (λ o. IfSome o (IsOtherOn (spots c.args.points.now) c.args.on.now c.args.a)) c.in-Some.is c.other_on.ensures.some in
    let o = (c.requires.on.each c.in-Some.first O.among).0 in rw length-map at o

pub loop-k-init : goal.loop-k-init
loop-k-init c =
    let ps = spots c.args.points.now in let f = face c.args.f.now in
    let O = subst (λ o. IfSome o (IsOtherOn ps c.args.on.now c.args.a)) c.in-Some.is c.other_on.ensures.some in record {
      border = c.way_to-way.ensures.border;
      end = subst (IsEdgeEnd ps f c.args.on.now 0 c.args.a) (sym c.way_to-way.ensures.to) (end_first ps f c.args.on.now c.args.a c.in-Some.first c.requires.on O);
    }

pub returns-clause-some : goal.returns-clause-some
returns-clause-some c = let g = c.loop-k.auto.k-end in let h = c.loop-k-test.false in
    subst (λ n. IsEdgeEnd (spots c.args.points.now) (face c.args.f.now) c.args.on.now n c.args.a c.loop-k.way.to) (omega arith) c.loop-k.invariant.end
