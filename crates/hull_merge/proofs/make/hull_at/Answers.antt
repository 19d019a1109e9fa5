use Rattle.std.proofs.Common.{◌≡◌, map, ap, ◌∙◌, subst, arith, is_some, IfSome}
use Rattle.hull_laws.specs.Facets.{Spans, Facets}
use Rattle.hull_search.specs.Slopes.{spots}
use Rattle.hull_search.specs.Places.{corners}
use Rattle.hull_merge.specs.Hulls.{Outside, distinct}
use Rattle.hull_merge.proofs.Shaping.{few_facets}
use Rattle.hull_merge.proofs.make.hull_at.Goals as goal

pub returns-then-leaves_world-clause-fault : goal.returns-then-leaves_world-clause-fault
returns-then-leaves_world-clause-fault c =
    let ps = distinct c.args.points.now in
    let e : spots c.deref.result.now ≡ ps = ap spots c.deref.ensures.value ∙ c.in_ok-spots.ensures in
    let s = subst Spans e (c.in_ok-facets.ensures.spans (ap is_some c.in-Some.is)) in
    let F = subst (λ qs. Facets qs (map corners c.in-Some.facets.items)) e (subst (λ o. IfSome o (λ list. Facets (spots c.deref.result.now) (map corners list.items))) c.in-Some.is c.in_ok-facets.ensures.some) in
    let o = subst Outside (ap spots c.deref-2.ensures.value ∙ c.in_ok-spots.ensures) (c.leaves_world.ensures.leaves c.if-leaves_world.true) in
    (s, o, few_facets ps c.in-Some.facets.items F (let n = c.len.ensures in let f = c.if-len-gt-MOST_FACES.false in omega arith))
