use Rattle.std.proofs.Common.{◌++◌, ◌∷◌, [], get_or, ap, ◌∙◌, arith}
use Rattle.std.proofs.lemmas.List.{take_all, get_or_default}
use Rattle.algebra.proofs.Members.{member_at}
use Rattle.hull_search.specs.Slopes.{face}
use Rattle.hull_merge.specs.Hulls.{zero_point}
use Rattle.vertex_edit.specs.Carrying.{carry, onto}
use Rattle.vertex_edit.proofs.Carries.{onto_more}
use Rattle.vertex_edit.proofs.carried.carried_onto.Goals as goal

pub add_if_onto-requires : goal.add_if_onto-requires
add_if_onto-requires c = let n = c.requires.count in let t = c.loop-k-test.true in
    record { range = c.requires.range (get_or c.args.places.now c.loop-k.k zero_point) (member_at c.args.places.now c.loop-k.k zero_point (omega arith)) }

pub loop-k-preserved : goal.loop-k-preserved
loop-k-preserved c =
    let g = face c.args.f.now in let places = c.args.places.now in let k = c.loop-k.k in let p = get_or places k zero_point in let n = c.requires.count in let t = c.loop-k-test.true in
    c.in_ok-add_if_onto.ensures ∙ ap (λ l. l ++ onto g (carry (c.index-vertices-k.result ∷ []) (p ∷ []))) c.loop-k.invariant
    ∙ onto_more g c.args.vertices.now places k c.index-vertices-k.result p c.requires.count c.loop-k-test.true c.index-vertices-k.is (get_or_default places k zero_point p (omega arith))

pub returns : goal.returns
returns c = let f = c.loop-k-test.false in let n = c.requires.count in
    c.loop-k.invariant ∙ (λ i. onto (face c.args.f.now) (carry (take_all c.loop-k.k c.args.vertices.now (omega arith) i) (take_all c.loop-k.k c.args.places.now (omega arith) i)))
