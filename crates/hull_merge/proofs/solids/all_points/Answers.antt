use Rattle.std.proofs.Common.{◌≡◌, ◌+◌, ◌++◌, [], map, ap, ◌∙◌, sym, subst, IfSome}
use Rattle.std.proofs.lemmas.List.{get_or_default}
use Rattle.solid_laws.specs.Names.{AreVertices}
use Rattle.solid_brush.specs.Sides.{half_spaces}
use Rattle.hull_merge.specs.Gathered.{whole_of}
use Rattle.hull_merge.proofs.Gathering.{Gathering, none_gathered, gathered_more}
use Rattle.hull_merge.proofs.solids.all_points.Goals as goal

pub loop-k-init : goal.loop-k-init
loop-k-init c = subst (Gathering c.args.list.now 0) (sym c.new-all.ensures.items) (none_gathered c.args.list.now)

pub loop-k-preserved : goal.loop-k-preserved
loop-k-preserved c =
    let list = c.args.list.now in let k = c.loop-k.k in
    let s = c.index-list-k.is ∙ get_or_default list k c.index-list-k.result [] c.loop-k-test.true in
    let v = subst (λ s. AreVertices (half_spaces s) c.in_ok-vertices.vertices.items) s c.in_ok-vertices.ensures.vertices in
    let w = subst (λ o. IfSome o (λ points. map whole_of points.items ≡ c.deref.result.now)) c.in-Some.is c.in_ok-points.ensures.some ∙ c.deref.ensures.value in
    subst (Gathering list (k + 1)) (sym (c.in_ok-add_points.ensures ∙ ap (λ p. c.loop-k.all.items ++ p) c.deref-in-loop-k.ensures.value))
    (gathered_more list k c.loop-k.all.items c.in-Some.points.items c.in_ok-vertices.vertices.items c.loop-k-test.true c.loop-k.invariant v c.in_ok-vertices.ensures.few w)
