use Rattle.std.proofs.Common.{sym, subst}
use Rattle.solid_brush.specs.Sides.{half_spaces}
use Rattle.vertex_edit.specs.Carrying.{carry}
use Rattle.vertex_edit.specs.Edits.{AreFrom, IsEdit}
use Rattle.vertex_edit.proofs.Edits.{is_edit}
use Rattle.vertex_edit.proofs.edit.moved_to.Goals as goal

pub returns-clause-edit : goal.returns-clause-edit
returns-clause-edit c =
    let F = half_spaces c.args.old.now in let V = c.args.vertices.now in let places = c.args.places.now in let hull = c.in_ok-hull.hull in let facets = c.in_ok-facets.facets.items in
    let a = subst (λ s. AreFrom (half_spaces s) (carry V places) hull.solid facets) c.sides.ensures.sides
    (subst (λ t. AreFrom (half_spaces c.sides.result.now) (carry V places) t facets) c.sides-2.ensures.sides c.in_ok-facets.ensures) in
    subst (λ f. IsEdit F (carry V places) f hull.solid) (sym c.of.ensures) (is_edit F V places hull.facets facets hull.solid c.requires.count c.in_ok-hull.ensures.hull a)
