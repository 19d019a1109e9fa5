use Rattle.std.proofs.Common.{◌≤◌, length, sym, subst, ◌∙◌, arith}
use Rattle.solid_brush.specs.Sides.{HaveTags, IsBuiltOf}
use Rattle.map_nodes.proofs.FaceSides.{sides_length, have_tags, solid_is}
use Rattle.tree_file.proofs.judged.solid_of.Goals as goal

pub build-requires-clause-few : goal.build-requires-clause-few
build-requires-clause-few c =
    let k = sides_length 0 c.args.faces.now in
    subst (λ l. length l ≤ 256) (sym (c.deref.ensures.value ∙ c.in_ok-sides.ensures)) (omega (arith, k, c.requires.few))

pub build-requires-clause-tags : goal.build-requires-clause-tags
build-requires-clause-tags c = subst HaveTags (sym (c.deref.ensures.value ∙ c.in_ok-sides.ensures)) (have_tags c.args.faces.now c.requires.few)

pub returns-in-Ok : goal.returns-in-Ok
returns-in-Ok c =
    solid_is c.args.faces.now c.in-Ok.solid c.requires.valid.trimmed
    (subst (λ l. IsBuiltOf l c.in-Ok.solid) (c.deref.ensures.value ∙ c.in_ok-sides.ensures) c.in-Ok.ensures.built)
