use Rattle.std.proofs.Common.{◌≤◌, length, refl, ap, sym, subst, ◌∙◌, arith}
use Rattle.solid_brush.specs.Sides.{HaveTags, IsBuiltOf}
use Rattle.map_nodes.specs.Seen.{sides_of}
use Rattle.brush_plans.proofs.Sides.{sides_length, have_tags, solid_is, stays, leaves, has_volume, has_few}
use Rattle.brush_plans.proofs.bodies.body_of.Goals as goal

pub build-requires-clause-few : goal.build-requires-clause-few
build-requires-clause-few c =
    let is = c.deref-2.ensures.value ∙ c.in_ok-sides.ensures ∙ ap sides_of c.deref.ensures.value in
    let k = sides_length 0 c.args.faces.items in
    let most = c.requires.needed.most in
    subst (λ l. length l ≤ 256) (sym is) (omega (arith, k, most))

pub build-requires-clause-tags : goal.build-requires-clause-tags
build-requires-clause-tags c =
    subst HaveTags (sym (c.deref-2.ensures.value ∙ c.in_ok-sides.ensures ∙ ap sides_of c.deref.ensures.value)) (have_tags c.args.faces.items c.requires.needed.most)

pub of-requires-in-Ok : goal.of-requires-in-Ok
of-requires-in-Ok c =
    let is = c.deref-2.ensures.value ∙ c.in_ok-sides.ensures ∙ ap sides_of c.deref.ensures.value in
    let built = subst (λ l. IsBuiltOf l c.in-Ok.solid) is c.in-Ok.ensures.built in
    record { fits = solid_is c.args.faces.items c.requires.needed c.in-Ok.solid built ∙ sym (ap sides_of c.of.ensures) }

pub returns-in-Ok : goal.returns-in-Ok
returns-in-Ok c =
    let is = c.deref-2.ensures.value ∙ c.in_ok-sides.ensures ∙ ap sides_of c.deref.ensures.value in
    (c.of-in-Ok.ensures ∙ c.of.ensures, stays c.args.faces.items c.requires.needed c.in-Ok.solid (subst (λ l. IsBuiltOf l c.in-Ok.solid) is c.in-Ok.ensures.built))

pub unreachable-requires : goal.unreachable-requires
unreachable-requires c =
    let is = c.deref-2.ensures.value ∙ c.in_ok-sides.ensures ∙ ap sides_of c.deref.ensures.value in
    has_volume c.args.faces.items c.requires.needed c.deref-2.result.now is (rw c.in-Err-NoVolume.field-0-is at c.in-Err-NoVolume.ensures.fault)

pub returns-in-Err-OutOfWorld : goal.returns-in-Err-OutOfWorld
returns-in-Err-OutOfWorld c =
    let is = c.deref-2.ensures.value ∙ c.in_ok-sides.ensures ∙ ap sides_of c.deref.ensures.value in
    (refl, leaves c.args.faces.items c.requires.needed c.deref-2.result.now is (rw c.in-Err-OutOfWorld.field-0-is at c.in-Err-OutOfWorld.ensures.fault))

pub unreachable-requires-in-Err-TooManyFaces : goal.unreachable-requires-in-Err-TooManyFaces
unreachable-requires-in-Err-TooManyFaces c =
    let is = c.deref-2.ensures.value ∙ c.in_ok-sides.ensures ∙ ap sides_of c.deref.ensures.value in
    has_few c.args.faces.items c.requires.needed c.deref-2.result.now is c.in-Err-TooManyFaces.field-0-0 (rw c.in-Err-TooManyFaces.field-0-is at c.in-Err-TooManyFaces.ensures.fault)
