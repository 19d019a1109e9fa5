use Rattle.std.proofs.Common.{ap, ◌∙◌}
use Rattle.map_nodes.specs.Seen.{sides_of}
use Rattle.tree_file.proofs.JudgedFaces.{few_sides, sides_have_tags, ok_judged, empty_judged, outside_judged, many_judged}
use Rattle.tree_file.proofs.judged.judge_faces.Goals as goal

pub build-requires-clause-few : goal.build-requires-clause-few
build-requires-clause-few c =
    few_sides c.args.faces c.deref.result.now (c.deref.ensures.value ∙ c.in_ok-sides.ensures ∙ ap sides_of c.list.ensures) c.requires.spelled

pub build-requires-clause-tags : goal.build-requires-clause-tags
build-requires-clause-tags c =
    sides_have_tags c.args.faces c.deref.result.now (c.deref.ensures.value ∙ c.in_ok-sides.ensures ∙ ap sides_of c.list.ensures) c.requires.spelled

pub returns-in-Ok : goal.returns-in-Ok
returns-in-Ok c =
    ok_judged c.args.faces c.deref.result.now (c.deref.ensures.value ∙ c.in_ok-sides.ensures ∙ ap sides_of c.list.ensures) c.requires.spelled
    c.in_ok-body_of-in-Ok.field-0 c.in-Ok.solid c.in-Ok.ensures.built c.in_ok-body_of-in-Ok.ensures.needed c.in_ok-body_of-in-Ok.ensures.most

pub returns-in-Err-NoVolume : goal.returns-in-Err-NoVolume
returns-in-Err-NoVolume c =
    empty_judged c.args.faces c.deref.result.now (c.deref.ensures.value ∙ c.in_ok-sides.ensures ∙ ap sides_of c.list.ensures) c.requires.spelled (rw c.in-Err-NoVolume.field-0-is at c.in-Err-NoVolume.ensures.fault)

pub returns-in-Err-OutOfWorld : goal.returns-in-Err-OutOfWorld
returns-in-Err-OutOfWorld c =
    outside_judged c.args.faces c.deref.result.now (c.deref.ensures.value ∙ c.in_ok-sides.ensures ∙ ap sides_of c.list.ensures) c.requires.spelled (rw c.in-Err-OutOfWorld.field-0-is at c.in-Err-OutOfWorld.ensures.fault)

pub returns-in-Err-TooManyFaces : goal.returns-in-Err-TooManyFaces
returns-in-Err-TooManyFaces c =
    many_judged c.args.faces c.deref.result.now (c.deref.ensures.value ∙ c.in_ok-sides.ensures ∙ ap sides_of c.list.ensures) c.requires.spelled _ (rw c.in-Err-TooManyFaces.field-0-is at c.in-Err-TooManyFaces.ensures.fault)
