use Rattle.std.proofs.Common.{subst}
use Rattle.trim_laws.specs.Valid.{no_volume, is_no_volume}
use Rattle.solid_brush.specs.Sides.{half_spaces, IsRefusedFor}
use Rattle.map_model.proofs.SomeRight.{some_are_right}
use Rattle.touch_index.proofs.Joins.{few_both, all_few, all_tags, all_spaces}
use Rattle.touch_index.proofs.Overlaps.{answers_true, answers_false, no_volume_of, volume_of_out, volume_of_many}
use Rattle.touch_index.proofs.overlapping.share_inside.Goals as goal

pub joined-requires : goal.joined-requires
joined-requires c = record { few = few_both c.args.a.now c.args.b.now c.sides.result.now c.sides-2.result.now c.sides.ensures.sides c.sides-2.ensures.sides c.sides.ensures.solid c.sides-2.ensures.solid }

pub build-requires-clause-few : goal.build-requires-clause-few
build-requires-clause-few c = all_few c.deref.result.now c.in_ok-sides.sides.items c.sides.result.now c.sides-2.result.now c.args.a.now c.args.b.now c.deref.ensures.value c.in_ok-sides.ensures c.sides.ensures.sides c.sides-2.ensures.sides c.sides.ensures.solid c.sides-2.ensures.solid

pub build-requires-clause-tags : goal.build-requires-clause-tags
build-requires-clause-tags c = all_tags c.deref.result.now c.in_ok-sides.sides.items c.sides.result.now c.sides-2.result.now c.args.a.now c.args.b.now c.deref.ensures.value c.in_ok-sides.ensures c.sides.ensures.sides c.sides-2.ensures.sides c.sides.ensures.solid c.sides-2.ensures.solid

pub returns-in-Ok : goal.returns-in-Ok
returns-in-Ok c = answers_true some_are_right (half_spaces c.args.a.now) (half_spaces c.args.b.now) c.sides.ensures.solid.brush c.sides-2.ensures.solid.brush (half_spaces c.deref.result.now)
    (all_spaces c.deref.result.now c.in_ok-sides.sides.items c.sides.result.now c.sides-2.result.now c.args.a.now c.args.b.now c.deref.ensures.value c.in_ok-sides.ensures c.sides.ensures.sides c.sides-2.ensures.sides c.sides.ensures.solid c.sides-2.ensures.solid)
    (λ n. c.in-Ok.ensures.built.accepted no_volume (is_no_volume n))

pub returns-in-Err-NoVolume : goal.returns-in-Err-NoVolume
returns-in-Err-NoVolume c = answers_false some_are_right (half_spaces c.args.a.now) (half_spaces c.args.b.now) c.sides.ensures.solid.brush c.sides-2.ensures.solid.brush (half_spaces c.deref.result.now)
    (all_spaces c.deref.result.now c.in_ok-sides.sides.items c.sides.result.now c.sides-2.result.now c.args.a.now c.args.b.now c.deref.ensures.value c.in_ok-sides.ensures c.sides.ensures.sides c.sides-2.ensures.sides c.sides.ensures.solid c.sides-2.ensures.solid)
    (no_volume_of (subst (IsRefusedFor (half_spaces c.deref.result.now)) c.in-Err-NoVolume.field-0-is c.in-Err-NoVolume.ensures.fault))

pub returns-in-Err-OutOfWorld : goal.returns-in-Err-OutOfWorld
returns-in-Err-OutOfWorld c = answers_true some_are_right (half_spaces c.args.a.now) (half_spaces c.args.b.now) c.sides.ensures.solid.brush c.sides-2.ensures.solid.brush (half_spaces c.deref.result.now)
    (all_spaces c.deref.result.now c.in_ok-sides.sides.items c.sides.result.now c.sides-2.result.now c.args.a.now c.args.b.now c.deref.ensures.value c.in_ok-sides.ensures c.sides.ensures.sides c.sides-2.ensures.sides c.sides.ensures.solid c.sides-2.ensures.solid)
    (volume_of_out (subst (IsRefusedFor (half_spaces c.deref.result.now)) c.in-Err-OutOfWorld.field-0-is c.in-Err-OutOfWorld.ensures.fault))

pub returns-in-Err-TooManyFaces : goal.returns-in-Err-TooManyFaces
returns-in-Err-TooManyFaces c = answers_true some_are_right (half_spaces c.args.a.now) (half_spaces c.args.b.now) c.sides.ensures.solid.brush c.sides-2.ensures.solid.brush (half_spaces c.deref.result.now)
    (all_spaces c.deref.result.now c.in_ok-sides.sides.items c.sides.result.now c.sides-2.result.now c.args.a.now c.args.b.now c.deref.ensures.value c.in_ok-sides.ensures c.sides.ensures.sides c.sides-2.ensures.sides c.sides.ensures.solid c.sides-2.ensures.solid)
    (volume_of_many (subst (IsRefusedFor (half_spaces c.deref.result.now)) c.in-Err-TooManyFaces.field-0-is c.in-Err-TooManyFaces.ensures.fault))
