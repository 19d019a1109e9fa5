use Rattle.std.proofs.Common.{◌++◌, ◌∷◌, [], ap, refl, ◌∙◌, to_z, of_z, w32}
use Rattle.std.proofs.lemmas.List.{take_all}
use Rattle.csg_ops.specs.Hollows.{inner_box}
use Rattle.csg_ops.proofs.MovedPlanes.{thickness_kept}
use Rattle.csg_ops.proofs.Hollows.{each_along, item_in, inner_more, moved_is, none_is, none_inner}
use Rattle.csg_ops.proofs.inward.inner_box.Goals as goal

pub inward-requires-clause-along : goal.inward-requires-clause-along
inward-requires-clause-along c = each_along c.args.sides.now c.requires.along c.side-item.result (item_in c.args.sides.now c.loop-side.side-index c.side-item.result c.loop-side-test.true c.side-item.is)

pub inward-requires-clause-small : goal.inward-requires-clause-small
inward-requires-clause-small c = c.requires.small c.side-item.result (item_in c.args.sides.now c.loop-side.side-index c.side-item.result c.loop-side-test.true c.side-item.is)

pub loop-side-preserved : goal.loop-side-preserved
loop-side-preserved c = let t = to_z w32 (of_z w32 c.args.thickness) in
    c.in_ok-push.ensures.items ∙ ap (λ l. l ++ c.in-Some.moved ∷ []) c.loop-side.invariant
    ∙ inner_more t c.args.sides.now c.loop-side.side-index c.side-item.result c.in-Some.moved c.loop-side-test.true c.side-item.is
    (moved_is t t c.side-item.result c.in-Some.moved c.inward.result refl c.inward.ensures c.in-Some.is)

pub returns-in_default : goal.returns-in_default
returns-in_default c = none_inner c.args.thickness c.args.sides.now c.side-item.result (item_in c.args.sides.now c.loop-side.side-index c.side-item.result c.loop-side-test.true c.side-item.is)
    (none_is c.args.thickness _ c.side-item.result c.inward.result (thickness_kept c.args.thickness c.requires.thickness) c.inward.ensures c.in_default.is)

pub returns : goal.returns
returns c = c.loop-side.invariant ∙ ap (inner_box (to_z w32 (of_z w32 c.args.thickness))) (take_all c.loop-side.side-index c.args.sides.now c.loop-side-test.false)
    ∙ ap (λ t. inner_box t c.args.sides.now) (thickness_kept c.args.thickness c.requires.thickness)
