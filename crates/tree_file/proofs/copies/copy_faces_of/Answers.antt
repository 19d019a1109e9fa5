use Rattle.std.proofs.Common.{◌<◌, ◌++◌, ◌∷◌, [], length, map, get_or, take_all, ap, sym, ◌∙◌}
use Rattle.tree_file.proofs.Kept.{in_list, map_more, same_default}
use Rattle.tree_file.proofs.copies.copy_faces_of.Goals as goal

pub bounds-faces-side : goal.bounds-faces-side
bounds-faces-side c = c.requires c.side-item.result (in_list c.args.sides.now c.loop-side.side-index c.side-item.result c.loop-side-test.true c.side-item.is)

pub loop-side-preserved : goal.loop-side-preserved
loop-side-preserved c d =
    let faces = c.args.faces.now in
    let s = c.side-item.result in
    let within : s.tag < length faces = c.requires s (in_list c.args.sides.now c.loop-side.side-index s c.loop-side-test.true c.side-item.is) in
    let is = c.in_ok-copy.ensures ∙ c.index-faces-side.is ∙ same_default faces s.tag c.index-faces-side.result d within in
    c.in_ok-push.ensures.items ∙ (λ j. c.loop-side.invariant d j ++ is j ∷ [])
    ∙ sym (map_more (λ x. get_or faces x.tag d) c.args.sides.now c.loop-side.side-index s c.loop-side-test.true c.side-item.is)

pub returns : goal.returns
returns c d =
    c.of.ensures ∙ c.loop-side.invariant d ∙ ap (map (λ x. get_or c.args.faces.now x.tag d)) (take_all c.loop-side.side-index c.args.sides.now c.loop-side-test.false)
