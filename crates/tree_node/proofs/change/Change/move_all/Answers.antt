use Rattle.std.proofs.Common.{ap, ap₂, ◌∙◌}
use Rattle.map_model.specs.Tree.{whole}
use Rattle.map_model.specs.Edits.{put_in, take_out, swap}
use Rattle.tree_node.proofs.Turns.{moved_one}
use Rattle.tree_node.proofs.change.Change.move_all.Goals as goal

pub loop-id-preserved : goal.loop-id-preserved
loop-id-preserved c =
    let m = whole c.args.map.now in
    moved_one m c.args.place c.args.ids.now c.loop-id.id-index c.id-item.result c.args.self.now c.loop-id.self c.put_in.new.self c.loop-id-test.true c.loop-id.invariant
    (c.in_ok-put_in.ensures ∙ ap₂ (λ n x. put_in c.args.place n x) c.id-item.is (c.in_ok-take_out.ensures.edit ∙ ap (λ n. take_out n (swap m c.loop-id.self)) c.id-item.is))
