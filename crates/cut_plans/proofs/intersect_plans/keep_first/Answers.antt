use Rattle.tree_node.specs.Held.{changed}
use Rattle.cut_plans.proofs.IntersectOutcomes.{kept_first}
use Rattle.cut_plans.proofs.intersect_plans.keep_first.Goals as goal

pub returns : goal.returns
returns c =
    kept_first _ c.args.body c.args.ids.now (changed c.args.map.now c.args.change.now) (changed c.args.map.now c.put_body.new.self) (changed c.args.map.now c.delete_all.new.change) c.index-ids-0.result
    c.requires.some c.index-ids-0.is c.in_ok-put_body.ensures.edit c.in_ok-delete_all.ensures
