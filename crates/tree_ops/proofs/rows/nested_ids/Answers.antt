use Rattle.std.specs.Prelude.{◌||◌}
use Rattle.std.specs.List.{list_any}
use Rattle.map_model.specs.Tree.{whole, lies_beneath}
use Rattle.tree_ops.specs.Passing.{is_place_beneath_it}
use Rattle.map_model.specs.Replies.{NestedIds}
use Rattle.std.proofs.Common.{sym, ap, ◌∙◌, Err}
use Rattle.tree_ops.proofs.RowLoops.{refused_at, passed_one, passed_all}
use Rattle.tree_ops.proofs.rows.nested_ids.Goals as goal

pub loop-id-preserved : goal.loop-id-preserved
loop-id-preserved c = passed_one (λ n. list_any (lies_beneath (whole c.args.map.now) n) c.args.ids.now || is_place_beneath_it (whole c.args.map.now) c.args.place n) NestedIds c.args.ids.now c.loop-id.id-index c.id-item.result c.loop-id-test.true c.id-item.is c.loop-id.invariant
    (sym c.is_nested.ensures ∙ c.if-is_nested.false)

pub returns-then-is_nested : goal.returns-then-is_nested
returns-then-is_nested c = ap (λ n. Err (NestedIds n)) c.number.ensures ∙ refused_at (λ n. list_any (lies_beneath (whole c.args.map.now) n) c.args.ids.now || is_place_beneath_it (whole c.args.map.now) c.args.place n) NestedIds c.args.ids.now c.loop-id.id-index c.id-item.result c.loop-id-test.true c.id-item.is c.loop-id.invariant
    (sym c.is_nested.ensures ∙ c.if-is_nested.true)

pub returns : goal.returns
returns c = passed_all (λ n. list_any (lies_beneath (whole c.args.map.now) n) c.args.ids.now || is_place_beneath_it (whole c.args.map.now) c.args.place n) NestedIds c.args.ids.now c.loop-id.id-index c.loop-id-test.false c.loop-id.invariant
