use Rattle.std.specs.Prelude.{is_none}
use Rattle.map_model.specs.Tree.{whole, at}
use Rattle.map_model.specs.Replies.{NoNode}
use Rattle.std.proofs.Common.{sym, ap, ◌∙◌, Err}
use Rattle.tree_ops.proofs.RowLoops.{refused_at, passed_one, passed_all}
use Rattle.tree_ops.proofs.rows.no_node.Goals as goal

pub loop-id-preserved : goal.loop-id-preserved
loop-id-preserved c = passed_one (λ n. is_none (at (whole c.args.map.now) n)) NoNode c.args.ids.now c.loop-id.id-index c.id-item.result c.loop-id-test.true c.id-item.is c.loop-id.invariant
    (sym c.is_absent.ensures ∙ c.if-is_absent.false)

pub returns-then-is_absent : goal.returns-then-is_absent
returns-then-is_absent c = ap (λ n. Err (NoNode n)) c.number.ensures ∙ refused_at (λ n. is_none (at (whole c.args.map.now) n)) NoNode c.args.ids.now c.loop-id.id-index c.id-item.result c.loop-id-test.true c.id-item.is c.loop-id.invariant
    (sym c.is_absent.ensures ∙ c.if-is_absent.true)

pub returns : goal.returns
returns c = passed_all (λ n. is_none (at (whole c.args.map.now) n)) NoNode c.args.ids.now c.loop-id.id-index c.loop-id-test.false c.loop-id.invariant
