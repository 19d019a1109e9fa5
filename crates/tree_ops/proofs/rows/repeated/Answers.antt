use Rattle.std.specs.Prelude.{nat_lt, count_by, ◌==◌}
use Rattle.map_model.specs.Replies.{Repeated}
use Rattle.std.proofs.Common.{ap, ◌∙◌, Err}
use Rattle.tree_ops.proofs.RowLoops.{refused_at, passed_one, passed_all, is_twice, not_twice}
use Rattle.tree_ops.proofs.rows.repeated.Goals as goal

pub loop-id-preserved : goal.loop-id-preserved
loop-id-preserved c = passed_one (λ n. nat_lt 1 (count_by (λ k. k == n) c.args.ids.now)) Repeated c.args.ids.now c.loop-id.id-index c.id-item.result c.loop-id-test.true c.id-item.is c.loop-id.invariant
    (not_twice c.times_named.ensures c.if-times_named-gt1.false)

pub returns-then-times_named-gt1 : goal.returns-then-times_named-gt1
returns-then-times_named-gt1 c = ap (λ n. Err (Repeated n)) c.number.ensures ∙ refused_at (λ n. nat_lt 1 (count_by (λ k. k == n) c.args.ids.now)) Repeated c.args.ids.now c.loop-id.id-index c.id-item.result c.loop-id-test.true c.id-item.is c.loop-id.invariant
    (is_twice c.times_named.ensures c.if-times_named-gt1.true)

pub returns : goal.returns
returns c = passed_all (λ n. nat_lt 1 (count_by (λ k. k == n) c.args.ids.now)) Repeated c.args.ids.now c.loop-id.id-index c.loop-id-test.false c.loop-id.invariant
