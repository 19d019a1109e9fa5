use Rattle.std.proofs.Common.{◌+◌, ◌-◌, ◌≤◌, ap, ◌∙◌, arith}
use Rattle.map_model.specs.Tree.{whole}
use Rattle.tree_ops.specs.Planning.{reply_by}
use Rattle.map_model.specs.Replies.{Full}
use Rattle.tree_ops.specs.declared.fault.OpFault.TheVariants.{No}
use Rattle.tree_ops.proofs.Numbers.{ends_well}
use Rattle.tree_ops.proofs.Outcomes.{room_left, pruned_own, ends_for_want_of_numbers, ends_by}
use Rattle.tree_ops.proofs.plan.plan.Goals as goal

pub own-requires : goal.own-requires
own-requires c =
    let left : (c.new-change.result.next - 1) + c.from.result ≤ 65535 = room_left ((c.new-change.result.next - 1) + c.from.result) (record { 0 = (c.new-change.result.next - 1) + c.from.result }) c.room.result c.room.ensures c.in_ok-room.was in
    record { these = c.requires.these; room = omega (arith, left, c.from.ensures, c.made_by-made.ensures) }

pub returns-in_err-room-clause-ends : goal.returns-in_err-room-clause-ends
returns-in_err-room-clause-ends c =
    let m = whole c.args.map.now in
    ends_by m c.args.c.now c.from_residual.result (No (Full c.in_err-room.field-0.0.0)) c.from_residual.ensures.1
    (ends_for_want_of_numbers m c.args.c.now c.requires.own c.made_by-made.result c.new-change.result.next c.from.result c.in_err-room.field-0.0 c.room.result c.made_by-made.ensures
    (ap (λ d. d.next) c.new-change.ensures) c.from.ensures c.room.ensures c.in_err-room.was)

pub returns-clause-ends : goal.returns-clause-ends
returns-clause-ends c = λ b s.
    let m = whole c.args.map.now in
    let left : (c.new-change.result.next - 1) + c.from.result ≤ 65535 = room_left ((c.new-change.result.next - 1) + c.from.result) (record { 0 = (c.new-change.result.next - 1) + c.from.result }) c.room.result c.room.ensures c.in_ok-room.was in
    ends_well b s m c.args.c.now c.requires.own c.made_by-made.result c.made_by-made.ensures (omega (arith, left, c.from.ensures, ap (λ d. d.next) c.new-change.ensures))
    c.tighten.new.self c.reply_by-reply.result
    (pruned_own c.args.map.now c.args.c.now b s c.new-change.result c.own.new.change c.prune.new.change c.tighten.new.self c.args.ids.now c.new-change.ensures c.requires.these
    (c.in_ok-own.ensures b s) c.in_ok-prune.ensures c.tighten.ensures.same)
    (c.reply_by-reply.ensures ∙ ap (reply_by c.made_by-made.result) c.next.ensures)
