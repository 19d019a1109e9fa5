use Rattle.std.proofs.Common.{◌≡◌, ◌≤◌, ◌<◌, ◌+◌, ◌-◌, flat_map, length, Ok, Err, ap, sym, subst, ◌∙◌}
use Rattle.map_model.specs.Motions.{Motion, is_signed_permutation}
use Rattle.map_model.specs.Tree.{whole, preorder}
use Rattle.map_model.specs.Edits.{swap}
use Rattle.map_model.specs.Replies.{Made, Full}
use Rattle.map_model.specs.Promises.{Applies}
use Rattle.map_model.specs.Rows.{first}
use Rattle.tree_ops.specs.Passing.{passes}
use Rattle.tree_ops.specs.Faults.{RefusesRightly}
use Rattle.tree_ops.specs.declared.fault.OpFault.TheVariants.{No}
use Rattle.tree_ops.proofs.Outcomes.{fault_is, room_left, room_gone}
use Rattle.brush_plans.specs.NamedRows.{node_rows}
use Rattle.edit_ops.proofs.MovingRefusals.{beneath, refuses_nodes, refuses_motion, can, rows_as, can_as}
use Rattle.edit_ops.proofs.CopyOutcomes.{is_moving, next, refuses_full, applies, stays_map, enough, after_as, next_as}
use Rattle.edit_ops.proofs.copying.plan_copies.Goals as goal

pub returns-in_err-refuse_nodes-clause-refused : goal.returns-in_err-refuse_nodes-clause-refused
returns-in_err-refuse_nodes-clause-refused c =
    let m = whole c.args.map.now in
    let s = c.args.set.now in
    let k = c.args.c.now in
    let p = ap (λ (r : Motion). is_signed_permutation r.matrix) (sym c.requires.motion) ∙ c.requires.turns in
    fault_is c.from_residual.result (RefusesRightly s m k) (No c.in_err-refuse_nodes.field-0.0) c.from_residual.ensures.1
    (refuses_nodes s m k (is_moving k c.requires.own) c.requires.good p c.is_map.ensures c.in_err-refuse_nodes.field-0.0
    (sym c.in_err-refuse_nodes.was ∙ c.refuse_nodes.ensures ∙ ap (λ ns. passes (first (node_rows m ns))) c.requires.these))

pub returns-in_err-refuse_motion-clause-refused : goal.returns-in_err-refuse_motion-clause-refused
returns-in_err-refuse_motion-clause-refused c =
    let m = whole c.args.map.now in
    let s = c.args.set.now in
    let k = c.args.c.now in
    let p = ap (λ (r : Motion). is_signed_permutation r.matrix) (sym c.requires.motion) ∙ c.requires.turns in
    let nodes = c.in_ok-refuse_nodes.ensures ∙ ap (λ ns. passes (first (node_rows m ns))) c.requires.these in
    let is : c.deref.result.now ≡ beneath m k =
    c.deref.ensures.value ∙ c.in_ok-copied.ensures ∙ (λ i. flat_map (preorder (swap m (c.new-change.ensures i))) (c.requires.these i)) in
    fault_is c.from_residual-in_err-refuse_motion.result (RefusesRightly s m k) c.in_err-refuse_motion.field-0.0 c.from_residual-in_err-refuse_motion.ensures.1
    (refuses_motion s m k (is_moving k c.requires.own) c.requires.good p c.is_map.ensures nodes c.in_err-refuse_motion.field-0.0
    (rows_as s m k c.lock-lock.result c.args.motion.now c.deref.result.now c.lock-lock.ensures c.requires.motion is (Err c.in_err-refuse_motion.field-0.0) c.in_err-refuse_motion.ensures))

pub returns-in_err-room-clause-refused : goal.returns-in_err-room-clause-refused
returns-in_err-room-clause-refused c =
    let m = whole c.args.map.now in
    let s = c.args.set.now in
    let k = c.args.c.now in
    let p = ap (λ (r : Motion). is_signed_permutation r.matrix) (sym c.requires.motion) ∙ c.requires.turns in
    let nodes = c.in_ok-refuse_nodes.ensures ∙ ap (λ ns. passes (first (node_rows m ns))) c.requires.these in
    let all = c.in_ok-copied.ensures ∙ (λ i. flat_map (preorder (swap m (c.new-change.ensures i))) (c.requires.these i)) in
    let is : c.deref.result.now ≡ beneath m k = c.deref.ensures.value ∙ all in
    let motions = rows_as s m k c.lock-lock.result c.args.motion.now c.deref.result.now c.lock-lock.ensures c.requires.motion is (Ok tt) c.in_ok-refuse_motion.ensures in
    let total : (c.new-change.result.next - 1) + c.len.result ≡ (m.next - 1) + length (beneath m k) = λ i. ((c.new-change.ensures i).next - 1) + (c.len.ensures ∙ sym c.deref.ensures.len ∙ ap length is) i in
    let gone = room_gone ((c.new-change.result.next - 1) + c.len.result) (record { 0 = (c.new-change.result.next - 1) + c.len.result }) c.in_err-room.field-0.0 c.room.result c.room.ensures c.in_err-room.was in
    let asked = ap (λ f. f.0) gone.1 in
    fault_is c.from_residual-in_err-room.result (RefusesRightly s m k) (No (Full c.in_err-room.field-0.0.0)) c.from_residual-in_err-room.ensures.1
    (refuses_full s m k c.requires.own c.requires.good p c.is_map.ensures nodes motions c.in_err-room.field-0.0.0 (asked ∙ total) (subst (λ n. 65535 < n) (sym asked) gone.0))

pub copy_nodes-requires : goal.copy_nodes-requires
copy_nodes-requires c =
    let m = whole c.args.map.now in
    let s = c.args.set.now in
    let k = c.args.c.now in
    let p = ap (λ (r : Motion). is_signed_permutation r.matrix) (sym c.requires.motion) ∙ c.requires.turns in
    let nodes = c.in_ok-refuse_nodes.ensures ∙ ap (λ ns. passes (first (node_rows m ns))) c.requires.these in
    let all = c.in_ok-copied.ensures ∙ (λ i. flat_map (preorder (swap m (c.new-change.ensures i))) (c.requires.these i)) in
    let is : c.deref.result.now ≡ beneath m k = c.deref.ensures.value ∙ all in
    let motions = rows_as s m k c.lock-lock.result c.args.motion.now c.deref.result.now c.lock-lock.ensures c.requires.motion is (Ok tt) c.in_ok-refuse_motion.ensures in
    let total : (c.new-change.result.next - 1) + c.len.result ≡ (m.next - 1) + length (beneath m k) = λ i. ((c.new-change.ensures i).next - 1) + (c.len.ensures ∙ sym c.deref.ensures.len ∙ ap length is) i in
    let room = subst (λ n. n ≤ 65535) total (room_left ((c.new-change.result.next - 1) + c.len.result) (record { 0 = (c.new-change.result.next - 1) + c.len.result }) c.room.result c.room.ensures c.in_ok-room.was) in
    record {
      begins = ap (swap m) c.new-change.ensures;
      next = next_as s m k c.lock-lock.result c.args.motion.now c.args.ids.now c.lock-lock.ensures c.requires.motion c.requires.these (next s m k c.requires.own c.requires.good p c.is_map.ensures nodes motions);
      can = can_as s m k c.lock-lock.result c.args.motion.now (flat_map (preorder m) c.args.ids.now) c.lock-lock.ensures c.requires.motion (ap (flat_map (preorder m)) c.requires.these)
          (can s m k (is_moving k c.requires.own) c.requires.good p c.is_map.ensures nodes motions);
      room = subst (λ ns. m.next + length (flat_map (preorder m) ns) ≤ 65536) (sym c.requires.these) (enough s m k c.requires.own c.requires.good p c.is_map.ensures nodes motions room);
    }

pub returns-clause-planned : goal.returns-clause-planned
returns-clause-planned c =
    let m = whole c.args.map.now in
    let s = c.args.set.now in
    let k = c.args.c.now in
    let p = ap (λ (r : Motion). is_signed_permutation r.matrix) (sym c.requires.motion) ∙ c.requires.turns in
    let nodes = c.in_ok-refuse_nodes.ensures ∙ ap (λ ns. passes (first (node_rows m ns))) c.requires.these in
    let all = c.in_ok-copied.ensures ∙ (λ i. flat_map (preorder (swap m (c.new-change.ensures i))) (c.requires.these i)) in
    let is : c.deref.result.now ≡ beneath m k = c.deref.ensures.value ∙ all in
    let motions = rows_as s m k c.lock-lock.result c.args.motion.now c.deref.result.now c.lock-lock.ensures c.requires.motion is (Ok tt) c.in_ok-refuse_motion.ensures in
    let total : (c.new-change.result.next - 1) + c.len.result ≡ (m.next - 1) + length (beneath m k) = λ i. ((c.new-change.ensures i).next - 1) + (c.len.ensures ∙ sym c.deref.ensures.len ∙ ap length is) i in
    let room = subst (λ n. n ≤ 65535) total (room_left ((c.new-change.result.next - 1) + c.len.result) (record { 0 = (c.new-change.result.next - 1) + c.len.result }) c.room.result c.room.ensures c.in_ok-room.was) in
    let made = c.tighten.ensures.same ∙ c.in_ok-copy_nodes.ensures ∙ after_as s m k c.lock-lock.result c.args.motion.now c.args.ids.now c.lock-lock.ensures c.requires.motion c.requires.these in
    record {
      applies = subst (λ reply. Applies s m k (Ok (record { map = swap m c.tighten.new.self; reply = reply }))) (λ i. Made (sym (c.len-2.ensures ∙ sym c.deref.ensures.len ∙ ap length is) i) (sym c.next.ensures i))
          (applies s m k c.requires.own c.requires.good p c.is_map.ensures nodes motions room c.tighten.new.self made);
      tight = c.tighten.ensures.tight;
    }

pub returns-clause-sound : goal.returns-clause-sound
returns-clause-sound c =
    let m = whole c.args.map.now in
    let s = c.args.set.now in
    let k = c.args.c.now in
    let p = ap (λ (r : Motion). is_signed_permutation r.matrix) (sym c.requires.motion) ∙ c.requires.turns in
    let nodes = c.in_ok-refuse_nodes.ensures ∙ ap (λ ns. passes (first (node_rows m ns))) c.requires.these in
    let all = c.in_ok-copied.ensures ∙ (λ i. flat_map (preorder (swap m (c.new-change.ensures i))) (c.requires.these i)) in
    let is : c.deref.result.now ≡ beneath m k = c.deref.ensures.value ∙ all in
    let motions = rows_as s m k c.lock-lock.result c.args.motion.now c.deref.result.now c.lock-lock.ensures c.requires.motion is (Ok tt) c.in_ok-refuse_motion.ensures in
    let total : (c.new-change.result.next - 1) + c.len.result ≡ (m.next - 1) + length (beneath m k) = λ i. ((c.new-change.ensures i).next - 1) + (c.len.ensures ∙ sym c.deref.ensures.len ∙ ap length is) i in
    let room = subst (λ n. n ≤ 65535) total (room_left ((c.new-change.result.next - 1) + c.len.result) (record { 0 = (c.new-change.result.next - 1) + c.len.result }) c.room.result c.room.ensures c.in_ok-room.was) in
    let made = c.tighten.ensures.same ∙ c.in_ok-copy_nodes.ensures ∙ after_as s m k c.lock-lock.result c.args.motion.now c.args.ids.now c.lock-lock.ensures c.requires.motion c.requires.these in
    stays_map s m k c.requires.own c.requires.good p c.is_map.ensures nodes motions room c.tighten.new.self made
