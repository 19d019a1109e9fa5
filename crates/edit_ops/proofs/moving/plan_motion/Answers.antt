use Rattle.std.proofs.Common.{◌≡◌, ◌==◌, ◌≤◌, flat_map, Ok, Err, ap, sym, subst, ◌∙◌}
use Rattle.std.specs.Prelude.{count_by}
use Rattle.map_model.specs.Motions.{Motion, is_signed_permutation}
use Rattle.map_model.specs.Tree.{whole, preorder}
use Rattle.map_model.specs.Edits.{swap}
use Rattle.map_model.specs.Rows.{first}
use Rattle.tree_ops.specs.Passing.{passes}
use Rattle.tree_ops.specs.Faults.{RefusesRightly}
use Rattle.tree_ops.specs.declared.fault.OpFault.TheVariants.{No}
use Rattle.tree_ops.proofs.Outcomes.{fault_is}
use Rattle.brush_plans.specs.NamedRows.{node_rows}
use Rattle.edit_ops.proofs.MovingRefusals.{beneath, refuses_nodes, refuses_motion, once, can, rows_as, can_as}
use Rattle.edit_ops.proofs.MovingOutcomes.{is_moving, applies, stays_map, after_as}
use Rattle.edit_ops.proofs.moving.plan_motion.Goals as goal

pub returns-in_err-refuse_nodes-clause-refused : goal.returns-in_err-refuse_nodes-clause-refused
returns-in_err-refuse_nodes-clause-refused c =
    let m = whole c.args.map.now in
    let s = c.args.set.now in
    let k = c.args.c.now in
    let p = ap (λ (r : Motion). is_signed_permutation r.matrix) (sym c.requires.motion) ∙ c.requires.turns in
    fault_is c.from_residual.result (RefusesRightly s m k) (No c.in_err-refuse_nodes.field-0.0) c.from_residual.ensures.1
    (refuses_nodes s m k (is_moving k c.requires.own) c.requires.good p c.is_map.ensures c.in_err-refuse_nodes.field-0.0
    (sym c.in_err-refuse_nodes.was ∙ c.refuse_nodes.ensures ∙ ap (λ ns. passes (first (node_rows m ns))) c.requires.these))

pub returns-in_err-refuse_motion-clause-refused : goal.returns-in_err-refuse_motion-clause-refused
returns-in_err-refuse_motion-clause-refused c =
    let m = whole c.args.map.now in
    let s = c.args.set.now in
    let k = c.args.c.now in
    let p = ap (λ (r : Motion). is_signed_permutation r.matrix) (sym c.requires.motion) ∙ c.requires.turns in
    let nodes = c.in_ok-refuse_nodes.ensures ∙ ap (λ ns. passes (first (node_rows m ns))) c.requires.these in
    let is : c.deref.result.now ≡ beneath m k =
    c.deref.ensures.value ∙ c.in_ok-moved.ensures ∙ (λ i. flat_map (preorder (swap m (c.new-change.ensures i))) (c.requires.these i)) in
    fault_is c.from_residual-in_err-refuse_motion.result (RefusesRightly s m k) c.in_err-refuse_motion.field-0.0 c.from_residual-in_err-refuse_motion.ensures.1
    (refuses_motion s m k (is_moving k c.requires.own) c.requires.good p c.is_map.ensures nodes c.in_err-refuse_motion.field-0.0
    (rows_as s m k c.lock-lock.result c.args.motion.now c.deref.result.now c.lock-lock.ensures c.requires.motion is (Err c.in_err-refuse_motion.field-0.0) c.in_err-refuse_motion.ensures))

pub move_nodes-requires : goal.move_nodes-requires
move_nodes-requires c =
    let m = whole c.args.map.now in
    let s = c.args.set.now in
    let k = c.args.c.now in
    let p = ap (λ (r : Motion). is_signed_permutation r.matrix) (sym c.requires.motion) ∙ c.requires.turns in
    let nodes = c.in_ok-refuse_nodes.ensures ∙ ap (λ ns. passes (first (node_rows m ns))) c.requires.these in
    let all = c.in_ok-moved.ensures ∙ (λ i. flat_map (preorder (swap m (c.new-change.ensures i))) (c.requires.these i)) in
    let is : c.deref.result.now ≡ beneath m k = c.deref.ensures.value ∙ all in
    let again : c.deref-2.result.now ≡ beneath m k = c.deref-2.ensures.value ∙ all in
    let motions = rows_as s m k c.lock-lock.result c.args.motion.now c.deref.result.now c.lock-lock.ensures c.requires.motion is (Ok tt) c.in_ok-refuse_motion.ensures in
    record {
      begins = ap (swap m) c.new-change.ensures;
      once = λ q. subst (λ l. count_by (λ n. n == q) l ≤ 1) (sym again) (once s m k (is_moving k c.requires.own) c.requires.good p c.is_map.ensures nodes motions q);
      can = can_as s m k c.lock-lock.result c.args.motion.now c.deref-2.result.now c.lock-lock.ensures c.requires.motion again (can s m k (is_moving k c.requires.own) c.requires.good p c.is_map.ensures nodes motions);
    }

pub returns-clause-planned : goal.returns-clause-planned
returns-clause-planned c =
    let m = whole c.args.map.now in
    let s = c.args.set.now in
    let k = c.args.c.now in
    let p = ap (λ (r : Motion). is_signed_permutation r.matrix) (sym c.requires.motion) ∙ c.requires.turns in
    let nodes = c.in_ok-refuse_nodes.ensures ∙ ap (λ ns. passes (first (node_rows m ns))) c.requires.these in
    let all = c.in_ok-moved.ensures ∙ (λ i. flat_map (preorder (swap m (c.new-change.ensures i))) (c.requires.these i)) in
    let is : c.deref.result.now ≡ beneath m k = c.deref.ensures.value ∙ all in
    let again : c.deref-2.result.now ≡ beneath m k = c.deref-2.ensures.value ∙ all in
    let motions = rows_as s m k c.lock-lock.result c.args.motion.now c.deref.result.now c.lock-lock.ensures c.requires.motion is (Ok tt) c.in_ok-refuse_motion.ensures in
    record {
      applies = applies s m k c.requires.own c.requires.good p c.is_map.ensures nodes motions c.tighten.new.self
          (c.tighten.ensures.same ∙ c.in_ok-move_nodes.ensures ∙ after_as s m k c.lock-lock.result c.args.motion.now c.deref-2.result.now c.lock-lock.ensures c.requires.motion again);
      tight = c.tighten.ensures.tight;
    }

pub returns-clause-sound : goal.returns-clause-sound
returns-clause-sound c =
    let m = whole c.args.map.now in
    let s = c.args.set.now in
    let k = c.args.c.now in
    let p = ap (λ (r : Motion). is_signed_permutation r.matrix) (sym c.requires.motion) ∙ c.requires.turns in
    let nodes = c.in_ok-refuse_nodes.ensures ∙ ap (λ ns. passes (first (node_rows m ns))) c.requires.these in
    let all = c.in_ok-moved.ensures ∙ (λ i. flat_map (preorder (swap m (c.new-change.ensures i))) (c.requires.these i)) in
    let is : c.deref.result.now ≡ beneath m k = c.deref.ensures.value ∙ all in
    let again : c.deref-2.result.now ≡ beneath m k = c.deref-2.ensures.value ∙ all in
    let motions = rows_as s m k c.lock-lock.result c.args.motion.now c.deref.result.now c.lock-lock.ensures c.requires.motion is (Ok tt) c.in_ok-refuse_motion.ensures in
    stays_map s m k c.requires.own c.requires.good p c.is_map.ensures nodes motions c.tighten.new.self
    (c.tighten.ensures.same ∙ c.in_ok-move_nodes.ensures ∙ after_as s m k c.lock-lock.result c.args.motion.now c.deref-2.result.now c.lock-lock.ensures c.requires.motion again)
