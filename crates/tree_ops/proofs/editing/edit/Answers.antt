use Rattle.map_model.specs.Tree.{whole}
use Rattle.map_model.specs.Edits.{swap}
use Rattle.tree_ops.specs.Faults.{RefusesRightly}
use Rattle.tree_ops.specs.declared.fault.OpFault.TheVariants.{No}
use Rattle.tree_ops.proofs.Outcomes.{fault_is, refuses, refuses_late, applies, stays_map}
use Rattle.tree_ops.proofs.editing.edit.Goals as goal

pub returns-in_err-first_refusal-clause-refused : goal.returns-in_err-first_refusal-clause-refused
returns-in_err-first_refusal-clause-refused c =
    let m = whole c.args.map.now in
    fault_is c.from_residual-in_err-first_refusal.result (RefusesRightly c.args.set.now m c.args.c.now) (No c.in_err-first_refusal.field-0.0) c.from_residual-in_err-first_refusal.ensures.1
    (refuses c.args.set.now m c.args.c.now c.requires.own c.requires.good c.is_map.ensures c.in_err-first_refusal.field-0.0 c.in_err-first_refusal.ensures)

pub returns-in_err-planned-clause-refused : goal.returns-in_err-planned-clause-refused
returns-in_err-planned-clause-refused c =
    let m = whole c.args.map.now in
    fault_is c.from_residual-in_err-planned.result (RefusesRightly c.args.set.now m c.args.c.now) c.in_err-planned.field-0.0 c.from_residual-in_err-planned.ensures.1
    (refuses_late c.args.set.now m c.args.c.now c.requires.own c.requires.good c.is_map.ensures c.in_ok-first_refusal.ensures c.in_err-planned.field-0.0 c.in_err-planned.ensures.ends)

pub returns-clause-planned : goal.returns-clause-planned
returns-clause-planned c =
    let m = whole c.args.map.now in
    record {
      applies = applies c.args.set.now m c.args.c.now c.requires.own c.requires.good c.is_map.ensures c.in_ok-first_refusal.ensures
          (record { map = swap m c.in_ok-planned.planned.change; reply = c.in_ok-planned.planned.reply }) c.in_ok-planned.ensures.ends;
      tight = c.in_ok-planned.ensures.tight;
    }

pub returns-clause-sound : goal.returns-clause-sound
returns-clause-sound c =
    let m = whole c.args.map.now in
    stays_map c.args.set.now m c.args.c.now c.requires.own c.requires.good c.is_map.ensures c.in_ok-first_refusal.ensures
    (record { map = swap m c.in_ok-planned.planned.change; reply = c.in_ok-planned.planned.reply }) c.in_ok-planned.ensures.ends
