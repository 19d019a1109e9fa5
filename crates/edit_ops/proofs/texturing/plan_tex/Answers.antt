use Rattle.std.proofs.Common.{Some, ap, ◌∙◌}
use Rattle.map_model.specs.Tree.{whole}
use Rattle.map_model.specs.Edits.{swap, set}
use Rattle.map_laws.proofs.BoxCommand.{material_kept}
use Rattle.tree_ops.specs.Faults.{RefusesRightly}
use Rattle.tree_ops.specs.declared.fault.OpFault.TheVariants.{No}
use Rattle.tree_ops.proofs.Outcomes.{fault_is}
use Rattle.edit_ops.proofs.TexOutcomes.{refuses, applies, stays_map, put_is}
use Rattle.edit_ops.proofs.texturing.plan_tex.Goals as goal

pub returns-in_err-old-clause-refused : goal.returns-in_err-old-clause-refused
returns-in_err-old-clause-refused c =
    let m = whole c.args.map.now in
    let s = c.args.set.now in
    fault_is c.from_residual.result (RefusesRightly s m c.args.c.now) (No c.in_err-old.field-0.0) c.from_residual.ensures.1
    (refuses s m c.args.id c.args.face c.args.c.now c.requires.own c.requires.good c.has_pairs.ensures (material_kept s c.has_material.ensures) c.is_map.ensures c.in_err-old.field-0.0 c.in_err-old.ensures.refused)

pub returns-clause-planned : goal.returns-clause-planned
returns-clause-planned c =
    let m = whole c.args.map.now in
    let s = c.args.set.now in
    let k = c.args.c.now in
    let made = c.tighten.ensures.same ∙ c.in_ok-put.ensures.ok m ∙ ap (λ d. set (swap m d) c.args.id (Some c.in_ok-new.new)) c.new-change.ensures
    ∙ put_is m c.args.id c.args.face k c.in_ok-old.old.now c.in_ok-new.new c.in_ok-old.ensures.node c.in_ok-new.ensures in
    record {
      applies = applies s m c.args.id c.args.face k c.requires.own c.requires.good c.has_pairs.ensures (material_kept s c.has_material.ensures) c.is_map.ensures c.in_ok-old.ensures.passes c.tighten.new.self made;
      tight = c.tighten.ensures.tight;
    }

pub returns-clause-sound : goal.returns-clause-sound
returns-clause-sound c =
    let m = whole c.args.map.now in
    let s = c.args.set.now in
    let k = c.args.c.now in
    let made = c.tighten.ensures.same ∙ c.in_ok-put.ensures.ok m ∙ ap (λ d. set (swap m d) c.args.id (Some c.in_ok-new.new)) c.new-change.ensures
    ∙ put_is m c.args.id c.args.face k c.in_ok-old.old.now c.in_ok-new.new c.in_ok-old.ensures.node c.in_ok-new.ensures in
    stays_map s m c.args.id c.args.face k c.requires.own c.requires.good c.has_pairs.ensures (material_kept s c.has_material.ensures) c.is_map.ensures c.in_ok-old.ensures.passes c.tighten.new.self made
