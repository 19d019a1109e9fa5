use Rattle.std.proofs.Common.{Err, sym, ap, subst, ◌∙◌}
use Rattle.trim_laws.specs.Valid.{OutOfWorld}
use Rattle.map_model.specs.Shape.{half_spaces}
use Rattle.tree_ops.specs.declared.fault.OpFault.TheVariants.{No}
use Rattle.brush_plans.specs.Bodies.{AreNeeded, IsBodyOf}
use Rattle.cut_plans.specs.Told.{faces_of}
use Rattle.cut_plans.proofs.Trimmed.{kept_needed, kept_stay}
use Rattle.cut_plans.proofs.solid_bodies.body_of_solid.Goals as goal

pub body_of-requires : goal.body_of-requires
body_of-requires c = record {
  needed = subst AreNeeded (sym (c.in_ok-faces.ensures ∙ ap (faces_of c.args.base c.args.old.now c.args.new.now) c.sides.ensures.sides))
      (kept_needed c.args.base c.args.old.now c.args.new.now c.args.solid.now c.sides.ensures.solid);
}

pub unreachable-requires : goal.unreachable-requires
unreachable-requires c =
    let is = c.in_ok-faces.ensures ∙ ap (faces_of c.args.base c.args.old.now c.args.new.now) c.sides.ensures.sides in
    let h : IsBodyOf c.in_ok-faces.faces.items 0 (Err (No c.in-Err-No.field-0-0)) = subst (λ e. IsBodyOf c.in_ok-faces.faces.items 0 (Err e)) c.in-Err-No.field-0-is c.in-Err-No.ensures in
    kept_stay c.args.base c.args.old.now c.args.new.now c.args.solid.now c.sides.ensures.solid (subst (λ l. OutOfWorld (half_spaces l)) is h.1)
