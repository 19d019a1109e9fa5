use Rattle.std.proofs.Common.{ap, sym, subst, ◌∙◌, length, ◌≤◌, Some}
use Rattle.map_model.specs.Rows.{at_each_face_from}
use Rattle.tree_ops.specs.Passing.{passes}
use Rattle.edit_ops.specs.Moving.{lost_of, offsets_of}
use Rattle.edit_ops.proofs.MovedSolids.{few_of}
use Rattle.edit_ops.proofs.motion_rows.offsets_of_node.Goals as goal

pub lost-requires : goal.lost-requires
lost-requires c = record { few = subst (λ l. length l ≤ 128) (sym c.faces.ensures.faces) (few_of c.in-Brush.body c.is_valid.ensures) }

pub returns-in-Brush : goal.returns-in-Brush
returns-in-Brush c =
    c.lost.ensures ∙ ap (λ fs. passes (at_each_face_from 0 fs (lost_of c.args.motion.now c.args.id))) c.faces.ensures.faces ∙ sym (ap (λ x. passes (offsets_of c.args.motion.now c.args.id (Some x))) c.in-Brush.is)
