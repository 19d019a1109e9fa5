use Rattle.std.proofs.Common.{ap, sym, subst, ◌∙◌, length, ◌≤◌, Some}
use Rattle.map_model.specs.Motions.{moved_plane}
use Rattle.map_model.specs.Rows.{beyond}
use Rattle.tree_ops.specs.Passing.{passes}
use Rattle.edit_ops.specs.Moving.{points_of}
use Rattle.edit_ops.proofs.MovedSolids.{few_of}
use Rattle.edit_ops.proofs.motion_rows.points_of_node.Goals as goal

pub beyond-requires : goal.beyond-requires
beyond-requires c = record { few = subst (λ l. length l ≤ 128) (sym c.faces.ensures.faces) (few_of c.in-Brush.body c.is_valid.ensures) }

pub returns-in-Brush : goal.returns-in-Brush
returns-in-Brush c =
    c.beyond.ensures ∙ ap (λ fs. passes (beyond c.args.id (moved_plane c.args.motion.now) fs)) c.faces.ensures.faces ∙ sym (ap (λ x. passes (points_of c.args.motion.now c.args.id (Some x))) c.in-Brush.is)
