use Rattle.std.proofs.Common.{Some, ap, sym, ◌∙◌}
use Rattle.map_model.specs.Tree.{whole}
use Rattle.map_model.specs.Replies.{NoNode}
use Rattle.edit_ops.proofs.FaceRows.{absent}
use Rattle.edit_ops.proofs.texturing.node_with_face.Goals as goal

pub returns-in_default-clause-refused : goal.returns-in_default-clause-refused
returns-in_default-clause-refused c = absent (whole c.args.map.now) c.args.id c.args.face c.in_default.ensures ∙ ap (λ n. Some (NoNode n)) (sym c.number.ensures)
