use Rattle.std.proofs.Common.{◌++◌, ap, ◌∙◌}
use Rattle.solid_brush.specs.Sides.{half_spaces}
use Rattle.obj_export.specs.Text.{material_name}
use Rattle.obj_export.proofs.Pieces.{adds_face}
use Rattle.obj_export.proofs.faces.put_face.Goals as goal

pub returns : goal.returns
returns c =
    adds_face c.extend_from_slice-3.result (half_spaces c.args.solid.now) c.args.number c.args.face.now c.args.before c.args.text.now.items
    c.extend_from_slice.new.self.items c.put_name.new.text.items c.extend_from_slice-2.new.self.items c.put_loop.new.text.items c.extend_from_slice-3.new.self.items
    c.requires.bounds c.in_ok-extend_from_slice.ensures.items (c.in_ok-put_name.ensures ∙ ap (λ m. c.extend_from_slice.new.self.items ++ material_name m) c.bytes.ensures) c.in_ok-extend_from_slice-2.ensures.items c.in_ok-put_loop.ensures c.extend_from_slice-3.ensures.items
