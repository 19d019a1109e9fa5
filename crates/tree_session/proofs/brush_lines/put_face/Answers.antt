use Rattle.std.proofs.Common.{◌++◌, ap, ◌∙◌}
use Rattle.std.specs.Fmt.{decimal}
use Rattle.map_write.specs.Written.{written, material_symbol}
use Rattle.solid_brush.specs.Sides.{half_spaces}
use Rattle.tree_session.proofs.Lines.{adds_face}
use Rattle.tree_session.proofs.brush_lines.put_face.Goals as goal

pub returns : goal.returns
returns c =
    adds_face c.put-3.result (half_spaces c.args.solid.now) c.args.number c.args.face.now c.args.listing.now c.put.new.self c.number.new.self c.put-2.new.self
    c.put_material.new.listing c.put_loop.new.listing c.put-3.new.self c.requires
    c.in_ok-put.ensures (c.in_ok-number.ensures ∙ ap (λ n. c.put.new.self ++ decimal n) c.from.ensures) c.in_ok-put-2.ensures (c.in_ok-put_material.ensures ∙ ap (λ m. c.put-2.new.self ++ written (material_symbol m)) c.bytes.ensures) c.in_ok-put_loop.ensures c.put-3.ensures
