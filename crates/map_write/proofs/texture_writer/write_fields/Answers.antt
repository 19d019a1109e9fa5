use Rattle.std.proofs.Common.{◌≡◌, ◌++◌, ap, ◌∙◌}
use Rattle.map_text.specs.Grammar.{texture_symbols}
use Rattle.map_write.specs.Written.{kept, line_of, texture_text}
use Rattle.map_write.proofs.WriteLemmas.{turn_text, valve_written, on_ok}
use Rattle.map_write.proofs.texture_writer.write_fields.Goals as goal

pub returns-in_ok-write_axes-in-Valve : goal.returns-in_ok-write_axes-in-Valve
returns-in_ok-write_axes-in-Valve c =
    let f = c.in-Valve.fields in
    let new = c.write_rotation_and_scales-in-Valve.new.text.items in
    on_ok c.write_rotation_and_scales-in-Valve.result (new ≡ c.write_axes.new.text.items ++ turn_text f.rotation f.scale)
    (new ≡ c.args.text.now.items ++ line_of (texture_symbols (texture_text kept c.args.tex.now))) c.write_rotation_and_scales-in-Valve.ensures
    (λ e. rw c.in-Valve.is
    (e ∙ ap (λ t. t ++ turn_text f.rotation f.scale) c.in_ok-write_axes-in-Valve.ensures ∙ valve_written c.args.text.now.items f.axis f.off f.rotation f.scale f.surface))
