use Rattle.std.proofs.Common.{◌≡◌, ap, subst, ◌∙◌, [], ◌++◌, get_or, pos, w32}
use Rattle.std.specs.Result.{IfOk}
use Rattle.exact_geom.proofs.Exactly.{call}
use Rattle.orient48.specs.Kept.{vector_in}
use Rattle.orient48.specs.Reading.{row_text}
use Rattle.orient48.proofs.Parts.{within_short}
use Rattle.orient48.proofs.Spelling.{rows_written}
use Rattle.orient48.proofs.texts.write_motion.Goals as goal

pub returns : goal.returns
returns c =
    let m = c.args.m.now in
    let s = within_short m.shift c.shift-shift.ensures.short in
    subst (λ t. IfOk c.of.result (λ text. text ≡ t))
    (c.deref.ensures.value ∙ rows_written m c.new-text.result.items c.write_row.new.text.items c.write_row-2.new.text.items c.write_row-3.new.text.items c.extend_from_slice.new.self.items
    c.new-text.ensures.items
    (c.in_ok-write_row.ensures ∙ (λ i. c.new-text.result.items ++ row_text ((ap (λ l. vector_in (get_or l 0 [])) c.matrix.ensures.rows ∙ ap (λ k. k.x) c.orient.ensures) i) ((call w32 (get_or c.shift-shift.result 0 (pos 0)) m.shift.x (ap (λ l. get_or l 0 (pos 0)) c.shift-shift.ensures.shift) s.x tt).is i)))
    (c.in_ok-write_row-2.ensures ∙ (λ i. c.write_row.new.text.items ++ row_text ((ap (λ l. vector_in (get_or l 1 [])) c.matrix.ensures.rows ∙ ap (λ k. k.y) c.orient.ensures) i) ((call w32 (get_or c.shift-shift.result 1 (pos 0)) m.shift.y (ap (λ l. get_or l 1 (pos 0)) c.shift-shift.ensures.shift) s.y tt).is i)))
    (c.in_ok-write_row-3.ensures ∙ (λ i. c.write_row-2.new.text.items ++ row_text ((ap (λ l. vector_in (get_or l 2 [])) c.matrix.ensures.rows ∙ ap (λ k. k.z) c.orient.ensures) i) ((call w32 (get_or c.shift-shift.result 2 (pos 0)) m.shift.z (ap (λ l. get_or l 2 (pos 0)) c.shift-shift.ensures.shift) s.z tt).is i)))
    c.in_ok-extend_from_slice.ensures.items)
    c.of.ensures
