use Rattle.std.proofs.Common.{ap, ◌∙◌, ◌++◌, get_or, rules, pos, w32, w64}
use mir.Val.{SFits}
use Rattle.std.proofs.lemmas.Int.{to_z-of_z}
use Rattle.std.proofs.lemmas.Result.{on_ok_weaker}
use Rattle.orient48.specs.Reading.{spaced}
use Rattle.orient48.proofs.Spelling.{row_written}
use Rattle.orient48.proofs.texts.write_row.Goals as goal

pub returns : goal.returns
returns c =
    let x = get_or c.args.row 0 (pos 0) in
    let y = get_or c.args.row 1 (pos 0) in
    let z = get_or c.args.row 2 (pos 0) in
    let fits_x : SFits w64 (get_or c.args.row 0 (pos 0)) = search rules in
    let fits_y : SFits w64 (get_or c.args.row 1 (pos 0)) = search rules in
    let fits_z : SFits w64 (get_or c.args.row 2 (pos 0)) = search rules in
    let fits_s : SFits w64 c.from.result = search rules in
    on_ok_weaker c.write_number-4.result (λ h.
    row_written x y z c.args.shift c.args.text.now.items c.write_number.new.text.items c.write_number-2.new.text.items c.write_number-3.new.text.items c.write_number-4.new.text.items
    (c.in_ok-write_number.ensures ∙ ap (λ t. c.args.text.now.items ++ spaced t) (to_z-of_z w64 x fits_x))
    (c.in_ok-write_number-2.ensures ∙ ap (λ t. c.write_number.new.text.items ++ spaced t) (to_z-of_z w64 y fits_y))
    (c.in_ok-write_number-3.ensures ∙ ap (λ t. c.write_number-2.new.text.items ++ spaced t) (to_z-of_z w64 z fits_z))
    (h ∙ ap (λ t. c.write_number-3.new.text.items ++ spaced t) (to_z-of_z w64 c.from.result fits_s ∙ c.from.ensures ∙ to_z-of_z w32 c.args.shift c.ranges.shift)))
    c.write_number-4.ensures
