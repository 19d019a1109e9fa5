use Rattle.std.proofs.Common.{◌≡◌, ◌^◌, length, get_or, rules, sym, ap, ◌∙◌, pos, negsuc, lit<}
use Rattle.algebra.specs.Space.{dot}
use Rattle.orient48.specs.Kept.{vector_in}
use Rattle.orient48.specs.Rows.{row_vector}
use Rattle.orient48.proofs.Parts.{part_below, kept, kept_minus, once, takes_x, takes_y, takes_z}
use Rattle.orient48.proofs.row.Row.times.Goals as goal

pub returns-in-X : goal.returns-in-X
unfolding dot
returns-in-X c =
    let v = c.args.v in
    let three : length c.args.v ≡ 3 = search rules in
    let small = part_below v (2 ^ 63) 0 three (lit< tt) c.requires in
    kept (get_or v 0 (pos 0)) small ∙ once (get_or v 0 (pos 0)) ∙ takes_x (pos 1) (get_or v 0 (pos 0)) (get_or v 1 (pos 0)) (get_or v 2 (pos 0))
    ∙ ap (λ r. dot (row_vector r) (vector_in v)) (sym c.in-X.is)

pub returns-in-MinusX : goal.returns-in-MinusX
unfolding dot
returns-in-MinusX c =
    let v = c.args.v in
    let three : length c.args.v ≡ 3 = search rules in
    let small = part_below v (2 ^ 63) 0 three (lit< tt) c.requires in
    kept_minus (get_or v 0 (pos 0)) small ∙ takes_x (negsuc 0) (get_or v 0 (pos 0)) (get_or v 1 (pos 0)) (get_or v 2 (pos 0))
    ∙ ap (λ r. dot (row_vector r) (vector_in v)) (sym c.in-MinusX.is)

pub returns-in-Y : goal.returns-in-Y
unfolding dot
returns-in-Y c =
    let v = c.args.v in
    let three : length c.args.v ≡ 3 = search rules in
    let small = part_below v (2 ^ 63) 1 three (lit< tt) c.requires in
    kept (get_or v 1 (pos 0)) small ∙ once (get_or v 1 (pos 0)) ∙ takes_y (pos 1) (get_or v 0 (pos 0)) (get_or v 1 (pos 0)) (get_or v 2 (pos 0))
    ∙ ap (λ r. dot (row_vector r) (vector_in v)) (sym c.in-Y.is)

pub returns-in-MinusY : goal.returns-in-MinusY
unfolding dot
returns-in-MinusY c =
    let v = c.args.v in
    let three : length c.args.v ≡ 3 = search rules in
    let small = part_below v (2 ^ 63) 1 three (lit< tt) c.requires in
    kept_minus (get_or v 1 (pos 0)) small ∙ takes_y (negsuc 0) (get_or v 0 (pos 0)) (get_or v 1 (pos 0)) (get_or v 2 (pos 0))
    ∙ ap (λ r. dot (row_vector r) (vector_in v)) (sym c.in-MinusY.is)

pub returns-in-Z : goal.returns-in-Z
unfolding dot
returns-in-Z c =
    let v = c.args.v in
    let three : length c.args.v ≡ 3 = search rules in
    let small = part_below v (2 ^ 63) 2 three (lit< tt) c.requires in
    kept (get_or v 2 (pos 0)) small ∙ once (get_or v 2 (pos 0)) ∙ takes_z (pos 1) (get_or v 0 (pos 0)) (get_or v 1 (pos 0)) (get_or v 2 (pos 0))
    ∙ ap (λ r. dot (row_vector r) (vector_in v)) (sym c.in-Z.is)

pub returns-in-MinusZ : goal.returns-in-MinusZ
unfolding dot
returns-in-MinusZ c =
    let v = c.args.v in
    let three : length c.args.v ≡ 3 = search rules in
    let small = part_below v (2 ^ 63) 2 three (lit< tt) c.requires in
    kept_minus (get_or v 2 (pos 0)) small ∙ takes_z (negsuc 0) (get_or v 0 (pos 0)) (get_or v 1 (pos 0)) (get_or v 2 (pos 0))
    ∙ ap (λ r. dot (row_vector r) (vector_in v)) (sym c.in-MinusZ.is)
