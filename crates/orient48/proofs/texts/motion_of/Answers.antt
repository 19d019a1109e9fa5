use Rattle.std.proofs.Common.{◌≡◌, ap, sym, ◌∙◌, length, get_or, rules, pos, to_z, of_z, w32, w64, lit<}
use Rattle.algebra.proofs.Identities.{vector_by}
use Rattle.exact_geom.proofs.Exactly.{var, call}
use Rattle.orient48.specs.MotionTexts.{is_last_row}
use Rattle.orient48.specs.Motions.{is_signed_permutation}
use Rattle.orient48.specs.Orients.{matrix_of}
use Rattle.orient48.proofs.Matrices.{matrix_by}
use Rattle.orient48.proofs.Sixteen.{part_small, small_fits, other_row, other_matrix, whole_motion}
use Rattle.orient48.proofs.texts.motion_of.Goals as goal

pub returns-then-not-is_last_row : goal.returns-then-not-is_last_row
returns-then-not-is_last_row c =
    let n = c.args.n in
    let l : length c.args.n ≡ 16 = search rules in
    let e12 = (var w64 (get_or n 12 (pos 0)) (part_small n 12 l (lit< tt) c.requires) tt).is in
    let e13 = (var w64 (get_or n 13 (pos 0)) (part_small n 13 l (lit< tt) c.requires) tt).is in
    let e14 = (var w64 (get_or n 14 (pos 0)) (part_small n 14 l (lit< tt) c.requires) tt).is in
    let e15 = (var w64 (get_or n 15 (pos 0)) (part_small n 15 l (lit< tt) c.requires) tt).is in
    other_row n ((λ i. is_last_row (sym e12 i) (sym e13 i) (sym e14 i) (sym e15 i)) ∙ sym c.is_last_row.ensures ∙ c.if-not-is_last_row.true)

pub returns-in_err-orient : goal.returns-in_err-orient
returns-in_err-orient c =
    let n = c.args.n in
    let l : length c.args.n ≡ 16 = search rules in
    let e0 = (var w64 (get_or n 0 (pos 0)) (part_small n 0 l (lit< tt) c.requires) tt).is in
    let e1 = (var w64 (get_or n 1 (pos 0)) (part_small n 1 l (lit< tt) c.requires) tt).is in
    let e2 = (var w64 (get_or n 2 (pos 0)) (part_small n 2 l (lit< tt) c.requires) tt).is in
    let e4 = (var w64 (get_or n 4 (pos 0)) (part_small n 4 l (lit< tt) c.requires) tt).is in
    let e5 = (var w64 (get_or n 5 (pos 0)) (part_small n 5 l (lit< tt) c.requires) tt).is in
    let e6 = (var w64 (get_or n 6 (pos 0)) (part_small n 6 l (lit< tt) c.requires) tt).is in
    let e8 = (var w64 (get_or n 8 (pos 0)) (part_small n 8 l (lit< tt) c.requires) tt).is in
    let e9 = (var w64 (get_or n 9 (pos 0)) (part_small n 9 l (lit< tt) c.requires) tt).is in
    let e10 = (var w64 (get_or n 10 (pos 0)) (part_small n 10 l (lit< tt) c.requires) tt).is in
    let m = matrix_by (vector_by e0 e1 e2) (vector_by e4 e5 e6) (vector_by e8 e9 e10) in
    c.from_residual.ensures ∙ other_matrix n (ap is_signed_permutation (sym m) ∙ c.in_err-orient.ensures.none)

pub overflow_cast-n : goal.overflow_cast-n
overflow_cast-n c =
    let n = c.args.n in
    let l : length c.args.n ≡ 16 = search rules in
    small_fits (get_or n 3 (pos 0)) _ (var w64 (get_or n 3 (pos 0)) (part_small n 3 l (lit< tt) c.requires) tt).is (part_small n 3 l (lit< tt) c.requires)

pub overflow_cast-n-2 : goal.overflow_cast-n-2
overflow_cast-n-2 c =
    let n = c.args.n in
    let l : length c.args.n ≡ 16 = search rules in
    small_fits (get_or n 7 (pos 0)) _ (var w64 (get_or n 7 (pos 0)) (part_small n 7 l (lit< tt) c.requires) tt).is (part_small n 7 l (lit< tt) c.requires)

pub overflow_cast-n-3 : goal.overflow_cast-n-3
overflow_cast-n-3 c =
    let n = c.args.n in
    let l : length c.args.n ≡ 16 = search rules in
    small_fits (get_or n 11 (pos 0)) _ (var w64 (get_or n 11 (pos 0)) (part_small n 11 l (lit< tt) c.requires) tt).is (part_small n 11 l (lit< tt) c.requires)

pub returns : goal.returns
returns c =
    let n = c.args.n in
    let l : length c.args.n ≡ 16 = search rules in
    let e0 = (var w64 (get_or n 0 (pos 0)) (part_small n 0 l (lit< tt) c.requires) tt).is in
    let e1 = (var w64 (get_or n 1 (pos 0)) (part_small n 1 l (lit< tt) c.requires) tt).is in
    let e2 = (var w64 (get_or n 2 (pos 0)) (part_small n 2 l (lit< tt) c.requires) tt).is in
    let e4 = (var w64 (get_or n 4 (pos 0)) (part_small n 4 l (lit< tt) c.requires) tt).is in
    let e5 = (var w64 (get_or n 5 (pos 0)) (part_small n 5 l (lit< tt) c.requires) tt).is in
    let e6 = (var w64 (get_or n 6 (pos 0)) (part_small n 6 l (lit< tt) c.requires) tt).is in
    let e8 = (var w64 (get_or n 8 (pos 0)) (part_small n 8 l (lit< tt) c.requires) tt).is in
    let e9 = (var w64 (get_or n 9 (pos 0)) (part_small n 9 l (lit< tt) c.requires) tt).is in
    let e10 = (var w64 (get_or n 10 (pos 0)) (part_small n 10 l (lit< tt) c.requires) tt).is in
    let e12 = (var w64 (get_or n 12 (pos 0)) (part_small n 12 l (lit< tt) c.requires) tt).is in
    let e13 = (var w64 (get_or n 13 (pos 0)) (part_small n 13 l (lit< tt) c.requires) tt).is in
    let e14 = (var w64 (get_or n 14 (pos 0)) (part_small n 14 l (lit< tt) c.requires) tt).is in
    let e15 = (var w64 (get_or n 15 (pos 0)) (part_small n 15 l (lit< tt) c.requires) tt).is in
    let m = matrix_by (vector_by e0 e1 e2) (vector_by e4 e5 e6) (vector_by e8 e9 e10) in
    c.of.ensures ∙ whole_motion n (matrix_of c.in_ok-orient.orient) _ l
    ((λ i. is_last_row (sym e12 i) (sym e13 i) (sym e14 i) (sym e15 i)) ∙ sym c.is_last_row.ensures ∙ c.if-not-is_last_row.false)
    (c.in_ok-orient.ensures.some ∙ m) c.in_ok-orient.ensures.signed
    (vector_by
    (call w32 (to_z w64 (of_z w64 (get_or n 3 (pos 0)))) (get_or n 3 (pos 0)) (var w64 (get_or n 3 (pos 0)) (part_small n 3 l (lit< tt) c.requires) tt).is (part_small n 3 l (lit< tt) c.requires) tt).is
    (call w32 (to_z w64 (of_z w64 (get_or n 7 (pos 0)))) (get_or n 7 (pos 0)) (var w64 (get_or n 7 (pos 0)) (part_small n 7 l (lit< tt) c.requires) tt).is (part_small n 7 l (lit< tt) c.requires) tt).is
    (call w32 (to_z w64 (of_z w64 (get_or n 11 (pos 0)))) (get_or n 11 (pos 0)) (var w64 (get_or n 11 (pos 0)) (part_small n 11 l (lit< tt) c.requires) tt).is (part_small n 11 l (lit< tt) c.requires) tt).is)
