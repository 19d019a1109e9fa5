use Rattle.std.proofs.Common.{◌≡◌, true, false, ap, sym, ◌∙◌, arith, ℕ, ◌≤◌, ℤ, pos, neg_ℤ, ◌-ℤ◌, ◌<ℤ◌, ◌≤ℤ◌, to_z, w32, unsigned_abs}
use Rattle.std.specs.Int.{w128}
use Rattle.std.specs.Prelude.{int_lt}
use Rattle.std.proofs.lemmas.Int.{ints, to_z-of_z, to_z_pos}
use Rattle.exact_geom.proofs.Exactly.{call}
use Rattle.exact_geom.proofs.Nearest.{upright_answer, turned_answer}
use Rattle.exact_geom.proofs.rounding.nearest.Goals as goal

negative : (x m : ℤ) → m ≡ x → int_lt m (pos 0) ≡ true → x <ℤ pos 0
negative x m e h = let k : int_lt x (pos 0) ≡ true = ap (λ t. int_lt t (pos 0)) (sym e) ∙ h in omega (arith, ints)

not_negative : (x m : ℤ) → m ≡ x → int_lt m (pos 0) ≡ false → pos 0 ≤ℤ x
not_negative x m e h = let k : int_lt x (pos 0) ≡ false = ap (λ t. int_lt t (pos 0)) (sym e) ∙ h in omega (arith, ints)

kept : (r : ℕ) → r ≤ 4096 → to_z w32 r ≡ pos r
kept r h = to_z_pos w32 r (omega arith)

opposite : (r : ℕ) → r ≤ 4096 → pos 0 -ℤ to_z w32 r ≡ neg_ℤ (pos r)
opposite r h = ap (λ t. pos 0 -ℤ t) (kept r h) ∙ omega (arith, ints)

opposite_size : (r : ℕ) → r ≤ 4096 → unsigned_abs (neg_ℤ (pos r)) ≤ 4096
opposite_size r h = omega (arith, ints)

pub returns-then-x-lt0-clause-nearest : goal.returns-then-x-lt0-clause-nearest
returns-then-x-lt0-clause-nearest c =
    let r = c.half_up-size.result in
    let s = c.half_up-size.ensures.in_world in
    let x = to_z-of_z w128 c.args.x c.ranges.x in
    turned_answer c.args.grid c.args.x c.args.w _ c.unsigned_abs.result c.unsigned_abs-2.result c.unsigned_abs-3.result r
    (c.unsigned_abs.ensures.value ∙ ap unsigned_abs x)
    (c.unsigned_abs-2.ensures.value ∙ ap unsigned_abs (to_z-of_z w128 c.args.w c.ranges.w))
    (c.unsigned_abs-3.ensures.value ∙ ap unsigned_abs (to_z-of_z w32 c.args.grid c.ranges.grid))
    (negative c.args.x _ x c.if-x-lt0.true) c.requires.weight c.requires.grid c.half_up-size.ensures.nearest
    (sym (call w32 (pos 0 -ℤ to_z w32 r) (neg_ℤ (pos r)) (opposite r s) (opposite_size r s) tt).is)

pub returns-else-x-lt0-clause-nearest : goal.returns-else-x-lt0-clause-nearest
returns-else-x-lt0-clause-nearest c =
    let r = c.half_up-size.result in
    let x = to_z-of_z w128 c.args.x c.ranges.x in
    upright_answer c.args.grid c.args.x c.args.w _ c.unsigned_abs.result c.unsigned_abs-2.result c.unsigned_abs-3.result r
    (c.unsigned_abs.ensures.value ∙ ap unsigned_abs x)
    (c.unsigned_abs-2.ensures.value ∙ ap unsigned_abs (to_z-of_z w128 c.args.w c.ranges.w))
    (c.unsigned_abs-3.ensures.value ∙ ap unsigned_abs (to_z-of_z w32 c.args.grid c.ranges.grid))
    (not_negative c.args.x _ x c.if-x-lt0.false) c.requires.weight c.requires.grid c.half_up-size.ensures.nearest (sym (kept r c.half_up-size.ensures.in_world))
