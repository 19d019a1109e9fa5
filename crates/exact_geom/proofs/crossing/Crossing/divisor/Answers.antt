use Rattle.std.proofs.Common.{◌≡◌, ◌≢◌, ℕ, ◌≤◌, true, false, arith, sym, subst, ap, ◌∙◌, ℤ, pos, neg_ℤ, ◌-ℤ◌, ◌<ℤ◌, FitsSigned, to_z, of_z, unsigned_abs}
use Rattle.std.specs.Int.{◌∣◌, w128}
use Rattle.std.specs.Prelude.{int_lt}
use Rattle.std.proofs.lemmas.Int.{ints, to_z_pos, fits_signed_from_abs}
use Rattle.std.proofs.lemmas.Nat.Gcd.{le_of_dvd}
use Rattle.algebra.proofs.Orders.{by_sign}
use Rattle.exact_geom.specs.Limits.{coordinate_limit, weight_limit}
use Rattle.exact_geom.specs.Vertices.{homogeneous}
use Rattle.exact_geom.proofs.Division.{common_divisor, divisor_positive, size_positive, upright_divisor, turned_divisor}
use Rattle.exact_geom.proofs.Exactly.{var, call}
use Rattle.exact_geom.proofs.crossing.Crossing.divisor.Goals as goal

coordinate : (x : ℤ) (r : ℕ) → unsigned_abs x ≤ coordinate_limit → r ≡ unsigned_abs (to_z w128 (of_z w128 x)) → r ≡ unsigned_abs x
coordinate x r h e = e ∙ ap unsigned_abs (var w128 x h tt).is

weight_is : (w : ℤ) → unsigned_abs w ≤ weight_limit → to_z w128 (of_z w128 w) ≡ w
weight_is w h = (var w128 w h tt).is

weight_size : (w : ℤ) (r : ℕ) → unsigned_abs w ≤ weight_limit → r ≡ unsigned_abs (to_z w128 (of_z w128 w)) → r ≡ unsigned_abs w
weight_size w r h e = e ∙ ap unsigned_abs (weight_is w h)

-- no divisor of the weight is greater
small : (g : ℕ) (w : ℤ) → w ≢ pos 0 → unsigned_abs w ≤ weight_limit → g ∣ unsigned_abs w → g ≤ weight_limit
small g w n h k = let l = le_of_dvd (size_positive w n) k in omega arith

at_most : (g : ℕ) → g ≤ weight_limit → to_z w128 g ≡ pos g
at_most g h = to_z_pos w128 g (omega arith)

turned : (g : ℕ) → g ≤ weight_limit → pos 0 -ℤ to_z w128 g ≡ neg_ℤ (pos g)
turned g h = let e = at_most g h in ap (λ z. pos 0 -ℤ z) e ∙ omega (arith, ints)

turned_size : (g : ℕ) → g ≤ weight_limit → unsigned_abs (neg_ℤ (pos g)) ≤ weight_limit
turned_size g h = omega (arith, ints)

turned_fits : (g : ℕ) → g ≤ weight_limit → FitsSigned w128 (pos 0 -ℤ to_z w128 g)
turned_fits g h = subst (FitsSigned w128) (sym (turned g h)) (let s = turned_size g h in fits_signed_from_abs w128 (neg_ℤ (pos g)) (omega arith))

negative : (w m : ℤ) → m ≡ w → int_lt m (pos 0) ≡ true → w <ℤ pos 0
negative w m e h = let k : int_lt w (pos 0) ≡ true = ap (λ t. int_lt t (pos 0)) (sym e) ∙ h in omega (arith, ints)

positive : (w m : ℤ) → m ≡ w → int_lt m (pos 0) ≡ false → w ≢ pos 0 → pos 0 <ℤ w
positive w m e h n =
    let k : int_lt w (pos 0) ≡ false = ap (λ t. int_lt t (pos 0)) (sym e) ∙ h in
    by_sign w (λ l. absurd (omega (arith, ints))) (λ z. absurd (n z)) (λ l. l)

pub overflow_cast-size : goal.overflow_cast-size
overflow_cast-size c =
    let w = c.args.self.now.w in
    let r : c.gcd-size.result ∣ unsigned_abs w = subst (λ n. c.gcd-size.result ∣ n) (weight_size w c.unsigned_abs-4.result c.requires.bounded.weight c.unsigned_abs-4.ensures.value) c.gcd-size.ensures.1 in
    let l = small c.gcd-size.result w c.requires.weight c.requires.bounded.weight r in
    fits_signed_from_abs w128 (pos c.gcd-size.result) (omega arith)

pub overflow_sub-result : goal.overflow_sub-result
overflow_sub-result c =
    let w = c.args.self.now.w in
    let r : c.gcd-size.result ∣ unsigned_abs w = subst (λ n. c.gcd-size.result ∣ n) (weight_size w c.unsigned_abs-4.result c.requires.bounded.weight c.unsigned_abs-4.ensures.value) c.gcd-size.ensures.1 in
    turned_fits c.gcd-size.result (small c.gcd-size.result w c.requires.weight c.requires.bounded.weight r)

pub returns-then-self-lt0 : goal.returns-then-self-lt0
returns-then-self-lt0 c =
    let p = c.args.self.now in
    let b = c.requires.bounded in
    let g = c.gcd-size.result in
    let d = common_divisor p.x p.y p.z p.w c.unsigned_abs.result c.unsigned_abs-2.result c.unsigned_abs-3.result c.unsigned_abs-4.result c.gcd.result c.gcd-spread.result g
    (coordinate p.x c.unsigned_abs.result b.x c.unsigned_abs.ensures.value) (coordinate p.y c.unsigned_abs-2.result b.y c.unsigned_abs-2.ensures.value)
    (coordinate p.z c.unsigned_abs-3.result b.z c.unsigned_abs-3.ensures.value) (weight_size p.w c.unsigned_abs-4.result b.weight c.unsigned_abs-4.ensures.value)
    c.gcd.ensures c.gcd-spread.ensures c.gcd-size.ensures in
    let l = small g p.w c.requires.weight b.weight d.fourth in
    turned_divisor (homogeneous p.x p.y p.z p.w) _ g (call w128 (pos 0 -ℤ to_z w128 g) (neg_ℤ (pos g)) (turned g l) (turned_size g l) tt).is
    (divisor_positive g (unsigned_abs p.w) d.fourth (size_positive p.w c.requires.weight)) (negative p.w _ (weight_is p.w b.weight) c.if-self-lt0.true) d

pub returns-else-self-lt0 : goal.returns-else-self-lt0
returns-else-self-lt0 c =
    let p = c.args.self.now in
    let b = c.requires.bounded in
    let g = c.gcd-size.result in
    let d = common_divisor p.x p.y p.z p.w c.unsigned_abs.result c.unsigned_abs-2.result c.unsigned_abs-3.result c.unsigned_abs-4.result c.gcd.result c.gcd-spread.result g
    (coordinate p.x c.unsigned_abs.result b.x c.unsigned_abs.ensures.value) (coordinate p.y c.unsigned_abs-2.result b.y c.unsigned_abs-2.ensures.value)
    (coordinate p.z c.unsigned_abs-3.result b.z c.unsigned_abs-3.ensures.value) (weight_size p.w c.unsigned_abs-4.result b.weight c.unsigned_abs-4.ensures.value)
    c.gcd.ensures c.gcd-spread.ensures c.gcd-size.ensures in
    let l = small g p.w c.requires.weight b.weight d.fourth in
    upright_divisor (homogeneous p.x p.y p.z p.w) _ g (at_most g l)
    (divisor_positive g (unsigned_abs p.w) d.fourth (size_positive p.w c.requires.weight)) (positive p.w _ (weight_is p.w b.weight) c.if-self-lt0.false c.requires.weight) d
