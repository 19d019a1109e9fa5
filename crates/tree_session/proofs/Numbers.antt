-- Numbers that were handed on by value.
use Rattle.std.proofs.Common.{◌≡◌, ℕ, ℤ, List, ◌++◌, [], ◌∷◌, pos, negsuc, ◌<ℤ◌, ◌≢◌, Bool, true, false, cond, refl, arith, append-nil, sym, ap, ◌∙◌, FitsSigned, to_z, of_z, to_z-of_z, rules}
use Rattle.std.specs.Int.{w128}
use Rattle.std.specs.Prelude.{unsigned_abs}
use Rattle.std.specs.Ordering.{int_eq}
use Rattle.std.specs.Fmt.{signed_decimal}
use Rattle.std.proofs.lemmas.Int.{ints}
use Rattle.tree_session.specs.Lines.{three_words, weight_text}

pub three_given : (x y z : ℤ) (old new : List ℕ) → FitsSigned w128 x → FitsSigned w128 y → FitsSigned w128 z →
    new ≡ old ++ three_words (to_z w128 (of_z w128 x)) (to_z w128 (of_z w128 y)) (to_z w128 (of_z w128 z)) → new ≡ old ++ three_words x y z
three_given x y z old new fx fy fz e = simp to_z-of_z at e

is_one : (w : ℤ) → pos 0 <ℤ w → unsigned_abs w ≡ 1 → w ≡ pos 1
is_one (pos n) h e = ap pos e
is_one (negsuc n) h e = absurd (omega (arith, ints))

pub no_weight : (w : ℤ) (old : List ℕ) → pos 0 <ℤ w → unsigned_abs w ≡ 1 → old ≡ old ++ weight_text w
no_weight w old h e = sym (append-nil old) ∙ ap (λ z. old ++ weight_text z) (sym (is_one w h e))

by_test : (t : Bool) (w : ℤ) → int_eq w (pos 1) ≡ t → unsigned_abs w ≢ 1 → cond t [] (47 ∷ signed_decimal w) ≡ 47 ∷ signed_decimal w
by_test true w e ne = absurd (ne (ap unsigned_abs (equal w e)))
  where
    equal : (z : ℤ) → int_eq z (pos 1) ≡ true → z ≡ pos 1
    equal z h = search rules
by_test false w e ne = refl

pub other_weight : (w : ℤ) → unsigned_abs w ≢ 1 → weight_text w ≡ 47 ∷ signed_decimal w
other_weight w ne = by_test (int_eq w (pos 1)) w refl ne
