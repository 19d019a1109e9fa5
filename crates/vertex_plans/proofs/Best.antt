-- The first of the items with the greatest score.
use Rattle.std.proofs.Common.{◌≡◌, ℕ, zero, suc, ◌<◌, ◌≤◌, List, [], ◌∷◌, length, get_or, cond, Bool, true, false, refl, arith}
use Rattle.std.specs.Prelude.{nat_lt}
use Rattle.std.proofs.lemmas.Bool.{ltb-false}
use Rattle.std.proofs.lemmas.Bool.Decides.{Decides-ltb}
use Rattle.map_model.specs.Brushes.{best}

module _ {A : Type 0} (score : A → ℕ) (d : A) where
  -- No item has a greater score than the one at the place i, and none before it has as great a one.
  pub record IsFirstBest (xs : List A) (i : ℕ) : Type 0 where
    pub within : i < length xs
    pub most : (j : ℕ) → j < length xs → score (get_or xs j d) ≤ score (get_or xs i d)
    pub first : (j : ℕ) → j < i → score (get_or xs j d) < score (get_or xs i d)

  greater : (x y : A) → nat_lt (score x) (score y) ≡ true → score x < score y
  greater x y e = (Decides-ltb (score x) (score y)).0 e

  not_greater : (x y : A) → nat_lt (score x) (score y) ≡ false → score y ≤ score x
  not_greater x y e = ltb-false (score x) (score y) e

  step : (x y : A) (ys : List A) (i : ℕ) (t : Bool) → IsFirstBest (x ∷ y ∷ ys) i → nat_lt (score x) (score y) ≡ t → ((k : ℕ) → IsFirstBest (y ∷ ys) k → best score y ys ≡ get_or (y ∷ ys) k d) →
      ((k : ℕ) → IsFirstBest (x ∷ ys) k → best score x ys ≡ get_or (x ∷ ys) k d) → best score (cond t y x) ys ≡ get_or (x ∷ y ∷ ys) i d
  step x y ys zero true h e f g = absurd (omega (arith, greater x y e, h.most 1 (omega arith)))
  step x y ys (suc i) true h e f g = f i (record {
    within = omega (arith, h.within);
    most = λ j l. h.most (suc j) (omega (arith, l));
    first = λ j l. h.first (suc j) (omega (arith, l));
  })
  step x y ys zero false h e f g = g 0 (record { within = omega arith; most = later; first = λ j l. absurd (omega (arith, l)) })
    where
      later : (j : ℕ) → j < length (x ∷ ys) → score (get_or (x ∷ ys) j d) ≤ score x
      later zero l = omega arith
      later (suc j) l = h.most (suc (suc j)) (omega (arith, l))
  step x y ys (suc zero) false h e f g = absurd (omega (arith, not_greater x y e, h.first 0 (omega arith)))
  step x y ys (suc (suc i)) false h e f g = g (suc i) (record { within = omega (arith, h.within); most = later; first = before })
    where
      later : (j : ℕ) → j < length (x ∷ ys) → score (get_or (x ∷ ys) j d) ≤ score (get_or ys i d)
      later zero l = h.most 0 (omega arith)
      later (suc j) l = h.most (suc (suc j)) (omega (arith, l))

      before : (j : ℕ) → j < suc i → score (get_or (x ∷ ys) j d) < score (get_or ys i d)
      before zero l = h.first 0 (omega arith)
      before (suc j) l = h.first (suc (suc j)) (omega (arith, l))

  pub best_is : (x : A) (xs : List A) (i : ℕ) → IsFirstBest (x ∷ xs) i → best score x xs ≡ get_or (x ∷ xs) i d
  best_is x [] zero h = refl
  best_is x [] (suc i) h = absurd (omega (arith, h.within))
  best_is x (y ∷ ys) i h = step x y ys i (nat_lt (score x) (score y)) h refl (best_is y ys) (best_is x ys)
