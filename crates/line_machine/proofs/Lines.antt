-- Laws of the lines of a text.
use Rattle.std.proofs.Common.{◌≡◌, ℕ, List, [], ◌∷◌, ◌++◌, take, drop, true, false, cond, ◌==◌, refl, ap, sym, ◌∙◌, append-nil, take-append-drop}
use Rattle.line_machine.specs.Lines.{whole_from, rest_from}

-- Lines of a text in two parts.
pub whole_from-append : (before xs ys : List ℕ) → whole_from before (xs ++ ys) ≡ whole_from before xs ++ whole_from (rest_from before xs) ys
whole_from-append before [] ys = refl
whole_from-append before (b ∷ xs) ys =
    elim (b == 10) as (λ t. cond t (before ∷ whole_from [] (xs ++ ys)) (whole_from (before ++ b ∷ []) (xs ++ ys))
    ≡ cond t (before ∷ whole_from [] xs) (whole_from (before ++ b ∷ []) xs) ++ whole_from (cond t (rest_from [] xs) (rest_from (before ++ b ∷ []) xs)) ys) [
      | true ↦ ap (λ l. before ∷ l) (whole_from-append [] xs ys)
      | false ↦ whole_from-append (before ++ b ∷ []) xs ys
    ]

pub rest_from-append : (before xs ys : List ℕ) → rest_from before (xs ++ ys) ≡ rest_from (rest_from before xs) ys
rest_from-append before [] ys = refl
rest_from-append before (b ∷ xs) ys =
    elim (b == 10) as (λ t. cond t (rest_from [] (xs ++ ys)) (rest_from (before ++ b ∷ []) (xs ++ ys))
    ≡ rest_from (cond t (rest_from [] xs) (rest_from (before ++ b ∷ []) xs)) ys) [
      | true ↦ rest_from-append [] xs ys
      | false ↦ rest_from-append (before ++ b ∷ []) xs ys
    ]

-- One more byte, inside a line or at its end.
pub lines-inside : (before xs : List ℕ) (b : ℕ) → (b == 10) ≡ false →
    (whole_from before (xs ++ b ∷ []) ≡ whole_from before xs) × (rest_from before (xs ++ b ∷ []) ≡ rest_from before xs ++ b ∷ [])
lines-inside before xs b e =
    let now = rest_from before xs in (
      whole_from-append before xs (b ∷ []) ∙ ap (λ t. whole_from before xs ++ cond t (now ∷ []) []) e ∙ append-nil (whole_from before xs),
      rest_from-append before xs (b ∷ []) ∙ ap (λ t. cond t [] (now ++ b ∷ [])) e,
    )

pub lines-at_end : (before xs : List ℕ) (b : ℕ) → (b == 10) ≡ true →
    (whole_from before (xs ++ b ∷ []) ≡ whole_from before xs ++ rest_from before xs ∷ []) × (rest_from before (xs ++ b ∷ []) ≡ [])
lines-at_end before xs b e =
    let now = rest_from before xs in (
      whole_from-append before xs (b ∷ []) ∙ ap (λ t. whole_from before xs ++ cond t (now ∷ []) []) e,
      rest_from-append before xs (b ∷ []) ∙ ap (λ t. cond t [] (now ++ b ∷ [])) e,
    )

-- The whole lines of a front of the bytes, and then further ones.
pub front_lines : (before bytes : List ℕ) (n : ℕ) → whole_from before bytes ≡ whole_from before (take n bytes) ++ whole_from (rest_from before (take n bytes)) (drop n bytes)
front_lines before bytes n = ap (whole_from before) (sym (take-append-drop n bytes)) ∙ whole_from-append before (take n bytes) (drop n bytes)
