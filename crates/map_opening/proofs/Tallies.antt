-- How many numbers below one pass a test.
use Rattle.std.proofs.Common.{◌≡◌, ℕ, zero, suc, ◌+◌, ◌≤◌, Bool, true, false, cond, ◌&&◌, List, [], ◌∷◌, ◌++◌, length, filter, refl, ap, sym, ◌∙◌, arith}
use Rattle.std.proofs.lemmas.List.Elements.{filter-append}
use Rattle.std.proofs.lemmas.List.{length-append}
use Rattle.map_model.specs.Tree.{numbers_from}
use Rattle.tree_node.proofs.Turns.{numbers-more}

abbrev pub counted_to : (ℕ → Bool) → ℕ → ℕ
counted_to p n = length (filter p (numbers_from 0 n))

pub none_yet : (p : ℕ → Bool) → counted_to p 0 ≡ 0
none_yet p = refl

one_more : (p : ℕ → Bool) (n : ℕ) → counted_to p (n + 1) ≡ counted_to p n + length (cond (p n) (n ∷ []) [])
one_more p n =
    let on : n + 1 ≡ suc n = omega arith in
    let at : 0 + n ≡ n = omega arith in
    ap (counted_to p) on ∙ ap (λ ns. length (filter p ns)) (numbers-more 0 n ∙ ap (λ k. numbers_from 0 n ++ k ∷ []) at)
    ∙ ap length (filter-append p (numbers_from 0 n) (n ∷ []))
    ∙ length-append (filter p (numbers_from 0 n)) (cond (p n) (n ∷ []) [])

pub counted : (p : ℕ → Bool) (n count : ℕ) → count ≡ counted_to p n → p n ≡ true → count + 1 ≡ counted_to p (n + 1)
counted p n count e passes = ap (λ k. k + 1) e ∙ sym (one_more p n ∙ ap (λ t. counted_to p n + length (cond t (n ∷ []) [])) passes)

pub not_counted : (p : ℕ → Bool) (n count : ℕ) → count ≡ counted_to p n → p n ≡ false → count ≡ counted_to p (n + 1)
not_counted p n count e fails =
    let same : counted_to p n + 0 ≡ counted_to p n = omega arith in
    e ∙ sym (one_more p n ∙ ap (λ t. counted_to p n + length (cond t (n ∷ []) [])) fails ∙ same)

few_pass : (p : ℕ → Bool) (k n : ℕ) → length (filter p (numbers_from k n)) ≤ n
few_pass p k zero = omega arith
few_pass p k (suc n) = at (p k) (few_pass p (k + 1) n) where
  at : (passes : Bool) → length (filter p (numbers_from (k + 1) n)) ≤ n → length (cond passes (k ∷ filter p (numbers_from (k + 1) n)) (filter p (numbers_from (k + 1) n))) ≤ suc n
  at true le = omega (arith, le)
  at false le = omega (arith, le)

pub few_counted : (p : ℕ → Bool) (n count : ℕ) → count ≡ counted_to p n → count ≤ n
few_counted p n count e = let h = few_pass p 0 n in omega (arith, e, h)

-- two tests one after another are one
pub both_tests : {A : Type 0} (p q : A → Bool) (xs : List A) → filter (λ x. p x && q x) xs ≡ filter q (filter p xs)
both_tests p q [] = refl
both_tests p q (x ∷ xs) = at (p x) (both_tests p q xs) where
  at : (passes : Bool) → filter (λ y. p y && q y) xs ≡ filter q (filter p xs) →
      cond (passes && q x) (x ∷ filter (λ y. p y && q y) xs) (filter (λ y. p y && q y) xs) ≡ filter q (cond passes (x ∷ filter p xs) (filter p xs))
  at true e = ap (λ l. cond (q x) (x ∷ l) l) e
  at false e = e

pub all_counted : (p q : ℕ → Bool) (n last next count : ℕ) → count ≡ counted_to (λ k. p k && q k) n → n ≤ last → last ≤ n → last ≡ next → count ≡ length (filter q (filter p (numbers_from 0 next)))
all_counted p q n last next count e le ge is =
    let at : n ≡ next = omega (arith, le, ge, is) in
    e ∙ ap (counted_to (λ k. p k && q k)) at ∙ ap length (both_tests p q (numbers_from 0 next))
