-- Few words.
use Rattle.std.proofs.Common.{◌≡◌, ℕ, List, [], ◌∷◌, length, map, get_or, arith}

-- Two words are their list, and three words.
pub two_words : {A : Type 0} (f : A → List ℕ) (xs : List A) (a b : A) → length xs ≡ 2 → a ≡ get_or xs 0 a → b ≡ get_or xs 1 b → map f xs ≡ f a ∷ f b ∷ []
two_words f (x ∷ y ∷ []) a b l p q = cc
two_words f [] a b l p q = absurd (omega (arith, l))
two_words f (x ∷ []) a b l p q = absurd (omega (arith, l))
two_words f (x ∷ y ∷ z ∷ xs) a b l p q = absurd (omega (arith, l))

pub three_words : {A : Type 0} (f : A → List ℕ) (xs : List A) (a b c : A) → length xs ≡ 3 → a ≡ get_or xs 0 a → b ≡ get_or xs 1 b → c ≡ get_or xs 2 c →
    map f xs ≡ f a ∷ f b ∷ f c ∷ []
three_words f (x ∷ y ∷ z ∷ []) a b c l p q r = cc
three_words f [] a b c l p q r = absurd (omega (arith, l))
three_words f (x ∷ []) a b c l p q r = absurd (omega (arith, l))
three_words f (x ∷ y ∷ []) a b c l p q r = absurd (omega (arith, l))
three_words f (x ∷ y ∷ z ∷ w ∷ xs) a b c l p q r = absurd (omega (arith, l))
