-- Tests over lists of numbers.
use Rattle.std.proofs.Common.{◌≡◌, ℕ, List, [], ◌∷◌, Bool, true, false, ◌||◌, ◌==◌, refl, ap, sym, ◌∙◌, arith}
use Rattle.std.proofs.lemmas.Bool.Decides.{nat_tests}
use Rattle.std.specs.List.{list_any}
use Rattle.map_model.specs.Tree.{Whole, above, among, lies_beneath}

or_false : (b : Bool) → (b || false) ≡ b
or_false true = refl
or_false false = refl

or_turned : (a b c d : Bool) → ((a || b) || (c || d)) ≡ ((a || c) || (b || d))
or_turned true b c d = refl
or_turned false true true d = refl
or_turned false true false d = refl
or_turned false false c d = refl

none_any : {A : Type 0} (xs : List A) → list_any (λ x. false) xs ≡ false
none_any [] = refl
none_any (x ∷ xs) = none_any xs

either_any : {A : Type 0} (p q : A → Bool) (xs : List A) → list_any (λ x. p x || q x) xs ≡ (list_any p xs || list_any q xs)
either_any p q [] = refl
either_any p q (x ∷ xs) = ap (λ b. (p x || q x) || b) (either_any p q xs) ∙ or_turned (p x) (q x) (list_any p xs) (list_any q xs)

-- Some pair of two lists passes a test, in whichever order they are gone through.
pairs_any : {A B : Type 0} (r : A → B → Bool) (xs : List A) (ys : List B) → list_any (λ x. list_any (r x) ys) xs ≡ list_any (λ y. list_any (λ x. r x y) xs) ys
pairs_any r [] ys = sym (none_any ys)
pairs_any r (x ∷ xs) ys = ap (λ b. list_any (r x) ys || b) (pairs_any r xs ys) ∙ sym (either_any (r x) (λ y. list_any (λ z. r z y) xs) ys)

same_turned : (a b : ℕ) → (a == b) ≡ (b == a)
same_turned a b = grind (arith, nat_tests)

-- A node lies beneath one of others, where one of those above it is among them.
pub beneath_any : (m : Whole) (n : ℕ) (others : List ℕ) → list_any (λ p. among p others) (above m n) ≡ list_any (lies_beneath m n) others
beneath_any m n others = pairs_any (λ p k. k == p) (above m n) others ∙ (λ i. list_any (λ k. list_any (λ p. same_turned k p i) (above m n)) others)

pub beneath_one : (m : Whole) (n other : ℕ) → list_any (lies_beneath m n) (other ∷ []) ≡ lies_beneath m n other
beneath_one m n other = or_false (lies_beneath m n other)
