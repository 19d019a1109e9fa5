-- The first of the greatest elements of a list.
use Rattle.std.proofs.Common.{◌≡◌, ◌∙◌, ap, Bool, true, false, ◌&&◌, T, List, [], ◌∷◌, ◌++◌, Some, refl, arith, ℤ, ◌≤ℤ◌, ◌<ℤ◌, int_le, find}
use Rattle.std.proofs.lemmas.Int.{ints}
use Rattle.std.specs.List.{list_all}
use Rattle.algebra.specs.Members.{Every, here, there}

-- ---- tests
is_true : (v : Bool) → T v → v ≡ true
is_true true h = refl
is_true false h = absurd h

is_false : (v : Bool) → (T v → ⊥) → v ≡ false
is_false true h = absurd (h tt)
is_false false h = refl

and_false : (a b : Bool) → b ≡ false → (a && b) ≡ false
and_false true b h = h
and_false false b h = refl

int_le-false : (a b : ℤ) → b <ℤ a → int_le a b ≡ false
int_le-false a b h = is_false (int_le a b) (λ t. let l : a ≤ℤ b = record { le = t } in omega (arith, ints))

-- ---- tests of a list
all_pass : {A : Type 0} (test : A → Bool) (xs : List A) → Every (λ x. test x ≡ true) xs → list_all test xs ≡ true
all_pass test [] h = refl
all_pass test (x ∷ xs) h = rw (h x here) (all_pass test xs (λ y m. h y (there m)))

one_fails : {A : Type 0} (test : A → Bool) (before : List A) (w : A) (after : List A) → test w ≡ false →
    list_all test (before ++ w ∷ after) ≡ false
one_fails test [] w after h = rw h refl
one_fails test (x ∷ xs) w after h = and_false (test x) (list_all test (xs ++ w ∷ after)) (one_fails test xs w after h)

found : {A : Type 0} (test : A → Bool) (before : List A) (w : A) (after : List A) → Every (λ x. test x ≡ false) before → test w ≡ true →
    find test (before ++ w ∷ after) ≡ Some w
found test [] w after h i = rw i refl
found test (x ∷ xs) w after h i = rw (h x here) (found test xs w after (λ y m. h y (there m)) i)

-- An element with the greatest score is found where those before it have smaller scores.
pub first_greatest : {A : Type 0} (score : A → ℤ) (all before : List A) (w : A) (after : List A) → all ≡ before ++ w ∷ after →
    Every (λ x. score x ≤ℤ score w) all → Every (λ x. score x <ℤ score w) before →
    find (λ x. list_all (λ other. int_le (score other) (score x)) all) all ≡ Some w
first_greatest score all before w after place greatest first =
    ap (λ xs. find (λ x. list_all (λ other. int_le (score other) (score x)) all) xs) place
    ∙ found (λ x. list_all (λ other. int_le (score other) (score x)) all) before w after
    (λ x m. ap (λ xs. list_all (λ other. int_le (score other) (score x)) xs) place
    ∙ one_fails (λ other. int_le (score other) (score x)) before w after (int_le-false (score w) (score x) (first x m)))
    (all_pass (λ other. int_le (score other) (score w)) all (λ x m. is_true (int_le (score x) (score w)) (greatest x m).le))
