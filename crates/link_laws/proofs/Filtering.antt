-- Members of filtered lists, and the first that passes.
use Rattle.std.proofs.Common.{◌≡◌, ℕ, suc, ◌≤◌, List, [], ◌∷◌, Bool, true, false, cond, ◌==◌, refl, ap, sym, ◌∙◌, subst, arith, Some, filter}
use Rattle.std.specs.List.{find}
use Rattle.algebra.specs.Members.{◌∈◌, here, there}
use Rattle.map_laws.proofs.Lists.{tally}
use Rattle.map_laws.proofs.Slots.{by_bool}

-- Filters.
filter_step : (t b : Bool) (r s : ℕ) → r ≤ s → cond t (cond b (suc r) r) r ≤ cond b (suc s) s
filter_step true true r s h = omega arith
filter_step true false r s h = h
filter_step false true r s h = omega arith
filter_step false false r s h = h

tally-cond : (t : Bool) (q x : ℕ) (l : List ℕ) → tally q (cond t (x ∷ l) l) ≡ cond t (cond (x == q) (suc (tally q l)) (tally q l)) (tally q l)
tally-cond true q x l = refl
tally-cond false q x l = refl

pub tally-filter : (p : ℕ → Bool) (q : ℕ) (xs : List ℕ) → tally q (filter p xs) ≤ tally q xs
tally-filter p q [] = omega arith
tally-filter p q (x ∷ xs) = subst (λ n. n ≤ tally q (x ∷ xs)) (sym (tally-cond (p x) q x (filter p xs))) (filter_step (p x) (x == q) (tally q (filter p xs)) (tally q xs) (tally-filter p q xs))

pub filter_member : (p : ℕ → Bool) (q : ℕ) (xs : List ℕ) → q ∈ filter p xs → (q ∈ xs) × (p q ≡ true)
filter_member p q [] i = elim i [ ]
filter_member p q (x ∷ xs) i = by_bool (p x)
    (λ t. by t (subst (λ l. q ∈ l) (ap (λ b. cond b (x ∷ filter p xs) (filter p xs)) t) i) (filter_member p q xs))
    (λ t. let r = filter_member p q xs (subst (λ l. q ∈ l) (ap (λ b. cond b (x ∷ filter p xs) (filter p xs)) t) i) in (there r.0, r.1))
  where
    by : {x : ℕ} → p x ≡ true → q ∈ (x ∷ filter p xs) → (q ∈ filter p xs → (q ∈ xs) × (p q ≡ true)) → (q ∈ (x ∷ xs)) × (p q ≡ true)
    by t here h = (here, t)
    by t (there i) h = let r = h i in (there r.0, r.1)

pub member_filter : (p : ℕ → Bool) (q : ℕ) (xs : List ℕ) → q ∈ xs → p q ≡ true → q ∈ filter p xs
member_filter p q [] i e = elim i [ ]
member_filter p q (x ∷ xs) here e = subst (λ l. q ∈ l) (sym (ap (λ b. cond b (q ∷ filter p xs) (filter p xs)) e)) here
member_filter p q (x ∷ xs) (there i) e = by (p x) (member_filter p q xs i e)
  where
    by : (b : Bool) → q ∈ filter p xs → q ∈ cond b (x ∷ filter p xs) (filter p xs)
    by true j = there j
    by false j = j

pub find_is : (p : ℕ → Bool) (x : ℕ) (xs : List ℕ) → find p xs ≡ Some x → (x ∈ xs) × (p x ≡ true)
find_is p x [] e = absurd (cc)
find_is p x (y ∷ ys) e = by_bool (p y)
    (λ t. by t (some_is (sym (ap (λ b. cond b (Some y) (find p ys)) t) ∙ e)))
    (λ t. let r = find_is p x ys (sym (ap (λ b. cond b (Some y) (find p ys)) t) ∙ e) in (there r.0, r.1))
  where
    some_is : Some y ≡ Some x → y ≡ x
    some_is e = cc

    by : p y ≡ true → y ≡ x → (x ∈ (y ∷ ys)) × (p x ≡ true)
    by t e = (subst (λ z. z ∈ (y ∷ ys)) e here, subst (λ z. p z ≡ true) e t)
