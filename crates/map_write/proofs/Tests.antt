-- Tests of the elements of lists.
use Rattle.std.proofs.Common.{◌≡◌, ℕ, suc, ◌-◌, Bool, true, false, not, ◌&&◌, T, int_le, ℤ, ◌≤ℤ◌, List, [], ◌∷◌, ◌++◌, length, refl, ap, sym, ◌∙◌, arith, nat_eq, append-nil}
use Rattle.std.specs.List.{list_all, list_any, before_first, ends_with}
use Rattle.std.proofs.lemmas.Bool.{and_parts, and_from, and_left, and_right, or_parts, or_from}
use Rattle.std.proofs.lemmas.List.Folds.{list_all-append}
use Rattle.map_lex.proofs.Fronts.{before_first-cons, before_first-append, cond_true, cond_false}

pub no_more_than : (b : Bool) → not b ≡ true → b ≡ false
no_more_than true e = cc
no_more_than false e = refl

pub int_le-true : (a b : ℤ) → int_le a b ≡ true → a ≤ℤ b
int_le-true a b e = record { le = holds (int_le a b) e }
  where
    holds : (t : Bool) → t ≡ true → T t
    holds true h = tt
    holds false h = cc

pub not_not : (b : Bool) → not b ≡ false → b ≡ true
not_not true e = refl
not_not false e = cc

-- no element passes a test where each passes its opposite, and the other way round
pub none_pass : {X : Type 0} (p : X → Bool) (xs : List X) → list_all (λ x. not (p x)) xs ≡ true → list_any p xs ≡ false
none_pass p [] e = refl
none_pass p (x ∷ xs) e =
    let parts = and_parts (not (p x)) (list_all (λ y. not (p y)) xs) e in
    or_from (p x) (list_any p xs) (no_more_than (p x) parts.0) (none_pass p xs parts.1)

pub all_fail : {X : Type 0} (p : X → Bool) (xs : List X) → list_any p xs ≡ false → list_all (λ x. not (p x)) xs ≡ true
all_fail p [] e = refl
all_fail p (x ∷ xs) e =
    let parts = or_parts (p x) (list_any p xs) e in
    and_from (not (p x)) (list_all (λ y. not (p y)) xs) (ap not parts.0) (all_fail p xs parts.1)

pub all_weaker : {X : Type 0} (p q : X → Bool) → ((x : X) → p x ≡ true → q x ≡ true) → (xs : List X) → list_all p xs ≡ true → list_all q xs ≡ true
all_weaker p q weaker [] e = refl
all_weaker p q weaker (x ∷ xs) e =
    let parts = and_parts (p x) (list_all p xs) e in
    and_from (q x) (list_all q xs) (weaker x parts.0) (all_weaker p q weaker xs parts.1)

pub all_both : {X : Type 0} (p q : X → Bool) (xs : List X) → list_all p xs ≡ true → list_all q xs ≡ true → list_all (λ x. p x && q x) xs ≡ true
all_both p q [] e f = refl
all_both p q (x ∷ xs) e f =
    let first = and_parts (p x) (list_all p xs) e in
    let second = and_parts (q x) (list_all q xs) f in
    and_from (p x && q x) (list_all (λ y. p y && q y) xs) (and_from (p x) (q x) first.0 second.0) (all_both p q xs first.1 second.1)

pub all_append : {X : Type 0} (p : X → Bool) (xs ys : List X) → list_all p xs ≡ true → list_all p ys ≡ true → list_all p (xs ++ ys) ≡ true
all_append p [] ys e f = f
all_append p (x ∷ xs) ys e f =
    let parts = and_parts (p x) (list_all p xs) e in
    and_from (p x) (list_all p (xs ++ ys)) parts.0 (all_append p xs ys parts.1 f)

pub all_parts : {X : Type 0} (p : X → Bool) (xs ys : List X) → list_all p (xs ++ ys) ≡ true → (list_all p xs ≡ true) × (list_all p ys ≡ true)
all_parts p xs ys e = and_parts (list_all p xs) (list_all p ys) (sym (list_all-append p xs ys) ∙ e)

pub not_all : {X : Type 0} (p : X → Bool) (xs : List X) (y : X) (ys : List X) → p y ≡ false → list_all p (xs ++ y ∷ ys) ≡ false
not_all p [] y ys e = and_left (p y) (list_all p ys) e
not_all p (x ∷ xs) y ys e = and_right (p x) (list_all p (xs ++ y ∷ ys)) (not_all p xs y ys e)

pub any_behind : {X : Type 0} (p : X → Bool) (xs : List X) (y : X) (ys : List X) → list_any p (xs ++ y ∷ ys) ≡ false → list_any p ys ≡ false
any_behind p [] y ys e = (or_parts (p y) (list_any p ys) e).1
any_behind p (x ∷ xs) y ys e = any_behind p xs y ys (or_parts (p x) (list_any p (xs ++ y ∷ ys)) e).1

-- what stands before the first element of a kind
pub whole_front : {X : Type 0} (p : X → Bool) (xs : List X) → list_any p xs ≡ false → before_first p xs ≡ xs
whole_front p [] e = refl
whole_front p (x ∷ xs) e =
    let parts = or_parts (p x) (list_any p xs) e in
    before_first-cons p x xs ∙ cond_false (p x) [] (x ∷ before_first p xs) parts.0 ∙ ap (λ r. x ∷ r) (whole_front p xs parts.1)

pub front_stops : {X : Type 0} (p : X → Bool) (xs : List X) (y : X) (ys : List X) → list_any p xs ≡ false → p y ≡ true → before_first p (xs ++ y ∷ ys) ≡ xs
front_stops p xs y ys e stops =
    before_first-append p xs (y ∷ ys) (whole_front p xs e)
    ∙ ap (λ r. xs ++ r) (before_first-cons p y ys ∙ cond_true (p y) [] (y ∷ before_first p ys) stops)
    ∙ append-nil xs

-- the last element of a list behind another
abbrev pub last_of : ℕ → List ℕ → ℕ
last_of x [] = x
last_of x (y ∷ ys) = last_of y ys

pub ends-last : (x c : ℕ) (xs : List ℕ) → ends_with nat_eq (x ∷ xs) (c ∷ []) ≡ (nat_eq c (last_of x xs) && true)
ends-last x c [] = refl
ends-last x c (y ∷ ys) =
    let count : length (x ∷ y ∷ ys) - 1 ≡ suc (length (y ∷ ys) - 1) = omega arith in
    rw count (ends-last y c ys)

pub last-push : (x b : ℕ) (xs : List ℕ) → last_of x (xs ++ b ∷ []) ≡ b
last-push x b [] = refl
last-push x b (y ∷ ys) = last-push y b ys
