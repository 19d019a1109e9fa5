-- The front of a text before its first byte of a kind.
use Rattle.std.proofs.Common.{◌≡◌, ℕ, suc, ◌<◌, ◌+◌, Bool, true, false, not, ◌&&◌, cond, List, [], ◌∷◌, ◌++◌, length, drop, get_or, refl, sym, ◌∙◌, ap, nat_eq, add-one, drop-cons}
use Rattle.std.specs.List.{before_first, list_all}
use Rattle.std.proofs.lemmas.List.Sums.{take_while-cons}
use Rattle.map_lex.specs.Bytes.{is_blank, rest_of_line}

if_not : {A : Type 0} (b : Bool) (x y : A) → cond (not b) x y ≡ cond b y x
if_not true x y = refl
if_not false x y = refl

pub before_first-cons : {X : Type 0} (p : X → Bool) (x : X) (xs : List X) → before_first p (x ∷ xs) ≡ cond (p x) [] (x ∷ before_first p xs)
before_first-cons p x xs = take_while-cons (λ y. not (p y)) x xs ∙ if_not (p x) (x ∷ before_first p xs) []

-- whether blanks alone stand before the line's end, byte by byte
pub blank_line-cons : (b : ℕ) (bs : List ℕ) → list_all is_blank (rest_of_line (b ∷ bs)) ≡ cond (nat_eq b 10) true (cond (is_blank b) (list_all is_blank (rest_of_line bs)) false)
blank_line-cons b bs = ap (list_all is_blank) (before_first-cons (λ c. nat_eq c 10) b bs) ∙ cases (nat_eq b 10) where
  inner : (blank : Bool) (others : Bool) → (blank && others) ≡ cond blank others false
  inner true others = refl
  inner false others = refl

  cases : (ends : Bool) → list_all is_blank (cond ends [] (b ∷ rest_of_line bs)) ≡ cond ends true (cond (is_blank b) (list_all is_blank (rest_of_line bs)) false)
  cases true = refl
  cases false = inner (is_blank b) (list_all is_blank (rest_of_line bs))

pub blank_line_at : (i : ℕ) (bs : List ℕ) → i < length bs →
    list_all is_blank (rest_of_line (drop i bs)) ≡ cond (nat_eq (get_or bs i 0) 10) true (cond (is_blank (get_or bs i 0)) (list_all is_blank (rest_of_line (drop (i + 1) bs))) false)
blank_line_at i bs within = rw (drop-cons bs i 0) (rw (add-one) (blank_line-cons (get_or bs i 0) (drop (suc i) bs)))

pub cond_true : {A : Type 0} (b : Bool) (x y : A) → b ≡ true → cond b x y ≡ x
cond_true b x y e = ap (λ t. cond t x y) e

pub cond_false : {A : Type 0} (b : Bool) (x y : A) → b ≡ false → cond b x y ≡ y
cond_false b x y e = ap (λ t. cond t x y) e

-- a front that begins with a byte: that byte isn't of the kind, and the front of what follows it follows it there
pub front-cons : {X : Type 0} (p : X → Bool) (x : X) (xs front : List X) → before_first p (x ∷ xs) ≡ x ∷ front → (p x ≡ false) × (before_first p xs ≡ front)
front-cons {X} p x xs front e = cases (p x) (sym (before_first-cons p x xs) ∙ e) where
  cases : (b : Bool) → cond b [] (x ∷ before_first p xs) ≡ x ∷ front → (b ≡ false) × (before_first p xs ≡ front)
  cases true e = cc
  cases false e = (refl, cc)

-- an empty front of a text that isn't: its first byte is of the kind
pub front-none : {X : Type 0} (p : X → Bool) (x : X) (xs : List X) → before_first p (x ∷ xs) ≡ [] → p x ≡ true
front-none p x xs e = cases (p x) (sym (before_first-cons p x xs) ∙ e) where
  cases : (b : Bool) → cond b [] (x ∷ before_first p xs) ≡ [] → b ≡ true
  cases true e = refl
  cases false e = cc

-- what has no byte of the kind is in front with all of it
pub before_first-append : {X : Type 0} (p : X → Bool) (xs ys : List X) → before_first p xs ≡ xs → before_first p (xs ++ ys) ≡ xs ++ before_first p ys
before_first-append p [] ys whole = refl
before_first-append p (x ∷ xs) ys whole =
    let parts = front-cons p x xs xs whole in
    before_first-cons p x (xs ++ ys) ∙ cond_false (p x) [] (x ∷ before_first p (xs ++ ys)) parts.0 ∙ ap (λ r. x ∷ r) (before_first-append p xs ys parts.1)
