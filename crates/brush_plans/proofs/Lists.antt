-- Items of lists by their places, and lists that grow.
use Rattle.std.proofs.Common.{Ok, Err, ◌≡◌, ℕ, zero, suc, ◌+◌, ◌<◌, ◌≤◌, List, [], ◌∷◌, ◌++◌, length, take, map, flat_map, get_or, ap, sym, ◌∙◌, subst, arith, append_assoc}
use Rattle.std.proofs.lemmas.List.{append-nil, map-append, take_all, take_more}
use Rattle.algebra.specs.Members.{◌∈◌, here, there}

at_place : {A : Type 0} (xs : List A) (i : ℕ) (d : A) → i < length xs → get_or xs i d ∈ xs
at_place [] i d lt = absurd (omega arith)
at_place (x ∷ xs) zero d lt = here
at_place (x ∷ xs) (suc i) d lt = there (at_place xs i d (omega arith))

-- The item at a place is a member.
pub is_member : {A : Type 0} (xs : List A) (i : ℕ) (x : A) → i < length xs → x ≡ get_or xs i x → x ∈ xs
is_member xs i x lt is = subst (λ y. y ∈ xs) (sym is) (at_place xs i x lt)

-- The lists of the first i items are joined.
flat-append : {A B : Type 0} (f : A → List B) (xs : List A) (x : A) → flat_map f (xs ++ x ∷ []) ≡ flat_map f xs ++ f x
flat-append f [] x = append-nil (f x)
flat-append f (y ∷ xs) x = ap (λ l. f y ++ l) (flat-append f xs x) ∙ sym (append_assoc (f y) (flat_map f xs) (f x))

pub record Joined (f : ℕ → List ℕ) (xs all : List ℕ) (i : ℕ) : Type 0 where
  pub is : all ≡ flat_map f (take i xs)

pub joined_more : (f : ℕ → List ℕ) (xs all new : List ℕ) (i x : ℕ) → i < length xs → x ≡ get_or xs i x → Joined f xs all i → new ≡ all ++ f x → Joined f xs new (i + 1)
joined_more f xs all new i x lt is j more = record {
  is = more ∙ (λ k. j.is k ++ f (is k)) ∙ sym (flat-append f (take i xs) (get_or xs i x)) ∙ ap (flat_map f) (sym (take_more xs i x lt));
}

pub joined_all : (f : ℕ → List ℕ) (xs all : List ℕ) (i : ℕ) → length xs ≤ i → Joined f xs all i → all ≡ flat_map f xs
joined_all f xs all i le j = j.is ∙ ap (flat_map f) (take_all i xs le)

-- The first i items, changed.
pub mapped_more : {A B : Type 0} (f : A → B) (xs : List A) (now new : List B) (i : ℕ) (x : A) (y : B) → i < length xs → x ≡ get_or xs i x → now ≡ map f (take i xs) → y ≡ f x → new ≡ now ++ y ∷ [] →
    new ≡ map f (take (i + 1) xs)
mapped_more f xs now new i x y lt is so_far e more =
    more ∙ (λ k. so_far k ++ (e ∙ ap f is) k ∷ []) ∙ sym (map-append f (take i xs) (get_or xs i x ∷ [])) ∙ ap (map f) (sym (take_more xs i x lt))

pub mapped_all : {A B : Type 0} (f : A → B) (xs : List A) (now : List B) (i : ℕ) → length xs ≤ i → now ≡ map f (take i xs) → now ≡ map f xs
mapped_all f xs now i le e = e ∙ ap (map f) (take_all i xs le)

pub not_both : {A B : Type 0} {x : A} {y : B} → Ok x ≡ Err y → ⊥
not_both {A} {B} {x} {y} e = cc
