-- Lists that a loop builds from the front of another.
use Rattle.std.proofs.Common.{◌≡◌, ℕ, suc, zero, ◌+◌, ◌<◌, Bool, true, false, cond, List, [], ◌∷◌, ◌++◌, length, get_or, take, filter, filter_map, Option, Some, None, slice_get, refl, ap, sym, ◌∙◌, arith, add-one}
use Rattle.std.specs.List.{cons_option}
use Rattle.std.proofs.lemmas.List.{take_more}
use Rattle.std.proofs.lemmas.List.Elements.{filter-append, filter_map-append}

pub filter_in : {A : Type 0} (p : A → Bool) (xs : List A) (i : ℕ) (x : A) → i < length xs → x ≡ get_or xs i x → p x ≡ true → filter p (take (i + 1) xs) ≡ filter p (take i xs) ++ x ∷ []
filter_in p xs i x lt is t =
    ap (filter p) (take_more xs i x lt) ∙ filter-append p (take i xs) (get_or xs i x ∷ [])
    ∙ ap (λ l. filter p (take i xs) ++ l) (ap (λ y. filter p (y ∷ [])) (sym is) ∙ ap (λ b. cond b (x ∷ []) []) t)

append_nil : {A : Type 0} (xs : List A) → xs ++ [] ≡ xs
append_nil [] = refl
append_nil (x ∷ xs) = ap (λ l. x ∷ l) (append_nil xs)

pub filter_out : {A : Type 0} (p : A → Bool) (xs : List A) (i : ℕ) (x : A) → i < length xs → x ≡ get_or xs i x → p x ≡ false → filter p (take (i + 1) xs) ≡ filter p (take i xs)
filter_out p xs i x lt is t =
    ap (filter p) (take_more xs i x lt) ∙ filter-append p (take i xs) (get_or xs i x ∷ [])
    ∙ ap (λ l. filter p (take i xs) ++ l) (ap (λ y. filter p (y ∷ [])) (sym is) ∙ ap (λ b. cond b (x ∷ []) []) t)
    ∙ append_nil (filter p (take i xs))

pub values_more : {A B : Type 0} (h : A → Option B) (xs : List A) (i : ℕ) (x : A) (y : B) → i < length xs → x ≡ get_or xs i x → h x ≡ Some y → filter_map h (take (i + 1) xs) ≡ filter_map h (take i xs) ++ y ∷ []
values_more h xs i x y lt is t =
    ap (filter_map h) (take_more xs i x lt) ∙ filter_map-append h (take i xs) (get_or xs i x ∷ [])
    ∙ ap (λ l. filter_map h (take i xs) ++ l) (ap (λ z. filter_map h (z ∷ [])) (sym is) ∙ ap (λ o. cons_option o []) t)

pub values_same : {A B : Type 0} (h : A → Option B) (xs : List A) (i : ℕ) (x : A) → i < length xs → x ≡ get_or xs i x → h x ≡ None → filter_map h (take (i + 1) xs) ≡ filter_map h (take i xs)
values_same h xs i x lt is t =
    ap (filter_map h) (take_more xs i x lt) ∙ filter_map-append h (take i xs) (get_or xs i x ∷ [])
    ∙ ap (λ l. filter_map h (take i xs) ++ l) (ap (λ z. filter_map h (z ∷ [])) (sym is) ∙ ap (λ o. cons_option o []) t)
    ∙ append_nil (filter_map h (take i xs))

got_next : {A : Type 0} (xs : List A) (i : ℕ) (x : A) → Some x ≡ slice_get xs i → take (suc i) xs ≡ take i xs ++ x ∷ []
got_next [] i x e = absurd (cc e)
got_next (y ∷ xs) zero x e = ap (λ z. z ∷ []) (let f = e in cc)
got_next (y ∷ xs) (suc i) x e = ap (λ l. y ∷ l) (got_next xs i x e)

-- what is got at a place is the next of the front
pub got_more : {A : Type 0} (xs : List A) (i : ℕ) (x : A) → Some x ≡ slice_get xs i → take (i + 1) xs ≡ take i xs ++ x ∷ []
got_more xs i x e = ap (λ k. take k xs) (add-one i) ∙ got_next xs i x e

pub got_one : {A : Type 0} (xs : List A) (i : ℕ) → i < length xs → None ≡ slice_get xs i → ⊥
got_one [] i lt e = omega arith
got_one (x ∷ xs) zero lt e = cc e
got_one (x ∷ xs) (suc i) lt e = got_one xs i (omega arith) e
