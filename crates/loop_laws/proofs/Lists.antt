-- One more item of a list, and none.
use Rattle.std.proofs.Common.{◌≡◌, ℕ, zero, suc, ◌+◌, ◌<◌, List, [], ◌∷◌, ◌++◌, length, take, None, Some, refl, ap, sym, ◌∙◌, arith, append_assoc, append-nil}
use Rattle.std.specs.Prelude.{slice_get, flat_map}
use Rattle.std.proofs.lemmas.Grind.{flat_map-append}

pub take_next : {A : Type 0} (xs : List A) (k : ℕ) (x : A) → slice_get xs k ≡ Some x → take (k + 1) xs ≡ take k xs ++ x ∷ []
take_next [] k x e = absurd (cc)
take_next (y ∷ xs) zero x e = let same : y ≡ x = cc in ap (λ z. z ∷ []) same
take_next (y ∷ xs) (suc k) x e =
    let n : suc k + 1 ≡ suc (k + 1) = omega arith in ap (λ m. take m (y ∷ xs)) n ∙ ap (λ l. y ∷ l) (take_next xs k x e)

pub take_past : {A : Type 0} (xs : List A) (k : ℕ) → slice_get xs k ≡ None → take k xs ≡ xs
take_past [] zero e = refl
take_past [] (suc k) e = refl
take_past (y ∷ xs) zero e = absurd (cc)
take_past (y ∷ xs) (suc k) e = ap (λ l. y ∷ l) (take_past xs k e)

pub record Got {A : Type 0} (xs : List A) (k : ℕ) : Type 0 where
  pub item : A
  pub is : slice_get xs k ≡ Some item

pub got : {A : Type 0} (xs : List A) (k : ℕ) → k < length xs → Got xs k
got [] k h = absurd (omega arith)
got (x ∷ xs) zero h = record { item = x; is = refl }
got (x ∷ xs) (suc k) h = let g = got xs k (omega arith) in record { item = g.item; is = g.is }

-- The step of a loop that adds a text for each item.
pub one_more_text : {A : Type 0} (f : A → List ℕ) (xs : List A) (k : ℕ) (x : A) (first old new : List ℕ) → slice_get xs k ≡ Some x →
    old ≡ first ++ flat_map f (take k xs) → new ≡ old ++ f x → new ≡ first ++ flat_map f (take (k + 1) xs)
one_more_text f xs k x first old new e o n =
    n ∙ ap (λ l. l ++ f x) o ∙ append_assoc first (flat_map f (take k xs)) (f x)
    ∙ ap (λ l. first ++ l) (ap (λ l. flat_map f (take k xs) ++ l) (sym (append-nil (f x))) ∙ sym (flat_map-append f (take k xs) (x ∷ []))
    ∙ ap (flat_map f) (sym (take_next xs k x e)))
