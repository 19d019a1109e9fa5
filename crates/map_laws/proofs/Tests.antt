-- Tests of all or some items of a list.
use Rattle.std.proofs.Common.{◌≡◌, List, [], ◌∷◌, Bool, true, false, not, ◌&&◌, ◌||◌, refl, ap}
use Rattle.std.specs.List.{list_any, list_all}
use Rattle.std.proofs.lemmas.Bool.{and_parts, and_from}
use Rattle.algebra.specs.Members.{◌∈◌, here, there}

pub not_false : (t : Bool) → not t ≡ false → t ≡ true
not_false true e = refl
not_false false e = absurd (cc)

pub not_true : (t : Bool) → not t ≡ true → t ≡ false
not_true true e = absurd (cc)
not_true false e = refl

pub all_true : {A : Type 0} (p : A → Bool) (xs : List A) → list_all p xs ≡ true → (x : A) → x ∈ xs → p x ≡ true
all_true p [] e x i = elim i [ ]
all_true p (y ∷ ys) e x here = (and_parts (p y) (list_all p ys) e).0
all_true p (y ∷ ys) e x (there i) = all_true p ys (and_parts (p y) (list_all p ys) e).1 x i

pub all_by : {A : Type 0} (p : A → Bool) (xs : List A) → ((x : A) → x ∈ xs → p x ≡ true) → list_all p xs ≡ true
all_by p [] h = refl
all_by p (x ∷ xs) h = and_from (p x) (list_all p xs) (h x here) (all_by p xs (λ y i. h y (there i)))

pub not_all : {A : Type 0} (p : A → Bool) (xs : List A) → list_all p xs ≡ false → (x : A) × (x ∈ xs) × (p x ≡ false)
not_all p [] e = absurd (cc)
not_all {A} p (x ∷ xs) e = by (p x) refl e (not_all p xs)
  where
    by : (t : Bool) → p x ≡ t → (t && list_all p xs) ≡ false → (list_all p xs ≡ false → (y : A) × (y ∈ xs) × (p y ≡ false)) → (y : A) × (y ∈ (x ∷ xs)) × (p y ≡ false)
    by false s e later = (x, here, s)
    by true s e later = let k = later e in (k.0, there k.1, k.2)

pub some_passes : {A : Type 0} (p : A → Bool) (xs : List A) → list_any p xs ≡ true → (x : A) × (x ∈ xs) × (p x ≡ true)
some_passes p [] e = absurd (cc)
some_passes {A} p (x ∷ xs) e = by (p x) refl e (some_passes p xs)
  where
    by : (t : Bool) → p x ≡ t → (t || list_any p xs) ≡ true → (list_any p xs ≡ true → (y : A) × (y ∈ xs) × (p y ≡ true)) → (y : A) × (y ∈ (x ∷ xs)) × (p y ≡ true)
    by true s e later = (x, here, s)
    by false s e later = let k = later e in (k.0, there k.1, k.2)

pub any_by : {A : Type 0} (p : A → Bool) (xs : List A) (x : A) → x ∈ xs → p x ≡ true → list_any p xs ≡ true
any_by p [] x i e = elim i [ ]
any_by p (y ∷ ys) x here e = ap (λ t. t || list_any p ys) e
any_by p (y ∷ ys) x (there i) e = by (p y) (any_by p ys x i e)
  where
    by : (t : Bool) → list_any p ys ≡ true → (t || list_any p ys) ≡ true
    by true f = refl
    by false f = f
