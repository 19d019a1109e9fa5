-- The places of numbers in a list, and members of images.
use Rattle.std.proofs.Common.{◌≡◌, ℕ, zero, suc, ◌+◌, ◌<◌, List, [], ◌∷◌, length, length-set, get_or, map, refl, sym, ap, subst, ◌∙◌, arith, ⊎_elim}
use Rattle.std.proofs.Math.ListN.{set}
use Rattle.std.proofs.lemmas.Bool.{cases_eq}
use Rattle.std.proofs.lemmas.List.{get_or-set_same, get_or-set_other, length-map}
use Rattle.algebra.specs.Members.{◌∈◌, here, there}
use Rattle.half_poly.specs.Places.{AreDistinct, AreWithin, ArePlaces}

-- Members of an image.
pub record Source {A B : Type 0} (f : A → B) (xs : List A) (y : B) : Type 0 where
  pub it : A
  pub among : it ∈ xs
  pub is : f it ≡ y

pub source : {A B : Type 0} (f : A → B) (xs : List A) (y : B) → y ∈ map f xs → Source f xs y
source f [] y m = elim m [ ]
source f (x ∷ xs) y here = record { it = x; among = here; is = refl }
source f (x ∷ xs) y (there m) = let r = source f xs y m in record { it = r.it; among = there r.among; is = r.is }

pub image : {A B : Type 0} (f : A → B) (xs : List A) (x : A) → x ∈ xs → f x ∈ map f xs
image f (x ∷ xs) y here = here
image f (x ∷ xs) y (there m) = there (image f xs y m)
image f [] y m = elim m [ ]

-- An image by its place.
pub get_map : {A B : Type 0} (f : A → B) (xs : List A) (k : ℕ) (d : A) (e : B) → k < length xs → get_or (map f xs) k e ≡ f (get_or xs k d)
get_map f [] k d e l = absurd (omega arith)
get_map f (x ∷ xs) zero d e l = refl
get_map f (x ∷ xs) (suc k) d e l = get_map f xs k d e (omega arith)

-- One place more is written.
pub places_more : (slots table : List ℕ) (n slot : ℕ) → n < length slots → slot ≡ get_or slots n 0 → AreDistinct slots → AreWithin slots (length table) → ArePlaces slots table n →
    ArePlaces slots (set table slot n) (n + 1)
places_more slots table n slot l q distinct within places i h = ⊎_elim
    (λ (e : i ≡ n). ap (λ k. get_or (set table slot n) (get_or slots k 0) 0) e ∙ ap (λ k. get_or (set table slot n) k 0) (sym q)
    ∙ get_or-set_same table slot n 0 (subst (λ k. k < length table) (sym q) (within n l)) ∙ sym e)
    (λ (d : ¬ (i ≡ n)). let k : i < n = omega arith in get_or-set_other table slot (get_or slots i 0) n 0 (λ e. distinct i n k l (e ∙ q)) ∙ places i k)
    (cases_eq i n)

pub places_put : {Id : Type 0} (f : Id → ℕ) (ids : List Id) (old table after : List ℕ) (n : ℕ) (id : Id) (slot : ℕ) → n < length ids → id ≡ get_or ids n id → slot ≡ f id → after ≡ set table slot n →
    AreDistinct (map f ids) → AreWithin (map f ids) (length old) → (length table ≡ length old) × ArePlaces (map f ids) table n → (length after ≡ length old) × ArePlaces (map f ids) after (n + 1)
places_put f ids old table after n id slot l q r s distinct within p =
    let m : slot ≡ get_or (map f ids) n 0 = r ∙ ap f q ∙ sym (get_map f ids n id 0 l) in (
      ap length s ∙ length-set table slot n ∙ p.0,
      subst (λ t. ArePlaces (map f ids) t (n + 1)) (sym s)
          (places_more (map f ids) table n slot (subst (λ k. n < k) (sym (length-map ids f)) l) m distinct (subst (λ k. AreWithin (map f ids) k) (sym p.0) within) p.1),
    )
