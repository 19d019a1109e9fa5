-- Elements of lists by their places, and one element more at the end.
use Rattle.std.proofs.Common.{◌≡◌, ℕ, ◌<◌, List, [], ◌∷◌, ◌++◌, length, map, get_or, Some, sym, ap, ◌∙◌, subst}
use Rattle.std.specs.List.{slice_get}
use Rattle.std.specs.Option.{option_map}
use Rattle.std.proofs.lemmas.Option.{slice_get-get_or, slice_get-map, slice_get_within}
use Rattle.algebra.specs.Members.{◌∈◌, here, there, Every}
use Rattle.algebra.proofs.Members.{each_of_more, each_of_none, member_at, at_of_member}

pub record Place {A : Type 0} (xs : List A) (x : A) : Type 0 where
  pub index : ℕ
  pub is : slice_get xs index ≡ Some x

pub place_of : {A : Type 0} (xs : List A) (x : A) → x ∈ xs → Place xs x
place_of xs x m = let r = at_of_member xs x x m in record { index = r.index; is = slice_get-get_or xs r.index x r.within ∙ ap Some r.is }

pub member_of_place : {A : Type 0} (xs : List A) (k : ℕ) (x : A) → slice_get xs k ≡ Some x → x ∈ xs
member_of_place xs k x e = let l = slice_get_within xs k x e in let f : Some (get_or xs k x) ≡ Some x = sym (slice_get-get_or xs k x l) ∙ e in
    let g : get_or xs k x ≡ x = cc in subst (λ y. y ∈ xs) g (member_at xs k x l)

pub each_of_push : {A : Type 0} (P : A → Type 0) (xs : List A) (y : A) → Every P xs → P y → Every P (xs ++ y ∷ [])
each_of_push P [] y each p = each_of_more P y [] p (each_of_none P)
each_of_push P (x ∷ xs) y each p = each_of_more P x (xs ++ y ∷ []) (each x here) (each_of_push P xs y (λ z m. each z (there m)) p)

pub member_push : {A : Type 0} (xs : List A) (y x : A) → x ∈ xs → x ∈ (xs ++ y ∷ [])
member_push [] y x m = elim m [ ]
member_push (z ∷ zs) y x here = here
member_push (z ∷ zs) y x (there m) = there (member_push zs y x m)

pub member_last : {A : Type 0} (xs : List A) (y : A) → y ∈ (xs ++ y ∷ [])
member_last [] y = here
member_last (x ∷ xs) y = there (member_last xs y)

pub place_mapped : {A B : Type 0} (f : A → B) (xs : List A) (k : ℕ) (x : A) → k < length xs → x ≡ get_or xs k x →
    slice_get (map f xs) k ≡ Some (f x)
place_mapped f xs k x l e = slice_get-map f xs k ∙ ap (option_map f) (slice_get-get_or xs k x l ∙ ap (λ y. Some y) (sym e))
