-- Lists with another item at a place, and the sides of such a list of faces.
use Rattle.std.proofs.Common.{◌≡◌, ℕ, zero, suc, ◌+◌, ◌-◌, ◌<◌, ◌≤◌, List, [], ◌∷◌, ◌++◌, length, take, drop, get_or, refl, ap, ◌∙◌, arith, add-one}
use Rattle.std.proofs.lemmas.List.{take_all, length-drop}
use Rattle.map_nodes.specs.Seen.{sides_from, sides_of}
use Rattle.map_model.specs.Faces.{Face}
use Rattle.map_model.specs.Commands.{Command, Tex}
use Rattle.map_model.specs.Own.{change_at}
use Rattle.edit_ops.specs.Texturing.{retextured_face}

-- The items before it, the item, and those behind it.
changed_by : {A : Type 0} (f : A → A) (xs : List A) (k : ℕ) (x : A) → k < length xs → x ≡ get_or xs k x → take k xs ++ f x ∷ drop (suc k) xs ≡ change_at k f xs
changed_by f [] k x lt is = absurd (omega arith)
changed_by f (y ∷ ys) zero x lt is = ap (λ z. f z ∷ ys) is
changed_by f (y ∷ ys) (suc k) x lt is = ap (λ l. y ∷ l) (changed_by f ys k x (omega arith) is)

pub changed_is : {A : Type 0} (f : A → A) (xs : List A) (k : ℕ) (x : A) → k < length xs → x ≡ get_or xs k x → take k xs ++ f x ∷ drop (k + 1) xs ≡ change_at k f xs
changed_is f xs k x lt is = ap (λ j. take k xs ++ f x ∷ drop j xs) (add-one k) ∙ changed_by f xs k x lt is

-- A face that keeps its plane keeps its side.
sides_kept : (f : Face → Face) → ((x : Face) → (f x).plane ≡ x.plane) → (j k : ℕ) (fs : List Face) → sides_from j (change_at k f fs) ≡ sides_from j fs
sides_kept f keeps j k [] = refl
sides_kept f keeps j zero (x ∷ fs) = λ i. record { plane = keeps x i; tag = j } ∷ sides_from (suc j) fs
sides_kept f keeps j (suc k) (x ∷ fs) = ap (λ l. record { plane = x.plane; tag = j } ∷ l) (sides_kept f keeps (suc j) k fs)

pub same_sides : (f : Face → Face) → ((x : Face) → (f x).plane ≡ x.plane) → (k : ℕ) (fs : List Face) → sides_of (change_at k f fs) ≡ sides_of fs
same_sides f keeps k fs = sides_kept f keeps 0 k fs

-- A slice from a place on is the rest of the list.
pub rest_is : {A : Type 0} (xs : List A) (n : ℕ) → take (length xs - n) (drop n xs) ≡ drop n xs
rest_is xs n = take_all (length xs - n) (drop n xs) (let e = length-drop n xs in omega arith)

-- Another texture keeps the plane.
pub keeps_plane : (c : Command) (x : Face) → (retextured_face c x).plane ≡ x.plane
keeps_plane (Tex node face name off rotation scale surface) x = refl
keeps_plane c x = refl
