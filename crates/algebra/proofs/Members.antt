-- Members of a list.
use Rattle.std.proofs.Common.{◌≡◌, ℕ, zero, suc, ◌<◌, List, [], ◌∷◌, length, get_or, refl, arith}
use Rattle.algebra.specs.Members.{◌∈◌, here, there}

pub each_of_none : {A : Type 0} (P : A → Type 0) (x : A) → x ∈ [] → P x
each_of_none P x i = elim i [ ]

pub each_of_more : {A : Type 0} (P : A → Type 0) (y : A) (ys : List A) → P y → ((x : A) → x ∈ ys → P x) → (x : A) → x ∈ (y ∷ ys) → P x
each_of_more P y ys p ps x here = p
each_of_more P y ys p ps x (there h) = ps x h

pub each_of_two : {A : Type 0} (P : A → Type 0) (y z : A) → P y → P z → (x : A) → x ∈ (y ∷ z ∷ []) → P x
each_of_two P y z p q = each_of_more P y (z ∷ []) p (each_of_more P z [] q (each_of_none P))

-- An element is a member, and a member is an element.
pub member_at : {A : Type 0} (xs : List A) (i : ℕ) (d : A) → i < length xs → get_or xs i d ∈ xs
member_at [] i d h = absurd (omega arith)
member_at (x ∷ xs) zero d h = here
member_at (x ∷ xs) (suc i) d h = there (member_at xs i d (omega arith))

pub record IsAt {A : Type 0} (xs : List A) (x d : A) : Type 0 where
  pub index : ℕ
  pub within : index < length xs
  pub is : get_or xs index d ≡ x

pub at_of_member : {A : Type 0} (xs : List A) (x d : A) → x ∈ xs → IsAt xs x d
at_of_member [] x d h = elim h [ ]
at_of_member (y ∷ ys) x d here = record { index = 0; within = omega arith; is = refl }
at_of_member (y ∷ ys) x d (there h) = let r = at_of_member ys x d h in let w = r.within in record { index = suc r.index; within = omega arith; is = r.is }
