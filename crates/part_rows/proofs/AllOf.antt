-- What holds of each element of a list, by members and by the test of a slice.
use Rattle.std.proofs.Common.{◌≡◌, ◌↔◌, Bool, true, false, IsTrue, MatchBool, ℕ, ◌<◌, List, [], ◌∷◌, length, get_or, All, refl, arith, subst}
use Rattle.std.specs.List.{AllWithin, HoldsAt}
use Rattle.std.proofs.lemmas.Bool.{false≢true}
use Rattle.algebra.specs.Members.{◌∈◌, Every}
use Rattle.algebra.proofs.Members.{member_at, at_of_member}

pub every_of_all : {A : Type 0} (P : A → Type 0) (xs : List A) → All P xs → Every P xs
every_of_all P xs all x m = let r = at_of_member xs x x m in subst P r.is (all r.index x r.within)

pub all_of_every : {A : Type 0} (P : A → Type 0) (xs : List A) → Every P xs → All P xs
all_of_every P xs each k d l = each (get_or xs k d) (member_at xs k d l)

-- What `all` answers, by the elements that it tried.
pub all_of_cases : {A : Type 0} (P : A → Type 0) (xs : List A) (r : Bool) →
    MatchBool r (AllWithin P xs 0 (length xs)) ((k : ℕ) × (k < length xs) × HoldsAt (λ x. ¬ (P x)) xs k) → IsTrue r ↔ All P xs
all_of_cases P xs true each = (λ t k d l. each k d (omega arith) l, λ all. refl)
all_of_cases P xs false fails = (λ t. absurd (false≢true t), λ all. absurd (not_all P xs fails.0 fails.1 fails.2 all))
  where
    not_all : {A : Type 0} (P : A → Type 0) (xs : List A) (k : ℕ) → k < length xs → HoldsAt (λ x. ¬ (P x)) xs k → ¬ (All P xs)
    not_all P [] k l fails all = absurd (omega arith)
    not_all P (x ∷ xs) k l fails all = fails x (all k x l)
