-- Members of a list.
use Rattle.std.specs.Prelude.{List, ◌∷◌}

-- x is a member of the list.
infix 50 ◌∈◌
pub data ◌∈◌ {A : Type 0} (x : A) : List A → Type 0 where
  here : {xs : List A} → x ∈ (x ∷ xs)
  there : {y : A} {xs : List A} → x ∈ xs → x ∈ (y ∷ xs)

-- Each member of the list has the property.
abbrev pub Every : {A : Type 0} → (A → Type 0) → List A → Type 0
Every {A} P xs = (x : A) → x ∈ xs → P x
