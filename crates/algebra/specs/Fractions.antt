-- Fractions of whole numbers, and the greatest and the least of some.
use Rattle.std.specs.Prelude.{List, ℤ, pos, ◌*ℤ◌, ◌<ℤ◌, ◌≤ℤ◌}
use Rattle.algebra.specs.Members.{◌∈◌}

-- a / p is at most b / q, where p and q are above 0.
pub record Fraction≤ (a p b q : ℤ) : Type 0 where
  pub le : (a *ℤ q) ≤ℤ (b *ℤ p)

-- An element with the greatest s / g of all elements whose g is above 0.
pub record Greatest {A : Type 0} (s g : A → ℤ) (xs : List A) : Type 0 where
  pub it : A
  pub among : it ∈ xs
  pub ahead : pos 0 <ℤ g it
  pub above : (x : A) → x ∈ xs → pos 0 <ℤ g x → Fraction≤ (s x) (g x) (s it) (g it)

-- An element with the least s / g of all elements whose g is above 0.
pub record Least {A : Type 0} (s g : A → ℤ) (xs : List A) : Type 0 where
  pub it : A
  pub among : it ∈ xs
  pub ahead : pos 0 <ℤ g it
  pub below : (x : A) → x ∈ xs → pos 0 <ℤ g x → Fraction≤ (s it) (g it) (s x) (g x)

-- No element has g above 0.
abbrev pub NoneAhead : {A : Type 0} → (A → ℤ) → List A → Type 0
NoneAhead {A} g xs = (x : A) → x ∈ xs → g x ≤ℤ pos 0
