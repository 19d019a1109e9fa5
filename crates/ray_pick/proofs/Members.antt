-- The half-spaces of sides, one by one.
use Rattle.std.proofs.Common.{◌≡◌, ℕ, suc, ◌+◌, ◌<◌, ◌≤◌, List, [], ◌∷◌, ◌++◌, map, length, get_or, take, drop, ap, sym, subst, ◌∙◌, arith, refl}
use Rattle.std.proofs.lemmas.List.{take_more, map-append, length-map, length-take-le, take_all, take-append-drop}
use Rattle.std.proofs.Math.Seq.{drop-cons}
use Rattle.algebra.specs.Members.{◌∈◌, here, there, Every}
use Rattle.algebra.specs.Space.{HalfSpace}
use Rattle.algebra.proofs.Members.{member_at}
use Rattle.solid_brush.specs.declared.side.Side.{Side}
use Rattle.solid_brush.specs.Sides.{bounds, half_spaces}

every_append : {A : Type 0} (P : A → Type 0) (xs : List A) (y : A) → Every P xs → P y → Every P (xs ++ y ∷ [])
every_append P [] y e p x here = p
every_append P [] y e p x (there i) = elim i [ ]
every_append P (z ∷ xs) y e p x here = e z here
every_append P (z ∷ xs) y e p x (there i) = every_append P xs y (λ w j. e w (there j)) p x i

in_map : {A B : Type 0} (f : A → B) (x : A) (xs : List A) → x ∈ xs → f x ∈ map f xs
in_map f x (y ∷ xs) here = here
in_map f x (y ∷ xs) (there i) = there (in_map f x xs i)
in_map f x [] i = elim i [ ]

module _ (sides : List Side) (i : ℕ) (s : Side) (lt : i < length sides) (is : s ≡ get_or sides i s) where
  -- The side is one of them.
  pub is_member : bounds s ∈ half_spaces sides
  is_member = in_map bounds s sides (subst (λ x. x ∈ sides) (sym is) (member_at sides i s lt))

  half_spaces_more : half_spaces (take (i + 1) sides) ≡ half_spaces (take i sides) ++ bounds s ∷ []
  half_spaces_more = ap half_spaces (take_more sides i s lt ∙ ap (λ x. take i sides ++ x ∷ []) (sym is)) ∙ map-append bounds (take i sides) (s ∷ [])

  -- What holds of those so far and of this one holds of one more.
  pub every_more : (P : HalfSpace → Type 0) → Every P (half_spaces (take i sides)) → P (bounds s) → Every P (half_spaces (take (i + 1) sides))
  every_more P e p = subst (λ F. Every P F) (sym half_spaces_more) (every_append P (half_spaces (take i sides)) (bounds s) e p)

-- All of them are those so far once the end is reached.
pub every_all : (sides : List Side) (i : ℕ) (P : HalfSpace → Type 0) → length sides ≤ i → Every P (half_spaces (take i sides)) → Every P (half_spaces sides)
every_all sides i P l e = subst (λ xs. Every P (half_spaces xs)) (take_all i sides l) e

-- Those before the side, the side, and those behind it.
pub parts_at : (sides : List Side) (i : ℕ) (s : Side) → i < length sides → s ≡ get_or sides i s →
    half_spaces sides ≡ half_spaces (take i sides) ++ bounds s ∷ half_spaces (drop (suc i) sides)
parts_at sides i s lt is =
    ap half_spaces (sym (take-append-drop i sides) ∙ ap (λ l. take i sides ++ l) (drop-cons sides i s lt ∙ ap (λ x. x ∷ drop (suc i) sides) (sym is)))
    ∙ map-append bounds (take i sides) (s ∷ drop (suc i) sides)

pub before_length : (sides : List Side) (i : ℕ) → i < length sides → length (half_spaces (take i sides)) ≡ i
before_length sides i lt = length-map (take i sides) bounds ∙ length-take-le i sides (omega arith)
