-- The greatest and the least of some fractions: one recursion, for elements of any type.
use Rattle.std.proofs.Common.{List, [], ◌∷◌, ◌⊎◌, inl, inr, arith, ℤ, pos, ◌+ℤ◌, ◌-ℤ◌, ◌*ℤ◌, neg_ℤ, ◌<ℤ◌, ◌≤ℤ◌}
use Rattle.std.proofs.lemmas.Int.{ints, by_lt_z}
use Rattle.algebra.specs.Members.{◌∈◌, here, there}
use Rattle.algebra.specs.Fractions.{Fraction≤, Greatest, Least, NoneAhead}
use Rattle.algebra.specs.Laws.{FractionOrder, GreatestAndLeast}
use Rattle.algebra.proofs.Expr.{read}
use Rattle.algebra.proofs.Ring.{ring}
use Rattle.algebra.proofs.Orders.{nonneg-mul, nonneg-add, nonneg_of_positive, le_by, le_gap, fraction_refl, fraction_trans, fraction_or, fraction_neg}
use Rattle.algebra.proofs.Members.{each_of_more}

pub not_ahead : {P : Type 0} {a : ℤ} → a ≤ℤ pos 0 → pos 0 <ℤ a → P
not_ahead {P} {a} h k = absurd (omega (arith, ints))

-- ---- one more element
alone : {A : Type 0} (s g : A → ℤ) (y : A) (ys : List A) → pos 0 <ℤ g y → NoneAhead g ys → Greatest s g (y ∷ ys)
alone s g y ys p none = record {
  it = y;
  among = here;
  ahead = p;
  above = each_of_more (λ x. pos 0 <ℤ g x → Fraction≤ (s x) (g x) (s y) (g y)) y ys (λ h. fraction_refl (s y) (g y)) (λ x i h. not_ahead (none x i) h);
}

kept : {A : Type 0} (s g : A → ℤ) (y : A) (ys : List A) (b : Greatest s g ys) → (pos 0 <ℤ g y → Fraction≤ (s y) (g y) (s b.it) (g b.it)) → Greatest s g (y ∷ ys)
kept s g y ys b f = record {
  it = b.it;
  among = there b.among;
  ahead = b.ahead;
  above = each_of_more (λ x. pos 0 <ℤ g x → Fraction≤ (s x) (g x) (s b.it) (g b.it)) y ys f b.above;
}

taken : {A : Type 0} (s g : A → ℤ) (y : A) (ys : List A) (b : Greatest s g ys) → pos 0 <ℤ g y → Fraction≤ (s b.it) (g b.it) (s y) (g y) → Greatest s g (y ∷ ys)
taken s g y ys b p f = record {
  it = y;
  among = here;
  ahead = p;
  above = each_of_more (λ x. pos 0 <ℤ g x → Fraction≤ (s x) (g x) (s y) (g y)) y ys (λ h. fraction_refl (s y) (g y)) (λ x i h. fraction_trans h b.ahead p (b.above x i h) f);
}

compared : {A : Type 0} (s g : A → ℤ) (y : A) (ys : List A) → pos 0 <ℤ g y → Greatest s g ys → Greatest s g (y ∷ ys)
compared s g y ys p b = fraction_or (s b.it) (g b.it) (s y) (g y) (λ f. taken s g y ys b p f) (λ f. kept s g y ys b (λ h. f))

more : {A : Type 0} (s g : A → ℤ) (y : A) (ys : List A) → NoneAhead g ys ⊎ Greatest s g ys → NoneAhead g (y ∷ ys) ⊎ Greatest s g (y ∷ ys)
more s g y ys (inl none) = by_lt_z (pos 0) (g y) (λ p. inr (alone s g y ys p none)) (λ l. inl (each_of_more (λ x. g x ≤ℤ pos 0) y ys l none))
more s g y ys (inr b) = by_lt_z (pos 0) (g y) (λ p. inr (compared s g y ys p b)) (λ l. inr (kept s g y ys b (λ h. not_ahead l h)))

-- ---- the greatest and the least
pub greatest : {A : Type 0} (s g : A → ℤ) (xs : List A) → NoneAhead g xs ⊎ Greatest s g xs
greatest s g [] = inl (λ x i. elim i [ ])
greatest s g (y ∷ ys) = more s g y ys (greatest s g ys)

least_of_greatest : {A : Type 0} (s g : A → ℤ) (xs : List A) → Greatest (λ x. neg_ℤ (s x)) g xs → Least s g xs
least_of_greatest s g xs b = record { it = b.it; among = b.among; ahead = b.ahead; below = λ x i h. fraction_neg (b.above x i h) }

pub least : {A : Type 0} (s g : A → ℤ) (xs : List A) → NoneAhead g xs ⊎ Least s g xs
least {A} s g xs = from (greatest (λ x. neg_ℤ (s x)) g xs)
  where
    from : NoneAhead g xs ⊎ Greatest (λ x. neg_ℤ (s x)) g xs → NoneAhead g xs ⊎ Least s g xs
    from (inl none) = inl none
    from (inr b) = inr (least_of_greatest s g xs b)

-- Where one element is ahead.
pub greatest_of : {A : Type 0} (s g : A → ℤ) (xs : List A) (e : A) → e ∈ xs → pos 0 <ℤ g e → Greatest s g xs
greatest_of {A} s g xs e i h = from (greatest s g xs)
  where
    from : NoneAhead g xs ⊎ Greatest s g xs → Greatest s g xs
    from (inl none) = not_ahead (none e i) h
    from (inr b) = b

pub least_of : {A : Type 0} (s g : A → ℤ) (xs : List A) (e : A) → e ∈ xs → pos 0 <ℤ g e → Least s g xs
least_of s g xs e i h = least_of_greatest s g xs (greatest_of (λ x. neg_ℤ (s x)) g xs e i h)

pub greatest_and_least : (A : Type 0) → GreatestAndLeast A
greatest_and_least A s g xs = from (greatest s g xs)
  where
    from : NoneAhead g xs ⊎ Greatest s g xs → NoneAhead g xs ⊎ (Greatest s g xs × Least s g xs)
    from (inl none) = inl none
    from (inr b) = inr (b, least_of s g xs b.it b.among b.ahead)

pub fraction_order : FractionOrder
fraction_order = record {
  transitive = λ a p b q c r hp hq hr f g. fraction_trans hp hq hr f g;
  total = λ a p b q. fraction_or a p b q (λ f. inl f) (λ f. inr f);
}

-- Where each s is at most 0: moved by the greatest s / g, each stays so. Here a and b are the s and g of another element.
pub before : (s g a b : ℤ) → pos 0 <ℤ g → s ≤ℤ pos 0 → a ≤ℤ pos 0 → (pos 0 <ℤ b → Fraction≤ a b s g) → (g *ℤ a +ℤ neg_ℤ s *ℤ b) ≤ℤ pos 0
before s g a b p hs ha f = by_lt_z (pos 0) b
    (λ l. le_by (s *ℤ b -ℤ a *ℤ g) (le_gap (f l).le) (ring (s ∷ g ∷ a ∷ b ∷ []) (search read depth 20) tt))
    (λ l. le_by (g *ℤ (pos 0 -ℤ a) +ℤ (pos 0 -ℤ s) *ℤ (pos 0 -ℤ b))
    (nonneg-add (nonneg-mul (nonneg_of_positive p) (le_gap ha)) (nonneg-mul (le_gap hs) (le_gap l)))
    (ring (s ∷ g ∷ a ∷ b ∷ []) (search read depth 20) tt))
