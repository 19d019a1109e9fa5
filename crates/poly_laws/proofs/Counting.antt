-- As many slots as there are others for them.
use Rattle.std.proofs.Common.{◌≡◌, ℕ, zero, suc, ◌+◌, ◌≤◌, Bool, true, false, List, [], ◌∷◌, length, get_or, refl, ap, arith, inl, inr, ◌⊎◌, ⊎_elim}
use Rattle.std.specs.Prelude.{count_by, cond}
use Rattle.std.proofs.lemmas.List.Sums.{sum_by-cons}
use Rattle.algebra.specs.Members.{◌∈◌, here, there}

-- ---- a list without one of its members
without : {A : Type 0} {x : A} {R : List A} → x ∈ R → List A
without (here {xs = xs}) = xs
without (there {y = y} m) = y ∷ without m

shorter : {A : Type 0} {x : A} {R : List A} (m : x ∈ R) → length R ≡ suc (length (without m))
unfolding without
shorter here = refl
shorter (there m) = ap suc (shorter m)

split : {A : Type 0} {x y : A} {R : List A} (m : x ∈ R) → y ∈ R → (y ≡ x) ⊎ (y ∈ without m)
unfolding without
split here here = inl refl
split here (there k) = inr k
split (there m) here = inr here
split (there m) (there k) = ⊎_elim (λ e. inl e) (λ i. inr (there i)) (split m k)

-- The element that stands for a slot.
pub record For {A : Type 0} (R : ℕ → A → Type 0) (ys : List A) (i : ℕ) : Type 0 where
  pub it : A
  pub among : it ∈ ys
  pub stands : R i it

-- Slots that pass are no more than the elements, where each has one of its own.
pub pigeons : {S A : Type 0} (p : S → Bool) (d : S) (slots : List S) (ys : List A) (R : ℕ → A → Type 0) → ((i : ℕ) → p (get_or slots i d) ≡ true → For R ys i) →
    ((i j : ℕ) (y : A) → R i y → R j y → i ≡ j) → count_by p slots ≤ length ys
pigeons p d [] ys R each once = omega arith
pigeons {S} {A} p d (s ∷ slots) ys R each once = by (p s) refl (λ zs f. pigeons p d slots zs (λ i y. R (suc i) y) f (λ i j y a b. lower i j (once (suc i) (suc j) y a b)))
  where
    lower : (i j : ℕ) → suc i ≡ suc j → i ≡ j
    lower i j q = omega arith

    counted : (b : Bool) (n : ℕ) → cond b 1 0 + n ≤ suc n
    counted true n = omega arith
    counted false n = omega arith

    rest : For R ys zero → (i : ℕ) → p (get_or slots i d) ≡ true → (x : For R ys zero) → For (λ i y. R (suc i) y) (without x.among) i
    rest f i t x = let e = each (suc i) t in record {
      it = e.it;
      among = ⊎_elim (λ q. absurd (never i (once (suc i) zero x.it (moved e.it x.it q e.stands) x.stands))) (λ m. m) (split x.among e.among);
      stands = e.stands;
    }
      where
        never : (i : ℕ) → suc i ≡ zero → ⊥
        never i q = omega arith

        moved : (y z : A) → y ≡ z → R (suc i) y → R (suc i) z
        moved y z q h = rw (← q) h

    by : (b : Bool) → p s ≡ b → ((zs : List A) → ((i : ℕ) → p (get_or slots i d) ≡ true → For (λ i y. R (suc i) y) zs i) → count_by p slots ≤ length zs) → count_by p (s ∷ slots) ≤ length ys
    by true q more =
        let x = each zero q in
        let h = more (without x.among) (λ i t. rest x i t x) in
        let l = shorter x.among in rw (sum_by-cons (λ y. cond (p y) 1 0) s slots, q) (omega arith)
    by false q more =
        let h = more ys (λ i t. let e = each (suc i) t in record { it = e.it; among = e.among; stands = e.stands }) in rw (sum_by-cons (λ y. cond (p y) 1 0) s slots, q) (omega arith)
