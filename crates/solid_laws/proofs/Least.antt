-- The least number with a property.
use Rattle.std.proofs.Common.{◌≡◌, ℕ, zero, suc, ◌<◌, ◌⊎◌, inl, inr, ⊎_elim, arith, subst}

pub record Least (P : ℕ → Type 0) : Type 0 where
  pub at : ℕ
  pub has : P at
  pub below : (k : ℕ) → k < at → ¬ (P k)

below_or_equal : (k n : ℕ) → k < suc n → (k < n) ⊎ (k ≡ n)
below_or_equal k n h = grind arith

one_more_point : (P : ℕ → Type 0) (n : ℕ) → ((k : ℕ) → k < n → ¬ (P k)) → ¬ (P n) → (k : ℕ) → k < suc n → ¬ (P k)
one_more_point P n none last k h p = ⊎_elim (λ l. none k l p) (λ e. last (subst P e p)) (below_or_equal k n h)

pub least_or_none : (P : ℕ → Type 0) → ((k : ℕ) → P k ⊎ ¬ (P k)) → (n : ℕ) → Least P ⊎ ((k : ℕ) → k < n → ¬ (P k))
least_or_none P d zero = inr (λ k l. absurd (omega arith))
least_or_none P d (suc n) = ⊎_elim (λ r. inl r)
    (λ none. ⊎_elim (λ p. inl (record { at = n; has = p; below = none })) (λ q. inr (one_more_point P n none q)) (d n))
    (least_or_none P d n)

-- Where some number has the property.
pub least_of : (P : ℕ → Type 0) → ((k : ℕ) → P k ⊎ ¬ (P k)) → (n : ℕ) → P n → Least P
least_of P d n p = ⊎_elim (λ r. r) (λ none. absurd (none n (omega arith) p)) (least_or_none P d (suc n))

-- Where only numbers below n can have the property.
pub least_within : (P : ℕ → Type 0) → ((k : ℕ) → P k ⊎ ¬ (P k)) → (n : ℕ) → ((k : ℕ) → P k → k < n) → Least P ⊎ ¬ (Least P)
least_within P d n bound = ⊎_elim (λ r. inl r) (λ none. inr (λ r. none r.at (bound r.at r.has) r.has)) (least_or_none P d n)
