-- What stands above a number, step by step, and edits and tests along it.
use Rattle.std.proofs.Common.{◌≡◌, ℕ, suc, ◌+◌, ◌-◌, ◌<◌, ◌≤◌, [], ◌∷◌, Some, None, Bool, true, false, ◌||◌, ap, sym, ◌∙◌, arith}
use Rattle.std.specs.List.{list_any}
use Rattle.map_model.specs.Tree.{Whole, up, above, above_by}
use Rattle.map_model.specs.Edits.{each_in_turn}

one_less : (n k : ℕ) → k < n → n - k ≡ suc (n - (k + 1))
one_less n k lt = omega arith

above_more : (m : Whole) (k below p : ℕ) → k < m.next → Some p ≡ up m below → above_by (m.next - k) m (up m below) ≡ p ∷ above_by (m.next - (k + 1)) m (up m p)
above_more m k below p lt e = ap (λ f. above_by f m (up m below)) (one_less m.next k lt) ∙ sym (ap (λ o. above_by (suc (m.next - (k + 1))) m o) e)

above_none : (m : Whole) (k below : ℕ) → k < m.next → None ≡ up m below → above_by (m.next - k) m (up m below) ≡ []
above_none m k below lt e = ap (λ f. above_by f m (up m below)) (one_less m.next k lt) ∙ sym (ap (λ o. above_by (suc (m.next - (k + 1))) m o) e)

above_out : (m : Whole) (k below : ℕ) → m.next ≤ k → above_by (m.next - k) m (up m below) ≡ []
above_out m k below le = ap (λ f. above_by f m (up m below)) (none m.next k le)
  where
    none : (a b : ℕ) → a ≤ b → a - b ≡ 0
    none a b h = omega arith

above_start : (m : Whole) (n : ℕ) → above_by (m.next - 0) m (up m n) ≡ above m n
above_start m n = ap (λ f. above_by f m (up m n)) (less_none m.next)
  where
    less_none : (k : ℕ) → k - 0 ≡ k
    less_none k = omega arith

-- After k steps the edits are made along the way, and the others will be.
pub record Climbing (edit : ℕ → Whole → Whole) (m : Whole) (n k below : ℕ) (start now : Whole) : Type 0 where
  pub rest : each_in_turn edit (above_by (m.next - k) m (up m below)) now ≡ each_in_turn edit (above m n) start

pub climbs : (edit : ℕ → Whole → Whole) (m : Whole) (n : ℕ) (start : Whole) → Climbing edit m n 0 n start start
climbs edit m n start = record { rest = ap (λ l. each_in_turn edit l start) (above_start m n) }

pub climbed : (edit : ℕ → Whole → Whole) (m : Whole) (n k below p : ℕ) (start now new : Whole) → k < m.next → Some p ≡ up m below → Climbing edit m n k below start now →
    new ≡ edit p now → Climbing edit m n (k + 1) p start new
climbed edit m n k below p start now new lt e c is = record {
  rest = ap (each_in_turn edit (above_by (m.next - (k + 1)) m (up m p))) is ∙ sym (ap (λ l. each_in_turn edit l now) (above_more m k below p lt e)) ∙ c.rest;
}

pub climbed_out : (edit : ℕ → Whole → Whole) (m : Whole) (n k below : ℕ) (start now : Whole) → k < m.next → None ≡ up m below → Climbing edit m n k below start now →
    now ≡ each_in_turn edit (above m n) start
climbed_out edit m n k below start now lt e c = sym (ap (λ l. each_in_turn edit l now) (above_none m k below lt e)) ∙ c.rest

pub climbed_all : (edit : ℕ → Whole → Whole) (m : Whole) (n k below : ℕ) (start now : Whole) → m.next ≤ k → Climbing edit m n k below start now →
    now ≡ each_in_turn edit (above m n) start
climbed_all edit m n k below start now le c = sym (ap (λ l. each_in_turn edit l now) (above_out m k below le)) ∙ c.rest

-- After k steps none of those above passed the test so far.
pub record Asking (t : ℕ → Bool) (m : Whole) (n k below : ℕ) : Type 0 where
  pub rest : list_any t (above_by (m.next - k) m (up m below)) ≡ list_any t (above m n)

pub asks : (t : ℕ → Bool) (m : Whole) (n : ℕ) → Asking t m n 0 n
asks t m n = record { rest = ap (list_any t) (above_start m n) }

module _ (t : ℕ → Bool) (m : Whole) (n k below p : ℕ) (lt : k < m.next) (e : Some p ≡ up m below) (c : Asking t m n k below) where
  asked : (t p || list_any t (above_by (m.next - (k + 1)) m (up m p))) ≡ list_any t (above m n)
  asked = sym (ap (list_any t) (above_more m k below p lt e)) ∙ c.rest

  pub asked_yes : t p ≡ true → true ≡ list_any t (above m n)
  asked_yes h = sym (ap (λ b. b || list_any t (above_by (m.next - (k + 1)) m (up m p))) h) ∙ asked

  pub asked_on : t p ≡ false → Asking t m n (k + 1) p
  asked_on h = record { rest = sym (ap (λ b. b || list_any t (above_by (m.next - (k + 1)) m (up m p))) h) ∙ asked }

pub asked_out : (t : ℕ → Bool) (m : Whole) (n k below : ℕ) → k < m.next → None ≡ up m below → Asking t m n k below → false ≡ list_any t (above m n)
asked_out t m n k below lt e c = sym (ap (list_any t) (above_none m k below lt e)) ∙ c.rest

pub asked_all : (t : ℕ → Bool) (m : Whole) (n k below : ℕ) → m.next ≤ k → Asking t m n k below → false ≡ list_any t (above m n)
asked_all t m n k below le c = sym (ap (list_any t) (above_out m k below le)) ∙ c.rest
