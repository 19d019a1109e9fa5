-- Edits for each number of a list in turn.
use Rattle.std.proofs.Common.{◌≡◌, ℕ, ◌+◌, ◌<◌, ◌≤◌, List, length, drop, get_or, ap, ap₂, sym, ◌∙◌, drop-cons, add-one}
use Rattle.std.proofs.lemmas.List.{drop_all}
use Rattle.map_model.specs.Tree.{Whole}
use Rattle.map_model.specs.Edits.{each_in_turn}

-- The edits of the first k numbers are made, and the others will be.
pub record Turning (edit : ℕ → Whole → Whole) (ns : List ℕ) (k : ℕ) (start now : Whole) : Type 0 where
  pub rest : each_in_turn edit (drop k ns) now ≡ each_in_turn edit ns start

pub turned_one : (edit : ℕ → Whole → Whole) (ns : List ℕ) (k n : ℕ) (start now new : Whole) → k < length ns → n ≡ get_or ns k n → Turning edit ns k start now →
    new ≡ edit n now → Turning edit ns (k + 1) start new
turned_one edit ns k n start now new lt e t is = record {
  rest = ap₂ (λ i x. each_in_turn edit (drop i ns) x) (add-one k) (is ∙ ap (λ i. edit i now) e) ∙ sym (ap (λ l. each_in_turn edit l now) (drop-cons ns k n lt)) ∙ t.rest;
}

pub turned_all : (edit : ℕ → Whole → Whole) (ns : List ℕ) (k : ℕ) (start now : Whole) → length ns ≤ k → Turning edit ns k start now → now ≡ each_in_turn edit ns start
turned_all edit ns k start now le t = sym (ap (λ l. each_in_turn edit l now) (drop_all k ns le)) ∙ t.rest
