-- Walks through a map: all that stands beneath a node, in preorder, and all that stands above one.
use Rattle.std.specs.Prelude.{◌≡◌, ◌↔◌, ◌⊎◌, ◌+◌, ◌≤◌, ◌==◌, ℕ, [], ◌∷◌, flat_map, count_by, Some}
use Rattle.algebra.specs.Members.{◌∈◌}
use Rattle.map_model.specs.Tree.{Whole, up, above, children, preorder, preorder_by}
use Rattle.map_laws.specs.Placed.{Placed, Bounded, IsNode}

-- There is fuel enough. A node stands in preorder before its children, each with all beneath it; the preorder lists what stands beneath, each
-- node once; above a node stand its parent and all that stand above that.
pub record Walks (m : Whole) : Type 0 where
  pub preorder_steps : (n : ℕ) → IsNode m n → preorder m n ≡ n ∷ flat_map (preorder m) (children m n)
  pub preorder_fuel : (j n : ℕ) → IsNode m n → preorder_by (j + m.next) m n ≡ preorder m n
  pub preorder_lists : (n q : ℕ) → IsNode m n → IsNode m q → (q ∈ preorder m n) ↔ ((q ≡ n) ⊎ (n ∈ above m q))
  pub preorder_once : (n q : ℕ) → IsNode m n → count_by (λ k. k == q) (preorder m n) ≤ 1
  pub above_steps : (n p : ℕ) → up m n ≡ Some p → above m n ≡ p ∷ above m p
  pub above_world : above m 0 ≡ []

abbrev pub WalksLaw : Type 0
WalksLaw = (m : Whole) → Placed m → Bounded m → Walks m
