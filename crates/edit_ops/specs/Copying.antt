-- Copies of nodes.
use Rattle.std.specs.Prelude.{◌≡◌, ℕ, ◌+◌, ◌≤◌, Bool, true, false, List, length, map, filter_map, flat_map, unwrap_or, is_some}
use Rattle.algebra.specs.Members.{◌∈◌}
use Rattle.map_model.specs.Commands.{Command, Copy}
use Rattle.map_model.specs.Edits.{copy_last}
use Rattle.map_model.specs.Motions.{Motion}
use Rattle.map_model.specs.Own.{copied_node}
use Rattle.map_model.specs.Tree.{Whole, Node, at, up, preorder}

abbrev pub is_copy : Command → Bool
is_copy (Copy shift ns) = true
is_copy c = false

-- A copy of the node, with all beneath it, stands at the end of the node's parent, where the motion takes it.
abbrev pub copied_by : Bool → Motion → ℕ → Whole → Whole
copied_by lock r n m = copy_last (unwrap_or (up m n) 0) (copied_node lock r) n m

-- The copies of nodes, as they stand in the map m: none of them has another number yet.
abbrev pub copies_of : Bool → Motion → Whole → List ℕ → List Node
copies_of lock r m ns = map (copied_node lock r) (filter_map (at m) ns)

-- The map k came from m by copies of some of the nodes, and n is the next of them: all beneath it is as it was, and of the numbers for all
-- the copies there are enough left.
pub record IsNext (m : Whole) (all : List ℕ) (n : ℕ) (k : Whole) : Type 0 where
  pub same : (q : ℕ) → q ∈ preorder k n → at k q ≡ at m q
  pub there : (q : ℕ) → q ∈ preorder k n → is_some (at m q) ≡ true
  pub listed : (q : ℕ) → q ∈ preorder k n → q ∈ flat_map (preorder m) all
  pub room : k.next + length (preorder k n) ≤ m.next + length (flat_map (preorder m) all)
