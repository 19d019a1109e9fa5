-- How nodes stand, but for groups without a child, which edits leave and pruning takes away.
use Rattle.std.specs.Prelude.{◌≡◌, ◌≢◌, ◌≤◌, ◌==◌, ℕ, Bool, true, IsTrue, [], count_by, Some, None, is_some}
use Rattle.algebra.specs.Members.{◌∈◌}
use Rattle.uv_lock.specs.declared.texture.Format.{Format}
use Rattle.map_model.specs.Tree.{Whole, Node, Kind, world, layer, group, entity, brush, at, up, children, brushes_at, others_at, has, kind_of, parent_of, brushes_of, others_of, link_of, mark_of, is_kind, is_brush, format_of_node}
use Rattle.map_model.specs.Shape.{Rooted, may_hold, NodeOk, EachNode, Numbers}

-- The nodes are one tree from the world down, by the table of kinds; each node stands once, where it says. A group may be empty.
pub record Placed (m : Whole) : Type 0 where
  pub world_stands : IsTrue (is_kind m world 0)
  pub one_world : (n : ℕ) → IsTrue (is_kind m world n) → n ≡ 0
  pub children_stand : (p n : ℕ) → n ∈ children m p → up m n ≡ Some p
  pub brushes_fit : (p n : ℕ) → n ∈ brushes_at m p → IsTrue (is_brush m n)
  pub others_fit : (p n : ℕ) → n ∈ others_at m p → IsTrue (has m (λ x. has m (λ y. may_hold (kind_of x) (kind_of y)) n) p)
  pub once : (p n : ℕ) → up m n ≡ Some p → count_by (λ k. k == n) (children m p) ≡ 1
  pub rooted : (n : ℕ) → IsTrue (is_some (at m n)) → Rooted m n

-- Each group has a child.
abbrev pub NoEmptyGroup : Whole → Type 0
NoEmptyGroup m = (n : ℕ) → IsTrue (is_kind m group n) → children m n ≢ []

-- No node has a number that wasn't drawn.
abbrev pub Bounded : Whole → Type 0
Bounded m = (n : ℕ) → m.next ≤ n → at m n ≡ None

-- A map that is right but for empty groups and for marks.
pub record Sound (m : Whole) : Type 0 where
  pub placed : Placed m
  pub each_node : EachNode m
  pub numbers : Numbers m

abbrev pub IsNode : Whole → ℕ → Type 0
IsNode m n = IsTrue (is_some (at m n))

-- Which kinds stand in which: brushes in all but brushes, the others by the table.
abbrev pub can_hold : Kind → Kind → Bool
can_hold world brush = true
can_hold layer brush = true
can_hold group brush = true
can_hold entity brush = true
can_hold j k = may_hold j k

-- A change of a node that is none of its place in the tree.
pub record KeepsPlace (f : Node → Node) : Type 0 where
  pub kind : (x : Node) → kind_of (f x) ≡ kind_of x
  pub parent : (x : Node) → parent_of (f x) ≡ parent_of x
  pub brushes : (x : Node) → brushes_of (f x) ≡ brushes_of x
  pub others : (x : Node) → others_of (f x) ≡ others_of x

-- A change of a node that changes no part that other nodes, or sets and marks, go by.
pub record KeepsAll (f : Node → Node) : Type 0 where
  pub place : KeepsPlace f
  pub link : (x : Node) → link_of (f x) ≡ link_of x
  pub mark : (x : Node) → mark_of (f x) ≡ mark_of x
  pub format : (x : Node) → format_of_node (f x) ≡ format_of_node x

-- What is asked of a node that a command draws: it is right for the format, and in no set, and has no mark.
pub record NewOk (format : Format) (x : Node) : Type 0 where
  pub ok : NodeOk format x
  pub no_link : link_of x ≡ None
  pub no_mark : mark_of x ≡ None
