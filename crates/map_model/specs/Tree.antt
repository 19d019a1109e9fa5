-- Maps as trees of numbered nodes, and what is read off them.
pub use Rattle.map_nodes.specs.Nodes.{Props, Kind, world, layer, group, entity, brush, kind_of, same_kind, parent_of, mark_of, link_of, name_of, is_frozen, props_of, protected_of, brushes_of, others_of, faces_of, has_kind, with_parent, with_mark, with_link, with_frozen, with_format, with_props, with_protected, with_brushes, with_others, with_faces}
pub use Rattle.map_nodes.specs.declared.link.Link.{Link}
pub use Rattle.map_nodes.specs.declared.node.Node.{Node}
pub use Rattle.map_nodes.specs.declared.node.Node.TheVariants.{World, Layer, Group, Entity, Brush}
use Rattle.std.specs.Prelude.{ℕ, ◌+◌, suc, zero, List, [], ◌∷◌, ◌++◌, flat_map, filter, Bool, false, cond, not, ◌==◌, ◌&&◌, Option, Some, None, is_some, option_map, option_and_then, unwrap_or}
use Rattle.std.specs.List.{find, list_any}
use Rattle.uv_lock.specs.declared.texture.Format.{Format}
use Rattle.uv_lock.specs.declared.texture.Format.TheVariants.{Standard}
use Rattle.map_model.specs.Faces.{Face}

-- A whole map: the node of each number, or none, and the next number. Number 0 is the world. Two maps are equal where these are.
pub record Whole : Type 0 where
  pub nodes : ℕ → Option Node
  pub next : ℕ

abbrev pub at : Whole → ℕ → Option Node
at m n = m.nodes n

-- What stands at a number of a list of slots.
abbrev pub slot_at : List (Option Node) → ℕ → Option Node
slot_at [] q = None
slot_at (s ∷ slots) zero = s
slot_at (s ∷ slots) (suc q) = slot_at slots q

-- A map as it is held, and the whole map that is held so.
pub record Held : Type 0 where
  pub slots : List (Option Node)
  pub next : ℕ

abbrev pub whole : Held → Whole
whole h = record { nodes = slot_at h.slots; next = h.next }

-- Words on numbers. -------------------------------------------------------------------------------------------------------------

-- The node of a number passes a test. Where there is none it doesn't.
abbrev pub has : Whole → (Node → Bool) → ℕ → Bool
has m test n = unwrap_or (option_map test (at m n)) false

abbrev pub is_kind : Whole → Kind → ℕ → Bool
is_kind m k n = has m (has_kind k) n

abbrev pub is_brush : Whole → ℕ → Bool
is_brush m n = is_kind m brush n

abbrev pub is_linked : Whole → ℕ → Bool
is_linked m n = has m (λ x. is_some (link_of x)) n

-- A part of the node of a number, or what stands for it where there is no node.
abbrev pub part_at : {A : Type 0} → (Node → A) → A → Whole → ℕ → A
part_at part none m n = unwrap_or (option_map part (at m n)) none

abbrev pub mark_at : Whole → ℕ → Option ℕ
mark_at = part_at mark_of None

abbrev pub link_at : Whole → ℕ → Option Link
link_at = part_at link_of None

abbrev pub set_at : Whole → ℕ → Option ℕ
set_at m n = option_map (λ l. l.set) (link_at m n)

abbrev pub props_at : Whole → ℕ → Props
props_at = part_at props_of []

abbrev pub protected_at : Whole → ℕ → List (List ℕ)
protected_at = part_at protected_of []

abbrev pub brushes_at : Whole → ℕ → List ℕ
brushes_at = part_at brushes_of []

abbrev pub others_at : Whole → ℕ → List ℕ
others_at = part_at others_of []

abbrev pub faces_at : Whole → ℕ → List Face
faces_at = part_at faces_of []

-- The map's format is the world's.
abbrev pub format_of_node : Node → Format
format_of_node (World format props brushes others) = format
format_of_node (Layer name frozen props brushes others) = Standard
format_of_node (Group parent mark name link props brushes others) = Standard
format_of_node (Entity parent mark props protected brushes) = Standard
format_of_node (Brush parent mark faces) = Standard

abbrev pub format_of : Whole → Format
format_of m = part_at format_of_node Standard m 0

-- The number that stands above, and all that stand above, from below. The fuel is the number of nodes that there can be.
abbrev pub up : Whole → ℕ → Option ℕ
up m n = option_and_then parent_of (at m n)

abbrev pub above_by : ℕ → Whole → Option ℕ → List ℕ
above_by zero m n = []
above_by (suc k) m None = []
above_by (suc k) m (Some n) = n ∷ above_by k m (up m n)

abbrev pub above : Whole → ℕ → List ℕ
above m n = above_by m.next m (up m n)

-- The children: the brushes first, and then the others.
abbrev pub children : Whole → ℕ → List ℕ
children m n = part_at (λ x. brushes_of x ++ others_of x) [] m n

-- A node and all beneath it: a node stands before its children.
abbrev pub preorder_by : ℕ → Whole → ℕ → List ℕ
preorder_by zero m n = []
preorder_by (suc k) m n = n ∷ flat_map (preorder_by k m) (children m n)

abbrev pub preorder : Whole → ℕ → List ℕ
preorder m n = preorder_by m.next m n

-- The content of a group: all that lies beneath it, in preorder.
abbrev pub content : Whole → ℕ → List ℕ
content m n = flat_map (preorder m) (children m n)

-- Two numbers that may not be there are there and equal.
abbrev pub is_one_number : Option ℕ → Option ℕ → Bool
is_one_number None b = false
is_one_number (Some a) None = false
is_one_number (Some a) (Some b) = a == b

abbrev pub among : ℕ → List ℕ → Bool
among n ns = list_any (λ k. k == n) ns

-- n lies beneath the other.
abbrev pub lies_beneath : Whole → ℕ → ℕ → Bool
lies_beneath m n other = among other (above m n)

-- The linked group strictly above, if there is one.
abbrev pub over : Whole → ℕ → Option ℕ
over m n = find (is_linked m) (above m n)

-- The container of a brush in an entity is the entity's parent; of any other node it is its parent.
abbrev pub container : Whole → ℕ → ℕ
container m n =
    let p = unwrap_or (up m n) 0 in
    cond (is_brush m n && is_kind m entity p) (unwrap_or (up m p) 0) p

-- So many numbers from k on.
abbrev pub numbers_from : ℕ → ℕ → List ℕ
numbers_from k zero = []
numbers_from k (suc n) = k ∷ numbers_from (k + 1) n

-- All numbers that a node can have, rising; those of the nodes; those of the brushes.
abbrev pub all_numbers : Whole → List ℕ
all_numbers m = numbers_from 0 m.next

abbrev pub live : Whole → List ℕ
live m = filter (λ n. is_some (at m n)) (all_numbers m)

abbrev pub all_brushes : Whole → List ℕ
all_brushes m = filter (is_brush m) (all_numbers m)

-- The members of a set, by rising number, and the others than g.
abbrev pub members : Whole → ℕ → List ℕ
members m s = filter (λ n. is_one_number (set_at m n) (Some s)) (all_numbers m)

abbrev pub other_members : Whole → ℕ → List ℕ
other_members m g = filter (λ h. not (h == g) && is_one_number (set_at m h) (set_at m g)) (all_numbers m)

-- The node of a content that has the mark.
abbrev pub marked_in : Whole → ℕ → Option ℕ → Option ℕ
marked_in m g mark = find (λ n. is_one_number (mark_at m n) mark) (content m g)
