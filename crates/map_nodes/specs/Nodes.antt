-- Words on nodes.
use Rattle.std.specs.Prelude.{ℕ, List, [], map, Bool, true, false, cond, nat_eq, Option, None, Some, unwrap_or}
use Rattle.std.specs.HashMap.{HashMap, get}
use Rattle.uv_lock.specs.declared.texture.Format.{Format}
use Rattle.uv_lock.specs.declared.face.Face.{Face}
use Rattle.map_nodes.specs.declared.link.Link.{Link}
use Rattle.map_nodes.specs.declared.node.Node.{Node}
use Rattle.map_nodes.specs.declared.node.Node.TheVariants.{World, Layer, Group, Entity, Brush}

-- Keys and their values, in order. No key stands twice.
abbrev pub Props : Type 0
Props = List (List ℕ × List ℕ)

-- The kinds, and what a node of each has. Where a kind lacks a part, the word says so by nothing or an empty list. -----------

pub data Kind : Type 0 where
  world : Kind
  layer : Kind
  group : Kind
  entity : Kind
  brush : Kind

abbrev pub kind_of : Node → Kind
kind_of (World format props brushes others) = world
kind_of (Layer name frozen props brushes others) = layer
kind_of (Group parent mark name link props brushes others) = group
kind_of (Entity parent mark props protected brushes) = entity
kind_of (Brush parent mark faces) = brush

abbrev pub same_kind : Kind → Kind → Bool
same_kind world world = true
same_kind layer layer = true
same_kind group group = true
same_kind entity entity = true
same_kind brush brush = true
same_kind a b = false

abbrev pub parent_of : Node → Option ℕ
parent_of (World format props brushes others) = None
parent_of (Layer name frozen props brushes others) = Some 0
parent_of (Group parent mark name link props brushes others) = Some parent
parent_of (Entity parent mark props protected brushes) = Some parent
parent_of (Brush parent mark faces) = Some parent

abbrev pub mark_of : Node → Option ℕ
mark_of (World format props brushes others) = None
mark_of (Layer name frozen props brushes others) = None
mark_of (Group parent mark name link props brushes others) = mark
mark_of (Entity parent mark props protected brushes) = mark
mark_of (Brush parent mark faces) = mark

abbrev pub link_of : Node → Option Link
link_of (World format props brushes others) = None
link_of (Layer name frozen props brushes others) = None
link_of (Group parent mark name link props brushes others) = link
link_of (Entity parent mark props protected brushes) = None
link_of (Brush parent mark faces) = None

abbrev pub name_of : Node → List ℕ
name_of (World format props brushes others) = []
name_of (Layer name frozen props brushes others) = name
name_of (Group parent mark name link props brushes others) = name
name_of (Entity parent mark props protected brushes) = []
name_of (Brush parent mark faces) = []

abbrev pub is_frozen : Node → Bool
is_frozen (World format props brushes others) = false
is_frozen (Layer name frozen props brushes others) = frozen
is_frozen (Group parent mark name link props brushes others) = false
is_frozen (Entity parent mark props protected brushes) = false
is_frozen (Brush parent mark faces) = false

abbrev pub props_of : Node → Props
props_of (World format props brushes others) = props
props_of (Layer name frozen props brushes others) = props
props_of (Group parent mark name link props brushes others) = props
props_of (Entity parent mark props protected brushes) = props
props_of (Brush parent mark faces) = []

abbrev pub protected_of : Node → List (List ℕ)
protected_of (World format props brushes others) = []
protected_of (Layer name frozen props brushes others) = []
protected_of (Group parent mark name link props brushes others) = []
protected_of (Entity parent mark props protected brushes) = protected
protected_of (Brush parent mark faces) = []

abbrev pub brushes_of : Node → List ℕ
brushes_of (World format props brushes others) = brushes
brushes_of (Layer name frozen props brushes others) = brushes
brushes_of (Group parent mark name link props brushes others) = brushes
brushes_of (Entity parent mark props protected brushes) = brushes
brushes_of (Brush parent mark faces) = []

abbrev pub others_of : Node → List ℕ
others_of (World format props brushes others) = others
others_of (Layer name frozen props brushes others) = others
others_of (Group parent mark name link props brushes others) = others
others_of (Entity parent mark props protected brushes) = []
others_of (Brush parent mark faces) = []

abbrev pub faces_of : Node → List Face
faces_of (World format props brushes others) = []
faces_of (Layer name frozen props brushes others) = []
faces_of (Group parent mark name link props brushes others) = []
faces_of (Entity parent mark props protected brushes) = []
faces_of (Brush parent mark faces) = faces

abbrev pub has_kind : Kind → Node → Bool
has_kind k x = same_kind (kind_of x) k

-- A node with another part. A node that has no such part stays. ---------------------------------------------------------------

abbrev pub with_parent : ℕ → Node → Node
with_parent p (World format props brushes others) = World format props brushes others
with_parent p (Layer name frozen props brushes others) = Layer name frozen props brushes others
with_parent p (Group parent mark name link props brushes others) = Group p mark name link props brushes others
with_parent p (Entity parent mark props protected brushes) = Entity p mark props protected brushes
with_parent p (Brush parent mark faces) = Brush p mark faces

abbrev pub with_mark : Option ℕ → Node → Node
with_mark k (World format props brushes others) = World format props brushes others
with_mark k (Layer name frozen props brushes others) = Layer name frozen props brushes others
with_mark k (Group parent mark name link props brushes others) = Group parent k name link props brushes others
with_mark k (Entity parent mark props protected brushes) = Entity parent k props protected brushes
with_mark k (Brush parent mark faces) = Brush parent k faces

abbrev pub with_link : Option Link → Node → Node
with_link l (World format props brushes others) = World format props brushes others
with_link l (Layer name frozen props brushes others) = Layer name frozen props brushes others
with_link l (Group parent mark name link props brushes others) = Group parent mark name l props brushes others
with_link l (Entity parent mark props protected brushes) = Entity parent mark props protected brushes
with_link l (Brush parent mark faces) = Brush parent mark faces

abbrev pub with_frozen : Bool → Node → Node
with_frozen b (World format props brushes others) = World format props brushes others
with_frozen b (Layer name frozen props brushes others) = Layer name b props brushes others
with_frozen b (Group parent mark name link props brushes others) = Group parent mark name link props brushes others
with_frozen b (Entity parent mark props protected brushes) = Entity parent mark props protected brushes
with_frozen b (Brush parent mark faces) = Brush parent mark faces

abbrev pub with_format : Format → Node → Node
with_format f (World format props brushes others) = World f props brushes others
with_format f (Layer name frozen props brushes others) = Layer name frozen props brushes others
with_format f (Group parent mark name link props brushes others) = Group parent mark name link props brushes others
with_format f (Entity parent mark props protected brushes) = Entity parent mark props protected brushes
with_format f (Brush parent mark faces) = Brush parent mark faces

abbrev pub with_props : Props → Node → Node
with_props ps (World format props brushes others) = World format ps brushes others
with_props ps (Layer name frozen props brushes others) = Layer name frozen ps brushes others
with_props ps (Group parent mark name link props brushes others) = Group parent mark name link ps brushes others
with_props ps (Entity parent mark props protected brushes) = Entity parent mark ps protected brushes
with_props ps (Brush parent mark faces) = Brush parent mark faces

abbrev pub with_protected : List (List ℕ) → Node → Node
with_protected ks (World format props brushes others) = World format props brushes others
with_protected ks (Layer name frozen props brushes others) = Layer name frozen props brushes others
with_protected ks (Group parent mark name link props brushes others) = Group parent mark name link props brushes others
with_protected ks (Entity parent mark props protected brushes) = Entity parent mark props ks brushes
with_protected ks (Brush parent mark faces) = Brush parent mark faces

abbrev pub with_brushes : List ℕ → Node → Node
with_brushes l (World format props brushes others) = World format props l others
with_brushes l (Layer name frozen props brushes others) = Layer name frozen props l others
with_brushes l (Group parent mark name link props brushes others) = Group parent mark name link props l others
with_brushes l (Entity parent mark props protected brushes) = Entity parent mark props protected l
with_brushes l (Brush parent mark faces) = Brush parent mark faces

abbrev pub with_others : List ℕ → Node → Node
with_others l (World format props brushes others) = World format props brushes l
with_others l (Layer name frozen props brushes others) = Layer name frozen props brushes l
with_others l (Group parent mark name link props brushes others) = Group parent mark name link props brushes l
with_others l (Entity parent mark props protected brushes) = Entity parent mark props protected brushes
with_others l (Brush parent mark faces) = Brush parent mark faces

abbrev pub with_faces : List Face → Node → Node
with_faces fs (World format props brushes others) = World format props brushes others
with_faces fs (Layer name frozen props brushes others) = Layer name frozen props brushes others
with_faces fs (Group parent mark name link props brushes others) = Group parent mark name link props brushes others
with_faces fs (Entity parent mark props protected brushes) = Entity parent mark props protected brushes
with_faces fs (Brush parent mark faces) = Brush parent mark fs

-- A node stands in its parent's list of brushes, or in that of the others: the list, the node with another list, and the node with
-- its list changed by f. At true it is the list of brushes.
abbrev pub list_of : Bool → Node → List ℕ
list_of b x = cond b (brushes_of x) (others_of x)

abbrev pub with_list : Bool → List ℕ → Node → Node
with_list b l x = cond b (with_brushes l x) (with_others l x)

abbrev pub relist : Bool → (List ℕ → List ℕ) → Node → Node
relist b f x = cond b (with_brushes (f (brushes_of x)) x) (with_others (f (others_of x)) x)

-- The kinds whose nodes have properties that a command may set.
abbrev pub has_own_props : Kind → Bool
has_own_props world = true
has_own_props layer = false
has_own_props group = false
has_own_props entity = true
has_own_props brush = false

-- A node with other numbers for its parent and its children.
abbrev pub renumber : (ℕ → ℕ) → Node → Node
renumber f (World format props brushes others) = World format props (map f brushes) (map f others)
renumber f (Layer name frozen props brushes others) = Layer name frozen props (map f brushes) (map f others)
renumber f (Group parent mark name link props brushes others) = Group (f parent) mark name link props (map f brushes) (map f others)
renumber f (Entity parent mark props protected brushes) = Entity (f parent) mark props protected (map f brushes)
renumber f (Brush parent mark faces) = Brush (f parent) mark faces

-- The number that a number has in a table. One that isn't there stays.
abbrev pub number_in : {S : Type 0} → HashMap ℕ ℕ S → ℕ → ℕ
number_in table n = unwrap_or (get nat_eq table n) n
