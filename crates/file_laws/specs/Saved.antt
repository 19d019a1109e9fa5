-- The document that a map is saved as: its entities in preorder, each with the properties of its kind.
use Rattle.std.specs.Prelude.{ℕ, suc, Bool, true, false, cond, not, ◌||◌, ◌==◌, List, [], ◌∷◌, ◌++◌, map, filter, filter_map, Option, None, Some, codes}
use Rattle.std.specs.Fmt.{decimal}
use Rattle.uv_lock.specs.declared.texture.Format.{Format}
use Rattle.uv_lock.specs.declared.texture.Format.TheVariants.{Standard, Valve}
use Rattle.map_text.specs.declared.document.MapDoc.{MapDoc}
use Rattle.map_text.specs.declared.document.RawEntity.{RawEntity}
use Rattle.map_text.specs.declared.document.RawBrush.{RawBrush}
use Rattle.map_text.specs.declared.document.RawBrush.TheVariants.{Faces}
use Rattle.map_model.specs.Tree.{Whole, Node, World, Layer, Group, Entity, Brush, Link, Props, layer, group, is_kind, is_brush, set_at, preorder, format_of, faces_at, brushes_of, part_at}
use Rattle.map_model.specs.Props.{classname}
use Rattle.map_model.specs.Shape.{joined_keys}
use Rattle.map_model.specs.Brushes.{first_of_each}
use Rattle.file_laws.specs.Leaves.{Leaves}
use Rattle.file_laws.specs.Numbers.{place_in}

-- Ids and numbers of entities. -------------------------------------------------------------------------------------------------------

-- The nodes that are entities of the file, in its order: the world, and then in preorder all layers, groups and entities.
abbrev pub file_order : Whole → List ℕ
file_order m = filter (λ n. not (is_brush m n)) (preorder m 0)

-- Layers and groups have an id. Ids count them from 1 in the file's order.
abbrev pub has_id : Whole → ℕ → Bool
has_id m n = is_kind m layer n || is_kind m group n

abbrev pub id_of : Whole → ℕ → ℕ
id_of m n = suc (place_in (filter (has_id m) (file_order m)) n)

-- Link sets count from 1, by first member.
abbrev pub set_id_of : Whole → ℕ → ℕ
set_id_of m s = suc (place_in (first_of_each (λ a b. a == b) (filter_map (set_at m) (file_order m))) s)

-- Properties by kind. ----------------------------------------------------------------------------------------------------------------

-- The keys that say which layer or group a node lies in.
abbrev pub parent_props : Whole → ℕ → Props
parent_props m p =
    cond (is_kind m layer p) ((codes "_tb_layer", decimal (id_of m p)) ∷ [])
    (cond (is_kind m group p) ((codes "_tb_group", decimal (id_of m p)) ∷ []) [])

abbrev pub version_props : Format → Props
version_props Standard = []
version_props Valve = (codes "mapversion", codes "220") ∷ []

abbrev pub frozen_props : Bool → Props
frozen_props true = (codes "_tb_layer_locked", codes "1") ∷ []
frozen_props false = []

abbrev pub link_props : Leaves → Whole → Option Link → Props
link_props w m None = []
link_props w m (Some l) = (codes "_tb_linked_group_id", decimal (set_id_of m l.set)) ∷ (codes "_tb_transformation", w.motion_text l.motion) ∷ []

abbrev pub protected_props : List (List ℕ) → Props
protected_props [] = []
protected_props (key ∷ keys) = (codes "_tb_protected_properties", joined_keys (key ∷ keys)) ∷ []

abbrev pub saved_props : Leaves → Whole → ℕ → Node → Props
saved_props w m n (World format props brushes others) = (classname, codes "worldspawn") ∷ (version_props format ++ props)
saved_props w m n (Layer name frozen props brushes others) =
    (classname, codes "func_group") ∷ (codes "_tb_type", codes "_tb_layer") ∷ (codes "_tb_name", name) ∷ (codes "_tb_id", decimal (id_of m n))
    ∷ (frozen_props frozen ++ props)
saved_props w m n (Group parent mark name link props brushes others) =
    (classname, codes "func_group") ∷ (codes "_tb_type", codes "_tb_group") ∷ (codes "_tb_name", name) ∷ (codes "_tb_id", decimal (id_of m n))
    ∷ (parent_props m parent ++ (link_props w m link ++ props))
saved_props w m n (Entity parent mark props protected brushes) = props ++ (parent_props m parent ++ protected_props protected)
saved_props w m n (Brush parent mark faces) = []

-- The document. ----------------------------------------------------------------------------------------------------------------------

abbrev pub saved_brush : Leaves → Whole → ℕ → RawBrush
saved_brush w m n = Faces (faces_at m n)

abbrev pub saved_node : Leaves → Whole → ℕ → Node → RawEntity
saved_node w m n x = record { props = saved_props w m n x; brushes = map (saved_brush w m) (brushes_of x) }

abbrev pub saved_entity : Leaves → Whole → ℕ → RawEntity
saved_entity w m n = part_at (saved_node w m n) (record { props = []; brushes = [] }) m n

abbrev pub saved : Leaves → Whole → MapDoc
saved w m = record { format = format_of m; entities = map (saved_entity w m) (file_order m) }
