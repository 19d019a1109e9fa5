-- The document that a map is saved as.
use Rattle.std.specs.Prelude.{ℕ, Bool, true, false, cond, not, ◌==◌, ◌||◌, List, [], ◌∷◌, ◌++◌, map, filter, filter_map, Option, None, Some, option_map, codes, ◌+◌}
use Rattle.std.specs.Fmt.{decimal}
use Rattle.uv_lock.specs.declared.texture.Format.{Format}
use Rattle.uv_lock.specs.declared.texture.Format.TheVariants.{Standard, Valve}
use Rattle.map_text.specs.declared.document.MapDoc.{MapDoc}
use Rattle.map_text.specs.declared.document.RawEntity.{RawEntity}
use Rattle.map_text.specs.declared.document.RawBrush.{RawBrush}
use Rattle.map_text.specs.declared.document.RawBrush.TheVariants.{Faces}
use Rattle.orient48.specs.MotionTexts.{motion_text}
use Rattle.map_model.specs.Tree.{Whole, Node, World, Layer, Group, Entity, Brush, Link, Props, layer, group, at, is_kind, is_brush, set_at, preorder, brushes_at, faces_at, format_of}
use Rattle.map_model.specs.Props.{classname}
use Rattle.map_model.specs.Shape.{joined_keys}
use Rattle.map_model.specs.Brushes.{first_of_each}

-- Numbers in a file. ----------------------------------------------------------------------------------------------------------------------------

-- The entities of the file: all nodes but the brushes, in preorder.
abbrev pub entities : Whole → List ℕ
entities m = filter (λ n. not (is_brush m n)) (preorder m 0)

-- The place of a number in a list, counted from 1.
abbrev pub count_to : ℕ → List ℕ → ℕ
count_to n [] = 1
count_to n (k ∷ ks) = cond (k == n) 1 (count_to n ks + 1)

-- Layers and groups have ids from 1, in the order of the file.
abbrev pub has_id : Whole → ℕ → Bool
has_id m n = is_kind m layer n || is_kind m group n

abbrev pub id_of : Whole → ℕ → List ℕ
id_of m n = decimal (count_to n (filter (has_id m) (entities m)))

-- Link sets have ids from 1, by their first members.
abbrev pub sets_in_order : Whole → List ℕ
sets_in_order m = first_of_each ◌==◌ (filter_map (set_at m) (entities m))

abbrev pub set_id : Whole → ℕ → List ℕ
set_id m s = decimal (count_to s (sets_in_order m))

-- Properties in a file. ------------------------------------------------------------------------------------------------------------------------

abbrev pub parent_props : Whole → ℕ → Props
parent_props m p =
    cond (is_kind m layer p) ((codes "_tb_layer", id_of m p) ∷ []) (cond (is_kind m group p) ((codes "_tb_group", id_of m p) ∷ []) [])

abbrev pub version_props : Format → Props
version_props Standard = []
version_props Valve = (codes "mapversion", codes "220") ∷ []

abbrev pub locked_props : Bool → Props
locked_props false = []
locked_props true = (codes "_tb_layer_locked", codes "1") ∷ []

abbrev pub link_props : Whole → Option Link → Props
link_props m None = []
link_props m (Some l) = (codes "_tb_linked_group_id", set_id m l.set) ∷ (codes "_tb_transformation", motion_text l.motion) ∷ []

abbrev pub protected_props : List (List ℕ) → Props
protected_props [] = []
protected_props (key ∷ keys) = (codes "_tb_protected_properties", joined_keys (key ∷ keys)) ∷ []

-- The head of a layer or a group.
abbrev pub head_props : List ℕ → List ℕ → List ℕ → Props
head_props type name id =
    (classname, codes "func_group") ∷ (codes "_tb_type", type) ∷ (codes "_tb_name", name) ∷ (codes "_tb_id", id) ∷ []

abbrev pub saved_props : Whole → ℕ → Node → Props
saved_props m n (World format props brushes others) = (classname, codes "worldspawn") ∷ version_props format ++ props
saved_props m n (Layer name frozen props brushes others) = head_props (codes "_tb_layer") name (id_of m n) ++ locked_props frozen ++ props
saved_props m n (Group parent mark name link props brushes others) =
    head_props (codes "_tb_group") name (id_of m n) ++ parent_props m parent ++ link_props m link ++ props
saved_props m n (Entity parent mark props protected brushes) = props ++ parent_props m parent ++ protected_props protected
saved_props m n (Brush parent mark faces) = []

-- An entity of the file, with the brushes of its node.
abbrev pub saved_brush : Whole → ℕ → RawBrush
saved_brush m n = Faces (faces_at m n)

abbrev pub saved_entity : Whole → ℕ → Node → RawEntity
saved_entity m n x = record { props = saved_props m n x; brushes = map (saved_brush m) (brushes_at m n) }

abbrev pub saved : Whole → MapDoc
saved m = record { format = format_of m; entities = filter_map (λ n. option_map (saved_entity m n) (at m n)) (entities m) }
