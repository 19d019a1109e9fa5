-- What each entity of a document says by itself.
use Rattle.std.specs.Prelude.{ℕ, zero, suc, Bool, true, false, cond, not, ◌&&◌, ◌||◌, ◌==◌, List, [], ◌∷◌, length, map, filter, Option, None, Some, option_and_then, unwrap_or, Result, Err, codes}
use Rattle.std.specs.Option.{option_map_or}
use Rattle.std.specs.Str.{bytes_eq}
use Rattle.uv_lock.specs.declared.texture.Format.{Format}
use Rattle.map_text.specs.declared.document.MapDoc.{MapDoc}
use Rattle.map_text.specs.declared.document.RawEntity.{RawEntity}
use Rattle.map_text.specs.declared.document.RawBrush.{RawBrush}
use Rattle.map_text.specs.declared.document.RawBrush.TheVariants.{Faces, Bad}
use Rattle.map_text.specs.declared.document.Reason.{Reason}
use Rattle.map_model.specs.Faces.{Face}
use Rattle.map_model.specs.Tree.{Node, World, Layer, Group, Entity, Brush, Props, Kind, world, layer, group, entity, brush, same_kind}
use Rattle.map_model.specs.Motions.{Motion, stay}
use Rattle.map_model.specs.Props.{value_at, has_key, is_text_among, is_reserved_key}
use Rattle.map_model.specs.Shape.{taken_keys}
use Rattle.map_model.specs.Brushes.{first_of_each}
use Rattle.file_laws.specs.Leaves.{Leaves}
use Rattle.file_laws.specs.Numbers.{read_id, pieces_at}

-- An entity's place in the file; its node with no parent and no children yet; the ids in it; and what is kept of each brush.
pub record Reading : Type 0 where
  pub place : ℕ
  pub node : Node
  -- its own id, of a layer or a group
  pub id : Option ℕ
  -- the ids that a group's or an entity's keys name, and that it has such a key at all
  pub in_group : Option ℕ
  pub in_layer : Option ℕ
  pub names_parent : Bool
  -- of a group: the text that names its link set, and then its motion, if it reads
  pub set : Option (List ℕ)
  pub motion : Option Motion
  pub brushes : List (Result (List Face) Reason)

-- The first entity is the world. Another is a layer or a group where its type says so, and else an entity.
abbrev pub kind_of_type : List ℕ → Kind
kind_of_type type = cond (bytes_eq type (codes "_tb_layer")) layer (cond (bytes_eq type (codes "_tb_group")) group entity)

abbrev pub kind_in : ℕ → Props → Kind
kind_in zero ps = world
kind_in (suc place) ps = option_map_or kind_of_type (value_at (codes "_tb_type") ps) entity

-- The properties that stay.
abbrev pub stays : Kind → List ℕ × List ℕ → Bool
stays k p = not (is_text_among p.0 (taken_keys k))

abbrev pub kept_props : Kind → Props → Props
kept_props k ps = filter (stays k) ps

-- An absent name is empty.
abbrev pub text_in : List ℕ → Props → List ℕ
text_in key ps = unwrap_or (value_at key ps) []

abbrev pub is_locked : Props → Bool
is_locked ps = bytes_eq (text_in (codes "_tb_layer_locked") ps) (codes "1")

-- The protected keys: the pieces between `;` without empty, reserved and repeated ones.
abbrev pub protects : List ℕ → Bool
protects key = not (length key == 0) && not (is_reserved_key key)

abbrev pub protected_in : Props → List (List ℕ)
protected_in ps = first_of_each bytes_eq (filter protects (pieces_at 59 (text_in (codes "_tb_protected_properties") ps)))

abbrev pub node_in : Format → Props → Kind → Node
node_in format ps world = World format (kept_props world ps) [] []
node_in format ps layer = Layer (text_in (codes "_tb_name") ps) (is_locked ps) (kept_props layer ps) [] []
node_in format ps group = Group 0 None (text_in (codes "_tb_name") ps) None (kept_props group ps) [] []
node_in format ps entity = Entity 0 None (kept_props entity ps) (protected_in ps) []
node_in format ps brush = Brush 0 None []

-- Which kinds have an id, and which a parent by its id.
abbrev pub is_named : Kind → Bool
is_named world = false
is_named layer = true
is_named group = true
is_named entity = false
is_named brush = false

abbrev pub is_placed : Kind → Bool
is_placed world = false
is_placed layer = false
is_placed group = true
is_placed entity = true
is_placed brush = false

abbrev pub id_in : List ℕ → Props → Option ℕ
id_in key ps = option_and_then read_id (value_at key ps)

-- A text that names a set isn't empty.
abbrev pub named_set : Option (List ℕ) → Option (List ℕ)
named_set None = None
named_set (Some []) = None
named_set (Some (b ∷ text)) = Some (b ∷ text)

abbrev pub named_set_in : Kind → Props → Option (List ℕ)
named_set_in k ps = cond (same_kind k group) (named_set (value_at (codes "_tb_linked_group_id") ps)) None

-- A group that names a set has a motion, if it reads. An absent text is that of the motion which moves nothing.
abbrev pub motion_from : Leaves → (set text : Option (List ℕ)) → Option Motion
motion_from w None text = None
motion_from w (Some set) None = Some stay
motion_from w (Some set) (Some text) = w.read_motion text

-- A brush is bad, or judged.
abbrev pub judged : Leaves → RawBrush → Result (List Face) Reason
judged w (Faces faces) = w.judge faces
judged w (Bad reason) = Err reason

abbrev pub reading_as : Leaves → Format → ℕ → RawEntity → Kind → Reading
reading_as w format place raw k = record {
  place = place;
  node = node_in format raw.props k;
  id = cond (is_named k) (id_in (codes "_tb_id") raw.props) None;
  in_group = cond (is_placed k) (id_in (codes "_tb_group") raw.props) None;
  in_layer = cond (is_placed k) (id_in (codes "_tb_layer") raw.props) None;
  names_parent = is_placed k && (has_key (codes "_tb_group") raw.props || has_key (codes "_tb_layer") raw.props);
  set = named_set_in k raw.props;
  motion = motion_from w (named_set_in k raw.props) (value_at (codes "_tb_transformation") raw.props);
  brushes = map (judged w) raw.brushes;
}

abbrev pub reading : Leaves → Format → ℕ → RawEntity → Reading
reading w format place raw = reading_as w format place raw (kind_in place raw.props)

-- All of them, with their places from k on.
abbrev pub readings_from : Leaves → Format → ℕ → List RawEntity → List Reading
readings_from w format k [] = []
readings_from w format k (raw ∷ entities) = reading w format k raw ∷ readings_from w format (suc k) entities

abbrev pub readings : Leaves → MapDoc → List Reading
readings w doc = readings_from w doc.format 0 doc.entities
