-- What holds of each map, by what touches it: how nodes stand, what each node is, how numbers are used, and which nodes have marks.
use Rattle.std.specs.Prelude.{◌≡◌, ◌≢◌, ℕ, ◌*◌, ◌<◌, ◌≤◌, Bool, true, false, not, ◌==◌, ◌&&◌, ◌||◌, nat_lt, IsTrue, List, [], ◌∷◌, length, map, count_by, Option, Some, None, is_some, codes, ℤ, pos, negsuc, unsigned_abs, int_le}
use Rattle.std.specs.Option.{option_map_or}
use Rattle.std.specs.List.{list_all, list_any, join_with_byte}
use Rattle.std.specs.Str.{bytes_eq}
use Rattle.algebra.specs.Members.{◌∈◌, Every}
use Rattle.algebra.specs.Space.{HalfSpace}
use Rattle.exact_geom.specs.Planes.{half_space, IsPlane}
use Rattle.trim_laws.specs.Valid.{Valid}
use Rattle.uv_lock.specs.declared.texture.Format.{Format}
use Rattle.map_text.specs.Fits.{is_format}
use Rattle.map_lex.specs.OneToken.{is_value_text, is_key_text, is_material_text}
use Rattle.map_text.specs.Spelled.{keys_are_distinct}
use Rattle.map_model.specs.Faces.{Face, Tex, StandardFields, ValveFields, Surface, axis_unit, offset_unit, degree_unit, format_of_tex}
use Rattle.map_model.specs.Motions.{is_kept_motion}
use Rattle.map_model.specs.Tree.{Whole, Node, World, Layer, Group, Entity, Brush, Link, Props, Kind, world, layer, group, entity, brush, at, up, over, children, brushes_at, others_at, has, kind_of, is_kind, is_brush, is_linked, mark_at, set_at, format_of}
use Rattle.map_model.specs.Props.{value_at, is_text_among, is_reserved_key, classname}

-- How nodes stand. -----------------------------------------------------------------------------------------------------------------

-- n stands somewhere beneath the world, or is the world.
pub data Rooted (m : Whole) : ℕ → Type 0 where
  the_world : Rooted m 0
  beneath : (n p : ℕ) → up m n ≡ Some p → Rooted m p → Rooted m n

-- Which kinds stand beside the brushes of a node.
abbrev pub may_hold : Kind → Kind → Bool
may_hold world world = false
may_hold world layer = true
may_hold world group = true
may_hold world entity = true
may_hold world brush = false
may_hold layer world = false
may_hold layer layer = false
may_hold layer group = true
may_hold layer entity = true
may_hold layer brush = false
may_hold group world = false
may_hold group layer = false
may_hold group group = true
may_hold group entity = true
may_hold group brush = false
may_hold entity k = false
may_hold brush k = false

-- The nodes are one tree from the world down, by the table of kinds; each node stands once, where it says; each group has a child.
pub record Standing (m : Whole) : Type 0 where
  pub world_stands : IsTrue (is_kind m world 0)
  pub one_world : (n : ℕ) → IsTrue (is_kind m world n) → n ≡ 0
  pub children_stand : (p n : ℕ) → n ∈ children m p → up m n ≡ Some p
  pub brushes_fit : (p n : ℕ) → n ∈ brushes_at m p → IsTrue (is_brush m n)
  pub others_fit : (p n : ℕ) → n ∈ others_at m p → IsTrue (has m (λ x. has m (λ y. may_hold (kind_of x) (kind_of y)) n) p)
  pub once : (p n : ℕ) → up m n ≡ Some p → count_by (λ k. k == n) (children m p) ≡ 1
  pub rooted : (n : ℕ) → IsTrue (is_some (at m n)) → Rooted m n
  pub no_empty_group : (n : ℕ) → IsTrue (is_kind m group n) → children m n ≢ []

-- What each node is. -----------------------------------------------------------------------------------------------------------------

-- A texture number is below 1,000,000 in size.
abbrev pub is_below_million : ℕ → ℤ → Bool
is_below_million unit count = nat_lt (unsigned_abs count) (1000000 * unit)

abbrev pub are_below_million : ℕ → ℕ → List ℤ → Bool
are_below_million n unit counts = length counts == n && list_all (is_below_million unit) counts

-- The range of contents and flags.
abbrev pub is_wide : ℤ → Bool
is_wide n = int_le (negsuc 2147483647) n && int_le n (pos 4294967295)

abbrev pub is_surface_in_range : Surface → Bool
is_surface_in_range s = is_wide s.contents && (is_wide s.flags && is_below_million degree_unit s.value)

-- The texture's numbers keep their limits.
abbrev pub are_fields_in_range : List ℤ → ℤ → List ℤ → Option Surface → Bool
are_fields_in_range off rotation scale surface =
    are_below_million 2 offset_unit off
    && (is_below_million degree_unit rotation && (are_below_million 2 axis_unit scale && option_map_or is_surface_in_range surface true))

abbrev pub is_tex_in_range : Tex → Bool
is_tex_in_range (StandardFields t) = are_fields_in_range t.off t.rotation t.scale t.surface
is_tex_in_range (ValveFields t) =
    (length t.axis == 2 && list_all (are_below_million 3 axis_unit) t.axis) && are_fields_in_range t.off t.rotation t.scale t.surface

-- A face of the map's format, with a plane, a material that is one token, and numbers in range.
pub record FaceOk (format : Format) (f : Face) : Type 0 where
  pub form : IsTrue (is_format format (format_of_tex f.tex))
  pub plane : IsPlane f.plane
  pub material : IsTrue (is_material_text f.material)
  pub numbers : IsTrue (is_tex_in_range f.tex)

abbrev pub half_spaces : List Face → List HalfSpace
half_spaces fs = map (λ f. half_space f.plane) fs

pub record FacesOk (format : Format) (fs : List Face) : Type 0 where
  pub each : Every (FaceOk format) fs
  pub valid : Valid (half_spaces fs)

-- The keys that are taken out of the properties of each kind when a file is read.
abbrev pub taken_keys : Kind → List (List ℕ)
taken_keys world = classname ∷ codes "mapversion" ∷ []
taken_keys layer = classname ∷ codes "_tb_type" ∷ codes "_tb_name" ∷ codes "_tb_id" ∷ codes "_tb_layer_locked" ∷ []
taken_keys group =
    classname ∷ codes "_tb_type" ∷ codes "_tb_name" ∷ codes "_tb_id" ∷ codes "_tb_layer" ∷ codes "_tb_group"
    ∷ codes "_tb_linked_group_id" ∷ codes "_tb_transformation" ∷ []
taken_keys entity = codes "_tb_layer" ∷ codes "_tb_group" ∷ codes "_tb_protected_properties" ∷ []
taken_keys brush = []

-- Properties of a kind: keys are distinct, each key and each value is one token where it is saved, and none is a taken one.
pub record PropsOk (k : Kind) (ps : Props) : Type 0 where
  pub distinct : IsTrue (keys_are_distinct ps)
  pub keys : IsTrue (list_all (λ p. is_key_text p.0) ps)
  pub values : IsTrue (list_all (λ p. is_value_text p.1) ps)
  pub free : IsTrue (list_all (λ p. not (is_text_among p.0 (taken_keys k))) ps)

-- An entity isn't one that a file would have as a layer or a group.
abbrev pub is_plain_type : Props → Bool
is_plain_type ps = option_map_or (λ v. not (bytes_eq v (codes "_tb_layer") || bytes_eq v (codes "_tb_group"))) (value_at (codes "_tb_type") ps) true

abbrev pub texts_are_distinct : List (List ℕ) → Bool
texts_are_distinct [] = true
texts_are_distinct (t ∷ ts) = not (is_text_among t ts) && texts_are_distinct ts

-- A key that can be protected: not empty, not reserved, without a `;`.
abbrev pub can_be_protected : List ℕ → Bool
can_be_protected key = not (length key == 0) && (not (is_reserved_key key) && not (list_any (λ b. b == 59) key))

-- The protected keys as one value: with `;` between two.
abbrev pub joined_keys : List (List ℕ) → List ℕ
joined_keys keys = join_with_byte 59 keys

pub record ProtectedOk (keys : List (List ℕ)) : Type 0 where
  pub distinct : IsTrue (texts_are_distinct keys)
  pub each : IsTrue (list_all can_be_protected keys)
  pub joined : IsTrue (is_value_text (joined_keys keys))

abbrev pub LinkOk : Option Link → Type 0
LinkOk None = Unit {0}
LinkOk (Some l) = IsTrue (is_kept_motion l.motion)

-- What is asked of a node of each kind in a map of the format.
abbrev pub NodeOk : Format → Node → Type 0
NodeOk format (World own props brushes others) = PropsOk world props
NodeOk format (Layer name frozen props brushes others) = IsTrue (is_value_text name) × PropsOk layer props
NodeOk format (Group parent mark name link props brushes others) = IsTrue (is_value_text name) × LinkOk link × PropsOk group props
NodeOk format (Entity parent mark props protected brushes) = PropsOk entity props × IsTrue (is_plain_type props) × ProtectedOk protected
NodeOk format (Brush parent mark faces) = FacesOk format faces

abbrev pub EachNode : Whole → Type 0
EachNode m = (n : ℕ) (x : Node) → at m n ≡ Some x → NodeOk (format_of m) x

-- How numbers are used. ---------------------------------------------------------------------------------------------------------------

-- The numbers of nodes, sets and marks are below the next one, and none serves for two of the three.
pub record Numbers (m : Whole) : Type 0 where
  pub most : m.next ≤ 65536
  pub nodes : (n : ℕ) → m.next ≤ n → at m n ≡ None
  pub sets : (g s : ℕ) → set_at m g ≡ Some s → s < m.next
  pub marks : (n k : ℕ) → mark_at m n ≡ Some k → k < m.next
  pub set_is_no_node : (g s : ℕ) → set_at m g ≡ Some s → at m s ≡ None
  pub mark_is_no_node : (n k : ℕ) → mark_at m n ≡ Some k → at m k ≡ None
  pub mark_is_no_set : (g n s k : ℕ) → set_at m g ≡ Some s → mark_at m n ≡ Some k → s ≢ k

-- Which nodes have marks. -------------------------------------------------------------------------------------------------------------

-- A node has a mark exactly where it lies beneath a linked group, and no linked group does. Marks are distinct in one content, and
-- the contents of two sets share none.
pub record Marks (m : Whole) : Type 0 where
  pub not_nested : (g : ℕ) → IsTrue (is_linked m g) → over m g ≡ None
  pub marked : (n : ℕ) → is_some (mark_at m n) ≡ is_some (over m n)
  pub distinct : (g n k : ℕ) → over m n ≡ Some g → over m k ≡ Some g → mark_at m n ≡ mark_at m k → n ≡ k
  pub of_one_set : (g h n k : ℕ) → over m n ≡ Some g → over m k ≡ Some h → mark_at m n ≡ mark_at m k → set_at m g ≡ set_at m h

-- What holds of each map but that its link sets are of one content.
pub record Shape (m : Whole) : Type 0 where
  pub standing : Standing m
  pub each_node : EachNode m
  pub numbers : Numbers m
  pub marks : Marks m
