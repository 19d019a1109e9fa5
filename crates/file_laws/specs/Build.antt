-- The tree that a document builds, and the notes on what it leaves out; links aside.
pub use Rattle.map_report.specs.declared.note.Note.{Note}
pub use Rattle.map_report.specs.declared.note.Note.TheVariants.{Brush as BrushNote, Id as IdNote, Parent as ParentNote, Empty as EmptyNote, Transformation as MotionNote, Nested as NestedNote, Links as LinksNote}
use Rattle.std.specs.Prelude.{ℕ, zero, suc, ◌+◌, ◌-◌, Bool, false, cond, not, ◌&&◌, ◌||◌, ◌==◌, nat_lt, nat_le, List, [], ◌∷◌, ◌++◌, length, map, filter, flat_map, get_or, Option, None, Some, option_and_then, option_map, unwrap_or, is_none, Result, Ok, Err, codes}
use Rattle.std.specs.Option.{option_map_or}
use Rattle.std.specs.List.{find, list_any, list_all}
use Rattle.std.specs.Str.{bytes_eq}
use Rattle.map_text.specs.declared.document.MapDoc.{MapDoc}
use Rattle.map_text.specs.declared.document.RawEntity.{RawEntity}
use Rattle.map_text.specs.declared.document.Reason.{Reason}
use Rattle.map_model.specs.Faces.{Face}
use Rattle.map_model.specs.Tree.{Whole, Node, Brush, Kind, layer, group, has_kind, kind_of, slot_at, among, numbers_from, is_one_number, with_parent, with_brushes, with_others}
use Rattle.map_model.specs.Props.{value_at, classname}
use Rattle.file_laws.specs.Leaves.{Leaves}
use Rattle.file_laws.specs.Readings.{Reading, readings, is_named}

pub data TreeFault : Type 0 where
  NoWorld : TreeFault
  Full : ℕ → TreeFault

pub record Built : Type 0 where
  pub map : Whole
  pub notes : List Note

-- Brushes. ---------------------------------------------------------------------------------------------------------------------------

abbrev pub kept_brush : Result (List Face) Reason → List (List Face)
kept_brush (Ok faces) = faces ∷ []
kept_brush (Err reason) = []

abbrev pub kept_brushes : Reading → List (List Face)
kept_brushes r = flat_map kept_brush r.brushes

abbrev pub brush_note : ℕ → ℕ → Result (List Face) Reason → List Note
brush_note place k (Ok faces) = []
brush_note place k (Err reason) = BrushNote place k reason ∷ []

abbrev pub brush_notes_from : ℕ → ℕ → List (Result (List Face) Reason) → List Note
brush_notes_from place k [] = []
brush_notes_from place k (b ∷ brushes) = brush_note place k b ++ brush_notes_from place (suc k) brushes

abbrev pub brush_notes : Reading → List Note
brush_notes r = brush_notes_from r.place 0 r.brushes

-- Ids: an id names the first layer or group that has it. -------------------------------------------------------------------------------

abbrev pub has_this_id : ℕ → Reading → Bool
has_this_id id r = is_one_number r.id (Some id)

abbrev pub named : List Reading → Option ℕ → Option Reading
named rs id = option_and_then (λ k. find (has_this_id k) rs) id

-- Nothing can name it.
abbrev pub is_nameless : List Reading → Reading → Bool
is_nameless rs r = is_named (kind_of r.node) && not (is_one_number (option_map (λ q. q.place) (named rs r.id)) (Some r.place))

-- Parents: the group that is named, or else the layer that is named, or else the world. -------------------------------------------------

abbrev pub place_named : List Reading → Kind → Option ℕ → Option ℕ
place_named rs k id = option_and_then (λ r. cond (has_kind k r.node) (Some r.place) None) (named rs id)

abbrev pub or_else : {A : Type 0} → Option A → Option A → Option A
or_else None b = b
or_else (Some a) b = Some a

abbrev pub named_parent : List Reading → Reading → Option ℕ
named_parent rs r = or_else (place_named rs group r.in_group) (place_named rs layer r.in_layer)

abbrev pub is_lost : List Reading → Reading → Bool
is_lost rs r = r.names_parent && is_none (named_parent rs r)

abbrev pub first_parents : List Reading → List ℕ
first_parents rs = map (λ r. unwrap_or (named_parent rs r) 0) rs

-- Rings: where a place lies above itself, the first of the ring goes to the world. -------------------------------------------------------

-- The places above a place, from below, at most k.
abbrev pub places_above : List ℕ → ℕ → ℕ → List ℕ
places_above parents zero place = []
places_above parents (suc k) zero = []
places_above parents (suc k) (suc place) = get_or parents (suc place) 0 ∷ places_above parents k (get_or parents (suc place) 0)

abbrev pub breaks_ring : List ℕ → ℕ → Bool
breaks_ring parents place =
    let above = places_above parents (length parents) place in
    among place above && list_all (nat_le place) above

-- A place of the tree: what is read there, and its parent's place.
pub record Item : Type 0 where
  pub reading : Reading
  pub parent : ℕ

abbrev pub item : List Reading → List ℕ → Reading → Item
item rs parents r = record { reading = r; parent = cond (breaks_ring parents r.place) 0 (unwrap_or (named_parent rs r) 0) }

abbrev pub items : List Reading → List Item
items rs = map (item rs (first_parents rs)) rs

-- Empty groups: a group with no child goes, also after others went. ------------------------------------------------------------------------

abbrev pub place_of : Item → ℕ
place_of i = i.reading.place

abbrev pub has_child : List Item → Item → Bool
has_child all i = nat_lt 0 (length (kept_brushes i.reading)) || list_any (λ j. j.parent == place_of i) all

abbrev pub is_empty_group : List Item → Item → Bool
is_empty_group all i = has_kind group i.reading.node && not (has_child all i)

abbrev pub without_empty : ℕ → List Item → List Item
without_empty zero all = all
without_empty (suc k) all = without_empty k (filter (λ i. not (is_empty_group all i)) all)

abbrev pub kept_items : List Item → List Item
kept_items all = without_empty (length all) all

abbrev pub is_dropped : List Item → Item → Bool
is_dropped kept i = not (list_any (λ j. place_of j == place_of i) kept)

-- Numbers: those that are kept draw them in file order, each before its brushes. The world has number 0. ------------------------------------

abbrev pub size : Item → ℕ
size i = suc (length (kept_brushes i.reading))

abbrev pub number_of : List Item → ℕ → ℕ
number_of [] place = 0
number_of (i ∷ rest) place = cond (place_of i == place) 0 (size i + number_of rest place)

-- Another item than the world that lies there.
abbrev pub lies_in : ℕ → Item → Bool
lies_in place i = nat_lt 0 (place_of i) && i.parent == place

abbrev pub built_node : List Item → Item → Node
built_node kept i =
    let n = number_of kept (place_of i) in
    with_parent (number_of kept i.parent)
    (with_brushes (numbers_from (suc n) (length (kept_brushes i.reading)))
    (with_others (map (λ j. number_of kept (place_of j)) (filter (lies_in (place_of i)) kept)) i.reading.node))

abbrev pub slots_of : List Item → Item → List (Option Node)
slots_of kept i =
    Some (built_node kept i) ∷ map (λ faces. Some (Brush (number_of kept (place_of i)) None faces)) (kept_brushes i.reading)

abbrev pub slots : List Item → List (Option Node)
slots kept = flat_map (slots_of kept) kept

-- The map and the notes. -------------------------------------------------------------------------------------------------------------

abbrev pub noted : (ℕ → Note) → List ℕ → List Note
noted note places = map note places

abbrev pub notes : List Reading → List Item → List Item → List Note
notes rs all kept =
    flat_map brush_notes rs
    ++ (noted IdNote (map (λ r. r.place) (filter (is_nameless rs) rs))
    ++ (noted ParentNote (map (λ r. r.place) (filter (λ r. is_lost rs r || breaks_ring (first_parents rs) r.place) rs))
    ++ noted EmptyNote (map place_of (filter (is_dropped kept) all))))

abbrev pub map_of : List (Option Node) → Whole
map_of all = record { nodes = slot_at all; next = length all }

abbrev pub unless_full : List Note → List (Option Node) → Result Built TreeFault
unless_full found all = cond (nat_lt 65536 (length all)) (Err (Full (length all - 1))) (Ok (record { map = map_of all; notes = found }))

abbrev pub built_from : List Reading → Result Built TreeFault
built_from rs =
    let all = items rs in
    let kept = kept_items all in
    unless_full (notes rs all kept) (slots kept)

abbrev pub begins_with_world : List RawEntity → Bool
begins_with_world [] = false
begins_with_world (first ∷ entities) = option_map_or (λ class. bytes_eq class (codes "worldspawn")) (value_at classname first.props) false

abbrev pub build_tree : Leaves → MapDoc → Result Built TreeFault
build_tree w doc = cond (begins_with_world doc.entities) (built_from (readings w doc)) (Err NoWorld)
