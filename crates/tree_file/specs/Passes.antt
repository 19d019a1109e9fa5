-- What the passes over a file's readings keep.
use Rattle.std.specs.Prelude.{◌≡◌, ℕ, suc, ◌+◌, ◌<◌, ◌≤◌, Bool, false, not, ◌&&◌, ◌||◌, ◌==◌, nat_eq, nat_lt, List, [], ◌∷◌, length, map, filter, flat_map, slice_index_or, None, option_map, Result}
use Rattle.std.specs.HashMap.{HashMap, get}
use Rattle.std.specs.List.{find}
use Rattle.algebra.specs.Members.{◌∈◌}
use Rattle.map_text.specs.declared.document.Reason.{Reason}
use Rattle.map_model.specs.Faces.{Face}
use Rattle.map_model.specs.Tree.{Node, Brush, group, has_kind, among, numbers_from}
use Rattle.file_laws.specs.Readings.{Reading}
use Rattle.file_laws.specs.Build.{Note, IdNote, ParentNote, EmptyNote, Item, has_this_id, is_nameless, is_lost, first_parents, breaks_ring, place_of, kept_brush, kept_brushes, kept_items, is_dropped, number_of, lies_in, noted}

-- The readings stand at their places, from k on.
abbrev pub InPlaceFrom : ℕ → List Reading → Type 0
InPlaceFrom k [] = Unit {0}
InPlaceFrom k (r ∷ rs) = (r.place ≡ k) × InPlaceFrom (suc k) rs

abbrev pub InPlace : List Reading → Type 0
InPlace rs = InPlaceFrom 0 rs

-- The table has the place of the first reading with each id.
abbrev pub HasPlaces : {S : Type 0} → List Reading → HashMap ℕ ℕ S → Type 0
HasPlaces rs table = (id : ℕ) → get nat_eq table id ≡ option_map (λ r. r.place) (find (has_this_id id) rs)

-- A flag for each place below n: it is up where the place is among the list.
pub record Tells (n : ℕ) (places : List ℕ) (flags : List Bool) : Type 0 where
  pub count : length flags ≡ n
  pub flag : (p : ℕ) → p < n → slice_index_or flags p false ≡ among p places

-- Each item's place and that of its parent are below n.
abbrev pub AreWithin : ℕ → List Item → Type 0
AreWithin n items = (i : Item) → i ∈ items → (place_of i < n) × (i.parent < n)

-- How many entities and brushes there are, the bad ones among them.
abbrev pub room : List Item → ℕ
room [] = 0
room (i ∷ items) = suc (length i.reading.brushes) + room items

-- A number for each place below n: the first one of the item there.
pub record Numbers (n : ℕ) (kept : List Item) (numbers : List ℕ) : Type 0 where
  pub count : length numbers ≡ n
  pub number : (p : ℕ) → p < n → slice_index_or numbers p 0 ≡ number_of kept p

-- A list for each place below n: the numbers of the items of the part that lie there.
pub record Children (n : ℕ) (kept part : List Item) (lists : List (List ℕ)) : Type 0 where
  pub count : length lists ≡ n
  pub list : (p : ℕ) → p < n → slice_index_or lists p [] ≡ map (λ j. number_of kept (place_of j)) (filter (lies_in p) part)

-- The brushes of a map among those of a file, as nodes with a parent.
abbrev pub bodies_of : List (Result (List Face) Reason) → List (List Face)
bodies_of brushes = flat_map kept_brush brushes

abbrev pub brush_nodes : ℕ → List (List Face) → List Node
brush_nodes parent bodies = map (λ faces. Brush parent None faces) bodies

-- The places of items rise, from k on.
abbrev pub PlacesRise : ℕ → List Item → Type 0
PlacesRise k [] = Unit {0}
PlacesRise k (i ∷ items) = (k ≤ place_of i) × PlacesRise (suc (place_of i)) items

-- Each item stands at its place.
abbrev pub AreInPlace : List Item → Type 0
AreInPlace items = map place_of items ≡ numbers_from 0 (length items)

-- A flag for each place: whether it is the first of a ring.
abbrev pub ring_flags : List Reading → List Bool
ring_flags rs = map (breaks_ring (first_parents rs)) (numbers_from 0 (length rs))

-- A group with no brush.
abbrev pub is_bare_group : Item → Bool
is_bare_group i = has_kind group i.reading.node && not (nat_lt 0 (length (kept_brushes i.reading)))

-- How many items lie in a place, without those that are gone.
abbrev pub children_left : List Item → List ℕ → ℕ → ℕ
children_left items gone place = length (filter (λ j. (j.parent == place) && not (among (place_of j) gone)) items)

-- A number for each place below n: how many of the items lie there, without those that are gone.
pub record ChildCounts (n : ℕ) (items : List Item) (gone : List ℕ) (counts : List ℕ) : Type 0 where
  pub count : length counts ≡ n
  pub number : (p : ℕ) → p < n → slice_index_or counts p 0 ≡ children_left items gone p

-- The notes on ids, on parents and on empty groups.
abbrev pub id_notes : List Reading → List Note
id_notes rs = noted IdNote (map (λ r. r.place) (filter (is_nameless rs) rs))

abbrev pub parent_notes : List Reading → List Note
parent_notes rs = noted ParentNote (map (λ r. r.place) (filter (λ r. is_lost rs r || breaks_ring (first_parents rs) r.place) rs))

abbrev pub empty_notes : List Item → List Note
empty_notes all = noted EmptyNote (map place_of (filter (is_dropped (kept_items all)) all))
