-- What the calls of this crate promise.
use Rattle.std.specs.Prelude.{◌≡◌, Bool, false, ◌&&◌, ◌||◌, IsTrue, List, length, nat_lt, codes, Ok, Err}
use Rattle.std.specs.List.{list_any}
use Rattle.std.specs.Option.{option_map_or}
use Rattle.std.specs.Str.{bytes_eq}
use Rattle.map_text.specs.declared.document.MapDoc.{MapDoc}
use Rattle.map_text.specs.declared.document.RawEntity.{RawEntity}
use Rattle.map_report.specs.declared.note.Note.{Note}
use Rattle.map_model.specs.Tree.{Whole}
use Rattle.map_model.specs.Props.{value_at, has_key}
use Rattle.map_model.specs.Below.{Below, IsRight}
use Rattle.file_laws.specs.FileLeaves.{file_leaves}
use Rattle.file_laws.specs.Build.{Built, begins_with_world}
use Rattle.file_laws.specs.Build as why
use Rattle.file_laws.specs.Linked.{build}
use Rattle.tree_file.specs.declared.fault.TreeFault.{TreeFault}
use Rattle.tree_file.specs.declared.fault.TreeFault.TheVariants.{NoWorld, NotBuilt, Full, Memory}

-- The document builds this map with these notes, by whatever right tests on solids.
abbrev pub Builds : MapDoc → Whole → List Note → Type 0
Builds doc m notes = (b : Below) → IsRight b → build (file_leaves b) doc ≡ Ok (record { map = m; notes = notes })

-- It builds none, for this.
abbrev pub BuildsNone : MapDoc → why.TreeFault → Type 0
BuildsNone doc fault = (b : Below) → IsRight b → build (file_leaves b) doc ≡ Err fault

-- An entity asks for what isn't read yet: it protects keys, or has the type of a group and names a link set.
abbrev pub asks_for_links : RawEntity → Bool
asks_for_links e =
    has_key (codes "_tb_protected_properties") e.props
    || (option_map_or (λ type. bytes_eq type (codes "_tb_group")) (value_at (codes "_tb_type") e.props) false
    && option_map_or (λ text. nat_lt 0 (length text)) (value_at (codes "_tb_linked_group_id") e.props) false)

abbrev pub has_links : MapDoc → Bool
has_links doc = list_any asks_for_links doc.entities

-- Why there is no tree. Want of memory has no cause in the document.
abbrev pub IsRefusedFor : MapDoc → TreeFault → Type 0
IsRefusedFor doc NoWorld = BuildsNone doc why.NoWorld
IsRefusedFor doc NotBuilt = IsTrue (begins_with_world doc.entities && has_links doc)
IsRefusedFor doc (Full n) = BuildsNone doc (why.Full n) × (has_links doc ≡ false)
IsRefusedFor doc Memory = Unit {0}
