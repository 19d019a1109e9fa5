-- What the bytes of a map file open as, and what is said of it.
use Rattle.std.specs.Prelude.{◌≡◌, ◌≢◌, ℕ, false, ◌&&◌, IsTrue, List, flat_map, Ok, Err}
use Rattle.map_text.specs.declared.document.MapDoc.{MapDoc}
use Rattle.map_text.specs.declared.read_fault.ReadFault.TheVariants.{Memory}
use Rattle.map_text.specs.Reads.{Reads, IsRefusedAs}
use Rattle.map_report.specs.declared.note.Note.{Note}
use Rattle.map_report.specs.declared.fault.MapFault.{MapFault}
use Rattle.map_report.specs.declared.fault.MapFault.TheVariants.{Read, NoWorld, NotBuilt, Full}
use Rattle.map_report.specs.declared.summary.Summary.{Summary}
use Rattle.map_report.specs.declared.summary.Summary.TheVariants.{Map}
use Rattle.map_report.specs.Reports.{note_line, fault_line}
use Rattle.map_model.specs.Tree.{Whole, format_of}
use Rattle.map_model.specs.Below.{Below, IsRight}
use Rattle.map_model.specs.Counts.{node_count, brush_count, link_count}
use Rattle.file_laws.specs.FileLeaves.{file_leaves}
use Rattle.file_laws.specs.Build.{begins_with_world}
use Rattle.file_laws.specs.Build as why
use Rattle.file_laws.specs.Linked.{build}
use Rattle.tree_file.specs.Promises.{has_links}

-- What the bytes of a map file open as: a whole map with notes, or why they are refused.
pub data Opened : Type 0 where
  Tree : Whole → List Note → Opened
  Refused : MapFault → Opened

-- The bytes read as a document of which this holds.
pub record ReadsAs (bytes : List ℕ) (Holds : MapDoc → Type 0) : Type 0 where
  pub doc : MapDoc
  pub reads : Reads bytes doc
  pub holds : Holds doc

-- By these tests on solids the bytes open so. A document that asks for links isn't built, where it begins with the world.
abbrev pub OpensAs : Below → List ℕ → Opened → Type 0
OpensAs b bytes (Tree m notes) = ReadsAs bytes (λ doc. (has_links doc ≡ false) × (build (file_leaves b) doc ≡ Ok (record { map = m; notes = notes })))
OpensAs b bytes (Refused (Read fault)) = IsRefusedAs bytes fault × (fault ≢ Memory)
OpensAs b bytes (Refused NoWorld) = ReadsAs bytes (λ doc. build (file_leaves b) doc ≡ Err why.NoWorld)
OpensAs b bytes (Refused NotBuilt) = ReadsAs bytes (λ doc. IsTrue (begins_with_world doc.entities && has_links doc))
OpensAs b bytes (Refused (Full n)) = ReadsAs bytes (λ doc. (has_links doc ≡ false) × (build (file_leaves b) doc ≡ Err (why.Full n)))

-- By whatever right tests.
abbrev pub Opens : List ℕ → Opened → Type 0
Opens bytes opened = (b : Below) → IsRight b → OpensAs b bytes opened

-- What is said of it: the line of each note, or the one line of the refusal.
abbrev pub opening_text : Opened → List ℕ
opening_text (Tree m notes) = flat_map note_line notes
opening_text (Refused fault) = fault_line fault

-- What a map holds.
abbrev pub summary_of : Whole → Summary
summary_of m = Map (format_of m) (node_count m) (brush_count m) (link_count m)
