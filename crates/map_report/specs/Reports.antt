-- The lines on map files.
use Rattle.std.specs.Prelude.{◌≡◌, ℕ, List, [], ◌∷◌, ◌++◌, codes}
use Rattle.std.specs.Fmt.{decimal}
use Rattle.cmd_text.specs.Lines.{Words, words, line_text, counted}
use Rattle.map_lex.specs.declared.lexer.LexFault.{LexFault}
use Rattle.map_lex.specs.declared.lexer.LexFault.TheVariants.{OpenQuote, StrayByte}
use Rattle.map_text.specs.declared.read_fault.What.{What}
use Rattle.map_text.specs.declared.read_fault.What.TheVariants as what
use Rattle.map_text.specs.declared.read_fault.ReadFault.{ReadFault}
use Rattle.map_text.specs.declared.read_fault.ReadFault.TheVariants.{Lex, Expected, MixedFormat, UnknownBlock, EndsEarly, Memory}
use Rattle.map_text.specs.declared.document.Reason.{Reason}
use Rattle.map_text.specs.declared.document.Reason.TheVariants as reason
use Rattle.uv_lock.specs.declared.texture.Format.{Format}
use Rattle.uv_lock.specs.declared.texture.Format.TheVariants.{Standard, Valve}
use Rattle.map_report.specs.declared.note.Note.{Note}
use Rattle.map_report.specs.declared.note.Note.TheVariants as note
use Rattle.map_report.specs.declared.fault.MapFault.{MapFault}
use Rattle.map_report.specs.declared.fault.MapFault.TheVariants.{Read, NoWorld, NotBuilt, Full}
use Rattle.map_report.specs.declared.summary.Summary.{Summary}
use Rattle.map_report.specs.declared.summary.Summary.TheVariants as summary

abbrev pub reason_name : Reason → List ℕ
reason_name reason.Point = codes "point"
reason_name reason.Range = codes "range"
reason_name reason.Texture = codes "texture"
reason_name reason.Surface = codes "surface"
reason_name reason.Flat = codes "flat"
reason_name reason.Many = codes "many"
reason_name reason.Volume = codes "volume"
reason_name reason.World = codes "world"
reason_name reason.Faces = codes "faces"

-- THE TABLE of notes
abbrev pub note_words : Note → Words
note_words (note.Brush entity brush reason) = words (codes "note brush") (decimal entity ∷ decimal brush ∷ reason_name reason ∷ [])
note_words (note.Id entity) = words (codes "note id") (decimal entity ∷ [])
note_words (note.Parent entity) = words (codes "note parent") (decimal entity ∷ [])
note_words (note.Empty entity) = words (codes "note empty") (decimal entity ∷ [])
note_words (note.Transformation entity) = words (codes "note transformation") (decimal entity ∷ [])
note_words (note.Nested entity) = words (codes "note nested") (decimal entity ∷ [])
note_words (note.Links entity) = words (codes "note links") (decimal entity ∷ [])

abbrev pub what_name : What → List ℕ
what_name what.Entity = codes "entity"
what_name what.Item = codes "item"
what_name what.Key = codes "key"
what_name what.Value = codes "value"
what_name what.Face = codes "face"
what_name what.Point = codes "point"
what_name what.Number = codes "number"
what_name what.Material = codes "material"
what_name what.Axis = codes "axis"

abbrev pub lex_words : LexFault → Words
lex_words (OpenQuote line) = words (codes "map open-quote") (decimal line ∷ [])
lex_words (StrayByte line) = words (codes "map stray-byte") (decimal line ∷ [])

-- THE TABLE of refused maps; want of memory has no line
abbrev pub read_words : ReadFault → Words
read_words (Lex fault) = lex_words fault
read_words (Expected what line) = words (codes "map expected") (what_name what ∷ decimal line ∷ [])
read_words (MixedFormat line) = words (codes "map mixed-format") (decimal line ∷ [])
read_words (UnknownBlock line) = words (codes "map unknown-block") (decimal line ∷ [])
read_words (EndsEarly line) = words (codes "map ends-early") (decimal line ∷ [])
read_words Memory = words [] []

abbrev pub fault_words : MapFault → Words
fault_words (Read fault) = read_words fault
fault_words NoWorld = words (codes "map no-world") []
fault_words NotBuilt = words (codes "map not-built") []
fault_words (Full count) = words (codes "map full") (decimal count ∷ [])

abbrev pub format_name : Format → List ℕ
format_name Standard = codes "map standard"
format_name Valve = codes "map valve"

-- THE TABLE of summaries
abbrev pub summary_words : Summary → Words
summary_words (summary.Map format nodes brushes links) =
    words (format_name format) (counted (codes "nodes") nodes ∷ counted (codes "brushes") brushes ∷ counted (codes "links") links ∷ [])
summary_words (summary.Generated boxes brushes links) =
    words (codes "gen") (decimal boxes ∷ counted (codes "brushes") brushes ∷ counted (codes "links") links ∷ [])
summary_words (summary.Exported brushes vertices faces) =
    words (codes "export") (counted (codes "brushes") brushes ∷ counted (codes "vertices") vertices ∷ counted (codes "faces") faces ∷ [])

-- the bytes of each, with its line feed
unfoldable pub note_line : Note → List ℕ
note_line note = line_text (note_words note)

unfoldable pub fault_line : MapFault → List ℕ
fault_line fault = line_text (fault_words fault)

unfoldable pub summary_line : Summary → List ℕ
summary_line summary = line_text (summary_words summary)

-- the line `memory`, whatever follows it, doesn't begin as this line does, whatever follows that
abbrev pub IsNotMemory : List ℕ → Type 0
IsNotMemory line = (x y : List ℕ) → line ++ x ≡ (codes "memory" ++ 10 ∷ []) ++ y → ⊥

pub record NoneSaysMemory : Type 0 where
  pub notes : (n : Note) → IsNotMemory (note_line n)
  pub faults : (f : MapFault) → IsNotMemory (fault_line f)
  pub summaries : (s : Summary) → IsNotMemory (summary_line s)
