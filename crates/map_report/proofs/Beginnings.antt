-- How the lines on map files begin.
use Rattle.std.proofs.Common.{◌≡◌, ℕ, refl, ap, arith}
use Rattle.cmd_text.specs.Lines.{Words, line_text}
use Rattle.cmd_text.proofs.ReplyLaws.{byte_at, begins_else}
use Rattle.map_lex.specs.declared.lexer.LexFault.TheVariants.{OpenQuote, StrayByte}
use Rattle.map_text.specs.declared.read_fault.ReadFault.TheVariants.{Lex, Memory}
use Rattle.uv_lock.specs.declared.texture.Format.{Format}
use Rattle.uv_lock.specs.declared.texture.Format.TheVariants.{Standard, Valve}
use Rattle.map_report.specs.declared.note.Note.{Note}
use Rattle.map_report.specs.declared.note.Note.TheVariants.{Id}
use Rattle.map_report.specs.declared.fault.MapFault.{MapFault}
use Rattle.map_report.specs.declared.fault.MapFault.TheVariants.{Read}
use Rattle.map_report.specs.declared.summary.Summary.{Summary}
use Rattle.map_report.specs.declared.summary.Summary.TheVariants as summary
use Rattle.map_report.specs.Reports.{note_words, fault_words, summary_words, format_name, note_line, fault_line, summary_line, IsNotMemory, NoneSaysMemory}

-- the second byte isn't an e
other_second : (n : ℕ) (line : Words) → byte_at 1 line.name ≡ n → (n ≡ 0 → ⊥) → (n ≡ 101 → ⊥) → IsNotMemory (line_text line)
other_second n line e some other x y same = begins_else 1 101 n line x y e some refl other same

second_of_note : (n : Note) → byte_at 1 (note_words n).name ≡ 111
second_of_note (Id entity) = refl
second_of_note _ = refl

note_else : (n : Note) → IsNotMemory (note_line n)
unfolding note_line
note_else n = other_second 111 (note_words n) (second_of_note n) (λ e. omega arith) (λ e. omega arith)

of_fault : (f : MapFault) → IsNotMemory (line_text (fault_words f))
unfolding line_text
of_fault (Read Memory) x y same = let e : 10 ≡ 109 = ap (byte_at 0) same in absurd (omega (arith, e))
of_fault (Read (Lex (OpenQuote line))) x y same = other_second 97 (fault_words (Read (Lex (OpenQuote line)))) refl (λ e. omega arith) (λ e. omega arith) x y same
of_fault (Read (Lex (StrayByte line))) x y same = other_second 97 (fault_words (Read (Lex (StrayByte line)))) refl (λ e. omega arith) (λ e. omega arith) x y same
of_fault f x y same = other_second 97 (fault_words f) refl (λ e. omega arith) (λ e. omega arith) x y same

fault_else : (f : MapFault) → IsNotMemory (fault_line f)
unfolding fault_line
fault_else f = of_fault f

second_of_format : (format : Format) → byte_at 1 (format_name format) ≡ 97
second_of_format Standard = refl
second_of_format Valve = refl

of_summary : (s : Summary) → IsNotMemory (line_text (summary_words s))
of_summary (summary.Map format nodes brushes links) = other_second 97 (summary_words (summary.Map format nodes brushes links)) (second_of_format format) (λ e. omega arith) (λ e. omega arith)
of_summary (summary.Generated boxes brushes links) = λ x y same. begins_else 0 109 103 (summary_words (summary.Generated boxes brushes links)) x y refl (λ e. omega arith) refl (λ e. omega arith) same
of_summary (summary.Exported brushes vertices faces) = other_second 120 (summary_words (summary.Exported brushes vertices faces)) refl (λ e. omega arith) (λ e. omega arith)

summary_else : (s : Summary) → IsNotMemory (summary_line s)
unfolding summary_line
summary_else s = of_summary s

pub none_says : NoneSaysMemory
none_says = record { notes = note_else; faults = fault_else; summaries = summary_else }
