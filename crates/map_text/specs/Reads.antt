-- What a map text reads as: what `read_map` promises.
use Rattle.std.specs.Prelude.{◌≡◌, ◌+◌, ℕ, IsTrue, List, map, length, sum_by, None, Some}
use Rattle.map_lex.specs.TokenList.{token_list}
use Rattle.map_text.specs.declared.document.MapDoc.{MapDoc}
use Rattle.map_text.specs.declared.read_fault.ReadFault.{ReadFault}
use Rattle.map_text.specs.declared.read_fault.ReadFault.TheVariants.{Memory}
use Rattle.map_text.specs.Grammar.{Item, symbol_of, file_symbols}
use Rattle.map_text.specs.Fits.{file_fits, has_one_format}
use Rattle.map_text.specs.Meaning.{document_of}
use Rattle.map_text.specs.Refusals.{first_refusal}

-- The tokens of the text are those of a file by the grammar, and the document is what the file means.
pub record Reads (text : List ℕ) (doc : MapDoc) : Type 0 where
  pub file : List (List Item)
  pub fit : IsTrue (file_fits file)
  pub one_format : IsTrue (has_one_format file)
  pub symbols : map symbol_of (token_list text).tokens ≡ file_symbols file
  pub no_fault : (token_list text).fault ≡ None
  pub meaning : doc ≡ document_of file

-- The text is refused so. Want of memory has no cause in it.
abbrev pub IsRefusedAs : List ℕ → ReadFault → Type 0
IsRefusedAs text Memory = Unit {0}
IsRefusedAs text why = first_refusal text ≡ Some why

-- How many entities and brushes a document has.
abbrev pub part_count : MapDoc → ℕ
part_count doc = length doc.entities + sum_by (λ entity. length entity.brushes) doc.entities

-- A text reads as one document, or it is refused.
pub record ReadsOneWay : Type 0 where
  pub one : (text : List ℕ) (a b : MapDoc) → Reads text a → Reads text b → a ≡ b
  pub accepted : (text : List ℕ) (doc : MapDoc) → Reads text doc → first_refusal text ≡ None
  pub some : (text : List ℕ) → first_refusal text ≡ None → (doc : MapDoc) × Reads text doc
