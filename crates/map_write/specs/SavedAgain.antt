-- What is saved is read again: a law.
use Rattle.std.specs.Prelude.{ℕ, List, IsTrue}
use Rattle.map_text.specs.declared.document.MapDoc.{MapDoc}
use Rattle.map_text.specs.Reads.{Reads}
use Rattle.map_text.specs.Spelled.{all_good, is_spelled, is_savable}
use Rattle.map_write.specs.Written.{written_text}

-- What is saved is read again as the same document. Each document that is read is spelled, and can be saved where no brush is bad.
pub record SavedIsReadAgain : Type 0 where
  pub again : (doc : MapDoc) → IsTrue (is_savable doc) → Reads (written_text doc) doc
  pub spelled : (text : List ℕ) (doc : MapDoc) → Reads text doc → IsTrue (is_spelled doc)
  pub read_documents : (text : List ℕ) (doc : MapDoc) → Reads text doc → IsTrue (all_good doc) → IsTrue (is_savable doc)
