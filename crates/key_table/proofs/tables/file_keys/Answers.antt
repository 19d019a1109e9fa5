use Rattle.std.proofs.Common.{◌∷◌, [], refl}
use Rattle.key_table.specs.Tables.{file_words}
use Rattle.key_table.proofs.Twins.{is_made, made_is}
use Rattle.key_table.proofs.tables.file_keys.Goals as goal

pub unwrap-requires : goal.unwrap-requires
unwrap-requires c = is_made _ file_words _ c.of.ensures.twins (λ i.
    c.known.ensures.text i ∷ c.known-2.ensures.text i ∷ c.known-3.ensures.text i ∷ c.known-4.ensures.text i ∷
    c.known-5.ensures.text i ∷ c.known-6.ensures.text i ∷ c.known-7.ensures.text i ∷ c.known-8.ensures.text i ∷
    c.known-9.ensures.text i ∷ c.known-10.ensures.text i ∷ []) refl

pub returns : goal.returns
returns c = made_is _ file_words _ _ c.of.ensures.words (λ i.
    c.known.ensures.text i ∷ c.known-2.ensures.text i ∷ c.known-3.ensures.text i ∷ c.known-4.ensures.text i ∷
    c.known-5.ensures.text i ∷ c.known-6.ensures.text i ∷ c.known-7.ensures.text i ∷ c.known-8.ensures.text i ∷
    c.known-9.ensures.text i ∷ c.known-10.ensures.text i ∷ []) c.unwrap.ensures
