use Rattle.std.proofs.Common.{◌∷◌, [], refl}
use Rattle.key_table.specs.Tables.{command_words}
use Rattle.key_table.proofs.Twins.{is_made, made_is}
use Rattle.key_table.proofs.tables.command_keys.Goals as goal

pub unwrap-requires : goal.unwrap-requires
unwrap-requires c = is_made _ command_words _ c.of.ensures.twins (λ i.
    c.known.ensures.text i ∷ c.known-2.ensures.text i ∷ c.known-3.ensures.text i ∷ c.known-4.ensures.text i ∷
    c.known-5.ensures.text i ∷ c.known-6.ensures.text i ∷ c.known-7.ensures.text i ∷ c.known-8.ensures.text i ∷
    c.known-9.ensures.text i ∷ c.known-10.ensures.text i ∷ c.known-11.ensures.text i ∷ c.known-12.ensures.text i ∷
    c.known-13.ensures.text i ∷ c.known-14.ensures.text i ∷ c.known-15.ensures.text i ∷ c.known-16.ensures.text i ∷
    c.known-17.ensures.text i ∷ c.known-18.ensures.text i ∷ c.known-19.ensures.text i ∷ c.known-20.ensures.text i ∷
    c.known-21.ensures.text i ∷ c.known-22.ensures.text i ∷ c.known-23.ensures.text i ∷ c.known-24.ensures.text i ∷
    c.known-25.ensures.text i ∷ c.known-26.ensures.text i ∷ c.known-27.ensures.text i ∷ c.known-28.ensures.text i ∷
    c.known-29.ensures.text i ∷ c.known-30.ensures.text i ∷ c.known-31.ensures.text i ∷ c.known-32.ensures.text i ∷
    c.known-33.ensures.text i ∷ c.known-34.ensures.text i ∷ c.known-35.ensures.text i ∷ c.known-36.ensures.text i ∷
    c.known-37.ensures.text i ∷ c.known-38.ensures.text i ∷ c.known-39.ensures.text i ∷ c.known-40.ensures.text i ∷ []) refl

pub returns : goal.returns
returns c = made_is _ command_words _ _ c.of.ensures.words (λ i.
    c.known.ensures.text i ∷ c.known-2.ensures.text i ∷ c.known-3.ensures.text i ∷ c.known-4.ensures.text i ∷
    c.known-5.ensures.text i ∷ c.known-6.ensures.text i ∷ c.known-7.ensures.text i ∷ c.known-8.ensures.text i ∷
    c.known-9.ensures.text i ∷ c.known-10.ensures.text i ∷ c.known-11.ensures.text i ∷ c.known-12.ensures.text i ∷
    c.known-13.ensures.text i ∷ c.known-14.ensures.text i ∷ c.known-15.ensures.text i ∷ c.known-16.ensures.text i ∷
    c.known-17.ensures.text i ∷ c.known-18.ensures.text i ∷ c.known-19.ensures.text i ∷ c.known-20.ensures.text i ∷
    c.known-21.ensures.text i ∷ c.known-22.ensures.text i ∷ c.known-23.ensures.text i ∷ c.known-24.ensures.text i ∷
    c.known-25.ensures.text i ∷ c.known-26.ensures.text i ∷ c.known-27.ensures.text i ∷ c.known-28.ensures.text i ∷
    c.known-29.ensures.text i ∷ c.known-30.ensures.text i ∷ c.known-31.ensures.text i ∷ c.known-32.ensures.text i ∷
    c.known-33.ensures.text i ∷ c.known-34.ensures.text i ∷ c.known-35.ensures.text i ∷ c.known-36.ensures.text i ∷
    c.known-37.ensures.text i ∷ c.known-38.ensures.text i ∷ c.known-39.ensures.text i ∷ c.known-40.ensures.text i ∷ []) c.unwrap.ensures
