-- How an item of an entity begins. Only the contracts of the reader's inner functions speak of it: no promise of `read_map` rests on it.
use Rattle.std.specs.Prelude.{◌≡◌, Bool, true, false, not, IsTrue, [], ◌∷◌, Option, None, Some}
use Rattle.map_lex.specs.TokenList.{no_more}
use Rattle.map_lex.specs.OneToken.{ends_with_backslash}
use Rattle.map_text.specs.declared.entity_text.ItemStart.{ItemStart}
use Rattle.map_text.specs.declared.entity_text.ItemStart.TheVariants.{Key, Brush}
use Rattle.map_text.specs.Grammar.{bracket, quote}
use Rattle.map_text.specs.Refusals.{an_entity, an_item, a_value, first_in_brush}
use Rattle.map_text.specs.Reading.{ReaderState, Passes}

-- A property begins with its key, a brush with its bracket, or the entity ends.
abbrev pub BeginsItem : ReaderState → ReaderState → Option ItemStart → Type 0
BeginsItem old new (Some (Key key)) =
    IsTrue (not (ends_with_backslash key.now)) × Passes old new (an_item ∷ []) (a_value ∷ an_item ∷ []) (quote key.now ∷ []) []
BeginsItem old new (Some Brush) = Passes old new (an_item ∷ []) (first_in_brush ∷ an_item ∷ []) (bracket 123 ∷ []) []
BeginsItem old new None = Passes old new (an_item ∷ []) [] (bracket 125 ∷ []) []

-- An entity begins, or the text ends.
abbrev pub BeginsEntity : ReaderState → ReaderState → Bool → Type 0
BeginsEntity old new true = Passes old new (an_entity ∷ []) (an_item ∷ an_entity ∷ []) (bracket 123 ∷ []) []
BeginsEntity old new false = (old.left ≡ no_more) × (new ≡ old)
