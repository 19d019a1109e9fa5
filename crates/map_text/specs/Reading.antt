-- A reader in the middle of a map text, and what it means that it has read a part of it. Only the contracts of the reader's inner
-- functions speak of it: no promise of `read_map` rests on it.
use Rattle.std.specs.Prelude.{◌≡◌, ◌≢◌, ℕ, Bool, true, false, IsTrue, List, ◌++◌, map, slice_get, Option, None, Some}
use Rattle.std.specs.Option.{option_map_or}
use Rattle.std.specs.List.{list_all}
use Rattle.map_lex.specs.declared.lexer.Token.{Token}
use Rattle.map_lex.specs.TokenList.{TokenValue, TokenList, put_first, no_more, value_of}
use Rattle.uv_lock.specs.declared.texture.Format.{Format}
use Rattle.map_text.specs.declared.read_fault.ReadFault.{ReadFault}
use Rattle.map_text.specs.declared.read_fault.ReadFault.TheVariants.{Memory}
use Rattle.map_text.specs.Grammar.{Symbol, symbol_of}
use Rattle.map_text.specs.Fits.{is_format}
use Rattle.map_text.specs.Refusals.{Awaited, an_entity, Outcome, stopped_by, go_on}

-- The last line of the text, the format of its first face, once there was one, and the tokens that are left.
pub record ReaderState : Type 0 where
  pub last : ℕ
  pub first : Option Format
  pub left : TokenList

-- How reading goes on from here, with these places awaited.
abbrev pub reads_on : ReaderState → List Awaited → Outcome
reads_on s places = go_on s.last s.first places s.left.tokens s.left.fault

-- The format of the first face, once faces of these formats are read.
abbrev pub first_after : Option Format → List Format → Option Format
first_after None formats = slice_get formats 0
first_after (Some first) formats = Some first

-- All of these formats are the first one.
abbrev pub all_are : Option Format → List Format → Bool
all_are first formats = option_map_or (λ f. list_all (is_format f) formats) first true

-- From one state to another these symbols were read, with faces of these formats, and what was awaited before them makes way for what is
-- awaited after them.
pub record Passes (old new : ReaderState) (before after : List Awaited) (read : List Symbol) (kinds : List Format) : Type 0 where
  pub goes : (rest : List Awaited) → reads_on old (before ++ rest) ≡ reads_on new (after ++ rest)
  pub symbols : map symbol_of old.left.tokens ≡ read ++ map symbol_of new.left.tokens
  pub fault : old.left.fault ≡ new.left.fault
  pub first : new.first ≡ first_after old.first kinds
  pub one_format : IsTrue (all_are new.first kinds)

-- Parts of a text: which are right, their symbols, the formats of their faces, and what they mean.
pub record Part (T V : Type 0) : Type 0 where
  pub fits : T → Bool
  pub symbols : T → List Symbol
  pub formats : T → List Format
  pub meaning : T → V

-- Such a part was read, and its meaning is the value.
pub record IsRead {T V : Type 0} (part : Part T V) (before after : List Awaited) (old new : ReaderState) (value : V) : Type 0 where
  pub text : T
  pub fit : IsTrue (part.fits text)
  pub passes : Passes old new before after (part.symbols text) (part.formats text)
  pub meaning : value ≡ part.meaning text

-- Where these places are awaited, the text is refused so.
abbrev pub IsRefused : ReaderState → List Awaited → ReadFault → Type 0
IsRefused old places why = (rest : List Awaited) → reads_on old (places ++ rest) ≡ stopped_by why

-- Where these places are awaited, the text is refused so, unless memory was wanting.
abbrev pub IsStopped : ReaderState → List Awaited → ReadFault → Type 0
IsStopped old places why = why ≢ Memory → IsRefused old places why

-- The text may not end where this is awaited.
abbrev pub is_inner : Awaited → Bool
is_inner an_entity = false
is_inner _ = true

-- The next token is this one, and the others are left behind it.
pub record IsNext (old : ReaderState) (t : TokenValue) (new : ReaderState) : Type 0 where
  pub left : old.left ≡ put_first t new.left
  pub first : new.first ≡ old.first
  pub last : new.last ≡ old.last

-- A token was found, or no token is left.
abbrev pub IsFound : ReaderState → Option Token → ReaderState → Type 0
IsFound old (Some token) new = IsNext old (value_of token) new
IsFound old None new = (old.left ≡ no_more) × (new ≡ old)

-- A face of this format may follow.
abbrev pub allows : Option Format → Format → Bool
allows first format = option_map_or (λ f. is_format f format) first true
