-- The one cut of a line, computed from its front. That it is the one is a law: see `one_cut_law`.
use Rattle.std.specs.Prelude.{ℕ, zero, suc, ◌+◌, ◌<◌, Bool, true, false, if◌then◌else◌, List, [], ◌∷◌, length, take, drop, Option, Some, None, position}
use Rattle.std.specs.List.{list_any, position_or_len}
use Rattle.cmd_text.specs.declared.words.Front.{Front}
use Rattle.cmd_text.specs.declared.words.Front.TheVariants.{End, Uncut, Word}
use Rattle.cmd_text.specs.Cut.{is_blank, is_quote, is_stray, stands_apart}

-- words, and whether nothing but blanks is behind them
pub record WordsLeft : Type 0 where
  pub list : List (List ℕ)
  pub whole : Bool

abbrev pub no_more : WordsLeft
no_more = record { list = []; whole = true }

abbrev pub uncut : WordsLeft
uncut = record { list = []; whole = false }

abbrev pub put_first : List ℕ → WordsLeft → WordsLeft
put_first word words = record { list = word ∷ words.list; whole = words.whole }

abbrev pub behind_blanks : List ℕ → List ℕ
behind_blanks [] = []
behind_blanks (b ∷ text) = if is_blank b then behind_blanks text else b ∷ text

-- a text from its first word on: no word, a word with what stands behind it, or none that can be cut
pub data Begin : Type 0 where
  Ends : Begin
  Stops : Begin
  Begins : List ℕ → List ℕ → Begin

abbrev pub begins_apart : List ℕ → List ℕ → Begin
begins_apart word rest = if stands_apart rest then Begins word rest else Stops

-- behind a quote, given the place of the next one
abbrev pub quoted_at : List ℕ → Option ℕ → Begin
quoted_at text None = Stops
quoted_at text (Some end) = begins_apart (take end text) (drop (end + 1) text)

abbrev pub plain_at : List ℕ → ℕ → Begin
plain_at text end = if list_any is_quote (take end text) then Stops else Begins (take end text) (drop end text)

abbrev pub begin_of : List ℕ → Begin
begin_of [] = Ends
begin_of (b ∷ text) =
    if is_quote b then quoted_at text (position is_quote text)
    else plain_at (b ∷ text) (position_or_len is_blank (b ∷ text))

-- at most n words from the front
abbrev pub words_by : (List ℕ → WordsLeft) → Begin → WordsLeft
words_by more Ends = no_more
words_by more Stops = uncut
words_by more (Begins word rest) = put_first word (more rest)

abbrev pub words_within : ℕ → List ℕ → WordsLeft
words_within zero text = no_more
words_within (suc n) text = words_by (words_within n) (begin_of (behind_blanks text))

-- all words: a line has no more of them than bytes
unfoldable pub words_left : List ℕ → WordsLeft
words_left text = words_within (length text) text

-- the words of a line, where it can be cut
unfoldable pub cut_of : List ℕ → Option (List (List ℕ))
cut_of line =
    if list_any is_stray line then None
    else (if (words_left line).whole then Some (words_left line).list else None)

-- what a front that was cut off, and what stands behind it, make
abbrev pub with_front : Front → WordsLeft
with_front End = no_more
with_front Uncut = uncut
with_front (Word word rest) = put_first word.now (words_left rest.now)

-- fewer bytes are behind the front than in the text
abbrev pub IsShorter : List ℕ → Front → Type 0
IsShorter text End = Unit {0}
IsShorter text Uncut = Unit {0}
IsShorter text (Word word rest) = length rest.now < length text
