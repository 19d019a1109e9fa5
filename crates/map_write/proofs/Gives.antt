-- Texts by the symbols of their tokens, whatever line they begin on.
use Rattle.std.proofs.Common.{◌≡◌, ℕ, ◌+◌, Bool, true, false, not, ◌&&◌, ◌==◌, cond, List, [], ◌∷◌, ◌++◌, map, None, refl, ap, sym, subst, ◌∙◌, append_assoc}
use Rattle.std.specs.List.{list_any}
use Rattle.map_lex.specs.declared.lexer.LexFault.TheVariants.{StrayByte}
use Rattle.map_lex.specs.Bytes.{is_blank, is_stray, rest_of_line, closes}
use Rattle.map_lex.specs.Cut.{Piece, Blank, Comment, Quoted, Word, bytes_of, Stands}
use Rattle.map_lex.specs.Pieces.{pieces_of}
use Rattle.map_lex.specs.TokenList.{TokenValue, TokenList, put_first, unless_stray, stopped, tokens_from, tokens_left}
use Rattle.map_lex.proofs.Fronts.{cond_false}
use Rattle.map_lex.proofs.Cuts.{pieces_of-cons}
use Rattle.map_lex.proofs.Reading.{left_end}
use Rattle.map_lex.specs.OneToken.{ends_with_backslash}
use Rattle.map_text.specs.Grammar.{Symbol, symbol_of, word, quote}
use Rattle.map_text.specs.Fits.{is_material}
use Rattle.map_write.specs.Written.{written}
use Rattle.map_write.proofs.Tests.{no_more_than}
use Rattle.map_write.proofs.Tokens.{IsWord, IsQuoted, IsToken, word_goes_on, word_ends, none_closes, one_line, closed_by}

-- a list of tokens by its symbols, with no fault
pub record Lists (list : TokenList) (symbols : List Symbol) : Type 0 where
  pub tokens : map symbol_of list.tokens ≡ symbols
  pub no_fault : list.fault ≡ None

-- from each line on, the text gives the tokens with these symbols, and has no fault
abbrev pub Gives : List ℕ → List Symbol → Type 0
Gives text symbols = (line : ℕ) → Lists (tokens_left line text) symbols

pub gives_end : Gives [] []
gives_end line = subst (λ list. Lists list []) (sym (left_end line)) (record { tokens = refl; no_fault = refl })

piece_first : (line : ℕ) (piece : Piece) (after : List ℕ) → Stands piece after → tokens_left line (bytes_of piece ++ after) ≡ tokens_from line (piece ∷ pieces_of after)
unfolding tokens_left
piece_first line piece after stands = ap (tokens_from line) (pieces_of-cons piece after stands)

pub gives_blank : (b : ℕ) (after : List ℕ) (symbols : List Symbol) → is_blank b ≡ true → Gives after symbols → Gives (b ∷ after) symbols
unfolding tokens_left
gives_blank b after symbols blank later line =
    subst (λ list. Lists list symbols) (sym (piece_first line (Blank b) after blank)) (later (cond (b == 10) (line + 1) line))

pub unless : (text : List ℕ) (line : ℕ) (list : TokenList) → list_any is_stray text ≡ false → unless_stray text line list ≡ list
unless text line list clean = cond_false (list_any is_stray text) (stopped (StrayByte line)) list clean

pub gives_comment : (text after : List ℕ) (symbols : List Symbol) → rest_of_line (text ++ after) ≡ text → list_any is_stray text ≡ false → Gives after symbols → Gives (47 ∷ 47 ∷ (text ++ after)) symbols
unfolding tokens_left
gives_comment text after symbols stands clean later line =
    subst (λ list. Lists list symbols) (sym (piece_first line (Comment text) after stands ∙ unless text line (tokens_left line after) clean)) (later line)

first_token : (token : TokenValue) (list : TokenList) (symbols : List Symbol) → Lists list symbols → Lists (put_first token list) (symbol_of token ∷ symbols)
first_token token list symbols lists = record { tokens = ap (λ ss. symbol_of token ∷ ss) lists.tokens; no_fault = lists.no_fault }

pub gives_word : (w : List ℕ) (b : ℕ) (rest : List ℕ) (symbols : List Symbol) → IsWord w → is_blank b ≡ true → Gives (b ∷ rest) symbols → Gives (w ++ b ∷ rest) (word w ∷ symbols)
unfolding tokens_left
gives_word w b rest symbols is blank later line =
    let token : TokenValue = record { text = w; quoted = false; line = line } in
    subst (λ list. Lists list (word w ∷ symbols))
    (sym (piece_first line (Word w) (b ∷ rest) (word_goes_on w b rest is.begins blank, word_ends w b rest is.unblank blank) ∙ unless w line (put_first token (tokens_left line (b ∷ rest))) is.clean))
    (first_token token (tokens_left line (b ∷ rest)) symbols (later line))

pub gives_quoted : (t after : List ℕ) (symbols : List Symbol) → IsQuoted t → closes t after ≡ true → Gives after symbols → Gives (34 ∷ (t ++ 34 ∷ after)) (quote t ∷ symbols)
unfolding tokens_left
gives_quoted t after symbols is closed later line =
    let token : TokenValue = record { text = t; quoted = true; line = line } in
    subst (λ list. Lists list (quote t ∷ symbols))
    (sym (ap (λ text. tokens_left line (34 ∷ text)) (sym (append_assoc t (34 ∷ []) after)) ∙ piece_first line (Quoted t) after (one_line t is, none_closes t after is, closed) ∙ unless t line (put_first token (tokens_left line after)) is.clean))
    (first_token token (tokens_left line after) symbols (later line))

open_ended : (quoted ends : Bool) → quoted ≡ true → not (quoted && ends) ≡ true → ends ≡ false
open_ended true ends e material = no_more_than ends material
open_ended false ends e material = cc

-- a symbol as it is written, with a blank behind it
pub gives_symbol : (s : Symbol) (b : ℕ) (rest : List ℕ) (symbols : List Symbol) → IsToken s → is_material s ≡ true → is_blank b ≡ true → Gives (b ∷ rest) symbols → Gives (written s ++ b ∷ rest) (s ∷ symbols)
gives_symbol s b rest symbols is material blank later = at s.quoted refl where
  at : (q : Bool) → s.quoted ≡ q → Gives (cond q (34 ∷ (s.text ++ 34 ∷ [])) s.text ++ b ∷ rest) (record { text = s.text; quoted = q } ∷ symbols)
  at true e =
      subst (λ text. Gives (34 ∷ text) (quote s.text ∷ symbols)) (sym (append_assoc s.text (34 ∷ []) (b ∷ rest)))
      (gives_quoted s.text (b ∷ rest) symbols (is.between_quotes e) (closed_by s.text (b ∷ rest) (open_ended s.quoted (ends_with_backslash s.text) e material)) later)
  at false e = gives_word s.text b rest symbols (is.plain e) blank later
