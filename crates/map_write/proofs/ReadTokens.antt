-- Each token of a text without a fault is a word or can stand between quotes.
use Rattle.std.proofs.Common.{◌≡◌, ℕ, ◌+◌, Bool, true, false, not, ◌||◌, ◌==◌, cond, List, [], ◌∷◌, ◌++◌, map, None, refl, ap, sym, subst, ◌∙◌, append_assoc, nat_eq}
use Rattle.std.specs.List.{list_all, list_any, before_first, ends_with, flat_map}
use Rattle.std.proofs.lemmas.Bool.{and_from, or_parts, both_ways, eqb-true}
use Rattle.map_lex.specs.declared.lexer.LexFault.TheVariants.{StrayByte, OpenQuote}
use Rattle.map_lex.specs.Bytes.{is_blank, is_stray, rest_of_line, up_to_blank, begins_comment, closes}
use Rattle.map_lex.specs.Cut.{Piece, Blank, Comment, Quoted, Open, Word, bytes_of, begins_word, NoneCloses, Stands, EachStands}
use Rattle.map_lex.specs.TokenList.{TokenList, put_first, unless_stray, stopped, tokens_from, tokens_left, token_list, without_mark}
use Rattle.map_lex.specs.Pieces.{pieces_of}
use Rattle.map_lex.proofs.Fronts.{before_first-cons, front-none}
use Rattle.map_lex.proofs.Cuts.{pieces_of-cut}
use Rattle.map_lex.specs.OneToken.{quotes_are_escaped}
use Rattle.map_text.specs.Grammar.{Symbol, symbol_of, word, quote}
use Rattle.map_write.proofs.Tests.{not_not, last_of, last-push}
use Rattle.map_write.proofs.Gives.{unless}
use Rattle.map_write.proofs.Tokens.{IsToken, AreTokens, none_of, ends_back}

-- nothing before the first element of a kind is of it
front_has_none : {X : Type 0} (p : X → Bool) (xs : List X) → list_any p (before_first p xs) ≡ false
front_has_none p [] = refl
front_has_none {X} p (x ∷ xs) = ap (list_any p) (before_first-cons p x xs) ∙ at (p x) refl (front_has_none p xs) where
  at : (b : Bool) → p x ≡ b → list_any p (before_first p xs) ≡ false → list_any p (cond b [] (x ∷ before_first p xs)) ≡ false
  at true e later = refl
  at false e later = λ i. e i || later i

word_begins : (t after : List ℕ) → begins_word (t ++ after) ≡ true → up_to_blank (t ++ after) ≡ t → begins_word t ≡ true
word_begins [] [] begins whole = begins
word_begins [] (b ∷ after) begins whole =
    let no = none_of (is_blank b) (b == 34) (begins_comment (b ∷ after)) begins in
    absurd (both_ways (is_blank b) no.0 (front-none is_blank b after whole))
word_begins (b ∷ []) after begins whole =
    let no = none_of (is_blank b) (b == 34) (begins_comment (b ∷ after)) begins in
    λ i. not (no.0 i || no.1 i || false)
word_begins (b ∷ c ∷ t) after begins whole = begins

escaped_from : (before text after : List ℕ) → NoneCloses (before ++ text) (34 ∷ after) → quotes_are_escaped (last_of 34 before) text ≡ true
escaped_from before [] after none = refl
escaped_from before (b ∷ text) after none =
    and_from (not (b == 34) || last_of 34 before == 92) (quotes_are_escaped b text)
    (at (b == 34) refl none)
    (ap (λ previous. quotes_are_escaped previous text) (sym (last-push 34 b before))
    ∙ escaped_from (before ++ b ∷ []) text after (subst (λ t. NoneCloses t (34 ∷ after)) (sym (append_assoc before (b ∷ []) text)) none))
  where
    at : (mark : Bool) → (b == 34) ≡ mark → NoneCloses (before ++ b ∷ text) (34 ∷ after) → (not mark || last_of 34 before == 92) ≡ true
    at false e closed = refl
    at true e closed =
        let unclosed : closes before (text ++ 34 ∷ after) ≡ false = closed before text (ap (λ c. before ++ c ∷ text) (eqb-true b 34 e)) in
        ends_back before (not_not (ends_with nat_eq before (92 ∷ [])) (or_parts (not (ends_with nat_eq before (92 ∷ []))) (list_all is_blank (rest_of_line (text ++ 34 ∷ after))) unclosed).0)

-- a list that isn't stopped by a stray byte
clean_list : (text : List ℕ) (line : ℕ) (list : TokenList) → (unless_stray text line list).fault ≡ None → (list_any is_stray text ≡ false) × (list.fault ≡ None)
clean_list text line list e = at (list_any is_stray text) refl e where
  at : (stray : Bool) → list_any is_stray text ≡ stray → (cond stray (stopped (StrayByte line)) list).fault ≡ None → (list_any is_stray text ≡ false) × (list.fault ≡ None)
  at true h f = cc
  at false h f = (h, f)

word_token : (t after : List ℕ) → Stands (Word t) after → list_any is_stray t ≡ false → IsToken (word t)
word_token t after stands clean = record {
  between_quotes = λ e. cc;
  plain = λ e. record { begins = word_begins t after stands.0 stands.1; unblank = ap (list_any is_blank) (sym stands.1) ∙ front_has_none is_blank (t ++ after); clean = clean };
}

quoted_token : (t after : List ℕ) → Stands (Quoted t) after → list_any is_stray t ≡ false → IsToken (quote t)
quoted_token t after stands clean = record {
  between_quotes = λ e. record { escaped = escaped_from [] t after stands.1; one_line = ap (list_any (λ b. b == 10)) (sym stands.0) ∙ front_has_none (λ b. b == 10) t; clean = clean };
  plain = λ e. cc;
}

-- the symbols of a list
abbrev symbols_of : TokenList → List Symbol
symbols_of list = map symbol_of list.tokens

tokens_stand : (line : ℕ) (pieces : List Piece) → EachStands pieces → (tokens_from line pieces).fault ≡ None → AreTokens (symbols_of (tokens_from line pieces))
tokens_stand line [] each e = tt
tokens_stand line (Blank b ∷ pieces) each e = tokens_stand (cond (b == 10) (line + 1) line) pieces each.1 e
tokens_stand line (Comment t ∷ pieces) each e =
    let list = tokens_from line pieces in
    let clean = clean_list t line list e in
    subst (λ l. AreTokens (symbols_of l)) (sym (unless t line list clean.0)) (tokens_stand line pieces each.1 clean.1)
tokens_stand line (Quoted t ∷ pieces) each e =
    let list = put_first (record { text = t; quoted = true; line = line }) (tokens_from line pieces) in
    let clean = clean_list t line list e in
    subst (λ l. AreTokens (symbols_of l)) (sym (unless t line list clean.0)) (quoted_token t (flat_map bytes_of pieces) each.0 clean.0, tokens_stand line pieces each.1 clean.1)
tokens_stand line (Open t ∷ pieces) each e =
    let clean = clean_list t line (stopped (OpenQuote line)) e in cc clean.1
tokens_stand line (Word t ∷ pieces) each e =
    let list = put_first (record { text = t; quoted = false; line = line }) (tokens_from line pieces) in
    let clean = clean_list t line list e in
    subst (λ l. AreTokens (symbols_of l)) (sym (unless t line list clean.0)) (word_token t (flat_map bytes_of pieces) each.0 clean.0, tokens_stand line pieces each.1 clean.1)

-- each token of a text without a fault
pub text_tokens : (text : List ℕ) → (token_list text).fault ≡ None → AreTokens (map symbol_of (token_list text).tokens)
unfolding token_list tokens_left
text_tokens text e = tokens_stand 1 (pieces_of (without_mark text)) (pieces_of-cut (without_mark text)).each e

pub tokens_split : (ss ts : List Symbol) → AreTokens (ss ++ ts) → AreTokens ss × AreTokens ts
tokens_split [] ts are = (tt, are)
tokens_split (s ∷ ss) ts are = let later = tokens_split ss ts are.1 in ((are.0, later.0), later.1)
