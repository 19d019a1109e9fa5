-- The tokens of the written text, line by line.
use Rattle.std.proofs.Common.{◌≡◌, ℕ, Bool, true, false, not, ◌&&◌, ◌||◌, ◌==◌, eqb, List, [], ◌∷◌, ◌++◌, refl, ap, sym, subst, ◌∙◌, append_assoc, codes, arith}
use Rattle.std.specs.List.{list_all}
use Rattle.std.specs.Fmt.{decimal}
use Rattle.std.proofs.lemmas.Bool.{and_parts}
use Rattle.std.proofs.lemmas.List.Concat.{flat_map-append}
use Rattle.map_lex.specs.Bytes.{is_blank, is_stray}
use Rattle.map_lex.specs.OneToken.{ends_with_backslash, is_value_text, is_key_text}
use Rattle.map_lex.specs.LineTexts.{text_of}
use Rattle.map_text.specs.Grammar.{Symbol, word, quote, bracket}
use Rattle.map_text.specs.Fits.{is_material}
use Rattle.map_write.specs.Written.{written, line_of, property_line}
use Rattle.map_write.proofs.Tests.{no_more_than, none_pass, all_weaker, all_append, front_stops}
use Rattle.map_write.proofs.Tokens.{IsWord, IsToken, closed_by, closed_at_end, quoted_from_test}
use Rattle.map_write.proofs.Gives.{Gives, gives_blank, gives_comment, gives_word, gives_quoted, gives_symbol}
use Rattle.map_write.proofs.NumberWords.{is_number_byte, decimal_bytes}

-- a symbol that is one token wherever a blank follows it
abbrev pub IsFine : Symbol → Type 0
IsFine s = IsToken s × (is_material s ≡ true)

abbrev pub AreFine : List Symbol → Type 0
AreFine [] = Unit {0}
AreFine (s ∷ ss) = IsFine s × AreFine ss

pub fine_word : (w : List ℕ) → IsWord w → IsFine (word w)
fine_word w is = (record { between_quotes = λ e. cc; plain = λ e. is }, refl)

pub bracket_is_word : (b : ℕ) → is_blank b ≡ false → eqb b 34 ≡ false → is_stray b ≡ false → IsWord (b ∷ [])
bracket_is_word b blank mark stray = record {
  begins = λ i. not (blank i || mark i || false);
  unblank = λ i. blank i || false;
  clean = λ i. stray i || false;
}

pub fine_append : (ss ts : List Symbol) → AreFine ss → AreFine ts → AreFine (ss ++ ts)
fine_append [] ts first second = second
fine_append (s ∷ ss) ts first second = (first.0, fine_append ss ts first.1 second)

-- symbols on a line
pub gives_line : (s : Symbol) (ss : List Symbol) (rest : List ℕ) (symbols : List Symbol) → AreFine (s ∷ ss) → Gives rest symbols → Gives (line_of (s ∷ ss) ++ 10 ∷ rest) ((s ∷ ss) ++ symbols)
gives_line s [] rest symbols fine later = gives_symbol s 10 rest symbols fine.0.0 fine.0.1 refl (gives_blank 10 rest symbols refl later)
gives_line s (t ∷ ss) rest symbols fine later =
    subst (λ text. Gives text (s ∷ ((t ∷ ss) ++ symbols))) (sym (append_assoc (written s) (32 ∷ line_of (t ∷ ss)) (10 ∷ rest)))
    (gives_symbol s 32 (line_of (t ∷ ss) ++ 10 ∷ rest) ((t ∷ ss) ++ symbols) fine.0.0 fine.0.1 refl
    (gives_blank 32 (line_of (t ∷ ss) ++ 10 ∷ rest) ((t ∷ ss) ++ symbols) refl (gives_line t ss rest symbols fine.1 later)))

property_text : (key value rest : List ℕ) → ((34 ∷ (key ++ 34 ∷ [])) ++ 32 ∷ (34 ∷ (value ++ 34 ∷ []))) ++ 10 ∷ rest ≡ 34 ∷ (key ++ 34 ∷ 32 ∷ 34 ∷ (value ++ 34 ∷ 10 ∷ rest))
property_text key value rest = simp append_assoc

-- a property on its line: only its value may end with a backslash
pub gives_property : (key value rest : List ℕ) (symbols : List Symbol) → is_key_text key ≡ true → is_value_text value ≡ true → Gives rest symbols →
    Gives (property_line (key, value) ++ 10 ∷ rest) (quote key ∷ quote value ∷ symbols)
gives_property key value rest symbols savable quotable later =
    let parts = and_parts (is_value_text key) (not (ends_with_backslash key)) savable in
    subst (λ text. Gives text (quote key ∷ quote value ∷ symbols)) (sym (property_text key value rest))
    (gives_quoted key (32 ∷ 34 ∷ (value ++ 34 ∷ 10 ∷ rest)) (quote value ∷ symbols) (quoted_from_test key parts.0) (closed_by key (32 ∷ 34 ∷ (value ++ 34 ∷ 10 ∷ rest)) (no_more_than (ends_with_backslash key) parts.1))
    (gives_blank 32 (34 ∷ (value ++ 34 ∷ 10 ∷ rest)) (quote value ∷ symbols) refl
    (gives_quoted value (10 ∷ rest) symbols (quoted_from_test value quotable) (closed_at_end value rest) (gives_blank 10 rest symbols refl later))))

-- ---- groups of lines: a numbered comment, and lines in braces

pub gives_bracket : (b : ℕ) (rest : List ℕ) (symbols : List Symbol) → is_blank b ≡ false → eqb b 34 ≡ false → is_stray b ≡ false → Gives rest symbols → Gives (b ∷ 10 ∷ rest) (bracket b ∷ symbols)
gives_bracket b rest symbols blank mark stray later =
    gives_word (b ∷ []) 10 rest symbols (bracket_is_word b blank mark stray) refl (gives_blank 10 rest symbols refl later)

-- a byte that can stand in a comment
abbrev pub is_clean : ℕ → Bool
is_clean b = not (b == 10) && not (is_stray b)

number_byte_clean : (b : ℕ) → is_number_byte b ≡ true → is_clean b ≡ true
number_byte_clean b e = grind arith

pub gives_numbered_comment : (comment : List ℕ) (number : ℕ) (rest : List ℕ) (symbols : List Symbol) → list_all is_clean comment ≡ true → Gives rest symbols →
    Gives (47 ∷ 47 ∷ ((comment ++ decimal number) ++ 10 ∷ rest)) symbols
gives_numbered_comment comment number rest symbols clean later =
    let text = comment ++ decimal number in
    let all : list_all is_clean text ≡ true = all_append is_clean comment (decimal number) clean (all_weaker is_number_byte is_clean number_byte_clean (decimal number) (decimal_bytes number)) in
    let line = none_pass (λ b. b == 10) text (all_weaker is_clean (λ b. not (b == 10)) (λ b h. (and_parts (not (b == 10)) (not (is_stray b)) h).0) text all) in
    let strays = none_pass is_stray text (all_weaker is_clean (λ b. not (is_stray b)) (λ b h. (and_parts (not (b == 10)) (not (is_stray b)) h).1) text all) in
    gives_comment text (10 ∷ rest) symbols (front_stops (λ b. b == 10) text 10 rest line refl) strays (gives_blank 10 rest symbols refl later)

group_parts : (c n b l e r : List ℕ) → ((c ++ n) ++ (b ++ (l ++ e))) ++ r ≡ c ++ (n ++ (b ++ (l ++ (e ++ r))))
group_parts c n b l e r = simp append_assoc

pub gives_group : (comment : List ℕ) (number : ℕ) (lines : List (List ℕ)) (inner : List Symbol) (rest : List ℕ) (symbols : List Symbol) → list_all is_clean comment ≡ true →
    Gives (text_of lines ++ 125 ∷ 10 ∷ rest) (inner ++ bracket 125 ∷ symbols) →
    Gives (text_of ((47 ∷ 47 ∷ (comment ++ decimal number)) ∷ codes "{" ∷ (lines ++ codes "}" ∷ [])) ++ rest) ((bracket 123 ∷ (inner ++ bracket 125 ∷ [])) ++ symbols)
gives_group comment number lines inner rest symbols clean later =
    let tail : text_of (lines ++ codes "}" ∷ []) ≡ text_of lines ++ 125 ∷ 10 ∷ [] = flat_map-append (λ line. line ++ 10 ∷ []) lines (codes "}" ∷ []) in
    let whole : text_of ((47 ∷ 47 ∷ (comment ++ decimal number)) ∷ codes "{" ∷ (lines ++ codes "}" ∷ [])) ++ rest
    ≡ 47 ∷ 47 ∷ ((comment ++ decimal number) ++ 10 ∷ 123 ∷ 10 ∷ (text_of lines ++ 125 ∷ 10 ∷ rest)) =
    ap (λ more. (((47 ∷ 47 ∷ (comment ++ decimal number)) ++ 10 ∷ []) ++ (123 ∷ 10 ∷ more)) ++ rest) tail
    ∙ ap (λ more. 47 ∷ 47 ∷ more) (group_parts (comment ++ decimal number) (10 ∷ []) (123 ∷ 10 ∷ []) (text_of lines) (125 ∷ 10 ∷ []) rest) in
    let last : (bracket 123 ∷ (inner ++ bracket 125 ∷ [])) ++ symbols ≡ bracket 123 ∷ (inner ++ bracket 125 ∷ symbols) =
    ap (λ ss. bracket 123 ∷ ss) (append_assoc inner (bracket 125 ∷ []) symbols) in
    subst (λ text. Gives text ((bracket 123 ∷ (inner ++ bracket 125 ∷ [])) ++ symbols)) (sym whole)
    (subst (Gives (47 ∷ 47 ∷ ((comment ++ decimal number) ++ 10 ∷ 123 ∷ 10 ∷ (text_of lines ++ 125 ∷ 10 ∷ rest)))) (sym last)
    (gives_numbered_comment comment number (123 ∷ 10 ∷ (text_of lines ++ 125 ∷ 10 ∷ rest)) (bracket 123 ∷ (inner ++ bracket 125 ∷ symbols)) clean
    (gives_bracket 123 (text_of lines ++ 125 ∷ 10 ∷ rest) (inner ++ bracket 125 ∷ symbols) refl refl refl later)))
