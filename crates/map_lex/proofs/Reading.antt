-- The tokens that are left of a text, piece by piece.
use Rattle.std.proofs.Common.{◌≡◌, ◌≢◌, ℕ, suc, ◌+◌, ◌-◌, ◌<◌, ◌≤◌, Bool, true, false, ◌==◌, cond, List, [], ◌∷◌, ◌++◌, length, take, drop, get_or, add-one, drop-cons, eq-eqb, refl, sym, ◌∙◌, ap, subst, length-append, length-take-le, arith}
use Rattle.std.specs.List.{flat_map, position_or_len, list_any}
use Rattle.std.proofs.lemmas.List.{drop_at, take_all, take_rest}
use Rattle.std.proofs.lemmas.Bool.{ne_eqb}
use Rattle.map_lex.specs.declared.lexer.LexFault.TheVariants.{OpenQuote, StrayByte}
use Rattle.map_lex.specs.Bytes.{is_blank, is_stray, rest_of_line, up_to_blank}
use Rattle.map_lex.specs.Cut.{Piece, Blank, Comment, Quoted, Open, Word, bytes_of, begins_word, Stands, EachStands}
use Rattle.map_lex.specs.Pieces.{quoted_from, pieces_of}
use Rattle.map_lex.specs.TokenList.{TokenList, no_more, stopped, put_first, unless_stray, tokens_from, tokens_left, token_list, without_mark, AreTokensOf}
use Rattle.map_lex.proofs.Fronts.{cond_true, cond_false}
use Rattle.map_lex.proofs.Quotes.{Begins, quote_begins}
use Rattle.map_lex.proofs.Cuts.{comment_begins, word_begins, pieces_of-cut, pieces_of-only, pieces_of-cons, shorter}

pub token_list-are : (text : List ℕ) → AreTokensOf (token_list text) text
unfolding token_list tokens_left
token_list-are text = (pieces_of (without_mark text), pieces_of-cut (without_mark text), refl)

pub token_list-only : (text : List ℕ) (list : TokenList) → AreTokensOf list text → list ≡ token_list text
unfolding token_list tokens_left
token_list-only text list are = are.2 ∙ ap (tokens_from 1) (pieces_of-only (without_mark text) are.0 are.1)

-- a piece at the front is read first
left-cons : (line : ℕ) (piece : Piece) (after text : List ℕ) → text ≡ bytes_of piece ++ after → Stands piece after → tokens_left line text ≡ tokens_from line (piece ∷ pieces_of after)
unfolding tokens_left
left-cons line piece after text whole stands = ap (tokens_from line) (ap pieces_of whole ∙ pieces_of-cons piece after stands)

pub left_end : (line : ℕ) → tokens_left line [] ≡ no_more
unfolding tokens_left pieces_of
left_end line = refl

pub left_empty : (line : ℕ) (text : List ℕ) → length text < 1 → tokens_left line text ≡ no_more
left_empty line [] short = left_end line
left_empty line (b ∷ text) short = absurd (omega arith)

pub left-blank : (line b : ℕ) (text : List ℕ) → is_blank b ≡ true → tokens_left line (b ∷ text) ≡ tokens_left (cond (b == 10) (line + 1) line) text
unfolding tokens_left
left-blank line b text blank = left-cons line (Blank b) text (b ∷ text) refl blank

pub space_passed : (line : ℕ) (text : List ℕ) → 1 ≤ length text → get_or text 0 0 ≡ 32 → tokens_left line text ≡ tokens_left line (take (length text - 1) (drop 1 text))
space_passed line [] some is = absurd (omega arith)
space_passed line (b ∷ text) some is =
    ap (λ c. tokens_left line (c ∷ text)) is ∙ left-blank line 32 text refl ∙ ap (tokens_left line) (sym (take_all (length (b ∷ text) - 1) text (omega arith)))

pub line_passed : (line : ℕ) (text : List ℕ) → 1 ≤ length text → get_or text 0 0 ≡ 10 → tokens_left line text ≡ tokens_left (line + 1) (take (length text - 1) (drop 1 text))
line_passed line [] some is = absurd (omega arith)
line_passed line (b ∷ text) some is =
    ap (λ c. tokens_left line (c ∷ text)) is ∙ left-blank line 10 text refl ∙ ap (tokens_left (line + 1)) (sym (take_all (length (b ∷ text) - 1) text (omega arith)))

left_at : (line : ℕ) (text : List ℕ) (i : ℕ) → i < length text → is_blank (get_or text i 0) ≡ true →
    tokens_left line (drop i text) ≡ tokens_left (cond (get_or text i 0 == 10) (line + 1) line) (drop (i + 1) text)
left_at line text i within blank = rw (add-one i) (ap (tokens_left line) (drop-cons text i 0 within) ∙ left-blank line (get_or text i 0) (drop (suc i) text) blank)

-- the next blank is passed
pub feed_passed : (line : ℕ) (text : List ℕ) (i : ℕ) → i < length text → get_or text i 0 ≡ 10 → tokens_left (line + 1) (drop (i + 1) text) ≡ tokens_left line (drop i text)
feed_passed line text i within feed =
    sym (left_at line text i within (ap is_blank feed) ∙ ap (λ n. tokens_left n (drop (i + 1) text)) (cond_true (get_or text i 0 == 10) (line + 1) line (eq-eqb _ _ feed)))

pub blank_passed : (line : ℕ) (text : List ℕ) (i : ℕ) → i < length text → is_blank (get_or text i 0) ≡ true → get_or text i 0 ≢ 10 → tokens_left line (drop (i + 1) text) ≡ tokens_left line (drop i text)
blank_passed line text i within blank other =
    sym (left_at line text i within blank ∙ ap (λ n. tokens_left n (drop (i + 1) text)) (cond_false (get_or text i 0 == 10) (line + 1) line (ne_eqb _ _ other)))

-- a stray byte in a piece is the fault
at_stray : (text front : List ℕ) (line : ℕ) (list left : TokenList) → left ≡ unless_stray text line list → front ≡ text → list_any is_stray front ≡ true → left ≡ stopped (StrayByte line)
at_stray text front line list left is same stray =
    is ∙ cond_true (list_any is_stray text) (stopped (StrayByte line)) list (ap (list_any is_stray) (sym same) ∙ stray)

at_clean : (text front : List ℕ) (line : ℕ) (list left : TokenList) → left ≡ unless_stray text line list → front ≡ text → list_any is_stray front ≡ false → left ≡ list
at_clean text front line list left is same clean =
    is ∙ cond_false (list_any is_stray text) (stopped (StrayByte line)) list (ap (list_any is_stray) (sym same) ∙ clean)

-- the bytes of a text before and behind a place
pub record Parts (text front rest : List ℕ) (len : ℕ) : Type 0 where
  pub is_front : front ≡ take len text
  pub is_rest : rest ≡ drop len text

left-comment : (line : ℕ) (text : List ℕ) → tokens_left line (47 ∷ 47 ∷ text) ≡ unless_stray (rest_of_line text) line (tokens_left line (drop (position_or_len (λ b. b == 10) text) text))
unfolding tokens_left comment_begins
left-comment line text =
    let begins = comment_begins text in left-cons line (Comment (rest_of_line text)) begins.0 (47 ∷ 47 ∷ text) begins.1 begins.2

module _ (line : ℕ) {text front rest : List ℕ} {len : ℕ} (parts : Parts text front rest len) (ends : len ≡ position_or_len (λ b. b == 10) text) where
  pub comment_stray : list_any is_stray front ≡ true → tokens_left line (47 ∷ 47 ∷ text) ≡ stopped (StrayByte line)
  comment_stray = at_stray (rest_of_line text) front line _ _ (left-comment line text) (parts.is_front ∙ ap (λ n. take n text) ends)

  pub comment_clean : list_any is_stray front ≡ false → tokens_left line (47 ∷ 47 ∷ text) ≡ tokens_left line rest
  comment_clean clean =
      at_clean (rest_of_line text) front line _ _ (left-comment line text) (parts.is_front ∙ ap (λ n. take n text) ends) clean
      ∙ ap (tokens_left line) (sym (parts.is_rest ∙ ap (λ n. drop n text) ends))

left-word : (line : ℕ) (text : List ℕ) → begins_word text ≡ true →
    tokens_left line text ≡ unless_stray (up_to_blank text) line (put_first (record { text = up_to_blank text; quoted = false; line = line }) (tokens_left line (drop (position_or_len is_blank text) text)))
unfolding tokens_left word_begins
left-word line text first =
    let begins = word_begins text first in left-cons line (Word (up_to_blank text)) begins.0 text begins.1 begins.2

pub word_stray : (line : ℕ) (text : List ℕ) → begins_word text ≡ true → list_any is_stray (up_to_blank text) ≡ true → tokens_left line text ≡ stopped (StrayByte line)
word_stray line text first = at_stray (up_to_blank text) (up_to_blank text) line _ _ (left-word line text first) refl

module _ (line : ℕ) {text front rest : List ℕ} {len : ℕ} (parts : Parts text front rest len) (first : begins_word text ≡ true) (ends : len ≡ position_or_len is_blank text) where
  pub word_clean : list_any is_stray front ≡ false → tokens_left line text ≡ put_first (record { text = front; quoted = false; line = line }) (tokens_left line rest)
  word_clean clean =
      let whole : front ≡ up_to_blank text = parts.is_front ∙ ap (λ n. take n text) ends in
      let left : rest ≡ drop (position_or_len is_blank text) text = parts.is_rest ∙ ap (λ n. drop n text) ends in
      at_clean (up_to_blank text) front line _ _ (left-word line text first) whole clean
      ∙ (λ i. put_first (record { text = sym whole i; quoted = false; line = line }) (tokens_left line (sym left i)))

left-quoted : (line : ℕ) (text front : List ℕ) → quoted_from [] text ≡ Quoted front →
    tokens_left line (34 ∷ text) ≡ unless_stray front line (put_first (record { text = front; quoted = true; line = line }) (tokens_left line (drop (length front + 1) text)))
unfolding tokens_left
left-quoted line text front is =
    let begins : Begins (Quoted front) (34 ∷ text) = subst (λ p. Begins p (34 ∷ text)) is (quote_begins text) in
    let after = begins.0 in
    let whole : text ≡ (front ++ 34 ∷ []) ++ after = ap (drop 1) begins.1 in
    let rest : drop (length front + 1) text ≡ after =
    ap (drop (length front + 1)) whole ∙ drop_at (front ++ 34 ∷ []) after (length front + 1) (length-append front (34 ∷ [])) in
    left-cons line (Quoted front) after (34 ∷ text) begins.1 begins.2
    ∙ ap (λ t. unless_stray front line (put_first (record { text = front; quoted = true; line = line }) (tokens_left line t))) (sym rest)

module _ (line : ℕ) (text : List ℕ) (len : ℕ) (within : len < length text) (closed : quoted_from [] text ≡ Quoted (take len text)) where
  pub quoted_stray : list_any is_stray (take len text) ≡ true → tokens_left line (34 ∷ text) ≡ stopped (StrayByte line)
  quoted_stray = at_stray (take len text) (take len text) line _ _ (left-quoted line text (take len text) closed) refl

  pub quoted_clean : list_any is_stray (take len text) ≡ false → tokens_left line (34 ∷ text) ≡ put_first (record { text = take len text; quoted = true; line = line }) (tokens_left line (take (length text - (len + 1)) (drop (len + 1) text)))
  quoted_clean clean =
      at_clean (take len text) (take len text) line _ _ (left-quoted line text (take len text) closed) refl clean
      ∙ ap (λ n. put_first (record { text = take len text; quoted = true; line = line }) (tokens_left line (drop (n + 1) text))) (length-take-le len text (omega arith))
      ∙ ap (λ t. put_first (record { text = take len text; quoted = true; line = line }) (tokens_left line t)) (sym (take_rest text (len + 1)))

left-open : (line : ℕ) (text front : List ℕ) → quoted_from [] text ≡ Open front → tokens_left line (34 ∷ text) ≡ unless_stray front line (stopped (OpenQuote line))
unfolding tokens_left
left-open line text front is =
    let begins : Begins (Open front) (34 ∷ text) = subst (λ p. Begins p (34 ∷ text)) is (quote_begins text) in
    left-cons line (Open front) begins.0 (34 ∷ text) begins.1 begins.2

module _ (line : ℕ) (text : List ℕ) (len : ℕ) (whole_line : quoted_from [] text ≡ Open (rest_of_line text)) (ends : len ≡ position_or_len (λ b. b == 10) text) where
  pub open_stray : list_any is_stray (take len text) ≡ true → tokens_left line (34 ∷ text) ≡ stopped (StrayByte line)
  open_stray = at_stray (rest_of_line text) (take len text) line _ _ (left-open line text (rest_of_line text) whole_line) (ap (λ n. take n text) ends)

  pub open_clean : list_any is_stray (take len text) ≡ false → tokens_left line (34 ∷ text) ≡ stopped (OpenQuote line)
  open_clean = at_clean (rest_of_line text) (take len text) line _ _ (left-open line text (rest_of_line text) whole_line) (ap (λ n. take n text) ends)

-- a piece gives one token at most
count_unless_stray : (text : List ℕ) (line : ℕ) (list : TokenList) → length (unless_stray text line list).tokens ≤ length list.tokens
count_unless_stray text line list = at (list_any is_stray text) where
  at : (stray : Bool) → length (cond stray (stopped (StrayByte line)) list).tokens ≤ length list.tokens
  at true = omega arith
  at false = omega arith

count_of_pieces : (line : ℕ) (pieces : List Piece) → EachStands pieces → length (tokens_from line pieces).tokens ≤ length (flat_map bytes_of pieces)
count_of_pieces line [] each = omega arith
count_of_pieces line (Blank b ∷ pieces) each =
    omega (arith, count_of_pieces (cond (b == 10) (line + 1) line) pieces each.1, shorter (Blank b) (flat_map bytes_of pieces) (b ∷ flat_map bytes_of pieces) each.0 refl)
count_of_pieces line (Comment t ∷ pieces) each =
    omega (arith, count_unless_stray t line (tokens_from line pieces), count_of_pieces line pieces each.1, shorter (Comment t) (flat_map bytes_of pieces) _ each.0 refl)
count_of_pieces line (Quoted t ∷ pieces) each =
    omega (arith, count_unless_stray t line (put_first (record { text = t; quoted = true; line = line }) (tokens_from line pieces)), count_of_pieces line pieces each.1, shorter (Quoted t) (flat_map bytes_of pieces) _ each.0 refl)
count_of_pieces line (Open t ∷ pieces) each = omega (arith, count_unless_stray t line (stopped (OpenQuote line)))
count_of_pieces line (Word t ∷ pieces) each =
    omega (arith, count_unless_stray t line (put_first (record { text = t; quoted = false; line = line }) (tokens_from line pieces)), count_of_pieces line pieces each.1, shorter (Word t) (flat_map bytes_of pieces) _ each.0 refl)

-- a text has no more tokens than bytes
pub count_left : (line : ℕ) (text : List ℕ) → length (tokens_left line text).tokens ≤ length text
unfolding tokens_left
count_left line text =
    let cut = pieces_of-cut text in
    omega (arith, count_of_pieces line (pieces_of text) cut.each, ap length cut.whole)
