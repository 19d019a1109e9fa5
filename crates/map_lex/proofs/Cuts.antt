-- Each text has one cut.
use Rattle.std.proofs.Common.{◌≡◌, ℕ, zero, suc, ◌+◌, ◌≤◌, Bool, true, false, not, ◌==◌, ◌||◌, cond, List, [], ◌∷◌, ◌++◌, length, drop, refl, sym, ◌∙◌, ap, subst, append_assoc, length-append, take-append-drop, arith, le_refl}
use Rattle.std.specs.List.{before_first, flat_map, position_or_len}
use Rattle.std.proofs.lemmas.List.{drop_at}
use Rattle.std.proofs.lemmas.Bool.{eqb-true, and_parts, both_ways}
use Rattle.map_lex.specs.Bytes.{is_blank, rest_of_line, up_to_blank, begins_comment}
use Rattle.map_lex.specs.Cut.{Piece, Blank, Comment, Quoted, Open, Word, bytes_of, begins_word, Stands, EachStands, IsCut}
use Rattle.map_lex.specs.Pieces.{quoted_from, piece_at, pieces_within, pieces_of}
use Rattle.map_lex.proofs.Fronts.{front-none, cond_true}
use Rattle.map_lex.proofs.Quotes.{Begins, quote_begins, closed_only, open_only}

-- the front before the first byte of a kind is that of itself and the rest
pub front_again : (p : ℕ → Bool) (text : List ℕ) → before_first p (before_first p text ++ drop (position_or_len p text) text) ≡ before_first p text
front_again p text = ap (before_first p) (take-append-drop (position_or_len p text) text)

none_of : (x y z : Bool) → not (x || y || z) ≡ true → (x ≡ false) × (y ≡ false) × (z ≡ false)
none_of true y z e = cc
none_of false true z e = cc
none_of false false true e = cc
none_of false false false e = (refl, refl, refl)

unfoldable pub comment_begins : (text : List ℕ) → Begins (Comment (rest_of_line text)) (47 ∷ 47 ∷ text)
comment_begins text =
    let length_of_line = position_or_len (λ b. b == 10) text in
    (drop length_of_line text, ap (λ t. 47 ∷ 47 ∷ t) (sym (take-append-drop length_of_line text)), front_again (λ b. b == 10) text)

comment_at : (b : ℕ) (text : List ℕ) → begins_comment (b ∷ text) ≡ true → Begins (Comment (rest_of_line (drop 1 text))) (b ∷ text)
comment_at b [] begins = cc
comment_at b (c ∷ text) begins =
    let parts = and_parts (b == 47) (c == 47) begins in
    let first = eqb-true b 47 parts.0 in
    let second = eqb-true c 47 parts.1 in
    subst (Begins (Comment (rest_of_line text))) (λ i. sym first i ∷ sym second i ∷ text) (comment_begins text)

unfoldable pub word_begins : (text : List ℕ) → begins_word text ≡ true → Begins (Word (up_to_blank text)) text
word_begins text begins =
    let length_of_word = position_or_len is_blank text in
    let whole : up_to_blank text ++ drop length_of_word text ≡ text = take-append-drop length_of_word text in
    (drop length_of_word text, sym whole, (subst (λ t. begins_word t ≡ true) (sym whole) begins, front_again is_blank text))

piece_step : (b : ℕ) (text : List ℕ) (blank quote comment : Bool) → is_blank b ≡ blank → (b == 34) ≡ quote → begins_comment (b ∷ text) ≡ comment →
    Begins (cond blank (Blank b) (cond quote (quoted_from [] text) (cond comment (Comment (rest_of_line (drop 1 text))) (Word (up_to_blank (b ∷ text)))))) (b ∷ text)
piece_step b text true quote comment is e f = (text, refl, is)
piece_step b text false true comment is e f = subst (λ c. Begins (quoted_from [] text) (c ∷ text)) (sym (eqb-true b 34 e)) (quote_begins text)
piece_step b text false false true is e f = comment_at b text f
piece_step b text false false false is e f = word_begins (b ∷ text) (λ i. not (is i || e i || f i))

piece_begins : (b : ℕ) (text : List ℕ) → Begins (piece_at b text) (b ∷ text)
piece_begins b text = piece_step b text (is_blank b) (b == 34) (begins_comment (b ∷ text)) refl refl refl

blank_at : (b : ℕ) (text : List ℕ) → is_blank b ≡ true → piece_at b text ≡ Blank b
blank_at b text is = cond_true (is_blank b) (Blank b) _ is

word_at : (b : ℕ) (text : List ℕ) → begins_word (b ∷ text) ≡ true → piece_at b text ≡ Word (up_to_blank (b ∷ text))
word_at b text begins =
    let no = none_of (is_blank b) (b == 34) (begins_comment (b ∷ text)) begins in
    λ i. cond (no.0 i) (Blank b) (cond (no.1 i) (quoted_from [] text) (cond (no.2 i) (Comment (rest_of_line (drop 1 text))) (Word (up_to_blank (b ∷ text)))))

same_piece : (b c : ℕ) (text more : List ℕ) → c ∷ more ≡ b ∷ text → piece_at b text ≡ piece_at c more
same_piece b c text more e =
    let first : b ≡ c = cc in
    let rest : text ≡ more = cc in
    λ i. piece_at (first i) (rest i)

-- no other piece stands at the front of a text
piece_only : (piece : Piece) (after : List ℕ) (b : ℕ) (text : List ℕ) → Stands piece after → bytes_of piece ++ after ≡ b ∷ text → piece_at b text ≡ piece
piece_only (Blank c) after b text stands e = same_piece b c text after e ∙ blank_at c after stands
piece_only (Comment t) after b text stands e = same_piece b 47 text (47 ∷ t ++ after) e ∙ ap Comment stands
piece_only (Quoted t) after b text stands e =
    same_piece b 34 text ((t ++ 34 ∷ []) ++ after) e ∙ ap (quoted_from []) (append_assoc t (34 ∷ []) after) ∙ closed_only t [] after stands.0 stands.1 stands.2
piece_only (Open t) after b text stands e = same_piece b 34 text (t ++ after) e ∙ open_only t [] after stands.0 stands.1
piece_only (Word t) after b text stands e =
    word_at b text (subst (λ r. begins_word r ≡ true) e stands.0) ∙ ap Word (ap up_to_blank (sym e) ∙ stands.1)

-- a piece has a byte
FirstByte : List ℕ → Type 0
FirstByte bytes = (b : ℕ) × (rest : List ℕ) × (bytes ≡ b ∷ rest)

word_bytes : (text after : List ℕ) → begins_word (text ++ after) ≡ true → up_to_blank (text ++ after) ≡ text → FirstByte text
unfolding FirstByte
word_bytes (b ∷ text) after begins whole = (b, text, refl)
word_bytes [] [] begins whole = cc
word_bytes [] (b ∷ after) begins whole =
    let blank : is_blank b ≡ true = front-none is_blank b after whole in
    let no = none_of (is_blank b) (b == 34) (begins_comment (b ∷ after)) begins in
    absurd (both_ways (is_blank b) no.0 blank)

piece_bytes : (piece : Piece) (after : List ℕ) → Stands piece after → FirstByte (bytes_of piece)
unfolding FirstByte
piece_bytes (Blank b) after stands = (b, [], refl)
piece_bytes (Comment t) after stands = (47, 47 ∷ t, refl)
piece_bytes (Quoted t) after stands = (34, t ++ 34 ∷ [], refl)
piece_bytes (Open t) after stands = (34, t, refl)
piece_bytes (Word t) after stands = word_bytes t after stands.0 stands.1

within_step : (n : ℕ) (piece : Piece) (after : List ℕ) → Stands piece after → pieces_within (suc n) (bytes_of piece ++ after) ≡ piece ∷ pieces_within n after
unfolding FirstByte
within_step n piece after stands =
    let first = piece_bytes piece after stands in
    let whole : bytes_of piece ++ after ≡ first.0 ∷ (first.1 ++ after) = ap (λ t. t ++ after) first.2 in
    let same = piece_only piece after first.0 (first.1 ++ after) stands whole in
    ap (pieces_within (suc n)) whole
    ∙ ap (λ q. q ∷ pieces_within n (drop (length (bytes_of q)) (first.0 ∷ (first.1 ++ after)))) same
    ∙ ap (λ t. piece ∷ pieces_within n (drop (length (bytes_of piece)) t)) (sym whole)
    ∙ ap (λ t. piece ∷ pieces_within n t) (drop_at (bytes_of piece) after (length (bytes_of piece)) refl)

-- a piece takes a byte or more
pub shorter : (piece : Piece) (after text : List ℕ) → Stands piece after → text ≡ bytes_of piece ++ after → length after + 1 ≤ length text
unfolding FirstByte
shorter piece after text stands whole =
    let first = piece_bytes piece after stands in
    omega (arith, ap length whole, length-append (bytes_of piece) after, ap length first.2)

only_pieces : (pieces : List Piece) (n : ℕ) → EachStands pieces → length (flat_map bytes_of pieces) ≤ n → pieces_within n (flat_map bytes_of pieces) ≡ pieces
only_pieces [] zero each fits = refl
only_pieces [] (suc n) each fits = refl
only_pieces (piece ∷ pieces) zero each fits =
    let short = shorter piece (flat_map bytes_of pieces) (bytes_of piece ++ flat_map bytes_of pieces) each.0 refl in absurd (omega arith)
only_pieces (piece ∷ pieces) (suc n) each fits =
    let short = shorter piece (flat_map bytes_of pieces) (bytes_of piece ++ flat_map bytes_of pieces) each.0 refl in
    within_step n piece (flat_map bytes_of pieces) each.0 ∙ ap (λ ps. piece ∷ ps) (only_pieces pieces n each.1 (omega arith))

some_pieces : (n : ℕ) (text : List ℕ) → length text ≤ n → IsCut text (pieces_within n text)
some_pieces zero [] fits = record { whole = refl; each = tt }
some_pieces zero (b ∷ text) fits = absurd (omega arith)
some_pieces (suc n) [] fits = record { whole = refl; each = tt }
some_pieces (suc n) (b ∷ text) fits =
    let begins = piece_begins b text in
    let piece = piece_at b text in
    let short = shorter piece begins.0 (b ∷ text) begins.2 begins.1 in
    let later = some_pieces n begins.0 (omega arith) in
    subst (IsCut (b ∷ text)) (sym (ap (pieces_within (suc n)) begins.1 ∙ within_step n piece begins.0 begins.2)) (record {
      whole = begins.1 ∙ ap (λ t. bytes_of piece ++ t) later.whole;
      each = (subst (Stands piece) later.whole begins.2, later.each);
    })

pub pieces_of-cut : (text : List ℕ) → IsCut text (pieces_of text)
unfolding pieces_of
pieces_of-cut text = some_pieces (length text) text (le_refl (length text))

pub pieces_of-only : (text : List ℕ) (pieces : List Piece) → IsCut text pieces → pieces ≡ pieces_of text
unfolding pieces_of
pieces_of-only text pieces cut =
    sym (ap (λ t. pieces_within (length t) t) cut.whole ∙ only_pieces pieces (length (flat_map bytes_of pieces)) cut.each (le_refl (length (flat_map bytes_of pieces))))

-- a piece at the front, and the pieces of what follows it
pub pieces_of-cons : (piece : Piece) (after : List ℕ) → Stands piece after → pieces_of (bytes_of piece ++ after) ≡ piece ∷ pieces_of after
pieces_of-cons piece after stands =
    let later = pieces_of-cut after in
    sym (pieces_of-only (bytes_of piece ++ after) (piece ∷ pieces_of after) (record {
      whole = ap (λ t. bytes_of piece ++ t) later.whole;
      each = (subst (Stands piece) later.whole stands, later.each);
    }))
