-- A quoted token: where it begins and ends is fixed by what follows it.
use Rattle.std.proofs.Common.{◌≡◌, ℕ, suc, ◌<◌, ◌≤◌, Bool, true, false, ◌==◌, ◌&&◌, cond, List, [], ◌∷◌, ◌++◌, length, take, drop, get_or, drop-cons, ⊎_elim, refl, sym, ◌∙◌, ap, subst, inl, inr, ◌⊎◌, append_assoc, append-nil}
use Rattle.std.proofs.lemmas.List.{drop_all}
use Rattle.std.proofs.lemmas.Bool.{cases_lt, eqb-true, eq-eqb, and_parts}
use Rattle.map_lex.specs.Bytes.{rest_of_line, closes}
use Rattle.map_lex.specs.Cut.{Piece, Quoted, Open, bytes_of, NoneCloses, Stands}
use Rattle.map_lex.specs.Pieces.{quoted_from}
use Rattle.map_lex.proofs.Fronts.{before_first-cons, before_first-append, front-cons, front-none, cond_true, cond_false}

-- the text begins with the piece
abbrev pub Begins : Piece → List ℕ → Type 0
Begins piece text = (after : List ℕ) × (text ≡ bytes_of piece ++ after) × Stands piece after

-- the ways to split a list and one more element at an element
split-push : (xs : List ℕ) (x : ℕ) (front : List ℕ) (y : ℕ) (back : List ℕ) → xs ++ x ∷ [] ≡ front ++ y ∷ back →
    ((back ≡ []) × (xs ≡ front) × (x ≡ y)) ⊎ ((rest : List ℕ) × (back ≡ rest ++ x ∷ []) × (xs ≡ front ++ y ∷ rest))
split-push [] x [] y back e = inl (cc, refl, cc)
split-push [] x (z ∷ []) y back e = cc
split-push [] x (z ∷ w ∷ front) y back e = cc
split-push (z ∷ xs) x [] y back e = inr (xs, cc, cc)
split-push (z ∷ xs) x (w ∷ front) y back e =
    elim (split-push xs x front y back cc) [ inl h ↦ inl (h.0, cc, h.2) | inr h ↦ inr (h.0, h.1, cc) ]

-- a byte joins those of a quoted token if it isn't a quote that closes it
none_closes-push : (before : List ℕ) (b : ℕ) (text : List ℕ) → NoneCloses before (b ∷ text) → (b == 34 && closes before text) ≡ false → NoneCloses (before ++ b ∷ []) text
none_closes-push before b text none stays front back split =
    elim (split-push before b front 34 back split) [
      | inl h ↦ ap (λ f. closes f (back ++ text)) (sym h.1) ∙ ap (λ k. closes before (k ++ text)) h.0 ∙ ap (λ t. t && closes before text) (sym (eq-eqb b 34 h.2)) ∙ stays
      | inr h ↦ ap (λ k. closes front (k ++ text)) h.1 ∙ ap (closes front) (append_assoc h.0 (b ∷ []) text) ∙ none front h.0 h.2
    ]

none_closes-empty : (after : List ℕ) → NoneCloses [] after
none_closes-empty after [] back split = cc
none_closes-empty after (b ∷ front) back split = cc

-- the next byte, where it ends the line, closes the token, or does neither
quoted_step : (before : List ℕ) (b : ℕ) (text : List ℕ) (ends quote : Bool) → (b == 10) ≡ ends → (b == 34 && closes before text) ≡ quote →
    rest_of_line before ≡ before → NoneCloses before (b ∷ text) →
    (rest_of_line (before ++ b ∷ []) ≡ before ++ b ∷ [] → NoneCloses (before ++ b ∷ []) text → Begins (quoted_from (before ++ b ∷ []) text) (34 ∷ (before ++ b ∷ []) ++ text)) →
    Begins (cond ends (Open before) (cond quote (Quoted before) (quoted_from (before ++ b ∷ []) text))) (34 ∷ before ++ b ∷ text)
quoted_step before b text true quote ends closing line none later = (
  b ∷ text,
  refl,
  (
    before_first-append (λ c. c == 10) before (b ∷ text) line ∙ ap (λ r. before ++ r) (before_first-cons (λ c. c == 10) b text ∙ cond_true (b == 10) [] (b ∷ rest_of_line text) ends) ∙ append-nil before,
    none,
  ),
)
quoted_step before b text false true ends closing line none later =
    let parts = and_parts (b == 34) (closes before text) closing in
    let quote : b ≡ 34 = eqb-true b 34 parts.0 in (
      text,
      ap (λ c. 34 ∷ before ++ c ∷ text) quote ∙ ap (λ t. 34 ∷ t) (sym (append_assoc before (34 ∷ []) text)),
      (line, subst (λ c. NoneCloses before (c ∷ text)) quote none, parts.1),
    )
quoted_step before b text false false ends closing line none later =
    let longer : rest_of_line (before ++ b ∷ []) ≡ before ++ b ∷ [] =
    before_first-append (λ c. c == 10) before (b ∷ []) line ∙ ap (λ r. before ++ r) (before_first-cons (λ c. c == 10) b [] ∙ cond_false (b == 10) [] (b ∷ []) ends) in
    subst (λ t. Begins (quoted_from (before ++ b ∷ []) text) (34 ∷ t)) (append_assoc before (b ∷ []) text) (later longer (none_closes-push before b text none closing))

-- the token or the open quote that a text begins, once these bytes of it are read
quoted_begins : (before text : List ℕ) → rest_of_line before ≡ before → NoneCloses before text → Begins (quoted_from before text) (34 ∷ before ++ text)
quoted_begins before [] line none = ([], refl, (ap rest_of_line (append-nil before) ∙ line, none))
quoted_begins before (b ∷ text) line none =
    quoted_step before b text (b == 10) (b == 34 && closes before text) refl refl line none (quoted_begins (before ++ b ∷ []) text)

pub quote_begins : (text : List ℕ) → Begins (quoted_from [] text) (34 ∷ text)
quote_begins text = quoted_begins [] text refl (none_closes-empty text)

-- a byte of a token that no quote closes earlier doesn't close it
passes : (before : List ℕ) (b : ℕ) (more after : List ℕ) → NoneCloses (before ++ b ∷ more) after → (b == 34 && closes before (more ++ after)) ≡ false
passes before b more after none = at_quote (b == 34) refl where
  at_quote : (quote : Bool) → (b == 34) ≡ quote → (quote && closes before (more ++ after)) ≡ false
  at_quote true e = none before more (ap (λ c. before ++ c ∷ more) (eqb-true b 34 e))
  at_quote false e = refl

pub closed_only : (more before after : List ℕ) → rest_of_line more ≡ more → NoneCloses (before ++ more) (34 ∷ after) → closes (before ++ more) after ≡ true → quoted_from before (more ++ 34 ∷ after) ≡ Quoted (before ++ more)
closed_only [] before after line none closing =
    cond_true (closes before after) (Quoted before) (quoted_from (before ++ 34 ∷ []) after) (ap (λ f. closes f after) (sym (append-nil before)) ∙ closing) ∙ ap Quoted (sym (append-nil before))
closed_only (b ∷ more) before after line none closing =
    let parts = front-cons (λ c. c == 10) b more more line in
    let regroup : before ++ b ∷ more ≡ (before ++ b ∷ []) ++ more = sym (append_assoc before (b ∷ []) more) in
    let rest = more ++ 34 ∷ after in
    cond_false (b == 10) (Open before) (cond (b == 34 && closes before rest) (Quoted before) (quoted_from (before ++ b ∷ []) rest)) parts.0
    ∙ cond_false (b == 34 && closes before rest) (Quoted before) (quoted_from (before ++ b ∷ []) rest) (passes before b more (34 ∷ after) none)
    ∙ closed_only more (before ++ b ∷ []) after parts.1 (subst (λ t. NoneCloses t (34 ∷ after)) regroup none) (ap (λ t. closes t after) (sym regroup) ∙ closing)
    ∙ ap Quoted (sym regroup)

pub open_only : (more before after : List ℕ) → rest_of_line (more ++ after) ≡ more → NoneCloses (before ++ more) after → quoted_from before (more ++ after) ≡ Open (before ++ more)
open_only [] before [] line none = ap Open (sym (append-nil before))
open_only [] before (b ∷ after) line none =
    cond_true (b == 10) (Open before) (cond (b == 34 && closes before after) (Quoted before) (quoted_from (before ++ b ∷ []) after)) (front-none (λ c. c == 10) b after line) ∙ ap Open (sym (append-nil before))
open_only (b ∷ more) before after line none =
    let parts = front-cons (λ c. c == 10) b (more ++ after) more line in
    let regroup : before ++ b ∷ more ≡ (before ++ b ∷ []) ++ more = sym (append_assoc before (b ∷ []) more) in
    let rest = more ++ after in
    cond_false (b == 10) (Open before) (cond (b == 34 && closes before rest) (Quoted before) (quoted_from (before ++ b ∷ []) rest)) parts.0
    ∙ cond_false (b == 34 && closes before rest) (Quoted before) (quoted_from (before ++ b ∷ []) rest) (passes before b more after none)
    ∙ open_only more (before ++ b ∷ []) after parts.1 (subst (λ t. NoneCloses t after) regroup none)
    ∙ ap Open (sym regroup)

-- an open quote takes the rest of its line
pub open_is_line : (text front : List ℕ) → quoted_from [] text ≡ Open front → quoted_from [] text ≡ Open (rest_of_line text)
open_is_line text front is =
    let begins : Begins (Open front) (34 ∷ text) = subst (λ p. Begins p (34 ∷ text)) is (quote_begins text) in
    is ∙ ap Open (sym begins.2.0 ∙ ap rest_of_line (sym (ap (drop 1) begins.1)))

-- reading on to the line's end without a quote that closes
pub open_at : (text : List ℕ) (i : ℕ) → quoted_from (take i text) (drop i text) ≡ quoted_from [] text → (i < length text → get_or text i 0 ≡ 10) → quoted_from [] text ≡ Open (rest_of_line text)
open_at text i so_far ends =
    open_is_line text (take i text) (sym so_far ∙ ⊎_elim inside past (cases_lt i (length text))) where
      inside : i < length text → quoted_from (take i text) (drop i text) ≡ Open (take i text)
      inside within =
          ap (quoted_from (take i text)) (drop-cons text i 0 within ∙ ap (λ b. b ∷ drop (suc i) text) (ends within))

      past : length text ≤ i → quoted_from (take i text) (drop i text) ≡ Open (take i text)
      past over = ap (quoted_from (take i text)) (drop_all i text over)
