-- The words that are left of a line, word by word.
use Rattle.std.proofs.Common.{◌≡◌, ℕ, zero, suc, ◌+◌, ◌<◌, ◌≤◌, Bool, true, false, not, cond, List, [], ◌∷◌, length, take, drop, get_or, eq-eqb, ◌≢◌, Option, Some, None, position, length-drop, refl, sym, ap, ◌∙◌, subst, arith}
use Rattle.std.proofs.lemmas.Bool.{ne_eqb}
use Rattle.std.specs.List.{position_or_len, list_any}
use Rattle.cmd_text.specs.Cut.{is_blank, is_quote, stands_apart}
use Rattle.cmd_text.specs.Pieces.{WordsLeft, no_more, put_first, behind_blanks, Begin, Ends, Stops, Begins, begins_apart, quoted_at, plain_at, begin_of, words_by, words_within, words_left}

-- a word that was begun leaves fewer bytes
pub Leaves : ℕ → Begin → Type 0
Leaves n Ends = Unit {0}
Leaves n Stops = Unit {0}
Leaves n (Begins word rest) = length rest < n

leaves_apart : (n : ℕ) (word rest : List ℕ) → length rest < n → Leaves n (begins_apart word rest)
unfolding Leaves
leaves_apart n word rest h = elim (stands_apart rest) as (λ t. Leaves n (cond t (Begins word rest) Stops)) [ true ↦ h | false ↦ tt ]

leaves_quoted : (n : ℕ) (text : List ℕ) (place : Option ℕ) → length text < n → Leaves n (quoted_at text place)
unfolding Leaves
leaves_quoted n text None h = tt
leaves_quoted n text (Some end) h = leaves_apart n (take end text) (drop (end + 1) text) (omega (arith, length-drop (end + 1) text))

leaves_plain : (n : ℕ) (text : List ℕ) (end : ℕ) → length text ≤ n → 0 < end → 0 < length text → Leaves n (plain_at text end)
unfolding Leaves
leaves_plain n text end h k some =
    let short : length (drop end text) < n = omega (arith, length-drop end text) in
    elim (list_any is_quote (take end text)) as (λ t. Leaves n (cond t Stops (Begins (take end text) (drop end text)))) [ true ↦ tt | false ↦ short ]

pub blanks-cons : (b : ℕ) (text : List ℕ) (t : Bool) → is_blank b ≡ t → behind_blanks (b ∷ text) ≡ cond t (behind_blanks text) (b ∷ text)
blanks-cons b text t e = ap (λ s. cond s (behind_blanks text) (b ∷ text)) e

-- what stands behind the blanks begins with no blank
unfoldable pub BeginsFull : List ℕ → Type 0
BeginsFull [] = Unit {0}
BeginsFull (b ∷ text) = is_blank b ≡ false

pub no_blank_first : (text : List ℕ) → BeginsFull (behind_blanks text)
unfolding BeginsFull
no_blank_first [] = tt
no_blank_first (b ∷ text) = by (is_blank b) refl (no_blank_first text)
  where
    by : (t : Bool) → is_blank b ≡ t → BeginsFull (behind_blanks text) → BeginsFull (behind_blanks (b ∷ text))
    by true e rest = subst BeginsFull (sym (blanks-cons b text true e)) rest
    by false e rest = subst BeginsFull (sym (blanks-cons b text false e)) e

pub no_longer : (text : List ℕ) → length (behind_blanks text) ≤ length text
no_longer [] = omega arith
no_longer (b ∷ text) = by (is_blank b) refl (no_longer text)
  where
    by : (t : Bool) → is_blank b ≡ t → length (behind_blanks text) ≤ length text → length (behind_blanks (b ∷ text)) ≤ length (b ∷ text)
    by true e rest = omega (arith, ap length (blanks-cons b text true e), rest)
    by false e rest = omega (arith, ap length (blanks-cons b text false e))

pub full_word : (b : ℕ) (text : List ℕ) → is_blank b ≡ false → 0 < position_or_len is_blank (b ∷ text)
full_word b text e = let k : position_or_len is_blank (b ∷ text) ≡ 1 + position_or_len is_blank text = ap (λ t. cond (not t) (1 + position_or_len is_blank text) 0) e in omega (arith, k)

begin_leaves : (n : ℕ) (text : List ℕ) → length text ≤ n → BeginsFull text → Leaves n (begin_of text)
unfolding Leaves BeginsFull
begin_leaves n [] h full = tt
begin_leaves n (b ∷ text) h full =
    elim (is_quote b) as (λ t. Leaves n (cond t (quoted_at text (position is_quote text)) (plain_at (b ∷ text) (position_or_len is_blank (b ∷ text))))) [
      | true ↦ leaves_quoted n text (position is_quote text) (omega (arith, h))
      | false ↦ leaves_plain n (b ∷ text) (position_or_len is_blank (b ∷ text)) h (full_word b text full) (omega arith)
    ]

pub leaves_less : (text : List ℕ) → Leaves (length text) (begin_of (behind_blanks text))
leaves_less text = begin_leaves (length text) (behind_blanks text) (no_longer text) (no_blank_first text)

-- two ways of going on agree where the rest is shorter
by_begin : (f g : List ℕ → WordsLeft) (n : ℕ) (begin : Begin) → Leaves n begin → ((rest : List ℕ) → length rest < n → f rest ≡ g rest) → words_by f begin ≡ words_by g begin
unfolding Leaves
by_begin f g n Ends less same = refl
by_begin f g n Stops less same = refl
by_begin f g n (Begins word rest) less same = ap (put_first word) (same rest less)

-- enough is as good as more
same_within : (n m : ℕ) (text : List ℕ) → length text ≤ n → length text ≤ m → words_within n text ≡ words_within m text
same_within zero zero text h k = refl
same_within zero (suc m) [] h k = refl
same_within zero (suc m) (b ∷ text) h k = absurd (omega (arith, h))
same_within (suc n) zero [] h k = refl
same_within (suc n) zero (b ∷ text) h k = absurd (omega (arith, k))
same_within (suc n) (suc m) text h k =
    by_begin (words_within n) (words_within m) (length text) (begin_of (behind_blanks text)) (leaves_less text) (λ rest less. same_within n m rest (omega arith) (omega arith))

-- the words of a text by its front
pub left_by : (text : List ℕ) → words_left text ≡ words_by words_left (begin_of (behind_blanks text))
unfolding words_left
left_by text =
    same_within (length text) (suc (length text)) text (omega arith) (omega arith)
    ∙ by_begin (words_within (length text)) (λ rest. words_within (length rest) rest) (length text) (begin_of (behind_blanks text)) (leaves_less text) (λ rest less. same_within (length text) (length rest) rest (omega arith) (omega arith))

pub left_end : (text front : List ℕ) → front ≡ behind_blanks text → length front < 1 → words_left text ≡ no_more
left_end text [] e h = left_by text ∙ ap (λ t. words_by words_left (begin_of t)) (sym e)
left_end text (b ∷ front) e h = absurd (omega (arith, h))

pub left_quoted : (text front : List ℕ) → front ≡ behind_blanks text → 0 < length front → get_or front 0 0 ≡ 34 → words_left text ≡ words_by words_left (quoted_at (drop 1 front) (position is_quote (drop 1 front)))
left_quoted text [] e h q = absurd (omega (arith, h))
left_quoted text (b ∷ front) e h q = left_by text ∙ ap (λ t. words_by words_left (begin_of t)) (sym e) ∙ ap (λ t. words_by words_left (cond t (quoted_at front (position is_quote front)) (plain_at (b ∷ front) (position_or_len is_blank (b ∷ front))))) (eq-eqb b 34 q)

pub left_plain : (text front : List ℕ) → front ≡ behind_blanks text → 0 < length front → get_or front 0 0 ≢ 34 → words_left text ≡ words_by words_left (plain_at front (position_or_len is_blank front))
left_plain text [] e h q = absurd (omega (arith, h))
left_plain text (b ∷ front) e h q = left_by text ∙ ap (λ t. words_by words_left (begin_of t)) (sym e) ∙ ap (λ t. words_by words_left (cond t (quoted_at front (position is_quote front)) (plain_at (b ∷ front) (position_or_len is_blank (b ∷ front))))) (ne_eqb b 34 q)

pub apart_plain : (text front : List ℕ) → front ≡ behind_blanks text → 0 < length front → not (stands_apart front) ≡ true
unfolding BeginsFull
apart_plain text [] e h = absurd (omega (arith, h))
apart_plain text (b ∷ front) e h =
    let full : is_blank b ≡ false = subst BeginsFull (sym e) (no_blank_first text) in ap not full

-- no more words than bytes
count_within : (n : ℕ) (text : List ℕ) → length (words_within n text).list ≤ n
count_within zero text = omega arith
count_within (suc n) text = by (begin_of (behind_blanks text)) (λ rest. count_within n rest)
  where
    by : (begin : Begin) → ((rest : List ℕ) → length (words_within n rest).list ≤ n) → length (words_by (words_within n) begin).list ≤ suc n
    by Ends few = omega arith
    by Stops few = omega arith
    by (Begins word rest) few = omega (arith, few rest)

pub count_left : (text : List ℕ) → length (words_left text).list ≤ length text
unfolding words_left
count_left text = count_within (length text) text
