-- The words of a text, cut off from the front.
use Rattle.std.proofs.Common.{◌≡◌, ℕ, suc, ◌+◌, ◌-◌, ◌<◌, ◌≤◌, Bool, true, false, cond, List, [], ◌∷◌, ◌++◌, take, drop, length, get_or, refl, sym, ap, ◌∙◌, arith}
use Rattle.std.proofs.Math.Seq.{drop-cons, take-suc}
use Rattle.std.proofs.lemmas.Bool.{false≢true}
use Rattle.std.proofs.Math.ListN.{drop_of_length-le}
use Rattle.std.proofs.lemmas.List.{take_all, length-drop}
use Rattle.orient48.specs.MotionTexts.{is_blank, begins_blank, put_front, words_of}
use Rattle.orient48.specs.Reading.{after_blanks}

abbrev pub put_all : List ℕ → List (List ℕ) → List (List ℕ)
put_all [] ws = ws
put_all (b ∷ p) ws = put_front b (put_all p ws)

put_all-none : (p : List ℕ) (W : List (List ℕ)) → put_all p ([] ∷ W) ≡ p ∷ W
put_all-none [] W = refl
put_all-none (b ∷ p) W = ap (put_front b) (put_all-none p W)

put_all-more : (p : List ℕ) (b : ℕ) (W : List (List ℕ)) → put_all (p ++ b ∷ []) W ≡ put_all p (put_front b W)
put_all-more [] b W = refl
put_all-more (c ∷ p) b W = ap (put_front c) (put_all-more p b W)

-- the first k bytes are part of the first word
pub record GoesOn (text : List ℕ) (k : ℕ) : Type 0 where
  pub is : words_of text ≡ put_all (take k text) (words_of (drop k text))

pub begins : (text : List ℕ) → GoesOn text 0
begins text = record { is = refl }

plain_byte : (b : ℕ) (text : List ℕ) → is_blank b ≡ false → words_of (b ∷ text) ≡ put_front b (words_of text)
plain_byte b text e = ap (λ t. cond t (cond (begins_blank text) (words_of text) ([] ∷ words_of text)) (put_front b (words_of text))) e

one_more : (k : ℕ) → suc k ≡ k + 1
one_more k = omega arith

pub goes_on : (text : List ℕ) (k : ℕ) → k < length text → is_blank (get_or text k 0) ≡ false → GoesOn text k → GoesOn text (k + 1)
goes_on text k l e g = record {
  is = g.is ∙ ap (put_all (take k text)) (ap words_of (drop-cons text k 0 l) ∙ plain_byte (get_or text k 0) (drop (suc k) text) e)
      ∙ sym (put_all-more (take k text) (get_or text k 0) (words_of (drop (suc k) text)))
      ∙ ap (λ p. put_all p (words_of (drop (suc k) text))) (sym (take-suc text k 0 l))
      ∙ ap (λ n. put_all (take n text) (words_of (drop n text))) (one_more k);
}

-- ---- blanks
no_blanks : (text : List ℕ) → begins_blank text ≡ false → after_blanks text ≡ text
no_blanks [] e = refl
no_blanks (b ∷ text) e = ap (λ t. cond t (after_blanks text) (b ∷ text)) e

blank_byte : (b : ℕ) (text : List ℕ) → is_blank b ≡ true → after_blanks (b ∷ text) ≡ after_blanks text
blank_byte b text e = ap (λ t. cond t (after_blanks text) (b ∷ text)) e

blank_front : (b : ℕ) (text : List ℕ) (c : Bool) → is_blank b ≡ true → begins_blank text ≡ c → words_of (b ∷ text) ≡ cond c (words_of text) ([] ∷ words_of text)
blank_front b text c e f =
    ap (λ t. cond t (cond (begins_blank text) (words_of text) ([] ∷ words_of text)) (put_front b (words_of text))) e
    ∙ ap (λ t. cond t (words_of text) ([] ∷ words_of text)) f

gap_at : (b : ℕ) (text : List ℕ) (c : Bool) → is_blank b ≡ true → begins_blank text ≡ c → (c ≡ true → words_of text ≡ [] ∷ words_of (after_blanks text)) →
    words_of (b ∷ text) ≡ [] ∷ words_of (after_blanks (b ∷ text))
gap_at b text true e f h = blank_front b text true e f ∙ h refl ∙ ap (λ t. [] ∷ words_of t) (sym (blank_byte b text e))
gap_at b text false e f h = blank_front b text false e f ∙ ap (λ t. [] ∷ words_of t) (sym (blank_byte b text e ∙ no_blanks text f))

gap : (text : List ℕ) → begins_blank text ≡ true → words_of text ≡ [] ∷ words_of (after_blanks text)
gap [] e = absurd (false≢true e)
gap (b ∷ text) e = gap_at b text (begins_blank text) e refl (λ f. gap text f)

pub blanks_go_on : (text : List ℕ) (k : ℕ) → k < length text → is_blank (get_or text k 0) ≡ true → after_blanks (drop k text) ≡ after_blanks text → after_blanks (drop (k + 1) text) ≡ after_blanks text
blanks_go_on text k l e h =
    ap (λ n. after_blanks (drop n text)) (sym (one_more k)) ∙ sym (blank_byte (get_or text k 0) (drop (suc k) text) e)
    ∙ ap after_blanks (sym (drop-cons text k 0 l)) ∙ h

pub blanks_end : (text : List ℕ) (k : ℕ) → k < length text → is_blank (get_or text k 0) ≡ false → after_blanks (drop k text) ≡ after_blanks text → drop k text ≡ after_blanks text
blanks_end text k l e h =
    sym (ap after_blanks (drop-cons text k 0 l) ∙ ap (λ t. cond t (after_blanks (drop (suc k) text)) (get_or text k 0 ∷ drop (suc k) text)) e ∙ sym (drop-cons text k 0 l)) ∙ h

pub all_blanks : (text : List ℕ) (k : ℕ) → length text ≤ k → after_blanks (drop k text) ≡ after_blanks text → [] ≡ after_blanks text
all_blanks text k l h = ap after_blanks (sym (drop_of_length-le text l)) ∙ h

-- the rest of a text, as a slice gives it
pub slice_end : (text : List ℕ) (k : ℕ) → take (length text - k) (drop k text) ≡ drop k text
slice_end text k = take_all (length text - k) (drop k text) (let e = length-drop k text in omega (arith, e))

-- ---- the first word
pub word_ends : (text : List ℕ) (k : ℕ) → k < length text → is_blank (get_or text k 0) ≡ true → GoesOn text k → words_of text ≡ take k text ∷ words_of (after_blanks (drop k text))
word_ends text k l e g =
    g.is ∙ ap (put_all (take k text)) (gap (drop k text) (ap begins_blank (drop-cons text k 0 l) ∙ e)) ∙ put_all-none (take k text) (words_of (after_blanks (drop k text)))

pub last_word : (text : List ℕ) (k : ℕ) → length text ≤ k → GoesOn text k → words_of text ≡ text ∷ []
last_word text k l g =
    g.is ∙ ap (λ t. put_all (take k text) (words_of t)) (drop_of_length-le text l) ∙ put_all-none (take k text) [] ∙ ap (λ t. t ∷ []) (take_all k text l)
