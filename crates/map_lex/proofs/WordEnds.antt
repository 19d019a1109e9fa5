-- Where words end: at a blank, or at a stray byte.
use Rattle.std.proofs.Common.{◌≡◌, ℕ, zero, suc, ◌<◌, ◌≤◌, ◌||◌, true, false, List, [], ◌∷◌, length, take, get_or, refl, sym, ap, ◌∙◌, arith}
use Rattle.std.proofs.lemmas.Bool.{or_right, or_left}
use Rattle.std.proofs.lemmas.List.Sums.{position_or_len_is}
use Rattle.std.specs.List.{list_any, position_or_len}
use Rattle.map_lex.specs.Bytes.{is_blank, is_stray, up_to_blank}
use Rattle.map_lex.proofs.Fronts.{before_first-cons, cond_false}

-- all bytes before a place are above the space
abbrev pub ArePlain : List ℕ → ℕ → Type 0
ArePlain text len = (k : ℕ) → k < len → 32 < get_or text k 0

pub plain_no_blank : (b : ℕ) → 32 < b → is_blank b ≡ false
plain_no_blank b h = grind arith

plain_no_stray : (b : ℕ) → 32 < b → is_stray b ≡ false
plain_no_stray b h = grind arith

low_is_stray : (b : ℕ) → b ≤ 32 → is_blank b ≡ false → is_stray b ≡ true
low_is_stray b h blank = grind arith

later_plain : (b : ℕ) (text : List ℕ) (len : ℕ) → ArePlain (b ∷ text) (suc len) → ArePlain text len
later_plain b text len plain = λ k below. plain (suc k) (omega arith)

pub plain_clean : (text : List ℕ) (len : ℕ) → ArePlain text len → list_any is_stray (take len text) ≡ false
plain_clean text zero plain = refl
plain_clean [] (suc len) plain = refl
plain_clean (b ∷ text) (suc len) plain =
    let first = plain_no_stray b (plain 0 (omega arith)) in
    let later = plain_clean text len (later_plain b text len plain) in
    λ i. first i || later i

pub ends_at_blank : (text : List ℕ) (len : ℕ) → len ≤ length text → ArePlain text len → (len < length text → is_blank (get_or text len 0) ≡ true) → len ≡ position_or_len is_blank text
ends_at_blank text len within plain ends =
    sym (position_or_len_is is_blank text len 0 within (λ k below. plain_no_blank (get_or text k 0) (plain k below)) ends)

word_front : (b : ℕ) (text : List ℕ) → is_blank b ≡ false → up_to_blank (b ∷ text) ≡ b ∷ up_to_blank text
word_front b text blank = before_first-cons is_blank b text ∙ cond_false (is_blank b) [] (b ∷ up_to_blank text) blank

pub stray_stands : (text : List ℕ) (len : ℕ) → len < length text → ArePlain text len → get_or text len 0 ≤ 32 → is_blank (get_or text len 0) ≡ false → list_any is_stray (up_to_blank text) ≡ true
stray_stands [] len within plain low blank = absurd (omega arith)
stray_stands (b ∷ text) zero within plain low blank =
    ap (list_any is_stray) (word_front b text blank) ∙ or_left (is_stray b) (list_any is_stray (up_to_blank text)) (low_is_stray b low blank)
stray_stands (b ∷ text) (suc len) within plain low blank =
    ap (list_any is_stray) (word_front b text (plain_no_blank b (plain 0 (omega arith))))
    ∙ or_right (is_stray b) (list_any is_stray (up_to_blank text)) (stray_stands text len (omega arith) (later_plain b text len plain) low blank)
