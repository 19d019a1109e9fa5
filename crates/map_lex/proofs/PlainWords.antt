-- Words behind one space that begin with a plain byte.
use Rattle.std.proofs.Common.{◌≡◌, ◌≢◌, ℕ, zero, suc, ◌-◌, ◌<◌, ◌≤◌, true, false, ◌||◌, ◌&&◌, ◌==◌, not, List, [], ◌∷◌, length, take, drop, get_or, refl, sym, ◌∙◌, ap, arith}
use Rattle.std.proofs.lemmas.Bool.{ne_eqb}
use Rattle.std.proofs.lemmas.List.{take_all}
use Rattle.map_lex.specs.Cut.{begins_word}
use Rattle.map_lex.specs.TokenList.{put_first, tokens_left}
use Rattle.map_lex.proofs.Reading.{Parts, left-blank, word_clean}
use Rattle.map_lex.proofs.WordEnds.{ArePlain, plain_no_blank, plain_clean, ends_at_blank}

-- the byte is above the space, and neither a quote nor a slash
abbrev pub IsPlain : ℕ → Type 0
IsPlain b = (32 < b) × (b ≢ 34) × (b ≢ 47)

plain_begins : (b : ℕ) (text : List ℕ) → IsPlain b → begins_word (b ∷ text) ≡ true
plain_begins b [] plain =
    let blank = plain_no_blank b plain.0 in
    let quote = ne_eqb b 34 plain.1 in
    λ i. not (blank i || quote i || false)
plain_begins b (c ∷ text) plain =
    let blank = plain_no_blank b plain.0 in
    let quote = ne_eqb b 34 plain.1 in
    let slash = ne_eqb b 47 plain.2 in
    λ i. not (blank i || quote i || (slash i && (c == 47)))

one_plain : (b : ℕ) (text : List ℕ) → 32 < b → ArePlain (b ∷ text) 1
one_plain b text plain zero below = plain
one_plain b text plain (suc k) below = absurd (omega arith)

-- a plain byte between two spaces
mark_between : (line b : ℕ) (text : List ℕ) → IsPlain b → tokens_left line (32 ∷ b ∷ 32 ∷ text) ≡ put_first (record { text = b ∷ []; quoted = false; line = line }) (tokens_left line (32 ∷ text))
mark_between line b text plain =
    let are = one_plain b (32 ∷ text) plain.0 in
    let parts : Parts (b ∷ 32 ∷ text) (b ∷ []) (32 ∷ text) 1 = record { is_front = refl; is_rest = refl } in
    left-blank line 32 (b ∷ 32 ∷ text) refl
    ∙ word_clean line parts (plain_begins b (32 ∷ text) plain) (ends_at_blank (b ∷ 32 ∷ text) 1 (omega arith) are (λ _. refl)) (plain_clean (b ∷ 32 ∷ text) 1 are)

pub mark_passed : (line mark : ℕ) (text : List ℕ) → 3 ≤ length text → get_or text 0 0 ≡ 32 → get_or text 1 0 ≡ mark → get_or text 2 0 ≡ 32 → IsPlain (get_or text 1 0) →
    tokens_left line text ≡ put_first (record { text = mark ∷ []; quoted = false; line = line }) (tokens_left line (take (length text - 2) (drop 2 text)))
mark_passed line mark [] some first middle last plain = absurd (omega arith)
mark_passed line mark (a ∷ []) some first middle last plain = absurd (omega arith)
mark_passed line mark (a ∷ b ∷ []) some first middle last plain = absurd (omega arith)
mark_passed line mark (a ∷ b ∷ c ∷ text) some first middle last plain =
    let rest : 32 ∷ text ≡ take (length (a ∷ b ∷ c ∷ text) - 2) (c ∷ text) =
    (λ i. sym last i ∷ text) ∙ sym (take_all (length (a ∷ b ∷ c ∷ text) - 2) (c ∷ text) (omega arith)) in
    ap (tokens_left line) (λ i. first i ∷ b ∷ last i ∷ text)
    ∙ mark_between line b text plain
    ∙ (λ i. put_first (record { text = middle i ∷ []; quoted = false; line = line }) (tokens_left line (rest i)))
