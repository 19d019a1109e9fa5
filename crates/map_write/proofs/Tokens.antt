-- The texts that stand as words and as quoted tokens.
use Rattle.std.proofs.Common.{◌≡◌, ℕ, Bool, true, false, not, ◌&&◌, ◌||◌, ◌==◌, eqb, List, [], ◌∷◌, ◌++◌, refl, ap, sym, ◌∙◌, arith, nat_eq, eq-eqb}
use Rattle.std.specs.List.{list_all, list_any, ends_with}
use Rattle.std.proofs.lemmas.Bool.{and_parts, and_from, and_right, or_from, or_left, or_right, eqb-true}
use Rattle.map_lex.specs.Bytes.{is_blank, is_stray, rest_of_line, up_to_blank, begins_comment, closes}
use Rattle.map_lex.specs.Cut.{begins_word, NoneCloses}
use Rattle.map_lex.proofs.Fronts.{before_first-cons, before_first-append}
use Rattle.map_lex.specs.OneToken.{ends_with_backslash, quotes_are_escaped, is_value_text}
use Rattle.map_text.specs.Grammar.{Symbol}
use Rattle.map_write.proofs.Tests.{none_pass, all_fail, all_weaker, all_both, not_all, any_behind, whole_front, front_stops, last_of, ends-last}

-- a text that is one word
pub record IsWord (w : List ℕ) : Type 0 where
  pub begins : begins_word w ≡ true
  pub unblank : list_any is_blank w ≡ false
  pub clean : list_any is_stray w ≡ false

-- a text that is one token between quotes
pub record IsQuoted (t : List ℕ) : Type 0 where
  pub escaped : quotes_are_escaped 34 t ≡ true
  pub one_line : list_any (λ b. b == 10) t ≡ false
  pub clean : list_any is_stray t ≡ false

-- a symbol that can be a token of a text
pub record IsToken (s : Symbol) : Type 0 where
  pub between_quotes : s.quoted ≡ true → IsQuoted s.text
  pub plain : s.quoted ≡ false → IsWord s.text

-- each symbol can be a token
abbrev pub AreTokens : List Symbol → Type 0
AreTokens [] = Unit {0}
AreTokens (s ∷ ss) = IsToken s × AreTokens ss

-- ---- words

pub none_of : (x y z : Bool) → not (x || y || z) ≡ true → (x ≡ false) × (y ≡ false) × (z ≡ false)
none_of true y z e = cc
none_of false true z e = cc
none_of false false true e = cc
none_of false false false e = (refl, refl, refl)

no_slash : (b : ℕ) → is_blank b ≡ true → eqb b 47 ≡ false
no_slash b e = grind arith

-- a word goes on to the next blank
pub word_goes_on : (w : List ℕ) (b : ℕ) (rest : List ℕ) → begins_word w ≡ true → is_blank b ≡ true → begins_word (w ++ b ∷ rest) ≡ true
word_goes_on [] b rest e blank = cc
word_goes_on (c ∷ []) b rest e blank =
    let no = none_of (is_blank c) (c == 34) (begins_comment (c ∷ [])) e in
    let comment : begins_comment (c ∷ b ∷ rest) ≡ false = and_right (c == 47) (b == 47) (no_slash b blank) in
    λ i. not (no.0 i || no.1 i || comment i)
word_goes_on (c ∷ d ∷ w) b rest e blank = e

pub word_ends : (w : List ℕ) (b : ℕ) (rest : List ℕ) → list_any is_blank w ≡ false → is_blank b ≡ true → up_to_blank (w ++ b ∷ rest) ≡ w
word_ends w b rest e blank = front_stops is_blank w b rest e blank

-- ---- quoted tokens

-- each quote stands behind a backslash
escaped_at : (previous : ℕ) (before more : List ℕ) → quotes_are_escaped previous (before ++ 34 ∷ more) ≡ true → eqb (last_of previous before) 92 ≡ true
escaped_at previous [] more e = (and_parts (previous == 92) (quotes_are_escaped 34 more) e).0
escaped_at previous (b ∷ before) more e =
    escaped_at b before more (and_parts (not (b == 34) || previous == 92) (quotes_are_escaped b (before ++ 34 ∷ more)) e).1

ends_so : (before : List ℕ) → eqb (last_of 34 before) 92 ≡ true → ends_with nat_eq before (92 ∷ []) ≡ true
ends_so [] e = cc
ends_so (x ∷ xs) e = ends-last x 92 xs ∙ and_from (nat_eq 92 (last_of x xs)) true (eq-eqb 92 (last_of x xs) (sym (eqb-true (last_of x xs) 92 e))) refl

pub ends_back : (before : List ℕ) → ends_with nat_eq before (92 ∷ []) ≡ true → eqb (last_of 34 before) 92 ≡ true
ends_back [] e = cc
ends_back (x ∷ xs) e =
    let parts = and_parts (nat_eq 92 (last_of x xs)) true (sym (ends-last x 92 xs) ∙ e) in
    eq-eqb (last_of x xs) 92 (sym (eqb-true 92 (last_of x xs) parts.0))

-- behind a quote on the line, not blanks alone follow
not_blanks_alone : (more after : List ℕ) → list_any (λ b. b == 10) more ≡ false → list_all is_blank (rest_of_line (more ++ 34 ∷ after)) ≡ false
not_blanks_alone more after e =
    ap (list_all is_blank) (before_first-append (λ b. b == 10) more (34 ∷ after) (whole_front (λ b. b == 10) more e)
    ∙ ap (λ r. more ++ r) (before_first-cons (λ b. b == 10) 34 after))
    ∙ not_all is_blank more 34 (rest_of_line after) refl

pub none_closes : (t after : List ℕ) → IsQuoted t → NoneCloses t (34 ∷ after)
none_closes t after quoted = λ before more split.
    let escaped = escaped_at 34 before more (ap (quotes_are_escaped 34) (sym split) ∙ quoted.escaped) in
    let line = any_behind (λ b. b == 10) before 34 more (ap (list_any (λ b. b == 10)) (sym split) ∙ quoted.one_line) in
    or_from (not (ends_with nat_eq before (92 ∷ []))) (list_all is_blank (rest_of_line (more ++ 34 ∷ after)))
    (ap not (ends_so before escaped)) (not_blanks_alone more after line)

pub one_line : (t : List ℕ) → IsQuoted t → rest_of_line t ≡ t
one_line t quoted = whole_front (λ b. b == 10) t quoted.one_line

pub closed_by : (t after : List ℕ) → ends_with_backslash t ≡ false → closes t after ≡ true
closed_by t after e = or_left (not (ends_with nat_eq t (92 ∷ []))) (list_all is_blank (rest_of_line after)) (ap not e)

pub closed_at_end : (t rest : List ℕ) → closes t (10 ∷ rest) ≡ true
closed_at_end t rest = or_right (not (ends_with nat_eq t (92 ∷ []))) (list_all is_blank (rest_of_line (10 ∷ rest))) refl

pub quoted_from_test : (t : List ℕ) → is_value_text t ≡ true → IsQuoted t
quoted_from_test t e =
    let parts = and_parts (quotes_are_escaped 34 t) (list_all (λ b. not (b == 10) && not (is_stray b)) t) e in
    record {
      escaped = parts.0;
      one_line = none_pass (λ b. b == 10) t (all_weaker (λ b. not (b == 10) && not (is_stray b)) (λ b. not (b == 10)) (λ b h. (and_parts (not (b == 10)) (not (is_stray b)) h).0) t parts.1);
      clean = none_pass is_stray t (all_weaker (λ b. not (b == 10) && not (is_stray b)) (λ b. not (is_stray b)) (λ b h. (and_parts (not (b == 10)) (not (is_stray b)) h).1) t parts.1);
    }

pub quoted_passes : (t : List ℕ) → IsQuoted t → is_value_text t ≡ true
quoted_passes t quoted =
    and_from (quotes_are_escaped 34 t) (list_all (λ b. not (b == 10) && not (is_stray b)) t) quoted.escaped
    (all_both (λ b. not (b == 10)) (λ b. not (is_stray b)) t (all_fail (λ b. b == 10) t quoted.one_line) (all_fail is_stray t quoted.clean))
