-- The texts of a command that is read.
use Rattle.std.proofs.Common.{◌≡◌, ℕ, zero, suc, ◌+◌, ◌<◌, inl, inr, Bool, true, false, not, ◌&&◌, ◌||◌, cond, List, [], ◌∷◌, ◌++◌, length, get_or, Some, None, Ok, Err, IfOk, IfSome, refl, sym, ap, ◌∙◌, subst, lit<, arith}
use Rattle.std.specs.List.{AllByRecursion, list_all, list_any}
use Rattle.cmd_text.specs.declared.command.Command.{Command}
use Rattle.cmd_text.specs.declared.kinds.Kind.{Kind}
use Rattle.cmd_text.specs.declared.kinds.Kind.TheVariants.{Node, Name}
use Rattle.cmd_text.specs.declared.kinds.More.{More}
use Rattle.cmd_text.specs.declared.verb.Verb.{Verb}
use Rattle.cmd_text.specs.declared.verb.Verb.TheVariants.{Material, Tex, Entity, Set, Unset, Tie, Layer, Group, Protect, Unprotect}
use Rattle.cmd_text.specs.Commands.{command_of, text_at}
use Rattle.cmd_text.specs.Cut.{is_blank, is_quote, is_stray, is_plain, Spells, IsWords}
use Rattle.cmd_text.specs.Kept.{IsText, IsNameText, KeepsTexts}
use Rattle.cmd_text.specs.Meaning.{WordsMean}
use Rattle.cmd_text.specs.Reading.{Read, IsRead, is_silent, words_read}
use Rattle.cmd_text.specs.Table.{words_of, fits, misfit_from, misfit_of}
use Rattle.cmd_text.proofs.CutLaws.{plain_byte}
use Rattle.cmd_text.proofs.Meanings.{words_mean}
use Rattle.cmd_text.proofs.RuleLaws.{right_law}

any-append : (p : ℕ → Bool) (xs ys : List ℕ) → list_any p (xs ++ ys) ≡ (list_any p xs || list_any p ys)
any-append p [] ys = refl
any-append p (x ∷ xs) ys = elim (p x) as (λ t. (t || list_any p (xs ++ ys)) ≡ ((t || list_any p xs) || list_any p ys)) [ true ↦ refl | false ↦ any-append p xs ys ]

neither : (s t : Bool) → (s || t) ≡ false → (s ≡ false) × (t ≡ false)
neither true t e = absurd (cc)
neither false t e = (refl, e)

plain_quotes : (word : List ℕ) → list_all (λ b. not (is_blank b || is_quote b)) word ≡ true → list_all (λ b. not (is_quote b)) word ≡ true
plain_quotes [] all = refl
plain_quotes (b ∷ word) all =
    let parts = plain_byte b word all in ap (λ t. not t && list_all (λ b. not (is_quote b)) word) parts.1 ∙ plain_quotes word parts.2

plain_text : (word : List ℕ) → is_plain word ≡ true → list_all (λ b. not (is_quote b)) word ≡ true
plain_text [] plain = refl
plain_text (b ∷ word) plain = plain_quotes (b ∷ word) plain

word_text : (bytes word : List ℕ) → Spells bytes word → list_any is_stray bytes ≡ false → IsText word
word_text bytes word (inl plain) clean = record { no_quote = plain_text word plain.1; no_stray = subst (λ w. list_any is_stray w ≡ false) plain.0 clean }
word_text bytes word (inr quoted) clean =
    let inside : list_any is_stray (word ++ 34 ∷ []) ≡ false = subst (λ w. list_any is_stray w ≡ false) quoted.0 clean in
    record { no_quote = quoted.1; no_stray = (neither (list_any is_stray word) (list_any is_stray (34 ∷ [])) (sym (any-append is_stray word (34 ∷ [])) ∙ inside)).0 }

words_texts : (words : List (List ℕ)) (line : List ℕ) → IsWords line words → list_any is_stray line ≡ false → AllByRecursion IsText words
words_texts [] line all clean = tt
words_texts (word ∷ words) line first clean =
    let f = first.1 in
    let whole : list_any is_stray (f.blanks ++ (f.bytes ++ first.0)) ≡ false = subst (λ l. list_any is_stray l ≡ false) f.whole clean in
    let behind = (neither (list_any is_stray f.blanks) (list_any is_stray (f.bytes ++ first.0)) (sym (any-append is_stray f.blanks (f.bytes ++ first.0)) ∙ whole)).1 in
    let parts = neither (list_any is_stray f.bytes) (list_any is_stray first.0) (sym (any-append is_stray f.bytes first.0) ∙ behind) in
    (word_text f.bytes word f.spells parts.0, words_texts words first.0 first.2 parts.1)

not_false : (s : Bool) → not s ≡ true → s ≡ false
not_false true e = absurd (cc)
not_false false e = refl

text_kept : (place : ℕ) (words : List (List ℕ)) → AllByRecursion IsText words → IsText (text_at place words)
text_kept zero [] all = record { no_quote = refl; no_stray = refl }
text_kept (suc place) [] all = record { no_quote = refl; no_stray = refl }
text_kept zero (word ∷ words) all = all.0
text_kept (suc place) (word ∷ words) all = text_kept place words all.1

fits_at : (kinds : List Kind) (more : More) (place : ℕ) (words : List (List ℕ)) (k : ℕ) → misfit_from place kinds more words ≡ None → k < length kinds → fits (get_or kinds k Node) (text_at k words) ≡ true
fits_at [] more place words k e h = absurd (omega (arith, h))
fits_at (kind ∷ kinds) more place [] k e h = absurd (cc)
fits_at (kind ∷ kinds) more place (word ∷ words) k e h = by (fits kind word) refl k h e (λ j f i. fits_at kinds more (place + 1) words j f i)
  where
    by : (t : Bool) → fits kind word ≡ t → (k : ℕ) → k < length (kind ∷ kinds) → cond t (misfit_from (place + 1) kinds more words) (Some place) ≡ None
        → ((j : ℕ) → misfit_from (place + 1) kinds more words ≡ None → j < length kinds → fits (get_or kinds j Node) (text_at j words) ≡ true)
        → fits (get_or (kind ∷ kinds) k Node) (text_at k (word ∷ words)) ≡ true
    by false f k h e later = absurd (cc)
    by true f zero h e later = f
    by true f (suc k) h e later = later k e (omega (arith, h))

name_kept : (verb : Verb) (words : List (List ℕ)) (k : ℕ) → misfit_of verb words ≡ None → k < length (words_of verb).kinds → get_or (words_of verb).kinds k Node ≡ Name → AllByRecursion IsText words → IsNameText (text_at k words)
unfolding misfit_of fits
name_kept verb words k e h is all = record {
  name = subst (λ kind. fits kind (text_at k words) ≡ true) is (fits_at (words_of verb).kinds (words_of verb).more 1 words k e h);
  is_text = text_kept k words all;
}

pub texts_kept : (verb : Verb) (words : List (List ℕ)) → misfit_of verb words ≡ None → AllByRecursion IsText words → KeepsTexts (command_of verb words)
texts_kept Material words e all = name_kept Material words 0 e (lit< tt) refl all
texts_kept Tex words e all = name_kept Tex words 2 e (lit< tt) refl all
texts_kept Entity words e all = name_kept Entity words 0 e (lit< tt) refl all
texts_kept Set words e all = (name_kept Set words 1 e (lit< tt) refl all, text_kept 2 words all)
texts_kept Unset words e all = name_kept Unset words 1 e (lit< tt) refl all
texts_kept Tie words e all = name_kept Tie words 0 e (lit< tt) refl all
texts_kept Layer words e all = name_kept Layer words 0 e (lit< tt) refl all
texts_kept Group words e all = name_kept Group words 0 e (lit< tt) refl all
texts_kept Protect words e all = name_kept Protect words 1 e (lit< tt) refl all
texts_kept Unprotect words e all = name_kept Unprotect words 1 e (lit< tt) refl all
texts_kept _ words e all = tt

-- what each command of right words keeps, the command of a line keeps
pub kept_by_words : (Keeps : Command → Type 0) (line : List ℕ) (r : Read) → is_silent line ≡ false → IsRead (words_read line) r
    → ((verb : Verb) (words : List (List ℕ)) → misfit_of verb words ≡ None → AllByRecursion IsText words → Keeps (command_of verb words)) → IfOk r (λ read. IfSome read Keeps)
kept_by_words Keeps line (Err fault) loud is each = tt
kept_by_words Keeps line (Ok None) loud is each = tt
kept_by_words Keeps line (Ok (Some command)) loud is each =
    let means : WordsMean line (Ok (Some command)) = subst (WordsMean line) (sym is) (words_mean line loud) in
    let verb = means.0 in
    let words = means.1 in
    let cut = means.2.1 in
    let right = means.3 in
    let texts = words_texts (means.2.0 ∷ words) line cut.is_words (not_false (list_any is_stray line) cut.clean) in
    subst Keeps (sym means.4) (each verb words ((right_law verb words).1 right) texts.1)
