-- What a line is read as is what it means.
use Rattle.std.proofs.Common.{◌≡◌, ◌↔◌, ℕ, ◌<◌, ◌≤◌, inl, inr, Bool, true, false, ◌||◌, nat_lt, List, [], ◌∷◌, length, Option, Some, None, Ok, Err, refl, sym, ap, ◌∙◌, subst, arith}
use Rattle.std.specs.List.{list_all}
use Rattle.std.proofs.lemmas.Bool.Decides.{nat_tests}
use Rattle.cmd_text.specs.declared.command.LineFault.TheVariants.{TooLong, UnknownWord, Arguments, Memory}
use Rattle.cmd_text.specs.declared.verb.Verb.{Verb}
use Rattle.cmd_text.specs.Cut.{is_blank, IsCut}
use Rattle.cmd_text.specs.Pieces.{cut_of}
use Rattle.cmd_text.specs.Table.{misfit_of}
use Rattle.cmd_text.specs.Reading.{Read, verb_of, without_return, is_comment, is_silent, by_misfit, by_verb, by_words, words_read, line_read}
use Rattle.cmd_text.specs.Meaning.{IsLineOf, CanNotBeCut, WordsMean, Means}
use Rattle.cmd_text.proofs.CutLaws.{cut_law}
use Rattle.cmd_text.proofs.LineLaws.{read_too_long, read_silent, read_as_words}
use Rattle.cmd_text.proofs.RuleLaws.{right_law, first_misfit_law, misfit_is}

module _ (line : List ℕ) where
  verb_means : (word : List ℕ) (words : List (List ℕ)) (verb : Verb) (place : Option ℕ) → IsCut line (word ∷ words) → verb_of word ≡ Some verb → misfit_of verb words ≡ place → WordsMean line (by_misfit verb words place)
  verb_means word words verb None cut is m = (verb, words, (word, cut, is), (right_law verb words).0 m, refl)
  verb_means word words verb (Some place) cut is m = inr (verb, words, (word, cut, is), first_misfit_law verb words place m)

  word_means : (word : List ℕ) (words : List (List ℕ)) (verb : Option Verb) → IsCut line (word ∷ words) → verb_of word ≡ verb → WordsMean line (by_verb verb words)
  word_means word words None cut is = (word, words, cut, is)
  word_means word words (Some verb) cut is = verb_means word words verb (misfit_of verb words) cut is refl

  silent_if_blank : list_all is_blank line ≡ true → is_silent line ≡ true
  unfolding is_silent
  silent_if_blank blank = by (is_comment line) (list_all is_blank line) blank
    where
      by : (s t : Bool) → t ≡ true → (s || t) ≡ true
      by true t e = refl
      by false t e = e

  cut_means : (cut : Option (List (List ℕ))) → cut_of line ≡ cut → is_silent line ≡ false → WordsMean line (by_words cut)
  cut_means None e loud = inl ((λ words cut. let found : cut_of line ≡ Some words = (cut_law line words).1 cut in absurd (cc)), refl)
  cut_means (Some []) e loud =
      let cut = (cut_law line []).0 e in
      let silent : is_silent line ≡ true = silent_if_blank cut.is_words in
      absurd (cc)
  cut_means (Some (word ∷ words)) e loud = word_means word words (verb_of word) ((cut_law line (word ∷ words)).0 e) refl

  pub words_mean : is_silent line ≡ false → WordsMean line (words_read line)
  unfolding words_read
  words_mean loud = cut_means (cut_of line) refl loud

loud_means : (line : List ℕ) (r : Read) → length line ≤ 4096 → is_silent (without_return line) ≡ false → WordsMean (without_return line) r → Means line r
loud_means line (Ok None) short loud means = absurd means
loud_means line (Ok (Some command)) short loud means = (short, loud, means)
loud_means line (Err TooLong) short loud means = absurd means
loud_means line (Err UnknownWord) short loud means = (short, loud, means)
loud_means line (Err (Arguments place)) short loud means = (short, loud, means)
loud_means line (Err Memory) short loud means = absurd means

line_means : (line : List ℕ) → Means line (line_read line)
line_means line = by_length (nat_lt 4096 (length line)) refl
  where
    by_silence : length line ≤ 4096 → (t : Bool) → is_silent (without_return line) ≡ t → Means line (line_read line)
    by_silence short true silent = subst (Means line) (sym (read_silent line short silent)) (short, silent)
    by_silence short false loud = subst (Means line) (sym (read_as_words line short loud)) (loud_means line (words_read (without_return line)) short loud (words_mean (without_return line) loud))

    by_length : (t : Bool) → nat_lt 4096 (length line) ≡ t → Means line (line_read line)
    by_length true e = let long : 4096 < length line = grind (arith, nat_tests, e) in subst (Means line) (sym (read_too_long line long)) long
    by_length false e = let short : length line ≤ 4096 = grind (arith, nat_tests, e) in by_silence short (is_silent (without_return line)) refl

-- ---- and nothing else is what it means

module _ (line : List ℕ) where
  by_cut_is : (words : List (List ℕ)) → IsCut line words → words_read line ≡ by_words (Some words)
  unfolding words_read
  by_cut_is words cut = ap by_words ((cut_law line words).1 cut)

  by_verb_is : (words : List (List ℕ)) (verb : Verb) (place : Option ℕ) → IsLineOf line verb words → misfit_of verb words ≡ place → words_read line ≡ by_misfit verb words place
  by_verb_is words verb place of m = by_cut_is (of.0 ∷ words) of.1 ∙ ap (λ o. by_verb o words) of.2 ∙ ap (by_misfit verb words) m

  no_cut_is : CanNotBeCut line → words_read line ≡ Err (Arguments 0)
  unfolding words_read
  no_cut_is uncut = by (cut_of line) refl
    where
      by : (cut : Option (List (List ℕ))) → cut_of line ≡ cut → by_words (cut_of line) ≡ Err (Arguments 0)
      by None e = ap by_words e
      by (Some words) e = absurd (uncut words ((cut_law line words).0 e))

  words_mean_one : (r : Read) → WordsMean line r → words_read line ≡ r
  words_mean_one (Ok None) means = absurd means
  words_mean_one (Ok (Some command)) means =
      by_verb_is means.1 means.0 None means.2 ((right_law means.0 means.1).1 means.3) ∙ ap (λ c. Ok (Some c)) (sym means.4)
  words_mean_one (Err TooLong) means = absurd means
  words_mean_one (Err UnknownWord) means = by_cut_is (means.0 ∷ means.1) means.2 ∙ ap (λ o. by_verb o means.1) means.3
  words_mean_one (Err (Arguments place)) (inl uncut) = no_cut_is uncut.0 ∙ ap (λ n. Err (Arguments n)) (sym uncut.1)
  words_mean_one (Err (Arguments place)) (inr misfit) = by_verb_is misfit.1 misfit.0 (Some place) misfit.2 (misfit_is misfit.0 misfit.1 place misfit.3)
  words_mean_one (Err Memory) means = absurd means

loud_one : (line : List ℕ) (r : Read) → (length line ≤ 4096) × (is_silent (without_return line) ≡ false) × WordsMean (without_return line) r → line_read line ≡ r
loud_one line r means = read_as_words line means.0 means.1 ∙ words_mean_one (without_return line) r means.2

means_one : (line : List ℕ) (r : Read) → Means line r → line_read line ≡ r
means_one line (Err TooLong) means = read_too_long line means
means_one line (Ok None) means = read_silent line means.0 means.1
means_one line (Ok (Some command)) means = loud_one line (Ok (Some command)) means
means_one line (Err UnknownWord) means = loud_one line (Err UnknownWord) means
means_one line (Err (Arguments place)) means = loud_one line (Err (Arguments place)) means
means_one line (Err Memory) means = loud_one line (Err Memory) means

pub meaning : (line : List ℕ) (r : Read) → (line_read line ≡ r) ↔ Means line r
meaning line r = (λ e. subst (Means line) e (line_means line), means_one line r)
