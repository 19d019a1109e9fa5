-- Words are of one form, with one set of names.
use Rattle.std.proofs.Common.{◌≡◌, ◌↔◌, ℕ, List, [], length, get_or, ap, sym, subst, ◌∙◌, arith, codes}
use Rattle.edit_session.specs.Words.{IsForm, IsEdit, IsExport, IsCheck, IsNoForm}

word_at : (k : ℕ) (xs ys : List (List ℕ)) → xs ≡ ys → get_or xs k [] ≡ get_or ys k []
word_at k xs ys e = ap (λ w. get_or w k []) e

-- What holds of the names of words holds of whatever names the words have.
pub form_only : (P : List ℕ → List ℕ → Type 0) (form : List ℕ) (words : List (List ℕ)) (map out name other : List ℕ) → IsForm form words map out → P map out →
    IsForm form words name other → P name other
form_only P form words map out name other a p b =
    let same = sym a.words_are ∙ b.words_are in
    subst (λ m. P m other) (word_at 1 _ _ same) (subst (λ o. P map o) (word_at 2 _ _ same) p)

pub check_only : (P : List ℕ → Type 0) (words : List (List ℕ)) (map name : List ℕ) → IsCheck words map → P map → IsCheck words name → P name
check_only P words map name a p b = subst P (word_at 1 _ _ (sym a.words_are ∙ b.words_are)) p

-- No words are of two forms.
pub two_forms : (form : List ℕ) (words : List (List ℕ)) (map out name : List ℕ) → IsForm form words map out → IsCheck words name → ⊥
two_forms form words map out name a b = three_is_two (ap length (sym a.words_are ∙ b.words_are))
  where
    three_is_two : ◌≡◌ {A = ℕ} 3 2 → ⊥
    three_is_two e = omega (arith, e)

pub edit_exports_not : (words : List (List ℕ)) (map out name other : List ℕ) → IsEdit words map out → IsExport words name other → ⊥
edit_exports_not words map out name other a b = four_is_six (ap length (word_at 0 _ _ (sym a.words_are ∙ b.words_are)))
  where
    four_is_six : ◌≡◌ {A = ℕ} 4 6 → ⊥
    four_is_six e = omega (arith, e)

-- Words of a form aren't of none.
pub edit_form : (words : List (List ℕ)) (map out : List ℕ) (P : Type 0) → IsEdit words map out → (P → ⊥) → P ↔ IsNoForm words
edit_form words map out P a not = (λ p. absurd (not p), λ none. absurd (none.no_edit map out a))

pub export_form : (words : List (List ℕ)) (map out : List ℕ) (P : Type 0) → IsExport words map out → (P → ⊥) → P ↔ IsNoForm words
export_form words map out P a not = (λ p. absurd (not p), λ none. absurd (none.no_export map out a))

pub check_form : (words : List (List ℕ)) (name : List ℕ) (P : Type 0) → IsCheck words name → (P → ⊥) → P ↔ IsNoForm words
check_form words name P a not = (λ p. absurd (not p), λ none. absurd (none.no_check name a))
