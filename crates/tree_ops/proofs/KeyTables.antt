-- Whether a word stands in a table.
use Rattle.std.proofs.Common.{◌≡◌, ℕ, List, Bool, true, false, Option, None, Some, refl, sym, ◌∙◌}
use Rattle.std.specs.Prelude.{◌↔◌, is_some, Contains}
use Rattle.std.specs.List.{list_any}
use Rattle.std.specs.Str.{bytes_eq}
use Rattle.std.specs.Cmp.Lexicographic.{nat_list_eq_equiv}
use Rattle.std.proofs.lemmas.Slice.Eq.{bytes_eq-Decides}
use Rattle.std.proofs.lemmas.Map.Views.{list_any-from_Contains, Contains-from_any}

pub is_there : (words : List (List ℕ)) (key : List ℕ) (place : Option ℕ) → (place ≡ None) ↔ (Contains words key → ⊥) → is_some place ≡ list_any (bytes_eq key) words
is_there words key None absent = by (list_any (bytes_eq key) words) refl
  where
    by : (b : Bool) → list_any (bytes_eq key) words ≡ b → false ≡ b
    by true e = absurd (absent.0 refl (Contains-from_any (λ x y h. (bytes_eq-Decides x y).0 h) key words e))
    by false e = refl
is_there words key (Some place) absent = by (list_any (bytes_eq key) words) refl
  where
    differ : false ≡ true → ⊥
    differ e = cc

    found : Some place ≡ None → ⊥
    found e = cc

    by : (b : Bool) → list_any (bytes_eq key) words ≡ b → true ≡ b
    by true e = refl
    by false e = absurd (found (absent.1 (λ contains. differ (sym e ∙ list_any-from_Contains nat_list_eq_equiv key words contains))))
