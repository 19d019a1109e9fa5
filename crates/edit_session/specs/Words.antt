-- The words after the program's name.
use Rattle.std.specs.Prelude.{◌≡◌, ◌≢◌, ℕ, List, [], ◌∷◌, codes}

-- Both names have a byte at least, and they differ.
pub record AreNames (map out : List ℕ) : Type 0 where
  pub has_map : map ≢ []
  pub has_out : out ≢ []
  pub apart : out ≢ map

-- The words are those of a form with a map and the name that a text is kept under.
pub record IsForm (form : List ℕ) (words : List (List ℕ)) (map out : List ℕ) : Type 0 where
  pub words_are : words ≡ form ∷ map ∷ out ∷ []
  pub names : AreNames map out

-- The words are `edit MAP OUT`.
abbrev pub IsEdit : List (List ℕ) → List ℕ → List ℕ → Type 0
IsEdit words map out = IsForm (codes "edit") words map out

-- The words are `export MAP OUT`.
abbrev pub IsExport : List (List ℕ) → List ℕ → List ℕ → Type 0
IsExport words map out = IsForm (codes "export") words map out

-- The words are `check MAP`, and the name has a byte at least.
pub record IsCheck (words : List (List ℕ)) (map : List ℕ) : Type 0 where
  pub words_are : words ≡ codes "check" ∷ map ∷ []
  pub has_map : map ≢ []

-- The words are of no form.
pub record IsNoForm (words : List (List ℕ)) : Type 0 where
  pub no_edit : (map out : List ℕ) → IsEdit words map out → ⊥
  pub no_check : (map : List ℕ) → IsCheck words map → ⊥
  pub no_export : (map out : List ℕ) → IsExport words map out → ⊥
