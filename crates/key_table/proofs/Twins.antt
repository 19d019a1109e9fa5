-- A search for two equal words.
use Rattle.std.proofs.Common.{sym, ◌∙◌, IfSome, refl, zero, suc, [], ◌∷◌, ◌||◌, Option, Some, None, IsSome, ◌≡◌, ℕ, ◌+◌, ◌<◌, ◌≤◌, ◌↔◌, List, length, Bool, true, false, IsTrue, inl, inr, arith, subst}
use Rattle.std.specs.Prelude.{slice_index_or}
use Rattle.std.specs.Str.{bytes_eq}
use Rattle.std.proofs.lemmas.Slice.Eq.{bytes_eq-Decides}
use Rattle.std.proofs.lemmas.Bool.{cases_lt}
use Rattle.key_table.specs.Keys.{HasTwins, HasEarlierTwin}

-- none of the first words has an earlier twin
abbrev pub NoTwinBefore : List (List ℕ) → ℕ → Type 0
NoTwinBefore words place = (j : ℕ) → j < place → HasEarlierTwin words j → ⊥

pub no_twin_more : (words : List (List ℕ)) (place : ℕ) → NoTwinBefore words place
    → (HasEarlierTwin words place → ⊥) → NoTwinBefore words (place + 1)
no_twin_more words place none here j below twin =
    elim (cases_lt j place) [
      | inl earlier ↦ none j earlier twin
      | inr later ↦ let at : j ≡ place = omega arith in here (subst (λ (k : ℕ). HasEarlierTwin words k) at twin)
    ]

pub no_twins : (words : List (List ℕ)) (place : ℕ) → NoTwinBefore words place → length words ≤ place → HasTwins words → ⊥
no_twins words place none all twins = none twins.0 (omega (arith, twins.1)) twins.2

-- a test that is exact and says no
pub refuted : {P : Type 0} (answer : Bool) → (IsTrue answer ↔ P) → answer ≡ false → P → ⊥
refuted answer exact is there = let said : IsTrue answer = exact.1 there in cc

-- a test for twins that computes
abbrev pub is_among : List ℕ → List (List ℕ) → Bool
is_among word [] = false
is_among word (other ∷ rest) = bytes_eq word other || is_among word rest

abbrev pub has_twins_test : List (List ℕ) → Bool
has_twins_test [] = false
has_twins_test (word ∷ rest) = is_among word rest || has_twins_test rest

or-true : (b : Bool) → (b || true) ≡ true
or-true true = refl
or-true false = refl

among_at : (word : List ℕ) (words : List (List ℕ)) (k : ℕ) → k < length words → word ≡ slice_index_or words k [] → is_among word words ≡ true
among_at word [] k within same = absurd (omega (arith, within))
among_at word (other ∷ rest) zero within same =
    let equal : bytes_eq word other ≡ true = (bytes_eq-Decides word other).1 same in rw equal
among_at word (other ∷ rest) (suc k) within same =
    let later : is_among word rest ≡ true = among_at word rest k (omega (arith, within)) same in rw (later, or-true)

pub twins_are_found : (words : List (List ℕ)) → HasTwins words → has_twins_test words ≡ true
twins_are_found words twins = by_places words twins.0 twins.2.0 twins.1 twins.2.1 twins.2.2
  where
    by_places : (words : List (List ℕ)) (place earlier : ℕ) → place < length words → earlier < place
        → slice_index_or words earlier [] ≡ slice_index_or words place [] → has_twins_test words ≡ true
    by_places [] place earlier within before same = absurd (omega (arith, within))
    by_places (word ∷ rest) zero earlier within before same = absurd (omega (arith, before))
    by_places (word ∷ rest) (suc place) zero within before same =
        let here : is_among word rest ≡ true = among_at word rest place (omega (arith, within)) same in rw here
    by_places (word ∷ rest) (suc place) (suc earlier) within before same =
        let later : has_twins_test rest ≡ true = by_places rest place earlier (omega (arith, within)) (omega (arith, before)) same in rw (later, or-true)

-- where the words are such and pass the test, the list of them is made
pub is_made : {A : Type 0} (words table : List (List ℕ)) (made : Option A) → ((made ≡ None) ↔ HasTwins words) → words ≡ table
    → has_twins_test table ≡ false → IsSome made
is_made words table (Some made) exact same fine = refl
is_made words table None exact same fine =
    let found : has_twins_test table ≡ true = twins_are_found table (subst (λ (ws : List (List ℕ)). HasTwins ws) same (exact.0 refl)) in
    absurd (cc)

-- and the list that is made is the table
pub made_is : (words table keys : List (List ℕ)) (made : Option (List (List ℕ))) → IfSome made (λ list. list ≡ words) → words ≡ table
    → made ≡ Some keys → keys ≡ table
made_is words table keys (Some list) is same some = let e : list ≡ keys = cc in sym e ∙ is ∙ same
made_is words table keys None is same some = absurd (cc)
