-- Rows over the faces of a brush, one after another.
use Rattle.std.proofs.Common.{◌≡◌, ℕ, ◌+◌, suc, ◌<◌, ◌≤◌, List, [], ◌∷◌, length, drop, get_or, Bool, true, false, cond, Option, None, Some, refl, ap, sym, ◌∙◌, drop-cons, add-one}
use Rattle.std.proofs.lemmas.List.{drop_all}
use Rattle.map_model.specs.Faces.{Face}
use Rattle.map_model.specs.Brushes.{first_place}
use Rattle.map_model.specs.Replies.{Refusal}
use Rattle.map_model.specs.Rows.{first, at_each_face_from}

-- None of the first i items passes the test.
pub record NoneYet {A : Type 0} (test : A → Bool) (xs : List A) (i : ℕ) : Type 0 where
  pub rest : first_place test i (drop i xs) ≡ first_place test 0 xs

module _ {A : Type 0} (test : A → Bool) (xs : List A) (i : ℕ) (x : A) (lt : i < length xs) (is : x ≡ get_or xs i x) (yet : NoneYet test xs i) where
  next_place : cond (test x) (Some i) (first_place test (i + 1) (drop (suc i) xs)) ≡ first_place test 0 xs
  next_place = ap (λ y. cond (test y) (Some i) (first_place test (i + 1) (drop (suc i) xs))) is ∙ sym (ap (first_place test i) (drop-cons xs i x lt)) ∙ yet.rest

  pub found : test x ≡ true → first_place test 0 xs ≡ Some i
  found e = sym next_place ∙ ap (λ b. cond b (Some i) (first_place test (i + 1) (drop (suc i) xs))) e

  pub not_found : test x ≡ false → NoneYet test xs (i + 1)
  not_found e = record {
    rest = ap (λ k. first_place test (i + 1) (drop k xs)) (add-one i) ∙ sym (ap (λ b. cond b (Some i) (first_place test (i + 1) (drop (suc i) xs))) e) ∙ next_place;
  }

pub none_found : {A : Type 0} (test : A → Bool) (xs : List A) (i : ℕ) → length xs ≤ i → NoneYet test xs i → first_place test 0 xs ≡ None
none_found test xs i le yet = sym yet.rest ∙ ap (first_place test i) (drop_all i xs le)

-- No row of the first i faces holds.
pub record PassedFaces (row : ℕ → Face → Option Refusal) (fs : List Face) (i : ℕ) : Type 0 where
  pub rest : at_each_face_from i (drop i fs) row ≡ at_each_face_from 0 fs row

alone : (r : Option Refusal) → first (r ∷ []) ≡ r
alone None = refl
alone (Some refusal) = refl

module _ (row : ℕ → Face → Option Refusal) (fs : List Face) (i : ℕ) (f : Face) (lt : i < length fs) (is : f ≡ get_or fs i f) (passed : PassedFaces row fs i) where
  next_face : first (row i f ∷ at_each_face_from (i + 1) (drop (suc i) fs) row ∷ []) ≡ at_each_face_from 0 fs row
  next_face = ap (λ g. first (row i g ∷ at_each_face_from (i + 1) (drop (suc i) fs) row ∷ [])) is ∙ sym (ap (λ l. at_each_face_from i l row) (drop-cons fs i f lt)) ∙ passed.rest

  pub stopped_face : (refusal : Refusal) → row i f ≡ Some refusal → at_each_face_from 0 fs row ≡ Some refusal
  stopped_face refusal e = sym next_face ∙ ap (λ r. first (r ∷ at_each_face_from (i + 1) (drop (suc i) fs) row ∷ [])) e

  pub passed_face : row i f ≡ None → PassedFaces row fs (i + 1)
  passed_face e = record {
    rest = ap (λ k. at_each_face_from (i + 1) (drop k fs) row) (add-one i) ∙ sym (alone (at_each_face_from (i + 1) (drop (suc i) fs) row))
        ∙ sym (ap (λ r. first (r ∷ at_each_face_from (i + 1) (drop (suc i) fs) row ∷ [])) e) ∙ next_face;
  }

pub passed_faces : (row : ℕ → Face → Option Refusal) (fs : List Face) (i : ℕ) → length fs ≤ i → PassedFaces row fs i → at_each_face_from 0 fs row ≡ None
passed_faces row fs i le passed = sym passed.rest ∙ ap (λ l. at_each_face_from i l row) (drop_all i fs le)
