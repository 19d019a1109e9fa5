-- Texts that are given piece by piece, and fronts of them.
use Rattle.std.proofs.Common.{◌≡◌, ℕ, ◌+◌, ◌<◌, ◌≤◌, List, [], ◌∷◌, ◌++◌, length, take, drop, get_or, Option, ap, sym, subst, ◌∙◌, ⊎_elim, append-nil, arith, take_all, take-append-drop}
use Rattle.std.specs.Prelude.{flat_map}
use Rattle.std.proofs.lemmas.Bool.{cases_lt}
use Rattle.std.proofs.lemmas.Grind.{flat_map-append}
use Rattle.std.proofs.lemmas.List.{take_more, take-append-le}
use Rattle.std.proofs.Math.Seq.{take-append_seam, take-append-add}
use Rattle.outside_io.specs.Moved.{Grew}
use Rattle.outside_io.proofs.Grown.{Grew-then}
use Rattle.edit_session.specs.Opening.{GaveFront}

-- A front of a text is one of what goes on from it.
pub front_before : (a b : List ℕ) (given now : Option (List ℕ)) → GaveFront given now a → GaveFront given now (a ++ b)
front_before a b given now h =
    ⊎_elim
    (λ (past : length a < h.0). (
      length a,
      subst (λ l. Grew given now l) (take_all h.0 a (omega arith) ∙ sym (take-append_seam a b)) h.1,
    ))
    (λ (within : h.0 ≤ length a). (h.0, subst (λ l. Grew given now l) (sym (take-append-le h.0 a b within)) h.1)) (cases_lt (length a) h.0)

-- A front behind a text that was given whole.
pub front_behind : (a b : List ℕ) (given mid now : Option (List ℕ)) → Grew given mid a → GaveFront mid now b → GaveFront given now (a ++ b)
front_behind a b given mid now g h =
    (length a + h.0, subst (λ l. Grew given now l) (sym (take-append-add a b h.0)) (Grew-then given mid now a (take h.0 b) g h.1))

module _ {A : Type 0} (f : A → List ℕ) (xs : List A) (i : ℕ) (d : A) where
  -- One more line.
  pub line_more : i < length xs → flat_map f (take (i + 1) xs) ≡ flat_map f (take i xs) ++ f (get_or xs i d)
  line_more lt =
      ap (flat_map f) (take_more xs i d lt) ∙ flat_map-append f (take i xs) (get_or xs i d ∷ []) ∙ ap (λ l. flat_map f (take i xs) ++ l) (append-nil (f (get_or xs i d)))

  pub lines_given : (given mid now : Option (List ℕ)) → i < length xs → Grew given mid (flat_map f (take i xs)) → Grew mid now (f (get_or xs i d)) →
      Grew given now (flat_map f (take (i + 1) xs))
  lines_given given mid now lt g h = subst (λ l. Grew given now l) (sym (line_more lt)) (Grew-then given mid now (flat_map f (take i xs)) (f (get_or xs i d)) g h)

  -- A line in part.
  pub lines_in_part : (given mid now : Option (List ℕ)) → i < length xs → Grew given mid (flat_map f (take i xs)) → GaveFront mid now (f (get_or xs i d)) →
      GaveFront given now (flat_map f xs)
  lines_in_part given mid now lt g h =
      let whole : flat_map f (take (i + 1) xs) ++ flat_map f (drop (i + 1) xs) ≡ flat_map f xs =
      sym (flat_map-append f (take (i + 1) xs) (drop (i + 1) xs)) ∙ ap (flat_map f) (take-append-drop (i + 1) xs) in
      subst (λ l. GaveFront given now l) whole
      (front_before (flat_map f (take (i + 1) xs)) (flat_map f (drop (i + 1) xs)) given now
      (subst (λ l. GaveFront given now l) (sym (line_more lt)) (front_behind (flat_map f (take i xs)) (f (get_or xs i d)) given mid now g h)))
