-- A list of changes cut at a place, and one of them exchanged.
use Rattle.std.proofs.Common.{◌≡◌, ℕ, ◌+◌, suc, ◌<◌, List, [], ◌∷◌, ◌++◌, length, take, drop, get_or, set, refl, ap, ap₂, sym, ◌∙◌, arith, drop-cons, add-one, ◌≤◌, length-append, length-take-le}
use Rattle.std.proofs.lemmas.List.{take_more, take-set, drop-set, take_more_set, drop-set-lt, drop_all, take_all}
use Rattle.map_model.specs.Edits.{Changes}
use Rattle.map_model.specs.History.{Records, added}
use Rattle.undo_log.specs.Log.{last_first, records_at}

pub last_first-last : (cs : List Changes) (c : Changes) → last_first (cs ++ c ∷ []) ≡ c ∷ last_first cs
last_first-last [] c = refl
last_first-last (x ∷ cs) c = ap (λ l. l ++ x ∷ []) (last_first-last cs c)

module _ (cs : List Changes) (place : ℕ) (c : Changes) (within : place < length cs) where
  -- What stands before the place and behind it, seen from either side of the change there.
  pub before_it : records_at (place + 1) cs ≡ record { behind = get_or cs place c ∷ last_first (take place cs); ahead = drop (place + 1) cs }
  before_it = ap (λ l. record { behind = last_first l; ahead = drop (place + 1) cs }) (take_more cs place c within)
      ∙ ap (λ l. record { behind = l; ahead = drop (place + 1) cs }) (last_first-last (take place cs) (get_or cs place c))

  pub behind_it : records_at place cs ≡ record { behind = last_first (take place cs); ahead = get_or cs place c ∷ drop (place + 1) cs }
  behind_it = ap (λ l. record { behind = last_first (take place cs); ahead = l })
      (drop-cons cs place c within ∙ ap (λ n. get_or cs place c ∷ drop n cs) (sym (add-one place)))

  -- The same once the change there is another.
  pub behind_new : records_at place (set cs place c) ≡ record { behind = last_first (take place cs); ahead = c ∷ drop (place + 1) cs }
  behind_new = ap₂ (λ l k. record { behind = last_first l; ahead = k }) (take-set cs place c) (drop-set cs place c within)

  pub before_new : records_at (place + 1) (set cs place c) ≡ record { behind = c ∷ last_first (take place cs); ahead = drop (place + 1) cs }
  before_new = ap₂ (λ l k. record { behind = last_first l; ahead = k }) (take_more_set cs place c within) (drop-set-lt (place + 1) cs place c (omega arith))
      ∙ ap (λ l. record { behind = l; ahead = drop (place + 1) cs }) (last_first-last (take place cs) c)

-- The change that is added stands last before the place, and nothing behind it.
pub added_is : (cs : List Changes) (place : ℕ) (c : Changes) → place ≤ length cs → records_at (place + 1) (take place cs ++ c ∷ []) ≡ added c (records_at place cs)
added_is cs place c within =
    ap₂ (λ l k. record { behind = last_first l; ahead = k }) (take_all (place + 1) (take place cs ++ c ∷ []) (omega (arith, size)))
    (drop_all (place + 1) (take place cs ++ c ∷ []) (omega (arith, size)))
    ∙ ap (λ l. record { behind = l; ahead = [] }) (last_first-last (take place cs) c)
  where
    size : length (take place cs ++ c ∷ []) ≡ place + 1
    size = length-append (take place cs) (c ∷ []) ∙ ap (λ n. n + 1) (length-take-le place cs within)
