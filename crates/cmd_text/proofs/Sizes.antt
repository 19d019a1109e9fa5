-- How many nodes and points a command has.
use Rattle.std.proofs.Common.{◌≡◌, ℕ, ◌+◌, ◌≤◌, List, [], ◌∷◌, length, drop, None, unwrap_or, length-drop, arith}
use Rattle.std.proofs.lemmas.List.{length-map}
use Rattle.cmd_text.specs.declared.kinds.Kind.{Kind}
use Rattle.cmd_text.specs.declared.kinds.More.{More}
use Rattle.cmd_text.specs.declared.verb.Verb.{Verb}
use Rattle.cmd_text.specs.declared.verb.Verb.TheVariants.{Hull, Delete, Copy, Move, Turn, Flip, Clip, Subtract, Intersect, Merge, Hollow, Vertex, Snap, Tie, Untie, Group, Ungroup, Into}
use Rattle.cmd_text.specs.Commands.{command_of, numbers_from, points, points_from}
use Rattle.cmd_text.specs.Kept.{KeepsCounts}
use Rattle.cmd_text.specs.Spelling.{number_of}
use Rattle.cmd_text.specs.Table.{words_of, fits, misfit_from, misfit_of}
use Rattle.cmd_text.proofs.RuleLaws.{went_on}

-- as many words as are wanted
enough_from : (place : ℕ) (kinds : List Kind) (more : More) (words : List (List ℕ)) → misfit_from place kinds more words ≡ None → length kinds ≤ length words
enough_from place [] more words e = omega arith
enough_from place (kind ∷ kinds) more [] e = absurd (cc)
enough_from place (kind ∷ kinds) more (word ∷ words) e =
    let few = enough_from (place + 1) kinds more words (went_on (fits kind word) (misfit_from (place + 1) kinds more words) place e).1 in
    omega (arith, few)

enough : (verb : Verb) (words : List (List ℕ)) → misfit_of verb words ≡ None → length (words_of verb).kinds ≤ length words
unfolding misfit_of
enough verb words e = enough_from 1 (words_of verb).kinds (words_of verb).more words e

some_numbers : (n k : ℕ) (words : List (List ℕ)) → k + n ≤ length words → n ≤ length (numbers_from k words)
some_numbers n k words h =
    let same : length (numbers_from k words) ≡ length (drop k words) = length-map (drop k words) (λ word. unwrap_or (number_of word) 0) in
    omega (arith, h, same, length-drop k words)

some_points : (words : List (List ℕ)) → 3 ≤ length words → 1 ≤ length (points words)
some_points (x ∷ y ∷ z ∷ words) h = omega arith
some_points (x ∷ y ∷ []) h = absurd (omega (arith, h))
some_points (x ∷ []) h = absurd (omega (arith, h))
some_points [] h = absurd (omega (arith, h))

points_behind : (k : ℕ) (words : List (List ℕ)) → k + 3 ≤ length words → 1 ≤ length (points_from k words)
points_behind k words h = some_points (drop k words) (omega (arith, h, length-drop k words))

pub counts_kept : (verb : Verb) (words : List (List ℕ)) → misfit_of verb words ≡ None → KeepsCounts (command_of verb words)
counts_kept Hull words e = points_behind 0 words (enough Hull words e)
counts_kept Delete words e = some_numbers 1 0 words (enough Delete words e)
counts_kept Copy words e = some_numbers 1 3 words (enough Copy words e)
counts_kept Move words e = some_numbers 1 3 words (enough Move words e)
counts_kept Turn words e = some_numbers 1 5 words (enough Turn words e)
counts_kept Flip words e = some_numbers 1 2 words (enough Flip words e)
counts_kept Clip words e = some_numbers 1 10 words (enough Clip words e)
counts_kept Subtract words e = some_numbers 1 1 words (enough Subtract words e)
counts_kept Intersect words e = some_numbers 2 0 words (enough Intersect words e)
counts_kept Merge words e = some_numbers 2 0 words (enough Merge words e)
counts_kept Hollow words e = some_numbers 1 1 words (enough Hollow words e)
counts_kept Vertex words e = points_behind 4 words (enough Vertex words e)
counts_kept Snap words e = some_numbers 1 1 words (enough Snap words e)
counts_kept Tie words e = some_numbers 1 1 words (enough Tie words e)
counts_kept Untie words e = some_numbers 1 0 words (enough Untie words e)
counts_kept Group words e = some_numbers 1 1 words (enough Group words e)
counts_kept Ungroup words e = some_numbers 1 0 words (enough Ungroup words e)
counts_kept Into words e = some_numbers 1 1 words (enough Into words e)
counts_kept _ words e = tt
