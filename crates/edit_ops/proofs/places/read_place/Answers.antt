use Rattle.std.proofs.Common.{◌∷◌, ap, ◌∙◌}
use Rattle.std.specs.Prelude.{option_copied}
use Rattle.orient48.specs.Reading.{words_left}
use Rattle.edit_ops.proofs.ThreeCounts.{more_words}
use Rattle.edit_ops.proofs.places.read_place.Goals as goal

pub returns-in-Some : goal.returns-in-Some
returns-in-Some c =
    let x = c.first_word.result.0.now in
    let y = c.first_word-2.result.0.now in
    let z = c.first_word-3.result.0.now in
    more_words x y z c.args.text.now c.in-Some.field-0.now
    (c.first_word.ensures ∙ ap (λ o. x ∷ words_left (option_copied o)) c.in_ok-rest.was
    ∙ ap (λ l. x ∷ l) (c.first_word-2.ensures ∙ ap (λ o. y ∷ words_left (option_copied o)) c.in_ok-rest-2.was
    ∙ ap (λ l. y ∷ l) (c.first_word-3.ensures ∙ ap (λ o. z ∷ words_left (option_copied o)) c.in-Some.is)))
