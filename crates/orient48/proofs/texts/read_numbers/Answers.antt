use Rattle.std.proofs.Common.{◌+◌, ap, sym, subst, ◌∙◌, arith, rules, w64}
use mir.Val.{SFits}
use Rattle.std.specs.Prelude.{option_copied}
use Rattle.std.proofs.Math.ListN.{set}
use Rattle.std.proofs.lemmas.Int.{to_z-of_z}
use Rattle.std.proofs.lemmas.List.{length-set}
use Rattle.orient48.specs.Reading.{words_left}
use Rattle.orient48.proofs.Reading.{ReadSoFar, read_more, read_all, more_left}
use Rattle.orient48.proofs.texts.read_numbers.Goals as goal

pub loop-place-preserved : goal.loop-place-preserved
loop-place-preserved c =
    let text = c.args.text.now in
    let numbers = c.loop-place.numbers in
    let place = c.loop-place.place in
    let x = c.in_ok-numbers.field-0 in
    let left = words_left (option_copied c.first_word.result.1) in
    let fits : SFits w64 c.in_ok-numbers.field-0 = search rules in
    record {
      sixteen = length-set numbers place _ ∙ c.loop-place.invariant.sixteen;
      read = subst (λ y. ReadSoFar text (set numbers place y) (place + 1) left) (sym (to_z-of_z w64 x fits))
          (read_more text numbers place c.first_word.result.0.now (words_left (option_copied c.loop-place.rest)) left x (omega arith) c.loop-place.invariant.sixteen
          (ap (λ o. words_left (option_copied o)) c.in_ok-rest.was ∙ c.first_word.ensures) (sym c.small.ensures ∙ c.in_ok-numbers.was) c.loop-place.invariant.read);
    }

pub returns-in-None : goal.returns-in-None
returns-in-None c =
    let text = c.args.text.now in
    let numbers = c.loop-place.numbers in
    let place = c.loop-place.place in
    sym (read_all text numbers place (omega arith) c.loop-place.invariant.sixteen
    (subst (λ ws. ReadSoFar text numbers place ws) (ap (λ o. words_left (option_copied o)) c.in-None.is) c.loop-place.invariant.read))

pub returns-in-Some : goal.returns-in-Some
returns-in-Some c =
    let text = c.args.text.now in
    let numbers = c.loop-place.numbers in
    let place = c.loop-place.place in
    sym (more_left text c.in-Some.field-0.now numbers place (omega arith)
    (subst (λ ws. ReadSoFar text numbers place ws) (ap (λ o. words_left (option_copied o)) c.in-Some.is) c.loop-place.invariant.read))
