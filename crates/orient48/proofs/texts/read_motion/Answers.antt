use Rattle.std.proofs.Common.{ap, sym, ◌∙◌}
use Rattle.std.specs.Prelude.{option_and_then}
use Rattle.orient48.specs.MotionTexts.{motion_of_numbers, words_of}
use Rattle.orient48.proofs.Sixteen.{read_numbers, no_motion}
use Rattle.orient48.proofs.texts.read_motion.Goals as goal

pub returns-in_err-read_numbers : goal.returns-in_err-read_numbers
returns-in_err-read_numbers c = c.from_residual.ensures ∙ sym (no_motion (words_of c.args.text.now) (sym c.read_numbers.ensures ∙ c.in_err-read_numbers.was))

pub motion_of-requires : goal.motion_of-requires
motion_of-requires c = (read_numbers 16 (words_of c.args.text.now) c.in_ok-read_numbers.field-0 (sym c.read_numbers.ensures ∙ c.in_ok-read_numbers.was)).small

pub returns : goal.returns
returns c =
    let r = read_numbers 16 (words_of c.args.text.now) c.in_ok-read_numbers.field-0 (sym c.read_numbers.ensures ∙ c.in_ok-read_numbers.was) in
    c.motion_of.ensures ∙ sym (ap (option_and_then motion_of_numbers) r.wholes)
