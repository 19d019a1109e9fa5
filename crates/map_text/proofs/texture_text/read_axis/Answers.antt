use Rattle.std.proofs.Common.{◌∷◌, ◌∙◌}
use Rattle.map_text.specs.declared.read_fault.What.TheVariants.{Axis}
use Rattle.map_text.specs.Refusals.{a_number, mark, rest_of_axis}
use Rattle.map_text.specs.Reading.{IsRefused}
use Rattle.map_text.proofs.Passing.{passed_on}
use Rattle.map_text.proofs.TextureTexts.{axis_read}
use Rattle.map_text.proofs.texture_text.read_axis.Goals as goal

pub returns-in_err-x-clause-fault : goal.returns-in_err-x-clause-fault
returns-in_err-x-clause-fault c =
    passed_on (IsRefused c.args.reader.now rest_of_axis) c.from_residual.result c.in_err-x.field-0.0 c.from_residual.ensures.1
    (λ rest. c.in_err-x.ensures.fault (a_number ∷ a_number ∷ a_number ∷ mark 93 Axis ∷ rest))

pub returns-in_err-y-clause-fault : goal.returns-in_err-y-clause-fault
returns-in_err-y-clause-fault c =
    passed_on (IsRefused c.args.reader.now rest_of_axis) c.from_residual-in_err-y.result c.in_err-y.field-0.0 c.from_residual-in_err-y.ensures.1
    (λ rest. c.in_ok-x.ensures.read.passes.goes (a_number ∷ a_number ∷ a_number ∷ mark 93 Axis ∷ rest) ∙ c.in_err-y.ensures.fault (a_number ∷ a_number ∷ mark 93 Axis ∷ rest))

pub returns-in_err-z-clause-fault : goal.returns-in_err-z-clause-fault
returns-in_err-z-clause-fault c =
    passed_on (IsRefused c.args.reader.now rest_of_axis) c.from_residual-in_err-z.result c.in_err-z.field-0.0 c.from_residual-in_err-z.ensures.1
    (λ rest. c.in_ok-x.ensures.read.passes.goes (a_number ∷ a_number ∷ a_number ∷ mark 93 Axis ∷ rest) ∙ c.in_ok-y.ensures.read.passes.goes (a_number ∷ a_number ∷ mark 93 Axis ∷ rest) ∙ c.in_err-z.ensures.fault (a_number ∷ mark 93 Axis ∷ rest))

pub returns-in_err-offset-clause-fault : goal.returns-in_err-offset-clause-fault
returns-in_err-offset-clause-fault c =
    passed_on (IsRefused c.args.reader.now rest_of_axis) c.from_residual-in_err-offset.result c.in_err-offset.field-0.0 c.from_residual-in_err-offset.ensures.1
    (λ rest. c.in_ok-x.ensures.read.passes.goes (a_number ∷ a_number ∷ a_number ∷ mark 93 Axis ∷ rest) ∙ c.in_ok-y.ensures.read.passes.goes (a_number ∷ a_number ∷ mark 93 Axis ∷ rest) ∙ c.in_ok-z.ensures.read.passes.goes (a_number ∷ mark 93 Axis ∷ rest) ∙ c.in_err-offset.ensures.fault (mark 93 Axis ∷ rest))

pub returns-in_err-expect-clause-fault : goal.returns-in_err-expect-clause-fault
returns-in_err-expect-clause-fault c =
    passed_on (IsRefused c.args.reader.now rest_of_axis) c.from_residual-in_err-expect.result c.in_err-expect.field-0.0 c.from_residual-in_err-expect.ensures.1
    (λ rest. c.in_ok-x.ensures.read.passes.goes (a_number ∷ a_number ∷ a_number ∷ mark 93 Axis ∷ rest) ∙ c.in_ok-y.ensures.read.passes.goes (a_number ∷ a_number ∷ mark 93 Axis ∷ rest) ∙ c.in_ok-z.ensures.read.passes.goes (a_number ∷ mark 93 Axis ∷ rest) ∙ c.in_ok-offset.ensures.read.passes.goes (mark 93 Axis ∷ rest) ∙ c.in_err-expect.ensures.fault (rest))

pub returns-clause-read : goal.returns-clause-read
returns-clause-read c =
    rw c.axis_from.ensures
    (axis_read c.in_ok-x.ensures.read c.in_ok-y.ensures.read c.in_ok-z.ensures.read c.in_ok-offset.ensures.read c.in_ok-expect.ensures.read)
