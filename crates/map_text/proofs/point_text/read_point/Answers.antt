use Rattle.std.proofs.Common.{◌∷◌, ◌∙◌}
use Rattle.map_text.specs.declared.read_fault.What.TheVariants.{Point as APoint}
use Rattle.map_text.specs.Refusals.{a_number, mark, rest_of_point}
use Rattle.map_text.specs.Reading.{IsRefused}
use Rattle.map_text.proofs.Passing.{passed_on}
use Rattle.map_text.proofs.PointTexts.{point_read}
use Rattle.map_text.proofs.point_text.read_point.Goals as goal

pub returns-in_err-x-clause-fault : goal.returns-in_err-x-clause-fault
returns-in_err-x-clause-fault c =
    passed_on (IsRefused c.args.reader.now rest_of_point) c.from_residual.result c.in_err-x.field-0.0 c.from_residual.ensures.1
    (λ rest. c.in_err-x.ensures.fault (a_number ∷ a_number ∷ mark 41 APoint ∷ rest))

pub returns-in_err-y-clause-fault : goal.returns-in_err-y-clause-fault
returns-in_err-y-clause-fault c =
    passed_on (IsRefused c.args.reader.now rest_of_point) c.from_residual-in_err-y.result c.in_err-y.field-0.0 c.from_residual-in_err-y.ensures.1
    (λ rest. c.in_ok-x.ensures.read.passes.goes (a_number ∷ a_number ∷ mark 41 APoint ∷ rest) ∙ c.in_err-y.ensures.fault (a_number ∷ mark 41 APoint ∷ rest))

pub returns-in_err-z-clause-fault : goal.returns-in_err-z-clause-fault
returns-in_err-z-clause-fault c =
    passed_on (IsRefused c.args.reader.now rest_of_point) c.from_residual-in_err-z.result c.in_err-z.field-0.0 c.from_residual-in_err-z.ensures.1
    (λ rest. c.in_ok-x.ensures.read.passes.goes (a_number ∷ a_number ∷ mark 41 APoint ∷ rest) ∙ c.in_ok-y.ensures.read.passes.goes (a_number ∷ mark 41 APoint ∷ rest)
    ∙ c.in_err-z.ensures.fault (mark 41 APoint ∷ rest))

pub returns-in_err-expect-clause-fault : goal.returns-in_err-expect-clause-fault
returns-in_err-expect-clause-fault c =
    passed_on (IsRefused c.args.reader.now rest_of_point) c.from_residual-in_err-expect.result c.in_err-expect.field-0.0 c.from_residual-in_err-expect.ensures.1
    (λ rest. c.in_ok-x.ensures.read.passes.goes (a_number ∷ a_number ∷ mark 41 APoint ∷ rest) ∙ c.in_ok-y.ensures.read.passes.goes (a_number ∷ mark 41 APoint ∷ rest)
    ∙ c.in_ok-z.ensures.read.passes.goes (mark 41 APoint ∷ rest) ∙ c.in_err-expect.ensures.fault rest)

pub returns-clause-read : goal.returns-clause-read
returns-clause-read c =
    rw c.point_from.ensures (point_read c.in_ok-x.ensures.read c.in_ok-y.ensures.read c.in_ok-z.ensures.read c.in_ok-expect.ensures.read)
