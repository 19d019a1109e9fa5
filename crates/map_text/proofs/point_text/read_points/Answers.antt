use Rattle.std.proofs.Common.{◌∷◌, ◌∙◌, ◌++◌}
use Rattle.map_text.specs.declared.read_fault.What.TheVariants.{Point as APoint}
use Rattle.map_text.specs.Refusals.{mark, rest_of_point}
use Rattle.map_text.specs.Reading.{IsRefused}
use Rattle.map_text.specs.Parts.{points_places}
use Rattle.map_text.proofs.Passing.{passed_on}
use Rattle.map_text.proofs.PointTexts.{points_read}
use Rattle.map_text.proofs.point_text.read_points.Goals as goal

pub returns-in_err-p0-clause-fault : goal.returns-in_err-p0-clause-fault
returns-in_err-p0-clause-fault c =
    passed_on (IsRefused c.args.reader.now points_places) c.from_residual.result c.in_err-p0.field-0.0 c.from_residual.ensures.1
    (λ rest. c.in_err-p0.ensures.fault (mark 40 APoint ∷ rest_of_point ++ (mark 40 APoint ∷ rest_of_point ++ rest)))

pub returns-in_err-expect-clause-fault : goal.returns-in_err-expect-clause-fault
returns-in_err-expect-clause-fault c =
    passed_on (IsRefused c.args.reader.now points_places) c.from_residual-in_err-expect.result c.in_err-expect.field-0.0 c.from_residual-in_err-expect.ensures.1
    (λ rest. c.in_ok-p0.ensures.read.passes.goes (mark 40 APoint ∷ rest_of_point ++ (mark 40 APoint ∷ rest_of_point ++ rest))
    ∙ c.in_err-expect.ensures.fault (rest_of_point ++ (mark 40 APoint ∷ rest_of_point ++ rest)))

pub returns-in_err-p1-clause-fault : goal.returns-in_err-p1-clause-fault
returns-in_err-p1-clause-fault c =
    passed_on (IsRefused c.args.reader.now points_places) c.from_residual-in_err-p1.result c.in_err-p1.field-0.0 c.from_residual-in_err-p1.ensures.1
    (λ rest. c.in_ok-p0.ensures.read.passes.goes (mark 40 APoint ∷ rest_of_point ++ (mark 40 APoint ∷ rest_of_point ++ rest))
    ∙ c.in_ok-expect.ensures.read.goes (rest_of_point ++ (mark 40 APoint ∷ rest_of_point ++ rest))
    ∙ c.in_err-p1.ensures.fault (mark 40 APoint ∷ rest_of_point ++ rest))

pub returns-in_err-expect-2-clause-fault : goal.returns-in_err-expect-2-clause-fault
returns-in_err-expect-2-clause-fault c =
    passed_on (IsRefused c.args.reader.now points_places) c.from_residual-in_err-expect-2.result c.in_err-expect-2.field-0.0 c.from_residual-in_err-expect-2.ensures.1
    (λ rest. c.in_ok-p0.ensures.read.passes.goes (mark 40 APoint ∷ rest_of_point ++ (mark 40 APoint ∷ rest_of_point ++ rest))
    ∙ c.in_ok-expect.ensures.read.goes (rest_of_point ++ (mark 40 APoint ∷ rest_of_point ++ rest))
    ∙ c.in_ok-p1.ensures.read.passes.goes (mark 40 APoint ∷ rest_of_point ++ rest)
    ∙ c.in_err-expect-2.ensures.fault (rest_of_point ++ rest))

pub returns-in_err-p2-clause-fault : goal.returns-in_err-p2-clause-fault
returns-in_err-p2-clause-fault c =
    passed_on (IsRefused c.args.reader.now points_places) c.from_residual-in_err-p2.result c.in_err-p2.field-0.0 c.from_residual-in_err-p2.ensures.1
    (λ rest. c.in_ok-p0.ensures.read.passes.goes (mark 40 APoint ∷ rest_of_point ++ (mark 40 APoint ∷ rest_of_point ++ rest))
    ∙ c.in_ok-expect.ensures.read.goes (rest_of_point ++ (mark 40 APoint ∷ rest_of_point ++ rest))
    ∙ c.in_ok-p1.ensures.read.passes.goes (mark 40 APoint ∷ rest_of_point ++ rest)
    ∙ c.in_ok-expect-2.ensures.read.goes (rest_of_point ++ rest)
    ∙ c.in_err-p2.ensures.fault rest)

pub returns-clause-read : goal.returns-clause-read
returns-clause-read c =
    rw c.points_from.ensures (points_read c.in_ok-p0.ensures.read c.in_ok-expect.ensures.read c.in_ok-p1.ensures.read c.in_ok-expect-2.ensures.read c.in_ok-p2.ensures.read)
