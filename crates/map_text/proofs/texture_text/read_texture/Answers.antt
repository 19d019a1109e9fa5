use Rattle.std.proofs.Common.{[], ◌∷◌, ◌∙◌, ◌++◌}
use Rattle.map_text.specs.declared.read_fault.What.TheVariants.{Axis}
use Rattle.map_text.specs.Refusals.{a_texture, a_surface, mark, rest_of_axis}
use Rattle.map_text.specs.Reading.{IsRefused}
use Rattle.map_text.specs.Parts.{turn_places}
use Rattle.map_text.proofs.Passing.{passed_on}
use Rattle.map_text.proofs.TextureTexts.{standard_read, valve_read}
use Rattle.map_text.proofs.texture_text.read_texture.Goals as goal

pub returns-in_err-u-in-Axes-clause-fault : goal.returns-in_err-u-in-Axes-clause-fault
returns-in_err-u-in-Axes-clause-fault c =
    let start = rw c.in-Axes.is at c.in_ok-read_start.ensures.read in
    passed_on (IsRefused c.args.reader.now (a_texture ∷ a_surface ∷ [])) c.from_residual-in_err-u-in-Axes.result c.in_err-u-in-Axes.field-0.0 c.from_residual-in_err-u-in-Axes.ensures.1
    (λ rest. start.goes (a_surface ∷ rest) ∙ c.in_err-u-in-Axes.ensures.fault (mark 91 Axis ∷ rest_of_axis ++ (turn_places ++ (a_surface ∷ rest))))

pub returns-in_err-expect-in-Axes-clause-fault : goal.returns-in_err-expect-in-Axes-clause-fault
returns-in_err-expect-in-Axes-clause-fault c =
    let start = rw c.in-Axes.is at c.in_ok-read_start.ensures.read in
    passed_on (IsRefused c.args.reader.now (a_texture ∷ a_surface ∷ [])) c.from_residual-in_err-expect-in-Axes.result c.in_err-expect-in-Axes.field-0.0 c.from_residual-in_err-expect-in-Axes.ensures.1
    (λ rest. start.goes (a_surface ∷ rest) ∙ c.in_ok-u-in-Axes.ensures.read.passes.goes (mark 91 Axis ∷ rest_of_axis ++ (turn_places ++ (a_surface ∷ rest)))
    ∙ c.in_err-expect-in-Axes.ensures.fault (rest_of_axis ++ (turn_places ++ (a_surface ∷ rest))))

pub returns-in_err-v-in-Axes-clause-fault : goal.returns-in_err-v-in-Axes-clause-fault
returns-in_err-v-in-Axes-clause-fault c =
    let start = rw c.in-Axes.is at c.in_ok-read_start.ensures.read in
    passed_on (IsRefused c.args.reader.now (a_texture ∷ a_surface ∷ [])) c.from_residual-in_err-v-in-Axes.result c.in_err-v-in-Axes.field-0.0 c.from_residual-in_err-v-in-Axes.ensures.1
    (λ rest. start.goes (a_surface ∷ rest) ∙ c.in_ok-u-in-Axes.ensures.read.passes.goes (mark 91 Axis ∷ rest_of_axis ++ (turn_places ++ (a_surface ∷ rest)))
    ∙ c.in_ok-expect-in-Axes.ensures.read.goes (rest_of_axis ++ (turn_places ++ (a_surface ∷ rest))) ∙ c.in_err-v-in-Axes.ensures.fault (turn_places ++ (a_surface ∷ rest)))

pub returns-in_err-turn-in-Axes-clause-fault : goal.returns-in_err-turn-in-Axes-clause-fault
returns-in_err-turn-in-Axes-clause-fault c =
    let start = rw c.in-Axes.is at c.in_ok-read_start.ensures.read in
    passed_on (IsRefused c.args.reader.now (a_texture ∷ a_surface ∷ [])) c.from_residual-in_err-turn-in-Axes.result c.in_err-turn-in-Axes.field-0.0 c.from_residual-in_err-turn-in-Axes.ensures.1
    (λ rest. start.goes (a_surface ∷ rest) ∙ c.in_ok-u-in-Axes.ensures.read.passes.goes (mark 91 Axis ∷ rest_of_axis ++ (turn_places ++ (a_surface ∷ rest)))
    ∙ c.in_ok-expect-in-Axes.ensures.read.goes (rest_of_axis ++ (turn_places ++ (a_surface ∷ rest)))
    ∙ c.in_ok-v-in-Axes.ensures.read.passes.goes (turn_places ++ (a_surface ∷ rest)) ∙ c.in_err-turn-in-Axes.ensures.fault (a_surface ∷ rest))

pub returns-in_err-surface-in-Axes-clause-fault : goal.returns-in_err-surface-in-Axes-clause-fault
returns-in_err-surface-in-Axes-clause-fault c =
    let start = rw c.in-Axes.is at c.in_ok-read_start.ensures.read in
    passed_on (IsRefused c.args.reader.now (a_texture ∷ a_surface ∷ [])) c.from_residual-in_err-surface-in-Axes.result c.in_err-surface-in-Axes.field-0.0 c.from_residual-in_err-surface-in-Axes.ensures.1
    (λ rest. start.goes (a_surface ∷ rest) ∙ c.in_ok-u-in-Axes.ensures.read.passes.goes (mark 91 Axis ∷ rest_of_axis ++ (turn_places ++ (a_surface ∷ rest)))
    ∙ c.in_ok-expect-in-Axes.ensures.read.goes (rest_of_axis ++ (turn_places ++ (a_surface ∷ rest)))
    ∙ c.in_ok-v-in-Axes.ensures.read.passes.goes (turn_places ++ (a_surface ∷ rest)) ∙ c.in_ok-turn-in-Axes.ensures.read.passes.goes (a_surface ∷ rest)
    ∙ c.in_err-surface-in-Axes.ensures.fault rest)

pub returns-in_ok-surface-in-Axes-clause-read : goal.returns-in_ok-surface-in-Axes-clause-read
returns-in_ok-surface-in-Axes-clause-read c =
    rw c.valve_from.ensures
    (valve_read (rw c.in-Axes.is at c.in_ok-read_start.ensures.read) c.in_ok-u-in-Axes.ensures.read c.in_ok-expect-in-Axes.ensures.read c.in_ok-v-in-Axes.ensures.read
    c.in_ok-turn-in-Axes.ensures.read c.in_ok-surface-in-Axes.ensures.read)

pub returns-in_err-v-in-Offset-clause-fault : goal.returns-in_err-v-in-Offset-clause-fault
returns-in_err-v-in-Offset-clause-fault c =
    let start = rw c.in-Offset.is at c.in_ok-read_start.ensures.read in
    passed_on (IsRefused c.args.reader.now (a_texture ∷ a_surface ∷ [])) c.from_residual-in_err-v-in-Offset.result c.in_err-v-in-Offset.field-0.0 c.from_residual-in_err-v-in-Offset.ensures.1
    (λ rest. start.passes.goes (a_surface ∷ rest) ∙ c.in_err-v-in-Offset.ensures.fault (turn_places ++ (a_surface ∷ rest)))

pub returns-in_err-turn-in-Offset-clause-fault : goal.returns-in_err-turn-in-Offset-clause-fault
returns-in_err-turn-in-Offset-clause-fault c =
    let start = rw c.in-Offset.is at c.in_ok-read_start.ensures.read in
    passed_on (IsRefused c.args.reader.now (a_texture ∷ a_surface ∷ [])) c.from_residual-in_err-turn-in-Offset.result c.in_err-turn-in-Offset.field-0.0 c.from_residual-in_err-turn-in-Offset.ensures.1
    (λ rest. start.passes.goes (a_surface ∷ rest) ∙ c.in_ok-v-in-Offset.ensures.read.passes.goes (turn_places ++ (a_surface ∷ rest)) ∙ c.in_err-turn-in-Offset.ensures.fault (a_surface ∷ rest))

pub returns-in_err-surface-in-Offset-clause-fault : goal.returns-in_err-surface-in-Offset-clause-fault
returns-in_err-surface-in-Offset-clause-fault c =
    let start = rw c.in-Offset.is at c.in_ok-read_start.ensures.read in
    passed_on (IsRefused c.args.reader.now (a_texture ∷ a_surface ∷ [])) c.from_residual-in_err-surface-in-Offset.result c.in_err-surface-in-Offset.field-0.0 c.from_residual-in_err-surface-in-Offset.ensures.1
    (λ rest. start.passes.goes (a_surface ∷ rest) ∙ c.in_ok-v-in-Offset.ensures.read.passes.goes (turn_places ++ (a_surface ∷ rest)) ∙ c.in_ok-turn-in-Offset.ensures.read.passes.goes (a_surface ∷ rest)
    ∙ c.in_err-surface-in-Offset.ensures.fault rest)

pub returns-in_ok-surface-in-Offset-clause-read : goal.returns-in_ok-surface-in-Offset-clause-read
returns-in_ok-surface-in-Offset-clause-read c =
    rw c.standard_from.ensures
    (standard_read (rw c.in-Offset.is at c.in_ok-read_start.ensures.read) c.in_ok-v-in-Offset.ensures.read c.in_ok-turn-in-Offset.ensures.read c.in_ok-surface-in-Offset.ensures.read)
