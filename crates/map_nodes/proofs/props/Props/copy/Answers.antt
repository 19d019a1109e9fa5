use Rattle.std.proofs.Common.{ap, ◌∙◌}
use Rattle.map_text.specs.Spelled.{keys_are_distinct}
use Rattle.map_nodes.proofs.Copies.{cloned}
use Rattle.map_nodes.proofs.props.Props.copy.Goals as goal

pub returns : goal.returns
returns c = cloned c.self.inside.pairs.entries c.in_ok-clone.field-0.entries c.in_ok-clone.ensures.cases ∙ c.self.view_is

pub invariant_of-result : goal.invariant_of-result
invariant_of-result c = ap keys_are_distinct (cloned c.self.inside.pairs.entries c.in_ok-clone.field-0.entries c.in_ok-clone.ensures.cases) ∙ c.self.invariant
