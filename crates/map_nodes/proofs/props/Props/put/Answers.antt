use Rattle.std.proofs.Common.{ap, ap₂, ◌∙◌}
use Rattle.map_text.specs.Meaning.{put_property}
use Rattle.map_nodes.specs.Pairs.{pairs_of}
use Rattle.map_text.specs.Spelled.{keys_are_distinct}
use Rattle.map_nodes.proofs.Distinct.{put_distinct}
use Rattle.map_nodes.proofs.Copies.{inserted}
use Rattle.map_nodes.proofs.props.Props.put.Goals as goal

pub returns-in-Ok-clause-ok : goal.returns-in-Ok-clause-ok
returns-in-Ok-clause-ok c =
    let es = c.self.inside.pairs.entries in
    ap pairs_of c.in-Ok.ensures.entries ∙ inserted es c.into_vec-own_key.result c.into_vec-own_value.result
    ∙ ap₂ (λ k v. put_property k v (pairs_of es)) c.into_vec-own_key.ensures c.into_vec-own_value.ensures
    ∙ ap (put_property c.args.key c.args.value) c.self.view_is

pub invariant_of-self : goal.invariant_of-self
invariant_of-self c =
    let es = c.self.inside.pairs.entries in
    ap keys_are_distinct (ap pairs_of c.in-Ok.ensures.entries ∙ inserted es c.into_vec-own_key.result c.into_vec-own_value.result)
    ∙ put_distinct c.into_vec-own_key.result.items c.into_vec-own_value.result.items (pairs_of es) c.self.invariant
