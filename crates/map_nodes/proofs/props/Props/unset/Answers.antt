use Rattle.std.proofs.Common.{is_some, ap, sym, ◌∙◌}
use Rattle.std.specs.Str.{bytes_eq}
use Rattle.std.specs.Map.{lookup}
use Rattle.map_text.specs.Meaning.{value_of_key}
use Rattle.map_nodes.specs.Pairs.{pairs_of, without_key}
use Rattle.map_text.specs.Spelled.{keys_are_distinct}
use Rattle.map_nodes.proofs.Distinct.{without_distinct}
use Rattle.map_nodes.proofs.Copies.{is_found, taken_out}
use Rattle.map_nodes.proofs.props.Props.unset.Goals as goal

pub returns-clause-was : goal.returns-clause-was
returns-clause-was c =
    let key = c.args.key.now in
    c.is_some.ensures ∙ ap is_some c.shift_remove.ensures.value ∙ is_found key c.self.inside.pairs.entries ∙ ap (λ ps. is_some (value_of_key key ps)) c.self.view_is

pub returns-clause-now : goal.returns-clause-now
returns-clause-now c =
    let key = c.args.key.now in
    ap pairs_of c.shift_remove.ensures.entries
    ∙ taken_out key c.self.inside.pairs.entries (sym (ap (lookup (λ k. bytes_eq key k.items)) c.shift_remove.ensures.entries) ∙ c.shift_remove.ensures.updates.1)
    ∙ ap (without_key key) c.self.view_is

pub invariant_of-self : goal.invariant_of-self
invariant_of-self c =
    let key = c.args.key.now in
    let es = c.self.inside.pairs.entries in
    ap keys_are_distinct (ap pairs_of c.shift_remove.ensures.entries
    ∙ taken_out key es (sym (ap (lookup (λ k. bytes_eq key k.items)) c.shift_remove.ensures.entries) ∙ c.shift_remove.ensures.updates.1))
    ∙ without_distinct key (pairs_of es) c.self.invariant
