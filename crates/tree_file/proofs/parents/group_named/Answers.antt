use Rattle.std.proofs.Common.{ap, sym, ◌∙◌}
use Rattle.map_model.specs.Tree.{group, has_kind}
use Rattle.tree_file.proofs.Placed.{named_at, of_kind, not_of_kind}
use Rattle.tree_file.proofs.parents.group_named.Goals as goal

pub bounds-readings-place : goal.bounds-readings-place
bounds-readings-place c = (named_at c.args.readings.now c.requires.in_place c.args.id c.in_ok-place.place c.in_ok-place.ensures).within

pub returns-then-is_group : goal.returns-then-is_group
returns-then-is_group c =
    let n = named_at c.args.readings.now c.requires.in_place c.args.id c.in_ok-place.place c.in_ok-place.ensures in
    let is = c.index-readings-place.is ∙ n.is c.index-readings-place.result in
    of_kind c.args.readings.now group c.args.id c.in_ok-place.place n (ap (λ r. has_kind group r.node) (sym is) ∙ sym c.is_group.ensures ∙ c.if-is_group.true)

pub returns : goal.returns
returns c =
    let n = named_at c.args.readings.now c.requires.in_place c.args.id c.in_ok-place.place c.in_ok-place.ensures in
    let is = c.index-readings-place.is ∙ n.is c.index-readings-place.result in
    not_of_kind c.args.readings.now group c.args.id c.in_ok-place.place n (ap (λ r. has_kind group r.node) (sym is) ∙ sym c.is_group.ensures ∙ c.if-is_group.false)
