use Rattle.std.proofs.Common.{ap, sym, ◌∙◌}
use Rattle.map_model.specs.Tree.{layer, has_kind}
use Rattle.tree_file.proofs.Placed.{named_at, of_kind, not_of_kind}
use Rattle.tree_file.proofs.parents.layer_named.Goals as goal

pub bounds-readings-place : goal.bounds-readings-place
bounds-readings-place c = (named_at c.args.readings.now c.requires.in_place c.args.id c.in_ok-place.place c.in_ok-place.ensures).within

pub returns-then-is_layer : goal.returns-then-is_layer
returns-then-is_layer c =
    let n = named_at c.args.readings.now c.requires.in_place c.args.id c.in_ok-place.place c.in_ok-place.ensures in
    let is = c.index-readings-place.is ∙ n.is c.index-readings-place.result in
    of_kind c.args.readings.now layer c.args.id c.in_ok-place.place n (ap (λ r. has_kind layer r.node) (sym is) ∙ sym c.is_layer.ensures ∙ c.if-is_layer.true)

pub returns : goal.returns
returns c =
    let n = named_at c.args.readings.now c.requires.in_place c.args.id c.in_ok-place.place c.in_ok-place.ensures in
    let is = c.index-readings-place.is ∙ n.is c.index-readings-place.result in
    not_of_kind c.args.readings.now layer c.args.id c.in_ok-place.place n (ap (λ r. has_kind layer r.node) (sym is) ∙ sym c.is_layer.ensures ∙ c.if-is_layer.false)
