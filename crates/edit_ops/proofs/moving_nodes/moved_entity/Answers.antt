use Rattle.std.proofs.Common.{ap, sym, ◌∙◌}
use Rattle.map_model.specs.Tree.{props_of, with_props}
use Rattle.map_model.specs.Props.{set_value, origin}
use Rattle.edit_ops.proofs.Origins.{entity_without, entity_stuck, entity_goes}
use Rattle.edit_ops.proofs.moving_nodes.moved_entity.Goals as goal

pub returns-in_default : goal.returns-in_default
returns-in_default c = entity_without c.args.motion.now c.args.node.now c.args.props.now c.requires.entity c.requires.props c.in_default.ensures

pub returns-in_default-2 : goal.returns-in_default-2
returns-in_default-2 c =
    entity_stuck c.args.motion.now c.args.node.now c.args.props.now c.requires.entity c.requires.props c.are_distinct.ensures c.in-Some.text.now c.in-Some.ensures (sym c.in_default-2.is ∙ c.in_ok-origin.ensures)

pub returns : goal.returns
returns c =
    let copy = c.in_ok-new.new in
    entity_goes c.args.motion.now c.args.node.now c.args.props.now c.requires.entity c.requires.props c.are_distinct.ensures c.in-Some.text.now c.in-Some.ensures c.in-Some-2.origin copy c.set_value.new.self
    (sym c.in-Some-2.is ∙ c.in_ok-origin.ensures) c.in_ok-new.ensures
    (c.in_ok-set_value.ensures.ok ∙ ap (λ t. with_props (set_value origin t (props_of copy)) copy) c.bytes.ensures)
