use Rattle.touch_index.proofs.Joins.{few_start, few_first, from_new, joined_all}
use Rattle.touch_index.proofs.joining.joined.Goals as goal

pub add_sides-requires : goal.add_sides-requires
add_sides-requires c = record { few = few_start c.new-sides.result.items c.args.a.now c.args.b.now c.new-sides.ensures.items c.requires.few }

pub add_sides-requires-2 : goal.add_sides-requires-2
add_sides-requires-2 c = record {
  few = few_first c.add_sides.new.sides.items c.args.a.now c.args.b.now (from_new c.new-sides.result.items c.add_sides.new.sides.items c.args.a.now c.new-sides.ensures.items c.in_ok-add_sides.ensures) c.requires.few;
}

pub returns : goal.returns
returns c = joined_all c.add_sides.new.sides.items c.add_sides-2.new.sides.items c.args.a.now c.args.b.now
    (from_new c.new-sides.result.items c.add_sides.new.sides.items c.args.a.now c.new-sides.ensures.items c.in_ok-add_sides.ensures) c.in_ok-add_sides-2.ensures
