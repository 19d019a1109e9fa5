use Rattle.std.proofs.Common.{rules, ◌++◌, length, take, sym, subst}
use Rattle.solid_brush.specs.Sides.{HaveTags}
use Rattle.solid_brush.specs.Blocks.{IsLeft}
use Rattle.csg_ops.specs.Cuts.{all_sides}
use Rattle.csg_ops.proofs.Common.{common_at_start, next_tags, next_trimmed, first_apart, all_common, first_counted, next_counted, at_most_all}
use Rattle.csg_ops.proofs.intersecting.common.Goals as goal

pub loop-k-init : goal.loop-k-init
loop-k-init c = (common_at_start c.args.list.now c.index-list-0.result c.in_ok-block.block c.requires.some c.index-list-0.is c.in_ok-block.ensures.trimmed, first_counted (length (all_sides (take 1 c.args.list.now))))

pub meet-requires : goal.meet-requires
meet-requires c = record { tags = subst (λ s. HaveTags (c.loop-k.block ++ s)) (sym c.sides.ensures.sides) (next_tags c.args.list.now c.loop-k.k c.index-list-k.result c.loop-k-test.true c.index-list-k.is c.loop-k.block c.loop-k.invariant.0 c.requires.tags) }

pub loop-k-preserved : goal.loop-k-preserved
loop-k-preserved c = (
  next_trimmed c.args.list.now c.loop-k.k c.index-list-k.result c.loop-k-test.true c.index-list-k.is c.loop-k.block c.loop-k.invariant.0 c.in-Some.met
      (subst (IsLeft ((all_sides (take c.loop-k.k c.args.list.now)) ++ c.index-list-k.result)) c.in-Some.is (subst (λ s. IsLeft ((all_sides (take c.loop-k.k c.args.list.now)) ++ s) c.in_ok-met.field-0) c.sides.ensures.sides (c.in_ok-met.ensures.further (all_sides (take c.loop-k.k c.args.list.now)) c.loop-k.invariant.0))),
  next_counted c.args.list.now c.loop-k.k c.index-list-k.result c.loop-k-test.true c.index-list-k.is c.sides.ensures.solid c.loop-k.invariant.1,
)

pub overflow_cast-result : goal.overflow_cast-result
overflow_cast-result c = let f = at_most_all c.args.list.now c.loop-k.k c.index-list-k.result c.loop-k-test.true c.index-list-k.is c.sides.ensures.solid c.requires.tags c.loop-k.invariant.1 in search rules

pub returns-in_default-clause-fault : goal.returns-in_default-clause-fault
returns-in_default-clause-fault c = first_apart c.args.list.now c.loop-k.k c.index-list-k.result c.loop-k-test.true c.index-list-k.is c.loop-k.block c.loop-k.invariant.0
    (subst (IsLeft ((all_sides (take c.loop-k.k c.args.list.now)) ++ c.index-list-k.result)) c.in_default.is (subst (λ s. IsLeft ((all_sides (take c.loop-k.k c.args.list.now)) ++ s) c.in_ok-met.field-0) c.sides.ensures.sides (c.in_ok-met.ensures.further (all_sides (take c.loop-k.k c.args.list.now)) c.loop-k.invariant.0)))

pub returns-clause-common : goal.returns-clause-common
returns-clause-common c = all_common c.args.list.now c.loop-k.k c.loop-k.block c.loop-k-test.false c.loop-k.invariant.0
