use Rattle.std.proofs.Common.{◌+◌, ◌-◌, ◌/◌, refl, arith}
use Rattle.key_table.proofs.Search.{compared, excluded_at_first, excluded_above, excluded_everywhere, found_there, found_place, found_not_absent, missed_place, missed_absent}
use Rattle.key_table.proofs.keys.Keys.find.Goals as goal

pub returns-in-Equal-clause-place : goal.returns-in-Equal-clause-place
returns-in-Equal-clause-place g c =
    let here = found_there c.self.inside.words c.self.inside.order c.args.word.now (c.loop-low.low + (c.loop-low.high - c.loop-low.low) / 2) c.self.invariant (omega arith)
    (compared _ _ _ _ _ c.text_at.ensures c.cmp.ensures c.in-Equal.is) in
    rw (← c.self.view_is) (found_place _ _ _ c.self.invariant.distinct here)

pub returns-in-Equal-clause-absent : goal.returns-in-Equal-clause-absent
returns-in-Equal-clause-absent g c =
    let here = found_there c.self.inside.words c.self.inside.order c.args.word.now (c.loop-low.low + (c.loop-low.high - c.loop-low.low) / 2) c.self.invariant (omega arith)
    (compared _ _ _ _ _ c.text_at.ensures c.cmp.ensures c.in-Equal.is) in
    rw (← c.self.view_is) (found_not_absent _ _ _ here)

pub loop-low-init : goal.loop-low-init
loop-low-init g c = (omega arith, excluded_at_first _ _ _ _ (omega arith))

pub loop-low-preserved : goal.loop-low-preserved
loop-low-preserved g c = (
  c.loop-low.invariant.0,
  excluded_above _ _ _ _ _ _ c.self.invariant.rises (omega arith) c.loop-low.invariant.1
      (compared _ _ _ _ _ c.text_at.ensures c.cmp.ensures c.in-Greater.is),
)

pub returns-clause-place : goal.returns-clause-place
returns-clause-place g c =
    rw (← c.self.view_is) (missed_place _ _ (excluded_everywhere _ _ _ _ _ c.self.invariant c.loop-low-test.false c.loop-low.invariant.1))

pub returns-clause-absent : goal.returns-clause-absent
returns-clause-absent g c =
    rw (← c.self.view_is) (missed_absent _ _ (excluded_everywhere _ _ _ _ _ c.self.invariant c.loop-low-test.false c.loop-low.invariant.1) _ refl)
